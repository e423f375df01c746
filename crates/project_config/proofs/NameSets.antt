-- The names that a list of names may go on with.
use Rattle.std.proofs.Common.{◌≡◌, ℕ, Bool, true, false, not, List, ◌∷◌, refl}
use Rattle.std.specs.List.{list_any}
use Rattle.std.specs.Str.{bytes_eq}
use Rattle.apt_base.specs.Identifiers.{is_dotted}
use Rattle.processor_claims.specs.Services.{with_name}
use Rattle.project_config.specs.Items.{are_names_after}

-- a name that is none of those before it
pub are_names-more : (before : List (List ℕ)) (name : List ℕ) (names : List (List ℕ)) → is_dotted name ≡ true → not (list_any (bytes_eq name) before) ≡ true
    → are_names_after (with_name before name) names ≡ are_names_after before (name ∷ names)
are_names-more before name names dotted new = by (list_any (bytes_eq name) before) refl new
  where
    by : (b : Bool) → list_any (bytes_eq name) before ≡ b → not b ≡ true → are_names_after (with_name before name) names ≡ are_names_after before (name ∷ names)
    by true e is = absurd (cc)
    by false e is = rw (e, dotted) refl

pub are_names-no_name : (before : List (List ℕ)) (name : List ℕ) (names : List (List ℕ)) → is_dotted name ≡ false → are_names_after before (name ∷ names) ≡ false
are_names-no_name before name names e = rw e refl

pub are_names-twice : (before : List (List ℕ)) (name : List ℕ) (names : List (List ℕ)) → is_dotted name ≡ true → not (list_any (bytes_eq name) before) ≡ false → are_names_after before (name ∷ names) ≡ false
are_names-twice before name names dotted e = rw (dotted, e) refl
