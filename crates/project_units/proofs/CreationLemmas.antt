-- What creations add to what was gathered of those before them.
use Rattle.std.proofs.Common.{◌≡◌, ℕ, List, [], ◌∷◌, ◌++◌, map, refl, sym, ap, ◌∙◌}
use Rattle.std.proofs.lemmas.List.{nil_from_length}
use Rattle.std.specs.Ordering.{nat_cmp}
use Rattle.std.specs.Cmp.Lexicographic.{slice_cmp}
use Rattle.std.specs.FinMap as fin
use Rattle.wire_frames.specs.declared.frame.Creation.{Creation}
use Rattle.apt_base.specs.Names.{NameSet}
use Rattle.project_units.specs.Creations.{gathered, unread_among}

-- one creation more behind those that were gathered
pub gathered_push : {A : Type 0} (add : A → Creation → A) (all : A) (made : List Creation) (creation : Creation) → gathered add all (made ++ creation ∷ []) ≡ add (gathered add all made) creation
gathered_push add all [] creation = refl
gathered_push add all (first ∷ made) creation = gathered_push add (add all first) made creation

abbrev no_names : NameSet
no_names = fin.empty

-- where nothing was made, nothing is unread
pub unread_none : unread_among [] ≡ []
unread_none = ap (map (λ (e : List ℕ × Unit {0}). e.0)) (nil_from_length (fin.entries no_names) (sym (fin.len-entries no_names) ∙ fin.len-empty (slice_cmp nat_cmp) (Unit {0})))
