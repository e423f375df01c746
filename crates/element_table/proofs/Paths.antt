-- Paths: the places of a package, and the place around another.
use Rattle.std.proofs.Common.{◌≡◌, ℕ, suc, ◌+◌, false, List, [], ◌∷◌, ◌++◌, length, take, Option, Some, None, refl, ap, ◌∙◌, arith}
use Rattle.std.specs.Prelude.{◌==◌}
use Rattle.std.proofs.lemmas.List.{length-append}
use Rattle.decl_tree.specs.declared.compilation.UnitText.{UnitText}
use Rattle.decl_elements.specs.Nodes.{OfPackage, down, children}
use Rattle.element_table.specs.TableElements.{reference, above}

pub below_package : (path : List ℕ) (info : Option UnitText) → (length path == 0) ≡ false → down path (OfPackage info) ≡ None
unfolding children
below_package [] info e = absurd (cc)
below_package (at ∷ path) info e = refl

take_front : (ys zs : List ℕ) → take (length ys) (ys ++ zs) ≡ ys
take_front [] zs = refl
take_front (y ∷ ys) zs = ap (λ (xs : List ℕ). y ∷ xs) (take_front ys zs)

-- the path without its last step
pub above_step : (name path front : List ℕ) (last : ℕ) → path ≡ front ++ last ∷ [] → above name path ≡ Some (reference name front)
unfolding above
above_step name [] front last e = let n : 0 ≡ length front + 1 = ap length e ∙ length-append front (last ∷ []) in absurd (omega arith)
above_step name (at ∷ path) front last e =
    let n : suc (length path) ≡ length front + 1 = ap length e ∙ length-append front (last ∷ []) in
    let same : length path ≡ length front = omega arith in
    ap (λ (p : List ℕ). Some (reference name p)) (ap (λ k. take k (at ∷ path)) same ∙ ap (take (length front)) e ∙ take_front front (last ∷ []))

pub above_none : (name path : List ℕ) → length path ≡ 0 → above name path ≡ None
unfolding above
above_none name [] e = refl
above_none name (at ∷ path) e = absurd (omega arith)
