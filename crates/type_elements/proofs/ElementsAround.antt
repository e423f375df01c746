-- What is around an element, one step further in.
use Rattle.std.proofs.Common.{◌≡◌, ℕ, ◌+◌, ◌<◌, List, [], ◌∷◌, ◌++◌, length, take, get_or, sym, ap, ◌∙◌}
use Rattle.std.proofs.lemmas.List.{take_more}
use Rattle.apt_base.specs.declared.element.ElementRef.{ElementRef}
use Rattle.type_elements.specs.MemberElements.{front}

pub front-next : (at around : ElementRef) (items path : List ℕ) (i d : ℕ) → items ≡ at.path → i < length at.path → around ≡ front at i
    → path ≡ around.path ++ get_or items i d ∷ [] → ◌≡◌ {A = ElementRef} (record { unit = around.unit; path = path }) (front at (i + 1))
front-next at around items path i d same less is more =
    let next : path ≡ take (i + 1) at.path = more
    ∙ ap (λ (a : ElementRef). a.path ++ get_or items i d ∷ []) is
    ∙ ap (λ (xs : List ℕ). take i at.path ++ get_or xs i d ∷ []) same
    ∙ sym (take_more at.path i d less) in
    (λ j. record { unit = (is j).unit; path = next j })
