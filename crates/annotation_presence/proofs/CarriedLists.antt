-- Lists of annotations by one more.
use Rattle.std.proofs.Common.{◌≡◌, ℕ, ◌+◌, ◌<◌, List, [], ◌∷◌, ◌++◌, filter_map, take, get_or, length, Option, refl, sym, ap, ◌∙◌}
use Rattle.std.specs.List.{cons_option}
use Rattle.std.specs.Option.{option_to_list}
use Rattle.apt_base.specs.declared.element.ElementRef.{ElementRef}
use Rattle.type_elements.proofs.ListsAhead.{filter_map-more}
use Rattle.annotation_presence.specs.declared.carried.Carried.{Carried}
use Rattle.annotation_presence.specs.Carried.{types_of}
use Rattle.annotation_presence.specs.Shown.{carried_in}

abbrev type_of : Carried → Option ElementRef
type_of c = c.annotation_type

types-in : (xs : List Carried) → types_of (carried_in xs) ≡ filter_map type_of xs
types-in [] = refl
types-in (x ∷ xs) = ap (cons_option x.annotation_type) (types-in xs)

pub types-more : (xs : List Carried) (i : ℕ) (d : Carried) → i < length xs
    → types_of (carried_in (take (i + 1) xs)) ≡ types_of (carried_in (take i xs)) ++ option_to_list (get_or xs i d).annotation_type
types-more xs i d less =
    types-in (take (i + 1) xs) ∙ filter_map-more type_of xs i d less
    ∙ ap (λ (list : List ElementRef). list ++ option_to_list (get_or xs i d).annotation_type) (sym (types-in (take i xs)))
