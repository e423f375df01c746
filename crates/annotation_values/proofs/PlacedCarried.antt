-- The annotations that are present on an element are written in units of the table.
use Rattle.std.proofs.Common.{◌≡◌, ◌<◌, ℕ, zero, suc, Bool, true, false, List, [], ◌∷◌, ◌++◌, map, filter, length}
use Rattle.std.proofs.Common.{get_or, Option, None, Some, option_map, slice_get, refl, sym, ap, subst, ◌∙◌, arith}
use Rattle.std.proofs.Common.{if◌then◌else◌}
use Rattle.std.specs.Option.{option_map_or}
use Rattle.std.proofs.lemmas.Option.{slice_get-map, slice_get_read}
use Rattle.apt_base.specs.declared.element.ElementRef.{ElementRef}
use Rattle.decl_tree.specs.declared.annotation.AnnotationText.{AnnotationText}
use Rattle.decl_tree.specs.declared.compilation.UnitText.{UnitText}
use Rattle.element_table.specs.TypeTable.{TypeTable, IsTable, unit_of}
use Rattle.name_resolve.specs.Finds.{Find}
use Rattle.name_resolve.specs.Placed.{IsPlaced}
use Rattle.name_resolve.specs.Shown.{find_of}
use Rattle.type_resolve.specs.Scopes.{find_in}
use Rattle.annotation_presence.specs.Carried.{Carried, carried, texts_at, directly_present, is_passed_on}
use Rattle.annotation_presence.specs.Carried.{superclass_element, present_within, present, max_superclasses}
use Rattle.annotation_presence.specs.Shown.{carried_of, carried_in}
use Rattle.annotation_presence.specs.declared.carried.Carried as shown
use Rattle.annotation_presence.proofs.PresenceLemmas.{directly-free}
use Rattle.expression_names.proofs.FieldsPlaced.{find-placed}
use Rattle.annotation_values.specs.Remembered.{ArePlacedAt}

module _ (table : TypeTable) where
  both-parts : (xs ys : List Carried) → ArePlacedAt table xs → ArePlacedAt table ys → ArePlacedAt table (xs ++ ys)
  both-parts [] ys p q = q
  both-parts (x ∷ xs) ys p q = (p.0, both-parts xs ys p.1 q)

  kept : (test : Carried → Bool) (xs : List Carried) → ArePlacedAt table xs → ArePlacedAt table (filter test xs)
  kept test [] p = tt
  kept test (x ∷ xs) p =
      elim (test x) as (λ b. ArePlacedAt table (if b then x ∷ filter test xs else filter test xs))
      [ true ↦ (p.0, kept test xs p.1) | false ↦ kept test xs p.1 ]

  each-text : (f : Find) → IsPlaced table f → (texts : List AnnotationText)
      → ArePlacedAt table (map (carried table f) texts)
  each-text f p [] = tt
  each-text f p (text ∷ texts) = (p, each-text f p texts)

  written-in : (f : Find) → IsPlaced table f → ArePlacedAt table (directly_present table f)
  unfolding directly_present
  written-in f p = each-text f p (texts_at f)

  module _ (is : IsTable table) where
    written-at : (at : ElementRef) (o : Option UnitText) → unit_of table at.unit ≡ o
        → ArePlacedAt table (directly_present table (find_in table at))
    written-at at None e = subst (ArePlacedAt table) (sym (directly-free table at e)) tt
    written-at at (Some u) e = written-in (find_in table at) (find-placed table is at u e)

    pub directly-placed : (at : ElementRef) → ArePlacedAt table (directly_present table (find_in table at))
    directly-placed at = written-at at (unit_of table at.unit) refl

    above-placed : (n : ℕ) → ((at : ElementRef) → ArePlacedAt table (present_within table n (find_in table at)))
        → (o : Option ElementRef)
        → ArePlacedAt table (option_map_or (λ at. present_within table n (find_in table at)) o [])
    above-placed n within None = tt
    above-placed n within (Some at) = within at

    within-placed : (n : ℕ) (at : ElementRef) → ArePlacedAt table (present_within table n (find_in table at))
    unfolding present_within
    within-placed zero at = directly-placed at
    within-placed (suc n) at =
        let f = find_in table at in
        both-parts (directly_present table f) _ (directly-placed at)
        (
        kept (is_passed_on table (directly_present table f)) _
        (above-placed n (within-placed n) (superclass_element table f))
        )

    pub present-placed : (at : ElementRef) → ArePlacedAt table (present table (find_in table at))
    unfolding present
    present-placed at = within-placed max_superclasses at

  pub placed-item : (list : List shown.Carried) (n : ℕ) (d : shown.Carried) → n < length list
      → ArePlacedAt table (carried_in list) → IsPlaced table (find_of (get_or list n d).at)
  placed-item [] n d less p = absurd (omega arith)
  placed-item (x ∷ xs) zero d less p = p.0
  placed-item (x ∷ xs) (suc n) d less p = placed-item xs n d (omega arith) p.1

-- the one of a number among those that are there
pub carried-item : (list : List shown.Carried) (n : ℕ) (c : shown.Carried) (all : List Carried) → carried_in list ≡ all
    → n < length list → c ≡ get_or list n c → slice_get all n ≡ Some (carried_of c)
carried-item list n c all e less is =
    ap (λ (cs : List Carried). slice_get cs n) (sym e) ∙ slice_get-map carried_of list n
    ∙ ap (option_map carried_of) (slice_get_read list (length list) n c refl less is)
