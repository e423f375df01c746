-- What stands at an element of some units of a table, and what look-ups that find such elements alone find together.
use Rattle.std.proofs.Common.{◌≡◌, ℕ, Bool, true, false, List, [], ◌∷◌, ◌++◌, map, sym, ap, subst, ◌∙◌}
use Rattle.std.specs.Prelude.{if◌then◌else◌}
use Rattle.std.specs.List.{AllByRecursion, fold}
use Rattle.apt_base.specs.declared.element.ElementRef.{ElementRef}
use Rattle.decl_elements.specs.Nodes.{Node}
use Rattle.element_table.specs.TypeTable.{TypeTable, IsTable}
use Rattle.element_table.specs.TableElements.{reference}
use Rattle.name_resolve.specs.Finds.{Find, Finds, Nothing, One, Several, same_find, both, together, first_of, one_if, find_at}
use Rattle.name_resolve.specs.Mirrors.{ref_of}
use Rattle.name_resolve.specs.Parts.{at_path}
use Rattle.type_resolve.specs.Scopes.{find_in}
use Rattle.closed_cuts.specs.NameLaws.{FindLies, FindsLie, NamesStay}
use Rattle.closed_cuts.proofs.Keeping.{Kept}
use Rattle.closed_cuts.proofs.AgreeingReads.{Lies, SameReads}
use Rattle.closed_cuts.proofs.CutNames.{held, unit-named}

module _ (one other : TypeTable) (Has : List ℕ → Type 0) where
  abbrev F : Finds → Type 0
  F = FindsLie one other Has

  abbrev Fs : List Finds → Type 0
  Fs = AllByRecursion F

  -- ---- found together

  one_if-good : (b : Bool) (f : Find) → FindLies one other Has f → F (one_if b f)
  one_if-good true f l = l
  one_if-good false f l = tt

  both-good : (xs ys : Finds) → F xs → F ys → F (both xs ys)
  both-good Nothing ys g h = h
  both-good (One f) Nothing g h = g
  both-good (One f) (One e) g h = elim (same_find f e) as (λ b. F (if b then One f else Several)) [ true ↦ g | false ↦ tt ]
  both-good (One f) Several g h = tt
  both-good Several ys g h = tt

  all-good : (list : List Finds) → Fs list → (so_far : Finds) → F so_far → F (fold both so_far list)
  all-good [] g so_far h = h
  all-good (xs ∷ list) g so_far h = all-good list g.1 (both so_far xs) (both-good so_far xs h g.0)

  pub together-good : (list : List Finds) → Fs list → F (together list)
  together-good list g = all-good list g Nothing tt

  first-good : (list : List Finds) → Fs list → F (first_of list)
  first-good [] g = tt
  first-good (Nothing ∷ list) g = first-good list g.1
  first-good (One f ∷ list) g = g.0
  first-good (Several ∷ list) g = tt

  pub together-kept : (list list' : List Finds) → Kept Fs list list' → Kept F (together list) (together list')
  together-kept list list' k = record { equal = ap together k.equal; good = together-good list k.good }

  pub first-kept : (list list' : List Finds) → Kept Fs list list' → Kept F (first_of list) (first_of list')
  first-kept list list' k = record { equal = ap first_of k.equal; good = first-good list k.good }

  -- ---- at an element

  module _ (t : IsTable one) (r : SameReads one other Has) where
    pub own_name : (at : ElementRef) → Lies one other Has at → ref_of (find_in one at) ≡ at
    own_name at l =
        let u = r.units at.unit l in
        let same = unit-named one t at.unit u.unit u.one_has in
        ap ref_of (held one at u.unit u.one_has) ∙ ap (λ (name : List ℕ). reference name at.path) same

    pub lies-there : (at : ElementRef) → Lies one other Has at → FindLies one other Has (find_in one at)
    lies-there at l =
        let same = own_name at l in
        record { unit = subst (λ (at : ElementRef). Has at.unit) (sym same) l; is_there = ap (find_in one) same }

  module _ (r : SameReads one other Has) where
    -- at another path of its unit
    pub lies-at : (f : Find) → FindLies one other Has f → (path : List ℕ) → FindLies one other Has (at_path f path)
    lies-at f l path =
        let u = r.units (ref_of f).unit l.unit in
        let here = held one (reference (ref_of f).unit path) u.unit u.one_has in
        let there = held one (ref_of f) u.unit u.one_has in
        record { unit = l.unit; is_there = here ∙ ap (λ (g : Find). at_path g path) (sym there ∙ l.is_there) }

    pub child-good : (f : Find) → FindLies one other Has f → (path : List ℕ) (test : Node → Bool) (children : List (ℕ × Node))
        → Fs (map (λ child. one_if (test child.1) (find_at f.part f.unit path child.0)) children)
    child-good f l path test [] = tt
    child-good f l path test (child ∷ children) =
        (one_if-good (test child.1) (find_at f.part f.unit path child.0) (lies-at f l (path ++ child.0 ∷ [])), child-good f l path test children)

  -- what the names of an element's unit mean stays where it is found
  pub there-too : (n : (at : ElementRef) → Has at.unit → NamesStay one other Has at) → (f : Find) → FindLies one other Has f → find_in other (ref_of f) ≡ f
  there-too n f l = sym (n (ref_of f) l.unit).place ∙ l.is_there
