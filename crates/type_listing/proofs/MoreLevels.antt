-- The members of a type stay with more levels of supertypes, once they are closed.
use Rattle.std.proofs.Common.{◌≡◌, zero, suc, List, [], ◌∷◌, map, Option, None, Some, is_some, refl, sym, ap, ◌∙◌, subst}
use Rattle.std.proofs.lemmas.Bool.{false≢true}
use Rattle.std.specs.Prelude.{fold}
use Rattle.apt_base.specs.declared.element.ElementRef.{ElementRef}
use Rattle.element_table.specs.TypeTable.{TypeTable}
use Rattle.type_elements.specs.MemberElements.{enclosed}
use Rattle.type_listing.specs.Members.{Elements, with_supertype, super_elements, members}
use Rattle.type_listing.specs.MemberLaws.{MoreLevelsKeep}

module _ (table : TypeTable) (at : ElementRef) where
  pub open_stays : (xs : List (Option Elements)) → fold (with_supertype table at) None xs ≡ None
  open_stays [] = refl
  open_stays (x ∷ xs) = open_stays xs

  pub open_with : (o : Option Elements) → with_supertype table at o None ≡ None
  open_with None = refl
  open_with (Some list) = refl

  pub all_open : (o : Option Elements) (xs : List (Option Elements)) → fold (with_supertype table at) (with_supertype table at o None) xs ≡ None
  all_open o xs = ap (λ p. fold (with_supertype table at) p xs) (open_with o) ∙ open_stays xs

  gathers_more : (f g : ElementRef → Option Elements) → ((s : ElementRef) (l : Elements) → f s ≡ Some l → g s ≡ Some l)
      → (supers : List ElementRef) (o : Option Elements) (list : Elements)
      → fold (with_supertype table at) o (map f supers) ≡ Some list → fold (with_supertype table at) o (map g supers) ≡ Some list
  gathers_more f g more [] o list e = e
  gathers_more f g more (s ∷ supers) o list e = by (f s) refl e (λ p. gathers_more f g more supers p list)
    where
      by : (x : Option Elements) → f s ≡ x → fold (with_supertype table at) (with_supertype table at o x) (map f supers) ≡ Some list
          → ((p : Option Elements) → fold (with_supertype table at) p (map f supers) ≡ Some list → fold (with_supertype table at) p (map g supers) ≡ Some list)
          → fold (with_supertype table at) (with_supertype table at o (g s)) (map g supers) ≡ Some list
      by None is e next = absurd (false≢true (ap is_some (sym (all_open o (map f supers)) ∙ e)))
      by (Some l) is e next =
          let S : Option Elements → Type 0 = λ y. fold (with_supertype table at) (with_supertype table at o y) (map g supers) ≡ Some list in
          subst S (sym (more s l is)) (next (with_supertype table at o (Some l)) e)

pub more_levels : MoreLevelsKeep
unfolding members
more_levels table zero at list e =
    gathers_more table at (λ super. None) (members table zero) (λ s l none. absurd (false≢true (ap is_some none)))
    (super_elements table at) (Some (enclosed table at)) list e
more_levels table (suc n) at list e =
    gathers_more table at (members table n) (members table (suc n)) (more_levels table n)
    (super_elements table at) (Some (enclosed table at)) list e
