-- Of the members of a list those of one name alone are asked.
use Rattle.std.proofs.Common.{◌≡◌, Bool, true, false, cond, ◌||◌, List, [], ◌∷◌, refl, sym, ap, ◌∙◌, subst}
use Rattle.std.proofs.lemmas.Bool.{false≢true}
use Rattle.std.proofs.lemmas.Slice.Eq.{bytes_eq-Decides}
use Rattle.std.specs.Prelude.{filter}
use Rattle.std.specs.List.{list_any}
use Rattle.std.specs.Str.{bytes_eq}
use Rattle.apt_base.specs.Elements.{same_element}
use Rattle.apt_base.specs.declared.element.ElementRef.{ElementRef}
use Rattle.element_table.specs.TypeTable.{TypeTable}
use Rattle.type_mirror.proofs.Replacements.{same_element-true}
use Rattle.type_levels.specs.Answers.{either, any}
use Rattle.type_levels.specs.declared.answer.Answer.{Answer}
use Rattle.type_levels.specs.declared.answer.Answer.TheVariants.{No}
use Rattle.type_listing.specs.Members.{displaces}
use Rattle.type_listing.specs.Namesakes.{key_of, has_key, NamesakesAreEnough, IsAmongItsNamesakes}
use Rattle.type_listing.proofs.OtherNames.{others_stay}

module _ {A : Type 0} (passes : A → Bool) where
  any_filtered : (f : A → Answer) → ((x : A) → passes x ≡ false → f x ≡ No) → (xs : List A) → any f xs ≡ any f (filter passes xs)
  any_filtered f none [] = refl
  any_filtered f none (x ∷ xs) = by (passes x) refl (any_filtered f none xs)
    where
      by : (b : Bool) → passes x ≡ b → any f xs ≡ any f (filter passes xs)
          → either (f x) (any f xs) ≡ any f (cond b (x ∷ filter passes xs) (filter passes xs))
      by true is e = ap (either (f x)) e
      by false is e = ap (λ a. either a (any f xs)) (none x is) ∙ e

  list_any_filtered : (f : A → Bool) → ((x : A) → passes x ≡ false → f x ≡ false) → (xs : List A) → list_any f xs ≡ list_any f (filter passes xs)
  list_any_filtered f none [] = refl
  list_any_filtered f none (x ∷ xs) = by (passes x) refl (list_any_filtered f none xs)
    where
      by : (b : Bool) → passes x ≡ b → list_any f xs ≡ list_any f (filter passes xs)
          → (f x || list_any f xs) ≡ list_any f (cond b (x ∷ filter passes xs) (filter passes xs))
      by true is e = ap (λ b. f x || b) e
      by false is e = ap (λ b. b || list_any f xs) (none x is) ∙ e

pub namesakes_are_enough : NamesakesAreEnough
namesakes_are_enough table t c list =
    any_filtered (has_key table (key_of table c)) (λ m. displaces table t m c) (λ m other. others_stay table t m c other) list

-- the same member has the same name
not_of_another_name : (table : TypeTable) (c x : ElementRef) → has_key table (key_of table c) x ≡ false → same_element c x ≡ false
not_of_another_name table c x other = by (same_element c x) refl
  where
    by : (b : Bool) → same_element c x ≡ b → b ≡ false
    by false is = refl
    by true is =
        let S : ElementRef → Type 0 = λ z. bytes_eq (key_of table z) (key_of table c) ≡ true in
        let alike : bytes_eq (key_of table x) (key_of table c) ≡ true =
        subst S (same_element-true c x is) ((bytes_eq-Decides (key_of table c) (key_of table c)).1 refl) in
        absurd (false≢true (sym other ∙ alike))

pub among_its_namesakes : IsAmongItsNamesakes
among_its_namesakes table c list =
    list_any_filtered (has_key table (key_of table c)) (same_element c) (λ x other. not_of_another_name table c x other) list
