-- Whether all elements that a question names are there, by the parts of it that name them.
use Rattle.std.proofs.Common.{◌≡◌, Bool, true, false, ◌&&◌, List, [], ◌∷◌, ◌++◌, refl, ap, ◌∙◌}
use Rattle.std.specs.List.{flat_map, list_all}
use Rattle.std.proofs.lemmas.List.Folds.{list_all-append}
use Rattle.apt_base.specs.declared.element.ElementRef.{ElementRef}
use Rattle.element_table.specs.TypeTable.{TypeTable}
use Rattle.type_mirror.specs.declared.mirror.Mirror.{Mirror}
use Rattle.type_relations.specs.Elements.{is_there}
use Rattle.type_queries.specs.Verdicts.{elements_of, are_there}
use Rattle.child_questions.specs.NamedElements.{are_all_there}

and_true : (b : Bool) → (b && true) ≡ b
and_true true = refl
and_true false = refl

module _ (table : TypeTable) where
  pub of_one : (at : ElementRef) → are_all_there table (at ∷ []) ≡ is_there table at
  of_one at = and_true (is_there table at)

  pub of_three : (a b c : ElementRef)
      → are_all_there table (a ∷ b ∷ c ∷ []) ≡ (is_there table a && (is_there table b && is_there table c))
  of_three a b c = ap (λ (t : Bool). is_there table a && (is_there table b && t)) (of_one c)

  pub of_two : (one other : Mirror)
      → are_all_there table (elements_of one ++ elements_of other)
      ≡ (are_there table one && are_there table other)
  of_two one other = list_all-append (is_there table) (elements_of one) (elements_of other)

  pub of_member : (container : Mirror) (at : ElementRef)
      → are_all_there table (elements_of container ++ at ∷ [])
      ≡ (are_there table container && is_there table at)
  of_member container at =
      list_all-append (is_there table) (elements_of container) (at ∷ [])
      ∙ ap (λ (b : Bool). are_there table container && b) (of_one at)

  pub of_mirrors : (mirrors : List Mirror)
      → are_all_there table (flat_map elements_of mirrors) ≡ list_all (are_there table) mirrors
  of_mirrors [] = refl
  of_mirrors (m ∷ mirrors) =
      list_all-append (is_there table) (elements_of m) (flat_map elements_of mirrors)
      ∙ ap (λ (b : Bool). are_there table m && b) (of_mirrors mirrors)

pub ruleset there = (of_one, of_three, of_two, of_member, of_mirrors)
