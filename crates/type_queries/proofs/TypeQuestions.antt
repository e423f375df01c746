-- What the questions on erasures and supertypes come to, by what the type is.
use Rattle.std.proofs.Common.{◌≡◌, Bool, true, false, not, ◌&&◌, List, Option, None, Some, ap, ap₂, ◌∙◌}
use Rattle.apt_base.specs.Limits.{max_type_steps}
use Rattle.element_table.specs.TypeTable.{TypeTable}
use Rattle.type_mirror.specs.declared.mirror.Mirror.{Mirror}
use Rattle.type_layers.specs.Layers.{layer}
use Rattle.type_relations.specs.Direct.{direct}
use Rattle.type_relations.specs.Erasure.{erasure}
use Rattle.type_queries.specs.Questions.{is_executable, is_package, direct_question, erasure_question}
use Rattle.type_queries.specs.Verdicts.{Verdict, NoSuch, WrongKind, TooDeep, Given, value, judged, are_there}

module _ (table : TypeTable) (m : Mirror) where
  by_erasure : Bool → Bool → Option Mirror → Verdict Mirror
  by_erasure there «package» answer = judged there (not «package») (value answer)

  by_supertypes : Bool → Bool → Bool → Option (List Mirror) → Verdict (List Mirror)
  by_supertypes there executable «package» answer = judged there (not executable && not «package») (value answer)

  pub erasure-lost : are_there table m ≡ false → erasure_question table m ≡ NoSuch
  unfolding erasure_question by_erasure
  erasure-lost e = ap (λ (b : Bool). by_erasure b (is_package (layer m)) (erasure table max_type_steps m)) e

  pub erasure-other : are_there table m ≡ true → is_package (layer m) ≡ true → erasure_question table m ≡ WrongKind
  unfolding erasure_question by_erasure
  erasure-other e h = ap₂ (λ (b c : Bool). by_erasure b c (erasure table max_type_steps m)) e h

  pub erasure-deep : are_there table m ≡ true → is_package (layer m) ≡ false → erasure table max_type_steps m ≡ None → erasure_question table m ≡ TooDeep
  unfolding erasure_question by_erasure
  erasure-deep e h a = ap₂ (λ (b c : Bool). by_erasure b c (erasure table max_type_steps m)) e h ∙ ap value a

  pub erasure-given : (answer : Mirror) → are_there table m ≡ true → is_package (layer m) ≡ false → erasure table max_type_steps m ≡ Some answer → erasure_question table m ≡ Given answer
  unfolding erasure_question by_erasure
  erasure-given answer e h a = ap₂ (λ (b c : Bool). by_erasure b c (erasure table max_type_steps m)) e h ∙ ap value a

  pub supertypes-lost : are_there table m ≡ false → direct_question table m ≡ NoSuch
  unfolding direct_question by_supertypes
  supertypes-lost e = ap (λ (b : Bool). by_supertypes b (is_executable (layer m)) (is_package (layer m)) (direct table m)) e

  pub supertypes-executable : are_there table m ≡ true → is_executable (layer m) ≡ true → direct_question table m ≡ WrongKind
  unfolding direct_question by_supertypes
  supertypes-executable e h = ap₂ (λ (b c : Bool). by_supertypes b c (is_package (layer m)) (direct table m)) e h

  pub supertypes-package : are_there table m ≡ true → is_executable (layer m) ≡ false → is_package (layer m) ≡ true → direct_question table m ≡ WrongKind
  unfolding direct_question by_supertypes
  supertypes-package e h k = ap₂ (λ (b c : Bool). by_supertypes b c (is_package (layer m)) (direct table m)) e h ∙ ap (λ (b : Bool). by_supertypes true false b (direct table m)) k

  supertypes-answer : are_there table m ≡ true → is_executable (layer m) ≡ false → is_package (layer m) ≡ false → direct_question table m ≡ value (direct table m)
  unfolding direct_question by_supertypes
  supertypes-answer e h k =
      ap₂ (λ (b c : Bool). by_supertypes b c (is_package (layer m)) (direct table m)) e h ∙ ap (λ (b : Bool). by_supertypes true false b (direct table m)) k

  pub supertypes-deep : are_there table m ≡ true → is_executable (layer m) ≡ false → is_package (layer m) ≡ false → direct table m ≡ None → direct_question table m ≡ TooDeep
  supertypes-deep e h k a = supertypes-answer e h k ∙ ap value a

  pub supertypes-given : (answer : List Mirror) → are_there table m ≡ true → is_executable (layer m) ≡ false → is_package (layer m) ≡ false → direct table m ≡ Some answer
      → direct_question table m ≡ Given answer
  supertypes-given answer e h k a = supertypes-answer e h k ∙ ap value a

pub ruleset erasures = (erasure-lost, erasure-other, erasure-deep, erasure-given)

pub ruleset supertypes = (supertypes-lost, supertypes-executable, supertypes-package, supertypes-deep, supertypes-given)
