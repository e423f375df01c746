-- What is asked for whether an argument contains another, by numbers and by types.
use Rattle.std.proofs.Common.{◌≡◌, Bool, refl, ap, ◌∙◌}
use Rattle.type_levels.specs.Steps as steps
use Rattle.type_levels.specs.Containment.{contains_by, in_extends, in_super, Argument, Unbounded, Extends, Super, Exact}
use Rattle.type_levels.specs.Numbered.{Numbered, question_at}
use Rattle.type_levels.specs.Shown.{question_of}
use Rattle.type_levels.specs.Laws.{map_argument, ContainsByNumbers}
use Rattle.type_levels.specs.declared.question.Question.{Question}
use Rattle.type_levels.specs.declared.question.Question.TheVariants.{Settled, Asks}

abbrev map_question : {A B : Type 0} → (A → B) → steps.Question A → steps.Question B
map_question f (steps.Settled answer) = steps.Settled answer
map_question f (steps.Asks a b) = steps.Asks (f a) (f b)

at_numbers : {M : Type 0} (types : Numbered M) (question : Question) → question_at types question ≡ map_question types.at (question_of question)
at_numbers types (Settled answer) = refl
at_numbers types (Asks pair) = refl

module _ {A B : Type 0} (f : A → B) where
  extends_mapped : (x b : A) (other : Argument A) → map_question f (in_extends x b other) ≡ in_extends (f x) (f b) (map_argument f other)
  extends_mapped x b Unbounded = refl
  extends_mapped x b (Extends y) = refl
  extends_mapped x b (Super y) = refl
  extends_mapped x b Exact = refl

  super_mapped : (x b : A) (other : Argument A) → map_question f (in_super x b other) ≡ in_super (f x) (f b) (map_argument f other)
  super_mapped x b Unbounded = refl
  super_mapped x b (Extends y) = refl
  super_mapped x b (Super y) = refl
  super_mapped x b Exact = refl

  mapped : (same : Bool) (argument : Argument A) (b : A) (other : Argument A)
      → map_question f (contains_by same argument b other) ≡ contains_by same (map_argument f argument) (f b) (map_argument f other)
  mapped same Unbounded b other = refl
  mapped same (Extends x) b other = extends_mapped x b other
  mapped same (Super x) b other = super_mapped x b other
  mapped same Exact b other = refl

pub by_numbers : {M : Type 0} → ContainsByNumbers M
by_numbers types question same argument number other e =
    at_numbers types question ∙ ap (map_question types.at) e ∙ mapped types.at same argument number other
