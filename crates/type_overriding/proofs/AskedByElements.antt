-- What a question on two types by their elements alone asks next, by numbers.
use Rattle.std.proofs.Common.{◌≡◌, Bool, true, false, List, map, Option, None, Some, refl, sym, ap, ap₂, subst, ◌∙◌, arith, if◌then◌else◌}
use Rattle.apt_base.specs.declared.element.ElementRef.{ElementRef}
use Rattle.element_table.specs.TypeTable.{TypeTable}
use Rattle.type_mirror.specs.declared.mirror.Mirror.{Mirror}
use Rattle.type_layers.specs.Layers.{Layer, Primitive, Declared, Error, Variable, Array, Unbounded, Extends, Super, Executable, Nothing, Void, Null, Package, layer, map_layer}
use Rattle.type_elements.specs.MemberElements.{element_in, class_element, same_class}
use Rattle.type_levels.specs.Numbered as numbered_types
use Rattle.type_levels.specs.Numbered.{IsKnownNext, IsKnownQuestion, Stands, next_at, question_at}
use Rattle.type_levels.specs.Steps as steps
use Rattle.type_levels.specs.declared.answer.Answer.TheVariants.{Yes}
use Rattle.type_levels.specs.declared.question.Next.{Next}
use Rattle.type_levels.specs.declared.question.Next.TheVariants as next_by
use Rattle.type_levels.specs.declared.question.Pair.{Pair}
use Rattle.type_levels.specs.declared.question.Question.{Question}
use Rattle.type_levels.specs.declared.question.Question.TheVariants.{Settled, Asks}
use Rattle.type_numbers.specs.declared.node.Node.{Node}
use Rattle.type_numbers.specs.declared.node.Node.TheVariants as node
use Rattle.type_numbers.specs.Nodes.{layer_of}
use Rattle.type_numbers.specs.Numbers.{at, with_types}
use Rattle.type_numbers.proofs.LayerMaps.{all_given}
use Rattle.type_steps.proofs.LayersOfNumbers.{NoClass}
use Rattle.type_subtypes.specs.Numbers.{numbered, sub_at, sup_at}
use Rattle.type_subtypes.specs.Subtypes.{next_of}
use Rattle.type_overriding.specs.ByElements.{are_of_one, next_by_elements}

-- ---- the elements of class types

no_element : (n : Node) → NoClass n → None ≡ element_in (layer_of n)
no_element (node.Declared element enclosing arguments) denied = absurd (denied element enclosing arguments refl)
no_element (node.Primitive kind) denied = refl
no_element (node.Error text) denied = refl
no_element (node.Variable element) denied = refl
no_element (node.Array item) denied = refl
no_element node.Unbounded denied = refl
no_element (node.Extends bound) denied = refl
no_element (node.Super bound) denied = refl
no_element (node.Executable variables parameters outcome thrown) denied = refl
no_element node.Nothing denied = refl
no_element node.Void denied = refl
no_element node.Null denied = refl
no_element (node.Package name) denied = refl

element_mapped : {A B : Type 0} (f : A → B) (l : Layer A) → element_in (map_layer f l) ≡ element_in l
element_mapped f (Primitive kind) = refl
element_mapped f (Declared at enclosing arguments) = refl
element_mapped f (Error text) = refl
element_mapped f (Variable at) = refl
element_mapped f (Array item) = refl
element_mapped f Unbounded = refl
element_mapped f (Extends bound) = refl
element_mapped f (Super bound) = refl
element_mapped f (Executable variables parameters outcome thrown) = refl
element_mapped f Nothing = refl
element_mapped f Void = refl
element_mapped f Null = refl
element_mapped f (Package name) = refl

second_none : (x : Option ElementRef) → false ≡ same_class x None
second_none None = refl
second_none (Some one) = refl

pub first-no-class : (n k : Node) → NoClass n → false ≡ same_class (element_in (layer_of n)) (element_in (layer_of k))
first-no-class n k denied = ap (λ (x : Option ElementRef). same_class x (element_in (layer_of k))) (no_element n denied)

pub second-no-class : (n k : Node) → NoClass k → false ≡ same_class (element_in (layer_of n)) (element_in (layer_of k))
second-no-class n k denied =
    second_none (element_in (layer_of n)) ∙ ap (λ (x : Option ElementRef). same_class (element_in (layer_of n)) x) (no_element k denied)

pub ruleset elements = (first-no-class, second-no-class)

-- they are where their nodes are
pub nodes-of_one : (t : List Mirror) (pair : Pair) (n k : Node) (s : Bool) → with_types t (layer_of n) ≡ layer (sub_at t pair)
    → with_types t (layer_of k) ≡ layer (sup_at t pair) → s ≡ same_class (element_in (layer_of n)) (element_in (layer_of k)) → s ≡ are_of_one t pair
nodes-of_one t pair n k s exact exact' test =
    test
    ∙ sym (ap₂ (λ (a b : Option ElementRef). same_class a b) (element_mapped (at t) (layer_of n)) (element_mapped (at t) (layer_of k)))
    ∙ ap₂ (λ (a b : Layer Mirror). same_class (element_in a) (element_in b)) exact exact'

-- ---- one relation in the place of another one

module _ (asks asks' : Mirror → Mirror → steps.Next Mirror) (t : List Mirror) where
  question_known : (q : Question) → IsKnownQuestion (numbered asks t) q → IsKnownQuestion (numbered asks' t) q
  question_known (Settled answer) known = tt
  question_known (Asks pair) known = known

  next_known : (n : Next) → IsKnownNext (numbered asks t) n → IsKnownNext (numbered asks' t) n
  next_known (next_by.Decided answer) known = tt
  next_known (next_by.Arguments questions) known =
      all_given (IsKnownQuestion (numbered asks t)) (IsKnownQuestion (numbered asks' t)) questions.items question_known known
  next_known (next_by.Supertypes types) known = known

  question_alike : (q : Question) → question_at (numbered asks' t) q ≡ question_at (numbered asks t) q
  question_alike (Settled answer) = refl
  question_alike (Asks pair) = refl

  questions_alike : question_at (numbered asks' t) ≡ question_at (numbered asks t)
  questions_alike = λ i q. question_alike q i

  next_alike : (n : Next) → next_at (numbered asks' t) n ≡ next_at (numbered asks t) n
  next_alike (next_by.Decided answer) = refl
  next_alike (next_by.Arguments questions) =
      ap (λ (f : Question → steps.Question Mirror). steps.Arguments (map f questions.items)) questions_alike
  next_alike (next_by.Supertypes types) = refl

  stands_alike : (n : Next) (asked asked' : steps.Next Mirror) → asked ≡ asked' → Stands (numbered asks t) n asked → Stands (numbered asks' t) n asked'
  stands_alike n asked asked' e s = record { known = next_known n s.known; next = next_alike n ∙ s.next ∙ e }

-- types that are added for the one are so for the other one
pub keeps-alike : (asks asks' : Mirror → Mirror → steps.Next Mirror) (t t' : List Mirror) → numbered_types.Grows (numbered asks t) (numbered asks t')
    → numbered_types.Grows (numbered asks' t) (numbered asks' t')
keeps-alike asks asks' t t' g = record { more = g.more; stands = g.stands; same = refl }

pub keeps-itself : (asks : Mirror → Mirror → steps.Next Mirror) (t : List Mirror) → numbered_types.Grows (numbered asks t) (numbered asks t)
keeps-itself asks t = record { more = omega arith; stands = λ i known. refl; same = refl }

-- ---- what is asked next

module _ (table : TypeTable) where
  by_test : Mirror → Mirror → Bool → steps.Next Mirror
  by_test a b t = if t then steps.Decided Yes else next_of table a b

  pub elements-decide : (t : List Mirror) (pair : Pair) (s : Bool) → s ≡ are_of_one t pair → s ≡ true
      → Stands (numbered (next_by_elements table) t) (next_by.Decided Yes) (next_by_elements table (sub_at t pair) (sup_at t pair))
  unfolding next_by_elements by_test
  elements-decide t pair s is e = record { known = tt; next = sym (ap (by_test (sub_at t pair) (sup_at t pair)) (sym is ∙ e)) }

  pub elements-differ : (table' : TypeTable) (t t' : List Mirror) (pair : Pair) (s : Bool) (n : Next) → table' ≡ table → s ≡ are_of_one t pair → s ≡ false
      → Stands (numbered (next_of table') t') n (next_of table' (sub_at t pair) (sup_at t pair))
      → Stands (numbered (next_by_elements table) t') n (next_by_elements table (sub_at t pair) (sup_at t pair))
  unfolding next_by_elements by_test
  elements-differ table' t t' pair s n same is e stands =
      let there : Stands (numbered (next_of table) t') n (next_of table (sub_at t pair) (sup_at t pair)) =
      subst (λ (x : TypeTable). Stands (numbered (next_of x) t') n (next_of x (sub_at t pair) (sup_at t pair))) same stands in
      stands_alike (next_of table) (next_by_elements table) t' n (next_of table (sub_at t pair) (sup_at t pair)) (next_by_elements table (sub_at t pair) (sup_at t pair))
      (sym (ap (by_test (sub_at t pair) (sup_at t pair)) (sym is ∙ e))) there

-- ---- over tables of which the one asks as the other one

module _ (table table' : TypeTable) (e : next_of table' ≡ next_of table) where
  asks_alike : (a b : Mirror) → next_by_elements table' a b ≡ next_by_elements table a b
  unfolding next_by_elements
  asks_alike a b = ap (λ (asks : Mirror → Mirror → steps.Next Mirror). if same_class (class_element a) (class_element b) then steps.Decided Yes else asks a b) e

  pub elements-alike : next_by_elements table' ≡ next_by_elements table
  elements-alike = λ i a b. asks_alike a b i

-- what a search of subtypes keeps, one by elements keeps too
pub keeps-over : (table table' : TypeTable) (t t' : List Mirror) → numbered_types.Grows (numbered (next_of table) t) (numbered (next_of table') t')
    → numbered_types.Grows (numbered (next_by_elements table) t) (numbered (next_by_elements table') t')
keeps-over table table' t t' g = record { more = g.more; stands = g.stands; same = elements-alike table table' g.same }

-- what subtypes ask next, where two types are not of one element
pub elements-differ-over : (table table' : TypeTable) (t t' : List Mirror) (pair : Pair) (s : Bool) (n : Next) → s ≡ are_of_one t pair → s ≡ false
    → Stands (numbered (next_of table') t') n (next_of table (sub_at t pair) (sup_at t pair))
    → Stands (numbered (next_by_elements table') t') n (next_by_elements table (sub_at t pair) (sup_at t pair))
unfolding next_by_elements by_test
elements-differ-over table table' t t' pair s n is e stands =
    stands_alike (next_of table') (next_by_elements table') t' n (next_of table (sub_at t pair) (sup_at t pair)) (next_by_elements table (sub_at t pair) (sup_at t pair))
    (sym (ap (by_test table (sub_at t pair) (sup_at t pair)) (sym is ∙ e))) stands
