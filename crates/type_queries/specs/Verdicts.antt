-- What a question comes to: a fault, or an answer. The faults come in one order.
use Rattle.std.specs.Prelude.{◌≡◌, Bool, true, false, List, [], ◌∷◌, ◌++◌, Option, None, Some, Result, Ok, Err}
use Rattle.std.specs.List.{list_all, flat_map}
use Rattle.std.specs.Option.{option_to_list}
use Rattle.apt_base.specs.declared.element.ElementRef.{ElementRef}
use Rattle.element_table.specs.TypeTable.{TypeTable}
use Rattle.type_mirror.specs.declared.mirror.Mirror.{Mirror}
use Rattle.type_mirror.specs.declared.mirror.BaseMirror.TheVariants as base
use Rattle.type_mirror.specs.declared.mirror.DeclaredMirror.{DeclaredMirror}
use Rattle.type_mirror.specs.declared.mirror.ExecutableMirror.{ExecutableMirror}
use Rattle.type_mirror.specs.Parts.{plain}
use Rattle.type_layers.specs.Layers.{Layer, Declared, Variable, Array, Extends, Super, Executable, by_layers}
use Rattle.type_levels.specs.declared.answer.Answer.{Answer}
use Rattle.type_levels.specs.declared.answer.Answer.TheVariants.{Yes, Open, No}
use Rattle.type_relations.specs.Elements.{is_there}
use Rattle.type_queries.specs.declared.fault.QueryFault.{QueryFault}
use Rattle.type_queries.specs.declared.fault.QueryFault.TheVariants as fault

pub data Verdict (A : Type 0) : Type 0 where
  -- something names an element that is not there
  NoSuch : Verdict A
  -- an argument is not of the kind that the question wants
  WrongKind : Verdict A
  -- there is no answer within 64 steps
  TooDeep : Verdict A
  Given : (answer : A) → Verdict A

-- open is too deep
abbrev pub value : {A : Type 0} → Option A → Verdict A
value None = TooDeep
value (Some x) = Given x

abbrev pub truth : Answer → Verdict Bool
truth Yes = Given true
truth Open = TooDeep
truth No = Given false

-- an element that isn't there is told first, then a wrong kind
abbrev pub judged : {A : Type 0} → Bool → Bool → Verdict A → Verdict A
judged false kinds answer = NoSuch
judged true false answer = WrongKind
judged true true answer = answer

-- what stands against a question: nothing, where all is there and of the kind that is wanted
abbrev pub Stops : Option QueryFault → Bool → Bool → Type 0
Stops None there kinds = (there ≡ true) × (kinds ≡ true)
Stops (Some fault.NoSuch) there kinds = there ≡ false
Stops (Some fault.WrongKind) there kinds = (there ≡ true) × (kinds ≡ false)
Stops (Some fault.TooDeep) there kinds = ⊥
Stops (Some fault.Memory) there kinds = ⊥

-- ---- elements that a mirror names, from left to right

abbrev pub parts_elements : List (List ElementRef) → List ElementRef
parts_elements parts = flat_map (λ part. part) parts

abbrev pub layer_elements : Layer (List ElementRef) → List ElementRef
layer_elements (Declared at enclosing arguments) = at ∷ (parts_elements (option_to_list enclosing) ++ parts_elements arguments)
layer_elements (Variable at) = at ∷ []
layer_elements (Array item) = item
layer_elements (Extends bound) = bound
layer_elements (Super bound) = bound
layer_elements (Executable variables parameters outcome thrown) = variables ++ (parts_elements parameters ++ (outcome ++ parts_elements thrown))
layer_elements _ = []

unfoldable pub elements_of : Mirror → List ElementRef
elements_of = by_layers layer_elements

abbrev pub are_there : TypeTable → Mirror → Bool
are_there table m = list_all (is_there table) (elements_of m)

-- of a class type or the types of a method alone
abbrev pub declared_there : TypeTable → DeclaredMirror → Bool
declared_there table d = are_there table (plain (base.Declared d))

abbrev pub executable_there : TypeTable → ExecutableMirror → Bool
executable_there table e = are_there table (plain (base.Executable e))

-- ---- what a call gives; out of memory may come in place of it

abbrev pub Gives : {A : Type 0} → Result A QueryFault → Verdict A → Type 0
Gives (Ok answer) verdict = verdict ≡ Given answer
Gives (Err fault.NoSuch) verdict = verdict ≡ NoSuch
Gives (Err fault.WrongKind) verdict = verdict ≡ WrongKind
Gives (Err fault.TooDeep) verdict = verdict ≡ TooDeep
Gives (Err fault.Memory) verdict = Unit {0}
