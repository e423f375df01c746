-- Subtypes (JLS 4.10) and contained type arguments (JLS 4.5.1) over a table, within a number of steps: what two types decide by themselves, and else the direct supertypes of the first one.
use Rattle.std.specs.Prelude.{ℕ, Bool, true, false, ◌&&◌, List, Option, None, Some, if◌then◌else◌}
use Rattle.apt_base.specs.Elements.{same_element}
use Rattle.element_table.specs.TypeTable.{TypeTable}
use Rattle.type_mirror.specs.declared.mirror.Mirror.{Mirror}
use Rattle.type_layers.specs.Layers.{Layer, Declared, Variable, Array, Unbounded, Extends, Super, Null, layer}
use Rattle.type_layers.specs.Same.{same}
use Rattle.type_levels.specs.Containment as argument
use Rattle.type_levels.specs.Containment.{Argument, View, contains, by_arguments}
use Rattle.type_levels.specs.Steps.{Next, Decided, Supertypes, answer_of, sub_within}
use Rattle.type_levels.specs.declared.answer.Answer.{Answer}
use Rattle.type_levels.specs.declared.answer.Answer.TheVariants.{Yes, Open}
use Rattle.type_relations.specs.Direct.{direct}

-- ---- arguments

-- one of the three wildcards, or a type
abbrev pub argument_in : {M : Type 0} → Layer M → Argument M
argument_in Unbounded = argument.Unbounded
argument_in (Extends bound) = argument.Extends bound
argument_in (Super bound) = argument.Super bound
argument_in _ = argument.Exact

abbrev pub type_arguments : View Mirror
type_arguments = record { argument = λ m. argument_in (layer m); same = same }

-- ---- subtypes

-- the type of null is a subtype of it
abbrev pub has_null : {M : Type 0} → Layer M → Bool
has_null (Declared at enclosing arguments) = true
has_null (Variable at) = true
has_null (Array item) = true
has_null _ = false

-- neither stands in a type, or both in the same one
abbrev pub same_enclosing : Option Mirror → Option Mirror → Bool
same_enclosing None None = true
same_enclosing (Some a) (Some b) = same a b
same_enclosing _ _ = false

abbrev pub yes_if : Bool → Option (Next Mirror)
yes_if holds = if holds then Some (Decided Yes) else None

-- two class types of one element with the same enclosing type are decided by their arguments
abbrev pub by_layers : Layer Mirror → Layer Mirror → Option (Next Mirror)
by_layers (Declared at o as') (Declared at' o' bs) = if same_element at at' && same_enclosing o o' then Some (by_arguments type_arguments as' bs) else None
by_layers Null other = yes_if (has_null other)
by_layers _ _ = None

-- what two types decide by themselves, if they do
unfoldable pub decided : Mirror → Mirror → Option (Next Mirror)
decided a b = if same a b then Some (Decided Yes) else by_layers (layer a) (layer b)

-- else one of the direct supertypes has to be a subtype; open where these are
abbrev pub or_supertypes : Option (Next Mirror) → Option (List Mirror) → Next Mirror
or_supertypes (Some next) types = next
or_supertypes None None = Decided Open
or_supertypes None (Some types) = Supertypes types

-- whether `a` is a subtype of `b`: what is asked next
unfoldable pub next_of : TypeTable → Mirror → Mirror → Next Mirror
next_of table a b = or_supertypes (decided a b) (direct table a)

-- within this many steps
abbrev pub subtype : TypeTable → ℕ → Mirror → Mirror → Answer
subtype table n = sub_within (next_of table) n

-- whether the argument `a` contains `b`, within this many steps
abbrev pub contained : TypeTable → ℕ → Mirror → Mirror → Answer
contained table n a b = answer_of (subtype table n) (contains type_arguments a b)
