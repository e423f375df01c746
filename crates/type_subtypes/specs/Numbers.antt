-- Types by their numbers, as the two relations of a table and their search see them.
use Rattle.std.specs.Prelude.{◌≡◌, ℕ, Bool, ◌&&◌, length, List, map, Option}
use Rattle.std.specs.List.{AllByRecursion}
use Rattle.std.specs.Option.{option_map, option_to_list}
use Rattle.element_table.specs.TypeTable.{TypeTable}
use Rattle.type_mirror.specs.declared.mirror.Mirror.{Mirror}
use Rattle.type_layers.specs.Same.{same}
use Rattle.type_levels.specs.Containment as containment
use Rattle.type_levels.specs.Containment.{each_contained}
use Rattle.type_levels.specs.Steps as steps
use Rattle.type_levels.specs.Numbered.{Numbered, IsKnownNext, Stands, next_at, question_at}
use Rattle.type_levels.specs.declared.question.Next.{Next}
use Rattle.type_levels.specs.declared.question.Pair.{Pair}
use Rattle.type_levels.specs.declared.question.Question.{Question}
use Rattle.type_numbers.specs.Nodes.{layer_of}
use Rattle.type_numbers.specs.Numbers.{at, IsKnown, with_types}
use Rattle.type_numbers.specs.declared.node.Node.{Node}
use Rattle.type_relations.specs.RawTypes.{is_raw}
use Rattle.type_subtypes.specs.Assignable.{next_raw}
use Rattle.type_subtypes.specs.Subtypes.{by_layers, decided, next_of, same_enclosing, type_arguments}

-- the types of one call with a relation
abbrev pub numbered : (Mirror → Mirror → steps.Next Mirror) → List Mirror → Numbered Mirror
numbered next types = record { count = length types; at = at types; next = next }

-- with subtypes
abbrev pub with_subtypes : TypeTable → List Mirror → Numbered Mirror
with_subtypes table types = numbered (next_of table) types

-- with raw types that are reached
abbrev pub with_raw_types : TypeTable → List Mirror → Numbered Mirror
with_raw_types table types = numbered (next_raw table) types

-- the first type of a question, and the second one
abbrev pub sub_at : List Mirror → Pair → Mirror
sub_at types pair = at types pair.sub

abbrev pub sup_at : List Mirror → Pair → Mirror
sup_at types pair = at types pair.sup

-- both have numbers
abbrev pub BothKnown : List Mirror → Pair → Type 0
BothKnown types pair = IsKnown types pair.sub × IsKnown types pair.sup

-- ---- what two types decide, by the numbers of what they hold

abbrev pub all_contained : List Mirror → List ℕ → List ℕ → steps.Next Mirror
all_contained types as' bs = steps.Arguments (each_contained type_arguments (map (at types) as') (map (at types) bs))

abbrev pub by_arguments : List Mirror → List ℕ → List ℕ → steps.Next Mirror
by_arguments types as' bs = containment.by_arguments type_arguments (map (at types) as') (map (at types) bs)

abbrev pub by_nodes : List Mirror → Node → Node → Option (steps.Next Mirror)
by_nodes types one other = by_layers (with_types types (layer_of one)) (with_types types (layer_of other))

-- ---- what is asked next by numbers

-- it stands for what is asked next, and nothing for nothing
pub record MayStand (types : Numbered Mirror) (numbers : Option Next) (asked : Option (steps.Next Mirror)) : Type 0 where
  pub known : AllByRecursion (IsKnownNext types) (option_to_list numbers)
  pub next : option_map (next_at types) numbers ≡ asked

-- each of the second numbers has to contain the one of the first ones at its place
abbrev pub AsksEach : TypeTable → List Mirror → List ℕ → List ℕ → Next → Type 0
AsksEach table types as' bs next = Stands (with_subtypes table types) next (all_contained types as' bs)

abbrev pub AsksArguments : TypeTable → List Mirror → List ℕ → List ℕ → Next → Type 0
AsksArguments table types as' bs next = Stands (with_subtypes table types) next (by_arguments types as' bs)

abbrev pub NodesDecide : TypeTable → List Mirror → Node → Node → Option Next → Type 0
NodesDecide table types one other next = MayStand (with_subtypes table types) next (by_nodes types one other)

abbrev pub TypesDecide : TypeTable → List Mirror → Pair → Option Next → Type 0
TypesDecide table types pair next = MayStand (with_subtypes table types) next (decided (sub_at types pair) (sup_at types pair))

-- the question stands for what is asked of two arguments
abbrev pub argument_asked : TypeTable → List Mirror → Question → steps.Question Mirror
argument_asked table types question = question_at (with_subtypes table types) question

-- it stands for what is asked where the first argument is to contain the second one
abbrev pub AsksContained : TypeTable → List Mirror → ℕ → ℕ → Question → Type 0
AsksContained table types one other question = argument_asked table types question ≡ containment.contains type_arguments (at types one) (at types other)

-- two types have the same enclosing type, or none
abbrev pub same_enclosing_at : List Mirror → Option ℕ → Option ℕ → Bool
same_enclosing_at types one other = same_enclosing (option_map (at types) one) (option_map (at types) other)

-- the two are the same raw type
abbrev pub is_reached : TypeTable → List Mirror → Pair → Bool
is_reached table types pair = same (sub_at types pair) (sup_at types pair) && is_raw table (sub_at types pair)
