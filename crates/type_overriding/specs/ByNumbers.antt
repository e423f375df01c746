-- Signatures of methods and constructors by the numbers of their types.
use Rattle.std.specs.Prelude.{◌≡◌, ℕ, Bool, List, map, Option}
use Rattle.std.specs.Option.{option_map}
use Rattle.apt_base.specs.declared.element.ElementRef.{ElementRef}
use Rattle.apt_base.specs.Limits.{max_type_steps}
use Rattle.element_table.specs.TypeTable.{TypeTable}
use Rattle.type_mirror.specs.declared.mirror.Mirror.{Mirror}
use Rattle.type_mirror.specs.Substitution.{substituted}
use Rattle.type_levels.specs.Answers.{of_test, either}
use Rattle.type_levels.specs.declared.answer.Answer.{Answer}
use Rattle.type_numbers.specs.Nodes.{layer_of}
use Rattle.type_numbers.specs.Numbers.{at, with_types}
use Rattle.type_numbers.specs.declared.node.Node.{Node}
use Rattle.type_numbers.specs.Replaced.{Numbered, replacements_in}
use Rattle.type_relations.specs.Closed.{both_closed}
use Rattle.type_steps.specs.Supertypes.{erasure_at}
use Rattle.type_subtypes.specs.Subsignature.{all_same, same_renamed, is_erased, same_erased, of_executables, subsignature}
use Rattle.type_overriding.specs.Overrides.{signatures}

-- of two types with numbers
abbrev pub signature_at : TypeTable → List Mirror → ℕ → ℕ → Answer
signature_at table types one other = subsignature table max_type_steps (at types one) (at types other)

-- ---- the same parameters

-- each of the first types is the same as the second one at its place with these variables replaced
abbrev pub same_at : List Mirror → Numbered → List ℕ → List ℕ → Bool
same_at types by ones others =
    all_same (map (at types) ones) (map (substituted (replacements_in types by)) (map (at types) others))

-- with the variables `bs` renamed to `as'`
abbrev pub renamed_at : List Mirror → List ElementRef → List ℕ → List ElementRef → List ℕ → Bool
renamed_at types as' ones bs others = same_renamed as' (map (at types) ones) bs (map (at types) others)

-- ---- erased parameters

abbrev pub is_erased_at : TypeTable → List Mirror → ℕ → ℕ → Answer
is_erased_at table types one other = is_erased (at types one) (erasure_at table types other)

abbrev pub erased_at : TypeTable → List Mirror → List ℕ → List ℕ → Answer
erased_at table types ones others = same_erased table max_type_steps (map (at types) ones) (map (at types) others)

-- ---- two methods or constructors

-- with the variables `as'` and `bs`, and parameters of these types
abbrev pub sign_at : TypeTable → List Mirror → List ElementRef → List ℕ → List ElementRef → List ℕ → Answer
sign_at table types as' ones bs others =
    either (of_test (renamed_at types as' ones bs others)) (erased_at table types ones others)

abbrev pub SignAt : TypeTable → List Mirror → List ElementRef → List ℕ → List ElementRef → List ℕ → Answer → Type 0
SignAt table types as' ones bs others answer = answer ≡ sign_at table types as' ones bs others

-- of two types whose outermost layers these nodes show
abbrev pub nodes_signature : TypeTable → List Mirror → Node → Node → Answer
nodes_signature table types one other =
    of_executables table max_type_steps (with_types types (layer_of one)) (with_types types (layer_of other))

-- of two types with numbers that may be open
abbrev pub signature_of : TypeTable → List Mirror → Option ℕ → Option ℕ → Answer
signature_of table types one other =
    signatures table max_type_steps (both_closed (option_map (at types) one) (option_map (at types) other))
