-- The questions on types, one for each call: which elements have to be there, which kinds are wanted, and the answer.
use Rattle.std.specs.Prelude.{ℕ, Bool, true, false, not, ◌&&◌, List, is_some}
use Rattle.apt_base.specs.declared.element.ElementRef.{ElementRef}
use Rattle.apt_base.specs.Limits.{max_type_steps}
use Rattle.element_table.specs.TypeTable.{TypeTable}
use Rattle.type_mirror.specs.declared.mirror.Mirror.{Mirror}
use Rattle.type_layers.specs.Layers.{Layer, Executable, Package, layer}
use Rattle.type_layers.specs.Same.{same}
use Rattle.type_relations.specs.Boxed.{boxed, unboxed}
use Rattle.type_relations.specs.Direct.{direct}
use Rattle.type_relations.specs.Elements.{is_there}
use Rattle.type_relations.specs.Erasure.{erasure}
use Rattle.type_elements.specs.TypeOf.{type_of}
use Rattle.type_subtypes.specs.Assignable.{assignable}
use Rattle.type_subtypes.specs.Subsignature.{subsignature}
use Rattle.type_subtypes.specs.Subtypes.{subtype, contained}
use Rattle.type_texts.specs.Print.{text_of}
use Rattle.type_queries.specs.Verdicts.{Verdict, Given, value, truth, judged, are_there}

-- mirrors of any kind
unfoldable pub same_question : TypeTable → Mirror → Mirror → Verdict Bool
same_question table a b = judged (are_there table a && are_there table b) true (Given (same a b))

-- a mirror of any kind
unfoldable pub print_question : TypeTable → Mirror → Verdict (List ℕ)
print_question table m = judged (are_there table m) true (Given (text_of table m))

-- a primitive type
unfoldable pub boxed_question : TypeTable → Mirror → Verdict Mirror
boxed_question table m = judged (are_there table m) (is_some (boxed table m)) (value (boxed table m))

-- one of the eight boxes
unfoldable pub unboxed_question : TypeTable → Mirror → Verdict Mirror
unboxed_question table m = judged (are_there table m) (is_some (unboxed table m)) (value (unboxed table m))

-- an element of any kind
unfoldable pub type_question : TypeTable → ElementRef → Verdict Mirror
type_question table at = judged (is_there table at) true (Given (type_of table at))

-- ---- kinds

abbrev pub is_executable : {M : Type 0} → Layer M → Bool
is_executable (Executable variables parameters outcome thrown) = true
is_executable _ = false

abbrev pub is_package : {M : Type 0} → Layer M → Bool
is_package (Package name) = true
is_package _ = false

-- no executable and no package
abbrev pub is_type_layer : {M : Type 0} → Layer M → Bool
is_type_layer l = not (is_executable l) && not (is_package l)

abbrev pub is_type : Mirror → Bool
is_type m = is_type_layer (layer m)

-- ---- supertypes and erasures, within 64 steps

unfoldable pub direct_question : TypeTable → Mirror → Verdict (List Mirror)
direct_question table m = judged (are_there table m) (is_type m) (value (direct table m))

-- no package
unfoldable pub erasure_question : TypeTable → Mirror → Verdict Mirror
erasure_question table m = judged (are_there table m) (not (is_package (layer m))) (value (erasure table max_type_steps m))

-- ---- two types, within 64 steps

abbrev pub are_both_there : TypeTable → Mirror → Mirror → Bool
are_both_there table a b = are_there table a && are_there table b

abbrev pub are_types : Mirror → Mirror → Bool
are_types a b = is_type a && is_type b

abbrev pub are_executables : Mirror → Mirror → Bool
are_executables a b = is_executable (layer a) && is_executable (layer b)

unfoldable pub subtype_question : TypeTable → Mirror → Mirror → Verdict Bool
subtype_question table a b = judged (are_both_there table a b) (are_types a b) (truth (subtype table max_type_steps a b))

unfoldable pub contains_question : TypeTable → Mirror → Mirror → Verdict Bool
contains_question table a b = judged (are_both_there table a b) (are_types a b) (truth (contained table max_type_steps a b))

unfoldable pub assignable_question : TypeTable → Mirror → Mirror → Verdict Bool
assignable_question table a b = judged (are_both_there table a b) (are_types a b) (truth (assignable table max_type_steps a b))

-- two executables
unfoldable pub subsignature_question : TypeTable → Mirror → Mirror → Verdict Bool
subsignature_question table a b = judged (are_both_there table a b) (are_executables a b) (truth (subsignature table max_type_steps a b))
