-- The direct supertypes of a type (JLS 4.10.1 to 4.10.3), the superclass before the interfaces. They are open, which is None, where those of a raw type have no erasure within 64 steps.
use Rattle.std.specs.Prelude.{ℕ, Bool, true, false, List, [], ◌∷◌, map, codes, Option, None, Some, if◌then◌else◌}
use Rattle.apt_base.specs.declared.element.ElementRef.{ElementRef}
use Rattle.element_table.specs.TypeTable.{TypeTable}
use Rattle.type_mirror.specs.declared.mirror.PrimitiveKind.{PrimitiveKind}
use Rattle.type_mirror.specs.declared.mirror.PrimitiveKind.TheVariants as kind
use Rattle.apt_base.specs.declared.around.Around.{Around}
use Rattle.apt_base.specs.declared.around.Around.TheVariants as around
use Rattle.apt_base.specs.Limits.{max_type_steps}
use Rattle.type_mirror.specs.declared.mirror.Mirror.{Mirror, out-Mirror}
use Rattle.type_mirror.specs.declared.mirror.BaseMirror.{BaseMirror}
use Rattle.type_mirror.specs.declared.mirror.BaseMirror.TheVariants as base
use Rattle.type_mirror.specs.declared.mirror.DeclaredMirror.{DeclaredMirror, out-DeclaredMirror}
use Rattle.type_mirror.specs.Parts.{plain}
use Rattle.type_mirror.specs.Substitution.{substituted}
use Rattle.type_layers.specs.Layers.{Layer, Primitive, Declared, Variable, layer_in, mirror_of, array_of}
use Rattle.type_relations.specs.Named.{type_named, object, bounds, declared_supertypes}
use Rattle.type_relations.specs.Erasure.{erasures}
use Rattle.type_relations.specs.RawTypes.{is_raw_with, replacements}

-- ---- each kind of type

-- the next one in the chain: byte, short, int, long, float, double, and char below int (JLS 4.10.1)
abbrev pub wider : PrimitiveKind → List PrimitiveKind
wider kind.Byte = kind.Short ∷ []
wider kind.Short = kind.Int ∷ []
wider kind.Char = kind.Int ∷ []
wider kind.Int = kind.Long ∷ []
wider kind.Long = kind.Float ∷ []
wider kind.Float = kind.Double ∷ []
wider kind.Double = []
wider kind.Boolean = []

abbrev pub wider_types : PrimitiveKind → List Mirror
wider_types kind = map (λ wide. mirror_of (Primitive wide)) (wider kind)

-- by substitution, and erased for a raw type
abbrev pub of_declared : TypeTable → ElementRef → List Mirror → Mirror → Option (List Mirror)
of_declared table at arguments m =
    if is_raw_with table at arguments then erasures table max_type_steps (declared_supertypes table at)
    else Some (map (substituted (replacements table m)) (declared_supertypes table at))

abbrev pub declared_direct : TypeTable → DeclaredMirror → Option (List Mirror)
declared_direct table d = let o = out-DeclaredMirror d in of_declared table o.element o.arguments (plain (base.Declared d))

abbrev pub of_layer : TypeTable → Mirror → Layer Mirror → Option (List Mirror)
of_layer table m (Primitive kind) = Some (wider_types kind)
of_layer table m (Declared at enclosing arguments) = of_declared table at arguments m
of_layer table m (Variable at) = Some (bounds table at)
of_layer table m _ = Some []

-- ---- arrays

-- `java.lang.Object`, `java.lang.Cloneable` and `java.io.Serializable`
abbrev pub all_arrays_have : TypeTable → List Mirror
all_arrays_have table = object table ∷ type_named table (codes "java.lang.Cloneable") ∷ type_named table (codes "java.io.Serializable") ∷ []

abbrev pub arrays_or : List Mirror → List Mirror → List Mirror
arrays_or others [] = others
arrays_or others (item ∷ items) = map array_of (item ∷ items)

abbrev pub is_primitive : Layer Mirror → Bool
is_primitive (Primitive kind) = true
is_primitive _ = false

-- the arrays of the item's direct supertypes, unless there are none or the item is primitive
abbrev pub of_array : TypeTable → Bool → Option (List Mirror) → Option (List Mirror)
of_array table true items = Some (all_arrays_have table)
of_array table false None = None
of_array table false (Some items) = Some (arrays_or (all_arrays_have table) items)

-- of a base with this around it; a wildcard has none
abbrev pub direct_in : TypeTable → List Around → BaseMirror → Option (List Mirror)
direct_in table [] b = of_layer table (plain b) (layer_in [] b)
direct_in table (around.Array ∷ inner) b = of_array table (is_primitive (layer_in inner b)) (direct_in table inner b)
direct_in table (around.Extends ∷ inner) b = Some []
direct_in table (around.Super ∷ inner) b = Some []

unfoldable pub direct : TypeTable → Mirror → Option (List Mirror)
direct table m = direct_in table (out-Mirror m).around (out-Mirror m).base
