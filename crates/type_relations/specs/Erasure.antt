-- Erasure (JLS 4.6) within a number of steps. A step goes from a type variable to its first bound, and nothing else counts as one. A whole is open, which is None, where a part is.
use Rattle.std.specs.Prelude.{◌≡◌, ℕ, zero, suc, Bool, true, false, List, [], map, Option, None, Some}
use Rattle.std.specs.Option.{option_map}
use Rattle.apt_base.specs.declared.element.ElementRef.{ElementRef}
use Rattle.element_table.specs.TypeTable.{TypeTable}
use Rattle.apt_base.specs.declared.around.Around.{Around}
use Rattle.type_mirror.specs.declared.mirror.Mirror.{Mirror, out-Mirror}
use Rattle.type_mirror.specs.declared.mirror.BaseMirror.{BaseMirror, out-BaseMirror}
use Rattle.type_mirror.specs.declared.mirror.BaseMirror.TheOpen.{BaseMirror-F}
use Rattle.type_mirror.specs.declared.mirror.DeclaredMirror.{DeclaredMirror}
use Rattle.type_mirror.specs.declared.mirror.ExecutableMirror.{ExecutableMirror}
use Rattle.type_mirror.specs.Parts.{plain}
use Rattle.type_layers.specs.Layers.{Layer, Primitive, Declared, Error, Variable, Array, Unbounded, Extends, Super, Executable, Nothing, Void, Null, Package, mirror_of, array_of, declared_mirror, executable_mirror, by_layers, around_step}
use Rattle.type_relations.specs.Closed.{closed, both_closed}
use Rattle.type_relations.specs.Named.{object, first_bound}

-- its own type parameters are left out
abbrev pub executable_of : Option (List Mirror) → Option Mirror → Option (List Mirror) → Option Mirror
executable_of parameters outcome thrown =
    option_map (λ parts. executable_mirror [] parts.0 parts.1.0 parts.1.1) (both_closed parameters (both_closed outcome thrown))

-- by the erasure of a variable, and of what the layer holds
abbrev pub erased_layer : TypeTable → (ElementRef → Option Mirror) → Layer (Option Mirror) → Option Mirror
erased_layer table variable (Primitive kind) = Some (mirror_of (Primitive kind))
erased_layer table variable (Declared at enclosing arguments) = Some (declared_mirror at None [])
erased_layer table variable (Error text) = Some (mirror_of (Error text))
erased_layer table variable (Variable at) = variable at
erased_layer table variable (Array item) = option_map array_of item
erased_layer table variable Unbounded = Some (object table)
erased_layer table variable (Extends bound) = bound
erased_layer table variable (Super bound) = Some (object table)
erased_layer table variable (Executable variables parameters outcome thrown) = executable_of (closed parameters) outcome (closed thrown)
erased_layer table variable Nothing = Some (mirror_of Nothing)
erased_layer table variable Void = Some (mirror_of Void)
erased_layer table variable Null = Some (mirror_of Null)
erased_layer table variable (Package name) = Some (mirror_of (Package name))

-- of a variable that of its first bound with one step less
unfoldable pub variable_erasure : TypeTable → ℕ → ElementRef → Option Mirror
variable_erasure table zero at = None
variable_erasure table (suc n) at = by_layers (erased_layer table (variable_erasure table n)) (first_bound table at)

abbrev pub erasing_step : TypeTable → ℕ → Layer (Option Mirror) → Option Mirror
erasing_step table n = erased_layer table (variable_erasure table n)

unfoldable pub erasure : TypeTable → ℕ → Mirror → Option Mirror
erasure table n = by_layers (erasing_step table n)

-- of a base around which nothing stands
abbrev pub base_erasure : TypeTable → ℕ → BaseMirror → Option Mirror
base_erasure table n b = erasure table n (plain b)

-- of each, in order
abbrev pub erasures : TypeTable → ℕ → List Mirror → Option (List Mirror)
erasures table n mirrors = closed (map (erasure table n) mirrors)

-- ---- the same part by part, as it is computed

-- what stands around a base, by the erasure of the base
abbrev pub erased_around : TypeTable → List Around → Option Mirror → Option Mirror
erased_around table around inner = around_step (erased_layer table (λ (at : ElementRef). None)) around inner

-- a base that is opened
abbrev pub BaseLayer : Type 0
BaseLayer = BaseMirror-F BaseMirror DeclaredMirror ExecutableMirror Mirror

abbrev pub is_executable : BaseLayer → Bool
is_executable (BaseMirror-F.Executable e) = true
is_executable _ = false

-- a type whose base is no executable
abbrev pub IsSimple : Mirror → Type 0
IsSimple m = is_executable (out-BaseMirror (out-Mirror m).base) ≡ false
