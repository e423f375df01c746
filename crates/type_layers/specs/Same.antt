-- The same type: equal mirrors. A wildcard is the same as nothing, and wildcards inside a mirror are compared by their parts.
use Rattle.std.specs.Prelude.{Bool, true, false, not, ◌&&◌, List, [], ◌∷◌, Option, None, Some}
use Rattle.std.specs.Str.{bytes_eq}
use Rattle.apt_base.specs.Elements.{same_element}
use Rattle.apt_base.specs.declared.element.ElementRef.{ElementRef}
use Rattle.type_mirror.specs.declared.mirror.PrimitiveKind.{PrimitiveKind}
use Rattle.type_mirror.specs.declared.mirror.PrimitiveKind.TheVariants as kind
use Rattle.type_mirror.specs.declared.mirror.Mirror.{Mirror}
use Rattle.type_layers.specs.Layers.{Layer, Primitive, Declared, Error, Variable, Array, Unbounded, Extends, Super, Executable, Nothing, Void, Null, Package, layer, by_layers}

abbrev pub same_kind : PrimitiveKind → PrimitiveKind → Bool
same_kind kind.Boolean kind.Boolean = true
same_kind kind.Byte kind.Byte = true
same_kind kind.Short kind.Short = true
same_kind kind.Int kind.Int = true
same_kind kind.Long kind.Long = true
same_kind kind.Char kind.Char = true
same_kind kind.Float kind.Float = true
same_kind kind.Double kind.Double = true
same_kind _ _ = false

-- ---- a test for each mirror that a layer holds, and what another layer holds

abbrev pub passes : {M : Type 0} → Option (M → Bool) → Option M → Bool
passes None None = true
passes (Some test) (Some m) = test m
passes _ _ = false

abbrev pub pass : {M : Type 0} → List (M → Bool) → List M → Bool
pass [] [] = true
pass (test ∷ tests) (m ∷ ms) = test m && pass tests ms
pass _ _ = false

abbrev pub same_elements : List ElementRef → List ElementRef → Bool
same_elements [] [] = true
same_elements (one ∷ ones) (other ∷ others) = same_element one other && same_elements ones others
same_elements _ _ = false

abbrev pub layer_passes : {M : Type 0} → Layer (M → Bool) → Layer M → Bool
layer_passes (Primitive one) (Primitive other) = same_kind one other
layer_passes (Declared one enclosing arguments) (Declared other enclosing' arguments') =
    same_element one other && passes enclosing enclosing' && pass arguments arguments'
layer_passes (Error one) (Error other) = bytes_eq one other
layer_passes (Variable one) (Variable other) = same_element one other
layer_passes (Array item) (Array other) = item other
layer_passes Unbounded Unbounded = true
layer_passes (Extends bound) (Extends other) = bound other
layer_passes (Super bound) (Super other) = bound other
layer_passes (Executable variables parameters outcome thrown) (Executable variables' parameters' outcome' thrown') =
    same_elements variables variables' && pass parameters parameters' && outcome outcome' && pass thrown thrown'
layer_passes Nothing Nothing = true
layer_passes Void Void = true
layer_passes Null Null = true
layer_passes (Package one) (Package other) = bytes_eq one other
layer_passes _ _ = false

-- ---- mirrors

-- whether two mirrors are equal
unfoldable pub equal : Mirror → Mirror → Bool
equal = by_layers (λ tests other. layer_passes tests (layer other))

abbrev pub is_wildcard : {M : Type 0} → Layer M → Bool
is_wildcard Unbounded = true
is_wildcard (Extends bound) = true
is_wildcard (Super bound) = true
is_wildcard _ = false

-- whether two mirrors are the same type
unfoldable pub same : Mirror → Mirror → Bool
same a b = not (is_wildcard (layer a)) && equal a b
