-- The key of a layer of numbers: numbers that no other layer has, by which its type is found.
use Rattle.std.specs.Prelude.{ℕ, List, [], ◌∷◌, ◌++◌, length, Option, None, Some}
use Rattle.std.specs.List.{flat_map}
use Rattle.apt_base.specs.declared.element.ElementRef.{ElementRef}
use Rattle.type_mirror.specs.declared.mirror.PrimitiveKind.{PrimitiveKind}
use Rattle.type_mirror.specs.declared.mirror.PrimitiveKind.TheVariants as kind
use Rattle.type_layers.specs.Layers.{Layer, Primitive, Declared, Error, Variable, Array, Unbounded, Extends, Super, Executable, Nothing, Void, Null, Package}

abbrev pub kind_number : PrimitiveKind → ℕ
kind_number kind.Boolean = 0
kind_number kind.Byte = 1
kind_number kind.Short = 2
kind_number kind.Int = 3
kind_number kind.Long = 4
kind_number kind.Char = 5
kind_number kind.Float = 6
kind_number kind.Double = 7

-- how many there are, and they
abbrev pub counted : List ℕ → List ℕ
counted numbers = length numbers ∷ numbers

abbrev pub element_key : ElementRef → List ℕ
element_key at = counted at.unit ++ counted at.path

abbrev pub elements_key : List ElementRef → List ℕ
elements_key elements = length elements ∷ flat_map element_key elements

abbrev pub optional_key : Option ℕ → List ℕ
optional_key None = 0 ∷ []
optional_key (Some number) = 1 ∷ number ∷ []

abbrev pub declared_key : ElementRef → Option ℕ → List ℕ → List ℕ
declared_key at enclosing arguments = ((1 ∷ []) ++ element_key at) ++ optional_key enclosing ++ counted arguments

abbrev pub executable_key : List ElementRef → List ℕ → ℕ → List ℕ → List ℕ
executable_key variables parameters outcome thrown = (((8 ∷ outcome ∷ []) ++ elements_key variables) ++ counted parameters) ++ counted thrown

-- the first number tells the sort of the layer
abbrev pub layer_key : Layer ℕ → List ℕ
layer_key (Primitive kind) = 0 ∷ kind_number kind ∷ []
layer_key (Declared at enclosing arguments) = declared_key at enclosing arguments
layer_key (Error text) = (2 ∷ []) ++ counted text
layer_key (Variable at) = (3 ∷ []) ++ element_key at
layer_key (Array item) = 4 ∷ item ∷ []
layer_key Unbounded = 5 ∷ []
layer_key (Extends bound) = 6 ∷ bound ∷ []
layer_key (Super bound) = 7 ∷ bound ∷ []
layer_key (Executable variables parameters outcome thrown) = executable_key variables parameters outcome thrown
layer_key Nothing = 9 ∷ []
layer_key Void = 10 ∷ []
layer_key Null = 11 ∷ []
layer_key (Package name) = (12 ∷ []) ++ counted name
