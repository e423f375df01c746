-- A node in memory as the layer of numbers that it shows.
use Rattle.std.specs.Prelude.{ℕ, List}
use Rattle.type_mirror.specs.declared.mirror.Mirror.{Mirror}
use Rattle.type_layers.specs.Layers as layers
use Rattle.type_layers.specs.Layers.{Layer}
use Rattle.type_numbers.specs.Numbers.{mirror_with}
use Rattle.type_numbers.specs.declared.node.Node.{Node}
use Rattle.type_numbers.specs.declared.node.Node.TheVariants as node

abbrev pub layer_of : Node → Layer ℕ
layer_of (node.Primitive kind) = layers.Primitive kind
layer_of (node.Declared at enclosing arguments) = layers.Declared at enclosing arguments
layer_of (node.Error text) = layers.Error text
layer_of (node.Variable at) = layers.Variable at
layer_of (node.Array item) = layers.Array item
layer_of node.Unbounded = layers.Unbounded
layer_of (node.Extends bound) = layers.Extends bound
layer_of (node.Super bound) = layers.Super bound
layer_of (node.Executable variables parameters outcome thrown) = layers.Executable variables parameters outcome thrown
layer_of node.Nothing = layers.Nothing
layer_of node.Void = layers.Void
layer_of node.Null = layers.Null
layer_of (node.Package name) = layers.Package name

-- the type of a node
abbrev pub type_of : List Mirror → Node → Mirror
type_of types n = mirror_with types (layer_of n)
