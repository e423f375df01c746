-- The node of a type tells its kind.
use Rattle.std.proofs.Common.{◌≡◌, ℕ, Bool, List, refl, sym, ap, ◌∙◌}
use Rattle.type_mirror.specs.declared.mirror.Mirror.{Mirror}
use Rattle.type_layers.specs.Layers.{Layer, Primitive, Declared, Error, Variable, Array, Unbounded, Extends, Super, Executable, Nothing, Void, Null, Package, layer, map_layer}
use Rattle.type_numbers.specs.Numbers.{at, with_types}
use Rattle.type_queries.specs.Questions.{is_type, is_type_layer}

type_mapped : {A B : Type 0} (f : A → B) (l : Layer A) → is_type_layer (map_layer f l) ≡ is_type_layer l
type_mapped f (Primitive kind) = refl
type_mapped f (Declared element enclosing arguments) = refl
type_mapped f (Error text) = refl
type_mapped f (Variable element) = refl
type_mapped f (Array item) = refl
type_mapped f Unbounded = refl
type_mapped f (Extends bound) = refl
type_mapped f (Super bound) = refl
type_mapped f (Executable variables parameters outcome thrown) = refl
type_mapped f Nothing = refl
type_mapped f Void = refl
type_mapped f Null = refl
type_mapped f (Package name) = refl

pub type-node : (types : List Mirror) (number : ℕ) (l : Layer ℕ) (r : Bool) → with_types types l ≡ layer (at types number) → r ≡ is_type_layer l
    → r ≡ is_type (at types number)
type-node types number l r e is = is ∙ sym (type_mapped (at types) l) ∙ ap (λ (k : Layer Mirror). is_type_layer k) e

pub ruleset kinds = (type-node)
