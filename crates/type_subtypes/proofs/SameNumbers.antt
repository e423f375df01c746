-- The same types by their numbers, and what the outermost layer of a type says of it.
use Rattle.std.proofs.Common.{◌≡◌, ◌↔◌, IsTrue, ℕ, Bool, true, false, not, ◌&&◌, List, refl, sym, ap, ◌∙◌}
use Rattle.type_mirror.specs.declared.mirror.Mirror.{Mirror}
use Rattle.type_layers.specs.Layers.{Layer, Primitive, Declared, Error, Variable, Array, Unbounded, Extends, Super, Executable, Nothing, Void, Null, Package, layer, map_layer}
use Rattle.type_layers.specs.Same.{equal, is_wildcard, same}
use Rattle.type_layers.proofs.SameLaws.{decided_equal}
use Rattle.type_numbers.specs.Numbers.{at, with_types}
use Rattle.type_subtypes.specs.Subtypes.{has_null}

wildcard_mapped : {A B : Type 0} (f : A → B) (l : Layer A) → is_wildcard (map_layer f l) ≡ is_wildcard l
wildcard_mapped f (Primitive kind) = refl
wildcard_mapped f (Declared at enclosing arguments) = refl
wildcard_mapped f (Error text) = refl
wildcard_mapped f (Variable at) = refl
wildcard_mapped f (Array item) = refl
wildcard_mapped f Unbounded = refl
wildcard_mapped f (Extends bound) = refl
wildcard_mapped f (Super bound) = refl
wildcard_mapped f (Executable variables parameters outcome thrown) = refl
wildcard_mapped f Nothing = refl
wildcard_mapped f Void = refl
wildcard_mapped f Null = refl
wildcard_mapped f (Package name) = refl

pub null-mapped : {A B : Type 0} (f : A → B) (l : Layer A) → has_null (map_layer f l) ≡ has_null l
null-mapped f (Primitive kind) = refl
null-mapped f (Declared at enclosing arguments) = refl
null-mapped f (Error text) = refl
null-mapped f (Variable at) = refl
null-mapped f (Array item) = refl
null-mapped f Unbounded = refl
null-mapped f (Extends bound) = refl
null-mapped f (Super bound) = refl
null-mapped f (Executable variables parameters outcome thrown) = refl
null-mapped f Nothing = refl
null-mapped f Void = refl
null-mapped f Null = refl
null-mapped f (Package name) = refl

module _ (types : List Mirror) (i j : ℕ) (l : Layer ℕ) where
  wildcard_layer : with_types types l ≡ layer (at types i) → is_wildcard (layer (at types i)) ≡ is_wildcard l
  wildcard_layer e = ap (λ (k : Layer Mirror). is_wildcard k) (sym e) ∙ wildcard_mapped (at types) l

  -- a wildcard is the same as nothing
  pub same-wildcard : with_types types l ≡ layer (at types i) → is_wildcard l ≡ true → false ≡ same (at types i) (at types j)
  unfolding same
  same-wildcard e w = sym (ap (λ (b : Bool). not b && equal (at types i) (at types j)) (wildcard_layer e ∙ w))

  -- any other type is the same as one with its number
  pub same-numbers : (r : Bool) → with_types types l ≡ layer (at types i) → is_wildcard l ≡ false → (IsTrue r ↔ at types i ≡ at types j) → r ≡ same (at types i) (at types j)
  unfolding same
  same-numbers r e w decides =
      decided_equal (at types i) (at types j) r decides
      ∙ sym (ap (λ (b : Bool). not b && equal (at types i) (at types j)) (wildcard_layer e ∙ w))
