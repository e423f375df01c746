-- What is defined of a mirror by a step on its layer and the mirrors in it goes by the layer.
use Rattle.std.proofs.Common.{◌≡◌, List, [], ◌∷◌, map, Option, None, Some, refl, ap, ap₂, ◌∙◌}
use Rattle.std.specs.List.{AllByRecursion}
use Rattle.std.specs.Option.{option_map, option_to_list}
use Rattle.type_mirror.specs.declared.mirror.Mirror.{Mirror}
use Rattle.type_layers.specs.Layers.{Layer, Primitive, Declared, Error, Variable, Array, Unbounded, Extends, Super, Executable, Nothing, Void, Null, Package, Held, layer, mirror_of, map_layer, by_layers, by_parts, with_mirror}
use Rattle.type_layers.proofs.LayerLaws.{AllParts, by_layers-layer, layer-mirror_of, ind-layers}

module _ {B : Type 0} (step : Layer (Held B) → B) where
  -- a mirror with what comes of it
  abbrev pub held : Mirror → Held B
  held = by_layers (with_mirror step)

  abbrev mirror_in : Held B → Mirror
  mirror_in h = h.mirror

  abbrev IsHeld : Mirror → Type 0
  IsHeld m = (held m).mirror ≡ m

  held_list : (ms : List Mirror) → AllByRecursion IsHeld ms → map mirror_in (map held ms) ≡ ms
  held_list [] all = refl
  held_list (m ∷ ms) all = ap₂ (λ (x : Mirror) (xs : List Mirror). x ∷ xs) all.0 (held_list ms all.1)

  held_option : (o : Option Mirror) → AllByRecursion IsHeld (option_to_list o) → option_map mirror_in (option_map held o) ≡ o
  held_option None all = refl
  held_option (Some m) all = ap (λ (x : Mirror). Some x) all.0

  held_layer : (l : Layer Mirror) → AllParts IsHeld l → map_layer mirror_in (map_layer held l) ≡ l
  held_layer (Primitive kind) parts = refl
  held_layer (Declared at enclosing arguments) parts = ap₂ (λ (o : Option Mirror) (ms : List Mirror). Declared at o ms) (held_option enclosing parts.0) (held_list arguments parts.1)
  held_layer (Error text) parts = refl
  held_layer (Variable at) parts = refl
  held_layer (Array item) parts = ap (λ (x : Mirror). Array x) parts
  held_layer Unbounded parts = refl
  held_layer (Extends bound) parts = ap (λ (x : Mirror). Extends x) parts
  held_layer (Super bound) parts = ap (λ (x : Mirror). Super x) parts
  held_layer (Executable variables parameters outcome thrown) parts =
      ap₂ (λ (ps : List Mirror) (ts : List Mirror). Executable variables ps (mirror_in (held outcome)) ts) (held_list parameters parts.0) (held_list thrown parts.1.1)
      ∙ ap (λ (x : Mirror). Executable variables parameters x thrown) parts.1.0
  held_layer Nothing parts = refl
  held_layer Void parts = refl
  held_layer Null parts = refl
  held_layer (Package name) parts = refl

  at_layer : (l : Layer Mirror) → AllParts IsHeld l → IsHeld (mirror_of l)
  at_layer l parts =
      ap mirror_in (by_layers-layer (with_mirror step) (mirror_of l))
      ∙ ap (λ (k : Layer Mirror). mirror_of (map_layer mirror_in (map_layer held k))) (layer-mirror_of l)
      ∙ ap mirror_of (held_layer l parts)

  -- the mirror that is held is the mirror
  pub held-mirror : (m : Mirror) → (held m).mirror ≡ m
  held-mirror = ind-layers IsHeld at_layer

  pub held-mirrors : (ms : List Mirror) → map mirror_in (map held ms) ≡ ms
  held-mirrors [] = refl
  held-mirrors (m ∷ ms) = ap₂ (λ (x : Mirror) (xs : List Mirror). x ∷ xs) (held-mirror m) (held-mirrors ms)

  pub by_parts-layer : (m : Mirror) → by_parts step m ≡ step (map_layer held (layer m))
  unfolding by_parts
  by_parts-layer m = ap (λ (h : Held B). h.value) (by_layers-layer (with_mirror step) m)
