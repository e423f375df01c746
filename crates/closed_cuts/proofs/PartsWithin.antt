-- The elements of a mirror all have something in common exactly where those of its layer and of the mirrors in it have.
use Rattle.std.proofs.Common.{◌≡◌, List, [], ◌∷◌, ◌++◌, map, Option, None, Some, sym, ap, subst, ◌∙◌}
use Rattle.std.specs.List.{AllByRecursion}
use Rattle.std.specs.Option.{option_map, option_to_list}
use Rattle.apt_base.specs.declared.element.ElementRef.{ElementRef}
use Rattle.type_mirror.specs.declared.mirror.Mirror.{Mirror}
use Rattle.type_layers.specs.Layers.{Layer, Primitive, Declared, Error, Variable, Array, Unbounded, Extends, Super, Executable, Nothing, Void, Null, Package, layer, mirror_of, map_layer, by_layers}
use Rattle.type_layers.proofs.LayerLaws.{by_layers-layer, layer-mirror_of, mirror_of-layer}
use Rattle.decl_elements.proofs.Everywhere.{each_left, each_right, each_append}
use Rattle.type_queries.specs.Verdicts.{parts_elements, layer_elements, elements_of}

-- what a step gives of a mirror that is put together
pub by_layers-mirror_of : {A : Type 0} (step : Layer A → A) (l : Layer Mirror) → by_layers step (mirror_of l) ≡ step (map_layer (by_layers step) l)
by_layers-mirror_of step l =
    by_layers-layer step (mirror_of l) ∙ ap (λ (k : Layer Mirror). step (map_layer (by_layers step) k)) (layer-mirror_of l)

module _ (P : ElementRef → Type 0) where
  abbrev pub Within : Mirror → Type 0
  Within m = AllByRecursion P (elements_of m)

  abbrev pub AllWithin : List Mirror → Type 0
  AllWithin ms = AllByRecursion Within ms

  -- the same of a layer
  abbrev pub LayerWithin : Layer Mirror → Type 0
  LayerWithin (Declared at enclosing arguments) = P at × (AllWithin (option_to_list enclosing) × AllWithin arguments)
  LayerWithin (Variable at) = P at
  LayerWithin (Array item) = Within item
  LayerWithin (Extends bound) = Within bound
  LayerWithin (Super bound) = Within bound
  LayerWithin (Executable variables parameters outcome thrown) = AllByRecursion P variables × (AllWithin parameters × (Within outcome × AllWithin thrown))
  LayerWithin _ = Unit {0}

  to_flat : (ms : List Mirror) → AllWithin ms → AllByRecursion P (parts_elements (map elements_of ms))
  to_flat [] all = tt
  to_flat (m ∷ ms) all = each_append P (elements_of m) _ all.0 (to_flat ms all.1)

  of_flat : (ms : List Mirror) → AllByRecursion P (parts_elements (map elements_of ms)) → AllWithin ms
  of_flat [] a = tt
  of_flat (m ∷ ms) a = (each_left P (elements_of m) _ a, of_flat ms (each_right P (elements_of m) _ a))

  option_flat : (o : Option Mirror) → AllWithin (option_to_list o) → AllByRecursion P (parts_elements (option_to_list (option_map elements_of o)))
  option_flat None a = tt
  option_flat (Some m) a = each_append P (elements_of m) [] a.0 tt

  flat_option : (o : Option Mirror) → AllByRecursion P (parts_elements (option_to_list (option_map elements_of o))) → AllWithin (option_to_list o)
  flat_option None a = tt
  flat_option (Some m) a = (each_left P (elements_of m) [] a, tt)

  abbrev enclosing_of : Option Mirror → List ElementRef
  enclosing_of o = parts_elements (option_to_list (option_map elements_of o))

  abbrev all_of : List Mirror → List ElementRef
  all_of ms = parts_elements (map elements_of ms)

  to_step : (l : Layer Mirror) → LayerWithin l → AllByRecursion P (layer_elements (map_layer elements_of l))
  to_step (Primitive kind) w = tt
  to_step (Declared at enclosing arguments) w = (w.0, each_append P (enclosing_of enclosing) (all_of arguments) (option_flat enclosing w.1.0) (to_flat arguments w.1.1))
  to_step (Error text) w = tt
  to_step (Variable at) w = (w, tt)
  to_step (Array item) w = w
  to_step Unbounded w = tt
  to_step (Extends bound) w = w
  to_step (Super bound) w = w
  to_step (Executable variables parameters outcome thrown) w =
      each_append P variables (all_of parameters ++ (elements_of outcome ++ all_of thrown)) w.0
      (each_append P (all_of parameters) (elements_of outcome ++ all_of thrown) (to_flat parameters w.1.0)
      (each_append P (elements_of outcome) (all_of thrown) w.1.1.0 (to_flat thrown w.1.1.1)))
  to_step Nothing w = tt
  to_step Void w = tt
  to_step Null w = tt
  to_step (Package name) w = tt

  of_step : (l : Layer Mirror) → AllByRecursion P (layer_elements (map_layer elements_of l)) → LayerWithin l
  of_step (Primitive kind) a = tt
  of_step (Declared at enclosing arguments) a = (
    a.0,
    (flat_option enclosing (each_left P (enclosing_of enclosing) (all_of arguments) a.1), of_flat arguments (each_right P (enclosing_of enclosing) (all_of arguments) a.1)),
  )
  of_step (Error text) a = tt
  of_step (Variable at) a = a.0
  of_step (Array item) a = a
  of_step Unbounded a = tt
  of_step (Extends bound) a = a
  of_step (Super bound) a = a
  of_step (Executable variables parameters outcome thrown) a =
      let parts = each_right P variables (all_of parameters ++ (elements_of outcome ++ all_of thrown)) a in
      let back = each_right P (all_of parameters) (elements_of outcome ++ all_of thrown) parts in (
        each_left P variables (all_of parameters ++ (elements_of outcome ++ all_of thrown)) a,
        (
          of_flat parameters (each_left P (all_of parameters) (elements_of outcome ++ all_of thrown) parts),
          (each_left P (elements_of outcome) (all_of thrown) back, of_flat thrown (each_right P (elements_of outcome) (all_of thrown) back)),
        ),
      )
  of_step Nothing a = tt
  of_step Void a = tt
  of_step Null a = tt
  of_step (Package name) a = tt

  pub opened : (m : Mirror) → Within m → LayerWithin (layer m)
  unfolding elements_of
  opened m w = of_step (layer m) (let Has : List ElementRef → Type 0 = AllByRecursion P in subst Has (by_layers-layer layer_elements m) w)

  pub closed_up : (l : Layer Mirror) → LayerWithin l → Within (mirror_of l)
  unfolding elements_of
  closed_up l w = let Has : List ElementRef → Type 0 = AllByRecursion P in subst Has (sym (by_layers-mirror_of layer_elements l)) (to_step l w)

  pub opened-mirror_of : (l : Layer Mirror) → Within (mirror_of l) → LayerWithin l
  opened-mirror_of l w = subst LayerWithin (layer-mirror_of l) (opened (mirror_of l) w)

  pub closed_layer : (m : Mirror) → LayerWithin (layer m) → Within m
  closed_layer m w = subst Within (mirror_of-layer m) (closed_up (layer m) w)
