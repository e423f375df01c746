-- Where variables are replaced, the elements of what comes out are elements of what was there and of what is put in.
use Rattle.std.proofs.Common.{true, false, cond, List, [], ◌∷◌, ◌++◌, map, unwrap_or, Option, None, Some, sym, subst}
use Rattle.std.specs.List.{AllByRecursion, find}
use Rattle.std.specs.Option.{option_map, option_to_list}
use Rattle.apt_base.specs.declared.element.ElementRef.{ElementRef}
use Rattle.type_mirror.specs.declared.mirror.Mirror.{Mirror}
use Rattle.apt_base.specs.Elements.{same_element}
use Rattle.type_mirror.specs.Substitution.{Replacements, in_place, substituted}
use Rattle.type_layers.specs.Layers.{Layer, Primitive, Declared, Error, Variable, Array, Unbounded, Extends, Super, Executable, Nothing, Void, Null, Package, mirror_of, map_layer}
use Rattle.type_layers.proofs.LayerLaws.{AllParts, ind-layers}
use Rattle.type_numbers.specs.Replaced.{replaced_layer}
use Rattle.type_numbers.proofs.ReplacedLayers.{substituted-mirror_of}
use Rattle.type_relations.specs.RawTypes.{has_entry, added, once_behind}
use Rattle.decl_elements.proofs.Everywhere.{each_append}
use Rattle.closed_cuts.proofs.PartsWithin.{Within, AllWithin, LayerWithin, closed_up, opened-mirror_of}

module _ (P : ElementRef → Type 0) where
  -- what is put in the place of variables
  abbrev pub EntriesWithin : Replacements → Type 0
  EntriesWithin by = AllByRecursion (λ pair. Within P pair.1) by

  added-within : (by : Replacements) (pair : ElementRef × Mirror) → EntriesWithin by → Within P pair.1 → EntriesWithin (added by pair)
  added-within by pair all w =
      elim (has_entry by pair.0) as (λ b. EntriesWithin (cond b by (by ++ pair ∷ []))) [
        | true ↦ all
        | false ↦ each_append (λ (pair : ElementRef × Mirror). Within P pair.1) by (pair ∷ []) all (w, tt)
      ]

  pub once_behind-within : (more by : Replacements) → EntriesWithin by → EntriesWithin more → EntriesWithin (once_behind by more)
  once_behind-within [] by all all' = all
  once_behind-within (pair ∷ more) by all all' = once_behind-within more (added by pair) (added-within by pair all all'.0) all'.1

  module _ (by : Replacements) (all : EntriesWithin by) where
    in_place-by : (list : Replacements) → EntriesWithin list → (at : ElementRef) → P at
        → Within P (unwrap_or (option_map (λ pair. pair.1) (find (λ pair. same_element pair.0 at) list)) (mirror_of (Variable at)))
    in_place-by [] a at p = closed_up P (Variable at) p
    in_place-by (pair ∷ list) a at p =
        elim (same_element pair.0 at) as (λ b. Within P (unwrap_or (option_map (λ pair. pair.1) (cond b (Some pair) (find (λ pair. same_element pair.0 at) list))) (mirror_of (Variable at)))) [
          | true ↦ a.0
          | false ↦ in_place-by list a.1 at p
        ]

    in_place-within : (at : ElementRef) → P at → Within P (in_place by at)
    unfolding mirror_of
    in_place-within at p = in_place-by by all at p

    abbrev Stays : Mirror → Type 0
    Stays m = Within P m → Within P (substituted by m)

    each_stays : (ms : List Mirror) → AllByRecursion Stays ms → AllWithin P ms → AllWithin P (map (substituted by) ms)
    each_stays [] s a = tt
    each_stays (m ∷ ms) s a = (s.0 a.0, each_stays ms s.1 a.1)

    option_stays : (o : Option Mirror) → AllByRecursion Stays (option_to_list o) → AllWithin P (option_to_list o) → AllWithin P (option_to_list (option_map (substituted by) o))
    option_stays None s a = tt
    option_stays (Some m) s a = (s.0 a.0, tt)

    layer_stays : (l : Layer Mirror) → AllParts Stays l → LayerWithin P l → Within P (replaced_layer by (map_layer (substituted by) l))
    layer_stays (Primitive kind) s w = closed_up P (Primitive kind) tt
    layer_stays (Declared at enclosing arguments) s w =
        closed_up P (Declared at (option_map (substituted by) enclosing) (map (substituted by) arguments))
        (w.0, (option_stays enclosing s.0 w.1.0, each_stays arguments s.1 w.1.1))
    layer_stays (Error text) s w = closed_up P (Error text) tt
    layer_stays (Variable at) s w = in_place-within at w
    layer_stays (Array item) s w = closed_up P (Array (substituted by item)) (s w)
    layer_stays Unbounded s w = closed_up P Unbounded tt
    layer_stays (Extends bound) s w = closed_up P (Extends (substituted by bound)) (s w)
    layer_stays (Super bound) s w = closed_up P (Super (substituted by bound)) (s w)
    layer_stays (Executable variables parameters outcome thrown) s w =
        closed_up P (Executable variables (map (substituted by) parameters) (substituted by outcome) (map (substituted by) thrown))
        (w.0, (each_stays parameters s.0 w.1.0, (s.1.0 w.1.1.0, each_stays thrown s.1.1 w.1.1.1)))
    layer_stays Nothing s w = closed_up P Nothing tt
    layer_stays Void s w = closed_up P Void tt
    layer_stays Null s w = closed_up P Null tt
    layer_stays (Package name) s w = closed_up P (Package name) tt

    pub substituted-within : (m : Mirror) → Stays m
    substituted-within =
        ind-layers Stays (λ l s w. subst (Within P) (sym (substituted-mirror_of by l)) (layer_stays l s (opened-mirror_of P l w)))
