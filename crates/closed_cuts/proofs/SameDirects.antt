-- Direct supertypes are the same over two tables that agree on what they read.
use Rattle.std.proofs.Common.{ℕ, Bool, true, false, List, [], ◌∷◌, map, Option, None, Some, refl, sym, ap, subst}
use Rattle.apt_base.specs.declared.element.ElementRef.{ElementRef}
use Rattle.element_table.specs.TypeTable.{TypeTable}
use Rattle.type_mirror.specs.declared.mirror.PrimitiveKind.{PrimitiveKind}
use Rattle.apt_base.specs.declared.around.Around.{Around}
use Rattle.apt_base.specs.declared.around.Around.TheVariants as around
use Rattle.type_mirror.specs.declared.mirror.Mirror.{Mirror, out-Mirror, roll-out-Mirror}
use Rattle.type_mirror.specs.declared.mirror.BaseMirror.{BaseMirror}
use Rattle.type_mirror.specs.Parts.{plain}
use Rattle.type_mirror.specs.Substitution.{Replacements, substituted}
use Rattle.type_layers.specs.Layers.{Layer, Primitive, Declared, Error, Variable, Array, Unbounded, Extends, Super, Executable, Nothing, Void, Null, Package, layer_in, mirror_of, array_of}
use Rattle.type_layers.proofs.LayerLaws.{rolled_mirror, layer-rolled}
use Rattle.apt_base.specs.Limits.{max_type_steps}
use Rattle.type_relations.specs.Direct.{wider, wider_types, of_declared, of_layer, all_arrays_have, arrays_or, is_primitive, of_array, direct_in, direct}
use Rattle.type_relations.specs.RawTypes.{is_raw_with}
use Rattle.closed_cuts.specs.Kept.{IfAny}
use Rattle.closed_cuts.proofs.Keeping.{Kept, kept, chosen, through, map-kept}
use Rattle.closed_cuts.proofs.PartsWithin.{LayerWithin, opened, closed_up}
use Rattle.closed_cuts.proofs.Replacing.{EntriesWithin, substituted-within}
use Rattle.closed_cuts.proofs.AgreeingReads.{Lies, Good, AllGood, SameMirrors, SameReads, bounds-kept, declared_supertypes-kept, is_raw_with-same}
use Rattle.closed_cuts.proofs.SameErasures.{SameList, erasures-kept, replacements-kept}

module _ (one other : TypeTable) (Has : List ℕ → Type 0) (r : SameReads one other Has) where
  abbrev G : Mirror → Type 0
  G = Good one other Has

  abbrev Gs : List Mirror → Type 0
  Gs = AllGood one other Has

  abbrev L : ElementRef → Type 0
  L = Lies one other Has

  wider_good : (kinds : List PrimitiveKind) → Gs (map (λ wide. mirror_of (Primitive wide)) kinds)
  wider_good [] = tt
  wider_good (kind ∷ kinds) = (closed_up L (Primitive kind) tt, wider_good kinds)

  pub some_list : (ms ms' : List Mirror) → SameMirrors one other Has ms ms' → SameList one other Has r (Some ms) (Some ms')
  some_list ms ms' k = record { equal = ap (λ (xs : List Mirror). Some xs) k.equal; good = k.good }

  each_replaced : (by : Replacements) → EntriesWithin L by → (ms : List Mirror) → Gs ms → SameMirrors one other Has (map (substituted by) ms) (map (substituted by) ms)
  each_replaced by all ms g = map-kept G G (substituted by) (substituted by) (λ m g. kept G (substituted by m) (substituted-within L by all m g)) ms g

  pub replaced-kept : (by by' : Replacements) (ms ms' : List Mirror) → Kept (EntriesWithin L) by by' → SameMirrors one other Has ms ms'
      → SameMirrors one other Has (map (substituted by) ms) (map (substituted by') ms')
  replaced-kept by by' ms ms' k ks =
      through (EntriesWithin L) Gs (λ by. map (substituted by) ms) (λ by. map (substituted by) ms') by by' k (λ by all.
      through Gs Gs (map (substituted by)) (map (substituted by)) ms ms' ks (each_replaced by all))

  declared_kept : (at : ElementRef) → L at → (arguments : List Mirror) (m : Mirror) → G m → SameList one other Has r (of_declared one at arguments m) (of_declared other at arguments m)
  declared_kept at l arguments m g =
      let supers = declared_supertypes-kept one other Has r at l in
      chosen (IfAny Gs) (is_raw_with one at arguments) (is_raw_with other at arguments) _ _ _ _ (is_raw_with-same one other Has r at l arguments)
      (erasures-kept one other Has r max_type_steps _ _ supers)
      (some_list _ _ (replaced-kept _ _ _ _ (replacements-kept one other Has r m g) supers))

  none_kept : SameList one other Has r (Some []) (Some [])
  none_kept = kept (IfAny Gs) (Some []) tt

  pub of_layer-kept : (m : Mirror) → G m → (l : Layer Mirror) → LayerWithin L l → SameList one other Has r (of_layer one m l) (of_layer other m l)
  of_layer-kept m g (Primitive kind) w = kept (IfAny Gs) (Some (wider_types kind)) (wider_good (wider kind))
  of_layer-kept m g (Declared at enclosing arguments) w = declared_kept at w.0 arguments m g
  of_layer-kept m g (Variable at) w = some_list _ _ (bounds-kept one other Has r at w)
  of_layer-kept m g (Error text) w = none_kept
  of_layer-kept m g (Array item) w = none_kept
  of_layer-kept m g Unbounded w = none_kept
  of_layer-kept m g (Extends bound) w = none_kept
  of_layer-kept m g (Super bound) w = none_kept
  of_layer-kept m g (Executable variables parameters outcome thrown) w = none_kept
  of_layer-kept m g Nothing w = none_kept
  of_layer-kept m g Void w = none_kept
  of_layer-kept m g Null w = none_kept
  of_layer-kept m g (Package name) w = none_kept

  arrays_have_kept : SameMirrors one other Has (all_arrays_have one) (all_arrays_have other)
  arrays_have_kept = record {
    equal = rw (r.object.equal, r.cloneable.equal, r.serializable.equal) refl;
    good = (r.object.good, (r.cloneable.good, (r.serializable.good, tt)));
  }

  array_good : (m : Mirror) → G m → G (array_of m)
  unfolding mirror_of
  array_good m g = closed_up L (Array m) g

  arrays_good : (ms : List Mirror) → Gs ms → Gs (map array_of ms)
  arrays_good [] g = tt
  arrays_good (m ∷ ms) g = (array_good m g.0, arrays_good ms g.1)

  arrays_or_kept : (ms : List Mirror) → Gs ms → SameMirrors one other Has (arrays_or (all_arrays_have one) ms) (arrays_or (all_arrays_have other) ms)
  arrays_or_kept [] g = arrays_have_kept
  arrays_or_kept (m ∷ ms) g = kept Gs (map array_of (m ∷ ms)) (arrays_good (m ∷ ms) g)

  of_array_kept : (primitive : Bool) (items items' : Option (List Mirror)) → SameList one other Has r items items' → SameList one other Has r (of_array one primitive items) (of_array other primitive items')
  of_array_kept true items items' k = some_list _ _ arrays_have_kept
  of_array_kept false items items' k = through (IfAny Gs) (IfAny Gs) (of_array one false) (of_array other false) items items' k by
    where
      by : (o : Option (List Mirror)) → IfAny Gs o → SameList one other Has r (of_array one false o) (of_array other false o)
      by None g = kept (IfAny Gs) None tt
      by (Some ms) g = some_list _ _ (arrays_or_kept ms g)

  opened_in : (around : List Around) (b : BaseMirror) → G (rolled_mirror around b) → LayerWithin L (layer_in around b)
  opened_in around b g = subst (LayerWithin L) (layer-rolled around b) (opened L (rolled_mirror around b) g)

  in_kept : (around : List Around) (b : BaseMirror) → G (rolled_mirror around b) → SameList one other Has r (direct_in one around b) (direct_in other around b)
  in_kept [] b g = of_layer-kept (plain b) g (layer_in [] b) (opened_in [] b g)
  in_kept (around.Array ∷ inner) b g = of_array_kept (is_primitive (layer_in inner b)) _ _ (in_kept inner b (opened_in (around.Array ∷ inner) b g))
  in_kept (around.Extends ∷ inner) b g = none_kept
  in_kept (around.Super ∷ inner) b g = none_kept

  -- the direct supertypes of a type
  pub direct-kept : (m : Mirror) → G m → SameList one other Has r (direct one m) (direct other m)
  unfolding direct
  direct-kept m g = in_kept (out-Mirror m).around (out-Mirror m).base (subst G (sym (roll-out-Mirror m)) g)
