-- Erasures, and what class types put in the place of type parameters, are the same over two tables that agree on what they read.
use Rattle.std.proofs.Common.{◌≡◌, ℕ, zero, suc, List, [], ◌∷◌, ◌++◌, map, Option, None, Some, refl, ap, ◌∙◌}
use Rattle.std.specs.List.{AllByRecursion, zip}
use Rattle.std.specs.Option.{option_map, option_to_list}
use Rattle.apt_base.specs.declared.element.ElementRef.{ElementRef}
use Rattle.element_table.specs.TypeTable.{TypeTable}
use Rattle.type_mirror.specs.declared.mirror.Mirror.{Mirror}
use Rattle.type_mirror.specs.Substitution.{Replacements}
use Rattle.type_layers.specs.Layers.{Layer, Primitive, Declared, Error, Variable, Array, Unbounded, Extends, Super, Executable, Nothing, Void, Null, Package, mirror_of, map_layer, array_of, by_layers, by_parts}
use Rattle.type_layers.proofs.LayerLaws.{AllParts, layer-mirror_of, ind-layers}
use Rattle.type_relations.specs.Closed.{closed}
use Rattle.type_relations.specs.Elements.{type_parameters}
use Rattle.type_relations.specs.Erasure.{executable_of, erased_layer, variable_erasure, erasure, erasures}
use Rattle.type_relations.specs.RawTypes.{of_enclosing, entries_in, entries, once_behind, replacements}
use Rattle.type_relations.proofs.PartsByLayers.{held, held-mirrors, by_parts-layer}
use Rattle.decl_elements.proofs.Everywhere.{each_both}
use Rattle.closed_cuts.specs.Kept.{IfAny}
use Rattle.closed_cuts.proofs.Keeping.{Kept, kept, moved, through, map-facts, append-kept, option_map-kept, closed-kept}
use Rattle.closed_cuts.proofs.PartsWithin.{Within, LayerWithin, by_layers-mirror_of, closed_up, opened-mirror_of}
use Rattle.closed_cuts.proofs.Replacing.{EntriesWithin, once_behind-within}
use Rattle.closed_cuts.proofs.AgreeingReads.{Lies, Good, AllGood, SameMirror, SameMirrors, SameReads, type_parameters-kept, first_bound-kept}

module _ (one other : TypeTable) (Has : List ℕ → Type 0) (r : SameReads one other Has) where
  abbrev G : Mirror → Type 0
  G = Good one other Has

  abbrev Gs : List Mirror → Type 0
  Gs = AllGood one other Has

  abbrev L : ElementRef → Type 0
  L = Lies one other Has

  abbrev pub SameOption : Option Mirror → Option Mirror → Type 0
  SameOption = Kept (IfAny G)

  abbrev pub SameList : Option (List Mirror) → Option (List Mirror) → Type 0
  SameList = Kept (IfAny Gs)

  -- ---- erasures

  good_executable : (ps : Option (List Mirror)) (o : Option Mirror) (ts : Option (List Mirror)) → IfAny Gs ps → IfAny G o → IfAny Gs ts → IfAny G (executable_of ps o ts)
  unfolding mirror_of
  good_executable None o ts a b c = tt
  good_executable (Some ps) None ts a b c = tt
  good_executable (Some ps) (Some o) None a b c = tt
  good_executable (Some ps) (Some o) (Some ts) a b c = closed_up L (Executable [] ps o ts) (tt, (a, (b, c)))

  executable_kept : (ps ps' : Option (List Mirror)) (o o' : Option Mirror) (ts ts' : Option (List Mirror)) → SameList ps ps' → SameOption o o' → SameList ts ts'
      → SameOption (executable_of ps o ts) (executable_of ps' o' ts')
  executable_kept ps ps' o o' ts ts' k l m = record {
    equal = rw (k.equal, l.equal, m.equal) refl;
    good = good_executable ps o ts k.good l.good m.good;
  }

  array_kept : (m : Mirror) → G m → SameMirror one other Has (array_of m) (array_of m)
  unfolding mirror_of
  array_kept m g = kept G (array_of m) (closed_up L (Array m) g)

  module _ (v v' : ElementRef → Option Mirror) (vs : (at : ElementRef) → L at → SameOption (v at) (v' at)) where
    abbrev E : Mirror → Option Mirror
    E = by_layers (erased_layer one v)

    abbrev E' : Mirror → Option Mirror
    E' = by_layers (erased_layer other v')

    abbrev Erases : Mirror → Type 0
    Erases m = G m → SameOption (E m) (E' m)

    each_erases : (ms : List Mirror) → AllByRecursion Erases ms → Gs ms → SameList (closed (map E ms)) (closed (map E' ms))
    each_erases ms p g = closed-kept G _ _ (map-facts (IfAny G) E E' ms (each_both Erases G (λ m. SameOption (E m) (E' m)) (λ m p g. p g) ms p g))

    some_kept : (m : Mirror) → G m → SameOption (Some m) (Some m)
    some_kept m g = kept (IfAny G) (Some m) g

    erases_layer : (l : Layer Mirror) → AllParts Erases l → LayerWithin L l → SameOption (erased_layer one v (map_layer E l)) (erased_layer other v' (map_layer E' l))
    unfolding mirror_of
    erases_layer (Primitive kind) p w = some_kept _ (closed_up L (Primitive kind) tt)
    erases_layer (Declared at enclosing arguments) p w = some_kept (mirror_of (Declared at None [])) (closed_up L (Declared at None []) (w.0, (tt, tt)))
    erases_layer (Error text) p w = some_kept _ (closed_up L (Error text) tt)
    erases_layer (Variable at) p w = vs at w
    erases_layer (Array item) p w = through (IfAny G) (IfAny G) (option_map array_of) (option_map array_of) _ _ (p w) (option_map-kept G G array_of array_of array_kept)
    erases_layer Unbounded p w = let o = r.object in record { equal = ap (λ (m : Mirror). Some m) o.equal; good = o.good }
    erases_layer (Extends bound) p w = p w
    erases_layer (Super bound) p w = let o = r.object in record { equal = ap (λ (m : Mirror). Some m) o.equal; good = o.good }
    erases_layer (Executable variables parameters outcome thrown) p w =
        executable_kept _ _ _ _ _ _ (each_erases parameters p.0 w.1.0) (p.1.0 w.1.1.0) (each_erases thrown p.1.1 w.1.1.1)
    erases_layer Nothing p w = some_kept _ (closed_up L Nothing tt)
    erases_layer Void p w = some_kept _ (closed_up L Void tt)
    erases_layer Null p w = some_kept _ (closed_up L Null tt)
    erases_layer (Package name) p w = some_kept _ (closed_up L (Package name) tt)

    erases : (m : Mirror) → Erases m
    erases =
        ind-layers Erases (λ l p w.
        moved (IfAny G) _ _ _ _ (erases_layer l p (opened-mirror_of L l w))
        (by_layers-mirror_of (erased_layer one v) l) (by_layers-mirror_of (erased_layer other v') l))

  variable-kept : (n : ℕ) (at : ElementRef) → L at → SameOption (variable_erasure one n at) (variable_erasure other n at)
  unfolding variable_erasure
  variable-kept zero at l = kept (IfAny G) None tt
  variable-kept (suc n) at l =
      through G (IfAny G) _ _ _ _ (first_bound-kept one other Has r at l) (erases (variable_erasure one n) (variable_erasure other n) (variable-kept n))

  pub erasure-kept : (n : ℕ) (m : Mirror) → G m → SameOption (erasure one n m) (erasure other n m)
  unfolding erasure
  erasure-kept n m g = erases (variable_erasure one n) (variable_erasure other n) (variable-kept n) m g

  pub erasures-kept : (n : ℕ) (ms ms' : List Mirror) → SameMirrors one other Has ms ms' → SameList (erasures one n ms) (erasures other n ms')
  erasures-kept n ms ms' k =
      through Gs (IfAny Gs) (erasures one n) (erasures other n) ms ms' k (λ xs g.
      closed-kept G _ _ (map-facts (IfAny G) (erasure one n) (erasure other n) xs (each_good n xs g)))
    where
      each_good : (n : ℕ) (xs : List Mirror) → Gs xs → AllByRecursion (λ m. SameOption (erasure one n m) (erasure other n m)) xs
      each_good n [] g = tt
      each_good n (x ∷ xs) g = (erasure-kept n x g.0, each_good n xs g.1)

  -- ---- what is put in the place of type parameters

  abbrev SameEntries : Replacements → Replacements → Type 0
  SameEntries = Kept (EntriesWithin L)

  abbrev HasEntries : Mirror → Type 0
  HasEntries m = G m → SameEntries (entries one m) (entries other m)

  pub zip-within : (ps : List ElementRef) (ms : List Mirror) → Gs ms → EntriesWithin L (zip ps ms)
  zip-within [] [] g = tt
  zip-within [] (m ∷ ms) g = tt
  zip-within (p ∷ ps) [] g = tt
  zip-within (p ∷ ps) (m ∷ ms) g = (g.0, zip-within ps ms g.1)

  -- the entries of a class type
  abbrev entries_by : TypeTable → ElementRef → List Mirror → Replacements → Replacements
  entries_by table at arguments enclosing = zip (type_parameters table at) arguments ++ enclosing

  enclosing_kept : (enclosing : Option Mirror) → AllByRecursion HasEntries (option_to_list enclosing) → Gs (option_to_list enclosing)
      → SameEntries (of_enclosing (option_map (held (entries_in one)) enclosing)) (of_enclosing (option_map (held (entries_in other)) enclosing))
  unfolding entries by_parts
  enclosing_kept None p g = kept (EntriesWithin L) [] tt
  enclosing_kept (Some m) p g = p.0 g.0

  zipped_kept : (at : ElementRef) → L at → (arguments : List Mirror) → Gs arguments → SameEntries (zip (type_parameters one at) arguments) (zip (type_parameters other at) arguments)
  zipped_kept at l arguments g = record {
    equal = ap (λ (ps : List ElementRef). zip ps arguments) (type_parameters-kept one other Has r at l).equal;
    good = zip-within (type_parameters one at) arguments g;
  }

  arguments_kept : (at : ElementRef) → L at → (arguments : List Mirror) → Gs arguments
      → SameEntries (zip (type_parameters one at) (map (λ a. a.mirror) (map (held (entries_in one)) arguments))) (zip (type_parameters other at) (map (λ a. a.mirror) (map (held (entries_in other)) arguments)))
  arguments_kept at l arguments g =
      moved (EntriesWithin L) _ _ _ _ (zipped_kept at l arguments g)
      (ap (λ (ms : List Mirror). zip (type_parameters one at) ms) (held-mirrors (entries_in one) arguments))
      (ap (λ (ms : List Mirror). zip (type_parameters other at) ms) (held-mirrors (entries_in other) arguments))

  none_kept : SameEntries [] []
  none_kept = kept (EntriesWithin L) [] tt

  entries_layer : (l : Layer Mirror) → AllParts HasEntries l → LayerWithin L l
      → SameEntries (entries_in one (map_layer (held (entries_in one)) l)) (entries_in other (map_layer (held (entries_in other)) l))
  entries_layer (Declared at enclosing arguments) p w =
      append-kept (λ (pair : ElementRef × Mirror). Within L pair.1) _ _ _ _ (arguments_kept at w.0 arguments w.1.1) (enclosing_kept enclosing p.0 w.1.0)
  entries_layer (Primitive kind) p w = none_kept
  entries_layer (Error text) p w = none_kept
  entries_layer (Variable at) p w = none_kept
  entries_layer (Array item) p w = none_kept
  entries_layer Unbounded p w = none_kept
  entries_layer (Extends bound) p w = none_kept
  entries_layer (Super bound) p w = none_kept
  entries_layer (Executable variables parameters outcome thrown) p w = none_kept
  entries_layer Nothing p w = none_kept
  entries_layer Void p w = none_kept
  entries_layer Null p w = none_kept
  entries_layer (Package name) p w = none_kept

  entries-at : (table : TypeTable) (l : Layer Mirror) → entries table (mirror_of l) ≡ entries_in table (map_layer (held (entries_in table)) l)
  unfolding entries
  entries-at table l = by_parts-layer (entries_in table) (mirror_of l) ∙ ap (λ (k : Layer Mirror). entries_in table (map_layer (held (entries_in table)) k)) (layer-mirror_of l)

  pub entries-kept : (m : Mirror) → HasEntries m
  entries-kept =
      ind-layers HasEntries (λ l p w.
      moved (EntriesWithin L) _ _ _ _ (entries_layer l p (opened-mirror_of L l w)) (entries-at one l) (entries-at other l))

  pub replacements-kept : (m : Mirror) → G m → SameEntries (replacements one m) (replacements other m)
  unfolding replacements
  replacements-kept m g =
      let k = entries-kept m g in
      record { equal = ap (λ (more : Replacements). once_behind [] more) k.equal; good = once_behind-within L (entries one m) [] tt k.good }
