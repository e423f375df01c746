-- What a question on types reads of a table, where two tables agree on it for the elements of some units: the units, what is written at an element, the headers
-- of types, and the types of a few names.
use Rattle.std.proofs.Common.{◌≡◌, ℕ, true, false, cond, not, ◌==◌, List, [], ◌∷◌, map, codes, length, Option, None, Some, refl, sym, ap, ◌∙◌}
use Rattle.std.specs.List.{AllByRecursion, range_with_len}
use Rattle.std.specs.Option.{option_and_then}
use Rattle.apt_base.specs.declared.element.ElementRef.{ElementRef}
use Rattle.decl_tree.specs.declared.type_text.TypeText.{TypeText}
use Rattle.decl_tree.specs.declared.compilation.UnitText.{UnitText}
use Rattle.decl_elements.specs.Nodes.{Node}
use Rattle.decl_elements.specs.Written.{declaration_of, types}
use Rattle.element_table.specs.TypeTable.{TypeTable, unit_of}
use Rattle.element_table.specs.TableElements.{node_from, node_at, canonical_from, canonical_at, enclosing_at}
use Rattle.type_mirror.specs.declared.mirror.PrimitiveKind.{PrimitiveKind}
use Rattle.type_mirror.specs.declared.mirror.Mirror.{Mirror}
use Rattle.type_layers.specs.Layers.{layer}
use Rattle.name_resolve.specs.Mirrors.{superclass, interfaces}
use Rattle.type_resolve.specs.Scopes.{find_in, is_type, is_type_in}
use Rattle.type_relations.specs.Boxed.{box_of}
use Rattle.type_relations.specs.Elements.{parameters_of, child, first_children, type_parameters, has_type_parameters, is_interface, declares_interface}
use Rattle.type_relations.specs.Named.{type_named, object, string, object_at, meaning_in, written_types, written_bounds, bounds_or_object, bounds, first_or, first_bound, first_of, is_nothing, unless_nothing, superclasses, header_types, object_of_interface, or_object, declared_supertypes}
use Rattle.type_relations.specs.RawTypes.{is_raw_with}
use Rattle.closed_cuts.specs.Kept.{IfAny}
use Rattle.closed_cuts.specs.NodeTexts.{node_texts}
use Rattle.closed_cuts.proofs.Keeping.{Kept, kept, chosen, by_equal, through, map-facts, append-kept}
use Rattle.closed_cuts.proofs.PartsWithin.{Within}

module _ (one other : TypeTable) (Has : List ℕ → Type 0) where
  -- an element of one of the units
  abbrev pub Lies : ElementRef → Type 0
  Lies at = Has at.unit

  abbrev pub Good : Mirror → Type 0
  Good = Within Lies

  abbrev pub AllGood : List Mirror → Type 0
  AllGood = AllByRecursion Good

  abbrev pub SameMirror : Mirror → Mirror → Type 0
  SameMirror = Kept Good

  abbrev pub SameMirrors : List Mirror → List Mirror → Type 0
  SameMirrors = Kept AllGood

  abbrev pub SameText : ElementRef → TypeText → Type 0
  SameText at text = SameMirror (meaning_in one at text) (meaning_in other at text)

  pub record SameUnit (name : List ℕ) : Type 0 where
    pub unit : UnitText
    pub one_has : unit_of one name ≡ Some unit
    pub other_has : unit_of other name ≡ Some unit

  pub record SameReads : Type 0 where
    pub units : (name : List ℕ) → Has name → SameUnit name
    pub texts : (at : ElementRef) → Lies at → IfAny (λ node. AllByRecursion (SameText at) (node_texts node)) (node_at one at)
    pub superclasses : (at : ElementRef) → Lies at → SameMirror (superclass one (find_in one at)) (superclass other (find_in other at))
    pub interfaces : (at : ElementRef) → Lies at → SameMirrors (interfaces one (find_in one at)) (interfaces other (find_in other at))
    pub object_at : (at : ElementRef) → Lies at → SameMirror (object_at one at) (object_at other at)
    pub string : SameMirror (string one) (string other)
    pub object : SameMirror (object one) (object other)
    pub cloneable : SameMirror (type_named one (codes "java.lang.Cloneable")) (type_named other (codes "java.lang.Cloneable"))
    pub serializable : SameMirror (type_named one (codes "java.io.Serializable")) (type_named other (codes "java.io.Serializable"))
    pub boxes : (kind : PrimitiveKind) → SameMirror (box_of one kind) (box_of other kind)

  module _ (r : SameReads) where
    pub unit-same : (at : ElementRef) → Lies at → unit_of one at.unit ≡ unit_of other at.unit
    unit-same at l = let u = r.units at.unit l in u.one_has ∙ sym u.other_has

    pub node-same : (at : ElementRef) → Lies at → node_at one at ≡ node_at other at
    unfolding node_at
    node-same at l =
        let u = r.units at.unit l in
        ap (λ (o : Option UnitText). node_from one o at.unit at.path) u.one_has ∙ ap (λ (o : Option UnitText). node_from other o at.unit at.path) (sym u.other_has)

    pub canonical-same : (at : ElementRef) → Lies at → canonical_at one at ≡ canonical_at other at
    unfolding canonical_at
    canonical-same at l =
        let u = r.units at.unit l in
        ap (λ (o : Option UnitText). canonical_from one o at.unit at.path) u.one_has ∙ ap (λ (o : Option UnitText). canonical_from other o at.unit at.path) (sym u.other_has)

    pub enclosing-same : (at : ElementRef) → Lies at → enclosing_at one at ≡ enclosing_at other at
    unfolding enclosing_at
    enclosing-same at l = rw (node-same at l, unit-same at l) refl

    pub is_type-same : (at : ElementRef) → Lies at → is_type one at ≡ is_type other at
    is_type-same at l = ap (λ (o : Option UnitText). is_type_in o at.path) (unit-same at l)

    -- ---- type parameters

    pub children-lie : (at : ElementRef) → Lies at → (numbers : List ℕ) → AllByRecursion Lies (map (child at) numbers)
    children-lie at l [] = tt
    children-lie at l (n ∷ numbers) = (l, children-lie at l numbers)

    pub type_parameters-kept : (at : ElementRef) → Lies at → Kept (AllByRecursion Lies) (type_parameters one at) (type_parameters other at)
    unfolding type_parameters
    type_parameters-kept at l = record {
      equal = ap (λ (o : Option Node). first_children at (length (parameters_of o))) (node-same at l);
      good = children-lie at l (range_with_len 0 (length (parameters_of (node_at one at))));
    }

    pub has_type_parameters-same : (at : ElementRef) → Lies at → has_type_parameters one at ≡ has_type_parameters other at
    has_type_parameters-same at l = ap (λ (o : Option Node). not (length (parameters_of o) == 0)) (node-same at l)

    pub is_raw_with-same : (at : ElementRef) → Lies at → (arguments : List Mirror) → is_raw_with one at arguments ≡ is_raw_with other at arguments
    is_raw_with-same at l [] = has_type_parameters-same at l
    is_raw_with-same at l (argument ∷ arguments) = refl

    -- ---- what is written there, and bounds

    pub texts-kept : (at : ElementRef) → (texts : List TypeText) → AllByRecursion (SameText at) texts → SameMirrors (written_types one at texts) (written_types other at texts)
    texts-kept at texts all = map-facts Good (meaning_in one at) (meaning_in other at) texts all

    bounds_of : (at : ElementRef) → Lies at → (node : Option Node) → IfAny (λ node. AllByRecursion (SameText at) (node_texts node)) node → AllByRecursion (SameText at) (written_bounds node)
    unfolding types
    bounds_of at l None all = tt
    bounds_of at l (Some (Node.OfTypeParam parameter)) all = all
    bounds_of at l (Some (Node.OfPackage info)) all = tt
    bounds_of at l (Some (Node.Top d)) all = tt
    bounds_of at l (Some (Node.Inside kind member)) all = tt
    bounds_of at l (Some (Node.OfParam parameter)) all = tt
    bounds_of at l (Some (Node.DefaultConstructor around d)) all = tt
    bounds_of at l (Some Node.Values) all = tt
    bounds_of at l (Some Node.ValueOf) all = tt
    bounds_of at l (Some Node.ValueOfName) all = tt

    or_object_kept : (at : ElementRef) → Lies at → (texts : List TypeText) → AllByRecursion (SameText at) texts → SameMirrors (bounds_or_object one at texts) (bounds_or_object other at texts)
    or_object_kept at l [] all = let o = r.object_at at l in record { equal = ap (λ (m : Mirror). m ∷ []) o.equal; good = (o.good, tt) }
    or_object_kept at l (text ∷ texts) all = texts-kept at (text ∷ texts) all

    pub bounds-kept : (at : ElementRef) → Lies at → SameMirrors (bounds one at) (bounds other at)
    unfolding bounds
    bounds-kept at l =
        by_equal AllGood (λ (o : Option Node). bounds_or_object one at (written_bounds o)) (λ (o : Option Node). bounds_or_object other at (written_bounds o)) (node_at one at) (node_at other at) (node-same at l)
        (or_object_kept at l (written_bounds (node_at one at)) (bounds_of at l (node_at one at) (r.texts at l)))

    first_kept : (m m' : Mirror) (ms ms' : List Mirror) → SameMirror m m' → SameMirrors ms ms' → SameMirror (first_or m ms) (first_or m' ms')
    first_kept m m' ms ms' k ks = through AllGood Good (first_or m) (first_or m') ms ms' ks at
      where
        at : (xs : List Mirror) → AllGood xs → SameMirror (first_or m xs) (first_or m' xs)
        at [] g = k
        at (x ∷ xs) g = kept Good x g.0

    pub first_bound-kept : (at : ElementRef) → Lies at → SameMirror (first_bound one at) (first_bound other at)
    unfolding first_bound
    first_bound-kept at l =
        by_equal Good (λ (o : Option Node). first_of one at (written_bounds o)) (λ (o : Option Node). first_of other at (written_bounds o)) (node_at one at) (node_at other at) (node-same at l)
        (first_kept (object_at one at) (object_at other at) _ _ (r.object_at at l) (or_object_kept at l (written_bounds (node_at one at)) (bounds_of at l (node_at one at) (r.texts at l))))

    -- ---- headers

    unless_kept : (m : Mirror) → Good m → SameMirrors (unless_nothing m) (unless_nothing m)
    unless_kept m g = elim (is_nothing (layer m)) as (λ b. SameMirrors (cond b [] (m ∷ [])) (cond b [] (m ∷ []))) [ true ↦ kept AllGood [] tt | false ↦ kept AllGood (m ∷ []) (g, tt) ]

    superclasses_kept : (at : ElementRef) → Lies at → SameMirrors (superclasses one at) (superclasses other at)
    superclasses_kept at l = through Good AllGood unless_nothing unless_nothing _ _ (r.superclasses at l) unless_kept

    pub header-kept : (at : ElementRef) → Lies at → SameMirrors (header_types one at) (header_types other at)
    unfolding header_types
    header-kept at l =
        chosen AllGood (is_type one at) (is_type other at) _ _ _ _ (is_type-same at l)
        (append-kept Good _ _ _ _ (superclasses_kept at l) (r.interfaces at l)) (kept AllGood [] tt)

    pub is_interface-same : (at : ElementRef) → Lies at → is_interface one at ≡ is_interface other at
    is_interface-same at l = ap (λ (o : Option Node). declares_interface (option_and_then declaration_of o)) (node-same at l)

    object_kept : (at : ElementRef) → Lies at → SameMirrors (object_of_interface one at) (object_of_interface other at)
    object_kept at l =
        let o = r.object_at at l in
        chosen AllGood (is_interface one at) (is_interface other at) _ _ _ _ (is_interface-same at l)
        (record { equal = ap (λ (m : Mirror). m ∷ []) o.equal; good = (o.good, tt) }) (kept AllGood [] tt)

    pub declared_supertypes-kept : (at : ElementRef) → Lies at → SameMirrors (declared_supertypes one at) (declared_supertypes other at)
    unfolding declared_supertypes
    declared_supertypes-kept at l = through AllGood AllGood (or_object one at) (or_object other at) _ _ (header-kept at l) by
      where
        by : (ms : List Mirror) → AllGood ms → SameMirrors (or_object one at ms) (or_object other at ms)
        by [] g = object_kept at l
        by (m ∷ ms) g = kept AllGood (m ∷ ms) g
