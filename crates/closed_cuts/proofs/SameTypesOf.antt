-- The type of an element, and the text of a type, are the same over two tables that agree on what they read.
use Rattle.std.proofs.Common.{◌≡◌, ℕ, List, [], ◌∷◌, map, unwrap_or, Option, None, Some, refl, sym, ap, ap₂, subst, ◌∙◌}
use Rattle.std.specs.List.{AllByRecursion}
use Rattle.std.specs.Option.{option_map, option_and_then, option_or, option_to_list}
use Rattle.apt_base.specs.declared.element.ElementRef.{ElementRef}
use Rattle.decl_tree.specs.declared.compilation.Body.{Body}
use Rattle.decl_tree.specs.declared.compilation.Body.TheVariants.{Declared, Info}
use Rattle.decl_tree.specs.declared.compilation.UnitText.{UnitText}
use Rattle.decl_tree.specs.declared.type_text.TypeText.{TypeText}
use Rattle.decl_tree.specs.declared.declaration.Member.{Member, out-Member}
use Rattle.decl_tree.specs.declared.declaration.Member.TheOpen.{Member-F}
use Rattle.decl_tree.specs.declared.declaration.TypeDecl.{TypeDecl}
use Rattle.decl_tree.specs.declared.member.Param.{Param}
use Rattle.decl_elements.specs.Nodes.{Node, OfPackage, Top, Inside, OfTypeParam, OfParam, DefaultConstructor, Values, ValueOf, ValueOfName, down, body_root, root}
use Rattle.decl_elements.specs.Written.{types}
use Rattle.element_table.specs.TypeTable.{TypeTable, unit_of}
use Rattle.element_table.specs.TableElements.{node_from, node_at, above, package_of, enclosing_at}
use Rattle.type_mirror.specs.declared.mirror.Mirror.{Mirror}
use Rattle.type_layers.specs.Layers as layers
use Rattle.type_layers.specs.Layers.{Layer, mirror_of, map_layer, array_of, declared_mirror, executable_mirror, by_layers}
use Rattle.type_layers.proofs.LayerLaws.{AllParts, ind-layers}
use Rattle.type_relations.specs.Elements.{type_parameters, around_of, canonical_name, type_name, parameter_name, name_by}
use Rattle.type_relations.specs.Named.{meaning_in}
use Rattle.type_elements.specs.TypeOf.{own_arguments, own_type, executable_type, member_type, node_type, type_at, type_of}
use Rattle.type_texts.specs.Print.{layer_text, text_of}
use Rattle.decl_elements.proofs.Everywhere.{each_left, each_right, each_of_map}
use Rattle.closed_cuts.specs.Kept.{IfAny}
use Rattle.closed_cuts.specs.NodeTexts.{argument_texts, member_texts, node_texts}
use Rattle.closed_cuts.proofs.Keeping.{Kept, kept, by_equal, map-facts}
use Rattle.closed_cuts.proofs.PartsWithin.{LayerWithin, by_layers-mirror_of, closed_up, opened-mirror_of}
use Rattle.closed_cuts.proofs.AgreeingReads.{Lies, Good, AllGood, SameMirror, SameMirrors, SameText, SameReads, node-same, canonical-same, enclosing-same, type_parameters-kept, texts-kept}

-- what stands within a type: not at the top, and no package
abbrev pub IsInner : Node → Type 0
IsInner (Inside kind member) = Unit {0}
IsInner Values = Unit {0}
IsInner ValueOf = Unit {0}
IsInner ValueOfName = Unit {0}
IsInner (OfPackage info) = ⊥
IsInner (Top d) = ⊥
IsInner (OfTypeParam parameter) = ⊥
IsInner (OfParam parameter) = ⊥
IsInner (DefaultConstructor around d) = ⊥

outer_root : (u : UnitText) (b : Body) → IsInner (body_root u b) → ⊥
outer_root u (Declared d) i = i
outer_root u (Info annotations doc) i = i

some_is : {A : Type 0} (x y : A) → Some x ≡ Some y → x ≡ y
some_is x y e = cc

module _ (one other : TypeTable) (Has : List ℕ → Type 0) (r : SameReads one other Has) where
  abbrev G : Mirror → Type 0
  G = Good one other Has

  abbrev Gs : List Mirror → Type 0
  Gs = AllGood one other Has

  abbrev L : ElementRef → Type 0
  L = Lies one other Has

  abbrev SameOne : Mirror → Mirror → Type 0
  SameOne = SameMirror one other Has

  abbrev SameAll : List Mirror → List Mirror → Type 0
  SameAll = SameMirrors one other Has

  -- ---- what is around it

  pub around-same : (at : ElementRef) → L at → around_of one at ≡ around_of other at
  around-same at l = ap (λ (o : Option ElementRef). unwrap_or o at) (enclosing-same one other Has r at l)

  around_in : (at : ElementRef) → L at → (o : Option Node) (n : ℕ) (ns : List ℕ) (pack : Option ElementRef)
      → L (unwrap_or (option_and_then (λ node. option_or (above at.unit (n ∷ ns)) pack) o) at)
  unfolding above
  around_in at l None n ns pack = l
  around_in at l (Some node) n ns pack = l

  pub around_below : (at : ElementRef) → L at → (n : ℕ) (ns : List ℕ) → at.path ≡ n ∷ ns → L (around_of one at)
  unfolding enclosing_at
  around_below at l n ns e =
      subst (λ (path : List ℕ). L (unwrap_or (option_and_then (λ node. option_or (above at.unit path) (package_of (unit_of one at.unit))) (node_at one at)) at))
      (sym e) (around_in at l (node_at one at) n ns (package_of (unit_of one at.unit)))

  inner_by : (at : ElementRef) → L at → (u : UnitText) (node : Node) → IsInner node → (path : List ℕ) → at.path ≡ path → down path (root u) ≡ Some node → L (around_of one at)
  unfolding root
  inner_by at l u node i [] e n = absurd (outer_root u u.body (subst IsInner (sym (some_is (root u) node n)) i))
  inner_by at l u node i (step ∷ steps) e n = around_below at l step steps e

  enclosing_in : (at : ElementRef) → L at → (o : Option Node) (n : ℕ) (ns : List ℕ) (pack : Option ElementRef)
      → IfAny L (option_and_then (λ node. option_or (above at.unit (n ∷ ns)) pack) o)
  unfolding above
  enclosing_in at l None n ns pack = tt
  enclosing_in at l (Some node) n ns pack = l

  pub enclosing-lies : (at : ElementRef) → L at → (n : ℕ) (ns : List ℕ) → at.path ≡ n ∷ ns → IfAny L (enclosing_at one at)
  unfolding enclosing_at
  enclosing-lies at l n ns e =
      subst (λ (path : List ℕ). IfAny L (option_and_then (λ node. option_or (above at.unit path) (package_of (unit_of one at.unit))) (node_at one at)))
      (sym e) (enclosing_in at l (node_at one at) n ns (package_of (unit_of one at.unit)))

  -- the element around what stands within a type
  pub inner-lies : (at : ElementRef) → L at → (node : Node) → node_at one at ≡ Some node → IsInner node → L (around_of one at)
  unfolding node_at
  inner-lies at l node e i =
      let u = r.units at.unit l in
      inner_by at l u.unit node i at.path refl (ap (λ (o : Option UnitText). node_from one o at.unit at.path) (sym u.one_has) ∙ e)

  -- ---- types of elements

  own_good : (ps : List ElementRef) → AllByRecursion L ps → Gs (own_arguments ps)
  own_good [] g = tt
  own_good (p ∷ ps) g = (closed_up L (layers.Variable p) g.0, own_good ps g.1)

  pub own-kept : (at : ElementRef) → L at → SameOne (own_type one at) (own_type other at)
  unfolding mirror_of
  own-kept at l =
      let k = type_parameters-kept one other Has r at l in
      record {
        equal = ap (λ (ps : List ElementRef). declared_mirror at None (own_arguments ps)) k.equal;
        good = closed_up L (layers.Declared at None (own_arguments (type_parameters one at))) (l, (tt, own_good (type_parameters one at) k.good));
      }

  around_kept : (at : ElementRef) → L at → L (around_of one at) → SameOne (own_type one (around_of one at)) (own_type other (around_of other at))
  around_kept at l a = by_equal G (own_type one) (own_type other) (around_of one at) (around_of other at) (around-same at l) (own-kept (around_of one at) a)

  executable_kept : (vs vs' : List ElementRef) (ps ps' : List Mirror) (o o' : Mirror) (ts ts' : List Mirror) → Kept (AllByRecursion L) vs vs' → SameAll ps ps' → SameOne o o' → SameAll ts ts'
      → SameOne (executable_mirror vs ps o ts) (executable_mirror vs' ps' o' ts')
  unfolding mirror_of
  executable_kept vs vs' ps ps' o o' ts ts' k l m n = record {
    equal = rw (k.equal, l.equal, m.equal, n.equal) refl;
    good = closed_up L (layers.Executable vs ps o ts) (k.good, (l.good, (m.good, n.good)));
  }

  none_kept : SameAll [] []
  none_kept = kept Gs [] tt

  no_variables : Kept (AllByRecursion L) [] []
  no_variables = kept (AllByRecursion L) [] tt

  void_kept : SameOne (mirror_of layers.Void) (mirror_of layers.Void)
  void_kept = kept G (mirror_of layers.Void) (closed_up L layers.Void tt)

  array_kept : (m m' : Mirror) → SameOne m m' → SameOne (array_of m) (array_of m')
  unfolding mirror_of
  array_kept m m' k = record { equal = ap array_of k.equal; good = closed_up L (layers.Array m) k.good }

  written_kept : (at : ElementRef) → L at → (ps : List Param) (result result' : Mirror) (thrown : List TypeText) → AllByRecursion (SameText one other Has at) (argument_texts ps) → SameOne result result'
      → AllByRecursion (SameText one other Has at) thrown → SameOne (executable_type one at ps result thrown) (executable_type other at ps result' thrown)
  written_kept at l ps result result' thrown a k b =
      executable_kept _ _ _ _ _ _ _ _ (type_parameters-kept one other Has r at l)
      (map-facts G (λ (p : Param). meaning_in one at p.of) (λ (p : Param). meaning_in other at p.of) ps (each_of_map (SameText one other Has at) (λ p. p.of) ps a))
      k (texts-kept one other Has r at thrown b)

  member_kept : (at : ElementRef) → L at → (around : L (around_of one at)) → (x : Member-F Member TypeDecl) → AllByRecursion (SameText one other Has at) (member_texts x)
      → SameOne (member_type one at x) (member_type other at x)
  member_kept at l around (Member-F.Field field) a = a.0
  member_kept at l around (Member-F.Method method) a =
      written_kept at l method.arguments _ _ method.thrown (each_left (SameText one other Has at) (argument_texts method.arguments) method.thrown a.1) a.0
      (each_right (SameText one other Has at) (argument_texts method.arguments) method.thrown a.1)
  member_kept at l around (Member-F.Constructor constructor) a =
      written_kept at l constructor.arguments _ _ constructor.thrown (each_left (SameText one other Has at) (argument_texts constructor.arguments) constructor.thrown a) void_kept
      (each_right (SameText one other Has at) (argument_texts constructor.arguments) constructor.thrown a)
  member_kept at l around (Member-F.Constant constant) a = around_kept at l around
  member_kept at l around (Member-F.Nested d) a = own-kept at l

  node_kept : (at : ElementRef) → L at → (node : Node) → (IsInner node → L (around_of one at)) → AllByRecursion (SameText one other Has at) (node_texts node)
      → SameOne (node_type one at node) (node_type other at node)
  unfolding mirror_of types
  node_kept at l (OfPackage info) i a = record {
    equal = ap (λ (o : Option (List ℕ)). mirror_of (layers.Package (unwrap_or o []))) (canonical-same one other Has r at l);
    good = closed_up L (layers.Package (canonical_name one at)) tt;
  }
  node_kept at l (Top d) i a = own-kept at l
  node_kept at l (Inside kind member) i a = member_kept at l (i tt) (out-Member member) a
  node_kept at l (OfTypeParam parameter) i a = kept G (mirror_of (layers.Variable at)) (closed_up L (layers.Variable at) l)
  node_kept at l (OfParam parameter) i a = a.0
  node_kept at l (DefaultConstructor around d) i a = executable_kept _ _ _ _ _ _ _ _ no_variables none_kept void_kept none_kept
  node_kept at l Values i a = executable_kept _ _ _ _ _ _ _ _ no_variables none_kept (array_kept _ _ (around_kept at l (i tt))) none_kept
  node_kept at l ValueOf i a =
      executable_kept _ _ _ _ _ _ _ _ no_variables (record { equal = ap (λ (m : Mirror). m ∷ []) r.string.equal; good = (r.string.good, tt) }) (around_kept at l (i tt)) none_kept
  node_kept at l ValueOfName i a = r.string

  type_kept : (at : ElementRef) → L at → (o : Option Node) → node_at one at ≡ o → IfAny (λ node. AllByRecursion (SameText one other Has at) (node_texts node)) o → SameOne (type_at one at o) (type_at other at o)
  type_kept at l None e a = kept G (mirror_of layers.Nothing) (closed_up L layers.Nothing tt)
  type_kept at l (Some node) e a = node_kept at l node (inner-lies at l node e) a

  pub type_of-kept : (at : ElementRef) → L at → SameOne (type_of one at) (type_of other at)
  unfolding type_of
  type_of-kept at l =
      by_equal G (type_at one at) (type_at other at) (node_at one at) (node_at other at) (node-same one other Has r at l) (type_kept at l (node_at one at) refl (r.texts at l))

  -- ---- texts of types

  pub name-same : (name : Node → Option (List ℕ)) (at : ElementRef) → L at → name_by one name at ≡ name_by other name at
  name-same name at l = ap (λ (o : Option Node). unwrap_or (option_and_then name o) []) (node-same one other Has r at l)

  pub canonical_name-same : (at : ElementRef) → L at → canonical_name one at ≡ canonical_name other at
  canonical_name-same at l = ap (λ (o : Option (List ℕ)). unwrap_or o []) (canonical-same one other Has r at l)

  abbrev T : Mirror → List ℕ
  T = by_layers (layer_text one)

  abbrev T' : Mirror → List ℕ
  T' = by_layers (layer_text other)

  abbrev SameTexts : Mirror → Type 0
  SameTexts m = G m → T m ≡ T' m

  each_text : (ms : List Mirror) → AllByRecursion SameTexts ms → Gs ms → map T ms ≡ map T' ms
  each_text [] p g = refl
  each_text (m ∷ ms) p g = ap₂ (λ (x : List ℕ) (xs : List (List ℕ)). x ∷ xs) (p.0 g.0) (each_text ms p.1 g.1)

  option_text : (o : Option Mirror) → AllByRecursion SameTexts (option_to_list o) → Gs (option_to_list o) → option_map T o ≡ option_map T' o
  option_text None p g = refl
  option_text (Some m) p g = ap (λ (x : List ℕ). Some x) (p.0 g.0)

  layer_same : (l : Layer Mirror) → AllParts SameTexts l → LayerWithin L l → layer_text one (map_layer T l) ≡ layer_text other (map_layer T' l)
  layer_same (layers.Primitive kind) p w = refl
  layer_same (layers.Declared at enclosing arguments) p w =
      class_same (option_map T enclosing) at w.0 (map T arguments)
      ∙ ap₂ (λ (o : Option (List ℕ)) (xs : List (List ℕ)). layer_text other (layers.Declared at o xs)) (option_text enclosing p.0 w.1.0) (each_text arguments p.1 w.1.1)
    where
      class_same : (o : Option (List ℕ)) (at : ElementRef) → L at → (xs : List (List ℕ)) → layer_text one (layers.Declared at o xs) ≡ layer_text other (layers.Declared at o xs)
      class_same None at l xs = rw (canonical_name-same at l) refl
      class_same (Some text) at l xs = rw (name-same type_name at l) refl
  layer_same (layers.Error text) p w = refl
  layer_same (layers.Variable at) p w = name-same parameter_name at w
  layer_same (layers.Array item) p w = rw (p w) refl
  layer_same layers.Unbounded p w = refl
  layer_same (layers.Extends bound) p w = rw (p w) refl
  layer_same (layers.Super bound) p w = rw (p w) refl
  layer_same (layers.Executable variables parameters outcome thrown) p w = rw (each_text parameters p.0 w.1.0, p.1.0 w.1.1.0) refl
  layer_same layers.Nothing p w = refl
  layer_same layers.Void p w = refl
  layer_same layers.Null p w = refl
  layer_same (layers.Package name) p w = refl

  pub text_of-same : (m : Mirror) → G m → text_of one m ≡ text_of other m
  unfolding text_of
  text_of-same =
      ind-layers SameTexts (λ l p w.
      by_layers-mirror_of (layer_text one) l ∙ layer_same l p (opened-mirror_of L l w) ∙ sym (by_layers-mirror_of (layer_text other) l))
