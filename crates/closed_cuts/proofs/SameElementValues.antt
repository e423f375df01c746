-- Two tables on which names mean the same at the elements of some units, and which agree on what a question on types reads there, have the same annotations, defaults and constants there.
use Rattle.std.proofs.Common.{◌≡◌, ℕ, zero, suc, true, false, cond, not, ◌||◌, List, [], ◌∷◌, ◌++◌, map, filter, Contains, Option, None, Some, option_map, option_and_then, slice_get, refl, sym, ap, subst, ◌∙◌}
use Rattle.std.specs.List.{AllByRecursion, enumerate_from}
use Rattle.std.specs.Option.{option_map_or, option_to_list}
use Rattle.apt_base.specs.Identifiers.{parts}
use Rattle.apt_base.specs.declared.element.ElementRef.{ElementRef}
use Rattle.decl_tree.specs.declared.annotation.ValueText.{ValueText, out-ValueText}
use Rattle.decl_tree.specs.declared.annotation.AnnotationText.{AnnotationText}
use Rattle.decl_tree.specs.declared.annotation.ElementValuePair.{ElementValuePair}
use Rattle.decl_tree.specs.declared.annotation.ValueText.TheOpen.{ValueText-F}
use Rattle.decl_tree.specs.declared.annotation.ValueText.TheFolds.{map-ValueText, fold_out-ValueText}
use Rattle.decl_tree.specs.declared.compilation.UnitText.{UnitText}
use Rattle.decl_tree.specs.declared.declaration.Member.{Member, out-Member}
use Rattle.decl_tree.specs.declared.declaration.Member.TheOpen.{Member-F}
use Rattle.decl_tree.specs.declared.declaration.TypeDecl.{TypeDecl}
use Rattle.decl_tree.specs.declared.member.FieldDecl.{FieldDecl}
use Rattle.decl_elements.specs.Nodes.{Node, children}
use Rattle.decl_elements.specs.Modifiers.{has, is_final, modifiers}
use Rattle.decl_elements.specs.SimpleNames.{simple_name}
use Rattle.decl_elements.specs.Written.{default, field_of, member_values, member_default, member_field, member_types, types, values}
use Rattle.element_table.specs.TypeTable.{TypeTable, IsTable}
use Rattle.type_mirror.specs.declared.mirror.Mirror.{Mirror}
use Rattle.type_mirror.specs.declared.value.Value.{Value, out-Value}
use Rattle.type_mirror.specs.declared.value.Value.TheVariants as value
use Rattle.type_layers.specs.Layers.{layer}
use Rattle.type_relations.specs.Direct.{is_primitive}
use Rattle.type_queries.specs.Verdicts.{elements_of}
use Rattle.name_resolve.specs.Ways.{node_at}
use Rattle.name_resolve.specs.Finds.{Find, Finds, Nothing, One, Several, find_at}
use Rattle.name_resolve.specs.Meaning.{Within}
use Rattle.name_resolve.specs.Mirrors.{ref_of, type_meaning}
use Rattle.type_resolve.specs.Scopes.{find_in}
use Rattle.annotation_presence.specs.Carried.{Carried}
use Rattle.annotation_values.specs.Values.{Meanings, value_in, chain_in, value_of_initialiser, is_enum_constant, initialiser, value_of_node, value_of_finds, max_names, constant_within, meanings_within, meanings}
use Rattle.annotation_values.specs.ElementValues.{Named, mirror_of, mirrors, all_mirrors, default_at, default_of, child_default, node_defaults, defaults_in, defaults, values_of, has_name, with_defaults, values_with_defaults, is_constant_kind, constant_or_none, is_text_type, is_constant_type, constant_value, typed_constant, constant_at, constant_of}
use Rattle.reach_map.specs.Chains as chains
use Rattle.reach_map.specs.Chains.{Chains, value_chains, unit_chains}
use Rattle.reach_map.specs.ClosedCuts.{IsWritten}
use Rattle.decl_elements.proofs.Everywhere.{each_at}
use Rattle.closed_cuts.specs.Kept.{IfAny}
use Rattle.closed_cuts.specs.NameLaws.{FindLies, FindsLie, NamesStay}
use Rattle.closed_cuts.specs.NodeTexts.{IsWrittenIn}
use Rattle.closed_cuts.specs.PresenceLaws.{CarriedLies}
use Rattle.closed_cuts.specs.ValueLaws.{ValuesStay}
use Rattle.closed_cuts.proofs.Keeping.{Kept, if_any, kept, through, moved, chosen, append-kept, map-kept, option_map-kept, and_then-kept, filter-kept, filter_map-same, filter_map-good}
use Rattle.closed_cuts.proofs.AgreeingReads.{Lies, SameReads}
use Rattle.closed_cuts.proofs.FoundElements.{lies-there, lies-at}
use Rattle.closed_cuts.proofs.SameFields.{place, meaning-kept}
use Rattle.closed_cuts.proofs.SamePresence.{directly-kept, present-kept}
use Rattle.closed_cuts.proofs.SameTypesOf.{text_of-same}
use Rattle.closed_cuts.proofs.SameValues.{pair_chains, SameMeanings, annotation-kept, value-kept}
use Rattle.closed_cuts.proofs.ValueElements.{ValueWithin, AnnotationWithin, constant-lies, values-lie}
use Rattle.closed_cuts.proofs.WrittenTexts.{all-written, children-written}

-- ---- what is written at a place

module _ (u : UnitText) where
  -- each of its name chains is one of the unit
  abbrev W : ValueText → Type 0
  W v = AllByRecursion (Contains (unit_chains u)) (value_chains v)

  if_written : (o : Option ValueText) → AllByRecursion W (option_to_list o) → IfAny W o
  if_written None a = tt
  if_written (Some v) a = a.0

  abbrev FieldWritten : FieldDecl → Type 0
  FieldWritten field = IsWritten u field.of × IfAny W field.constant

  field_by : (x : Member-F Member TypeDecl) → AllByRecursion (IsWritten u) (member_types x) → AllByRecursion W (member_values x) → IfAny FieldWritten (member_field x)
  field_by (Member-F.Field field) ts vs = (ts.0, if_written field.constant vs)
  field_by (Member-F.Method method) ts vs = tt
  field_by (Member-F.Constructor constructor) ts vs = tt
  field_by (Member-F.Constant constant) ts vs = tt
  field_by (Member-F.Nested d) ts vs = tt

  field_written : (node : Node) → IsWrittenIn u node → IfAny FieldWritten (field_of node)
  unfolding types values
  field_written node w = by node w.types w.values
    where
      by : (node : Node) → AllByRecursion (IsWritten u) (types node) → AllByRecursion W (values node) → IfAny FieldWritten (field_of node)
      by (Node.Inside kind member) ts vs = field_by (out-Member member) ts vs
      by (Node.OfPackage info) ts vs = tt
      by (Node.Top d) ts vs = tt
      by (Node.OfTypeParam parameter) ts vs = tt
      by (Node.OfParam parameter) ts vs = tt
      by (Node.DefaultConstructor around d) ts vs = tt
      by Node.Values ts vs = tt
      by Node.ValueOf ts vs = tt
      by Node.ValueOfName ts vs = tt

  default_by : (x : Member-F Member TypeDecl) → AllByRecursion W (member_values x) → IfAny W (member_default x)
  default_by (Member-F.Method method) vs = if_written method.default vs
  default_by (Member-F.Field field) vs = tt
  default_by (Member-F.Constructor constructor) vs = tt
  default_by (Member-F.Constant constant) vs = tt
  default_by (Member-F.Nested d) vs = tt

  default_written : (node : Node) → IsWrittenIn u node → IfAny W (default node)
  unfolding values
  default_written node w = by node w.values
    where
      by : (node : Node) → AllByRecursion W (values node) → IfAny W (default node)
      by (Node.Inside kind member) vs = default_by (out-Member member) vs
      by (Node.OfPackage info) vs = tt
      by (Node.Top d) vs = tt
      by (Node.OfTypeParam parameter) vs = tt
      by (Node.OfParam parameter) vs = tt
      by (Node.DefaultConstructor around d) vs = tt
      by Node.Values vs = tt
      by Node.ValueOf vs = tt
      by Node.ValueOfName vs = tt

  initialiser_written : (node : Node) → IsWrittenIn u node → IfAny W (initialiser node)
  initialiser_written node w =
      elim (has is_final (modifiers node)) as (λ b. IfAny W (cond b (option_and_then (λ field. field.constant) (field_of node)) None)) [
        | true ↦ of_field (field_of node) (field_written node w)
        | false ↦ tt
      ]
    where
      of_field : (o : Option FieldDecl) → IfAny FieldWritten o → IfAny W (option_and_then (λ field. field.constant) o)
      of_field None g = tt
      of_field (Some field) g = g.1

  -- a name that is a whole value
  named_chain : (form : ValueText) (text : List ℕ) → out-ValueText form ≡ ValueText-F.Chain text → value_chains form ≡ parts text ∷ []
  unfolding value_chains chains.annotation_chains
  named_chain form text e =
      fold_out-ValueText Chains Chains Chains chains.value_step chains.annotation_step chains.pair_step form
      ∙ ap (λ (x : ValueText-F ValueText AnnotationText ElementValuePair). chains.value_step (map-ValueText ValueText AnnotationText ElementValuePair Chains Chains Chains value_chains chains.annotation_chains pair_chains x)) e

-- ---- by the meanings of names

module _ (P : ElementRef → Type 0) (u : UnitText) (m m' : Meanings) (s : SameMeanings P u m m') where
  abbrev SameOne : Option Value → Option Value → Type 0
  SameOne = Kept (IfAny (ValueWithin P))

  worth : (form : ValueText) → W u form → SameOne (Some (value_in m form)) (Some (value_in m' form))
  worth form w = let k = value-kept P u m m' s form w in record { equal = ap (λ (v : Value). Some v) k.equal; good = k.good }

  initial_by : (form : ValueText) → W u form → (x : ValueText-F ValueText AnnotationText ElementValuePair) → out-ValueText form ≡ x
      → SameOne (option_map_or m.constant (chain_in x) (Some (value_in m form))) (option_map_or m'.constant (chain_in x) (Some (value_in m' form)))
  initial_by form w (ValueText-F.Chain text) e = s.constants text (subst (AllByRecursion (Contains (unit_chains u))) (named_chain u form text e) w).0
  initial_by form w (ValueText-F.Literal text) e = worth form w
  initial_by form w (ValueText-F.Negated text) e = worth form w
  initial_by form w (ValueText-F.Joined items) e = worth form w
  initial_by form w (ValueText-F.Class of) e = worth form w
  initial_by form w (ValueText-F.Array items) e = worth form w
  initial_by form w (ValueText-F.Nested annotation) e = worth form w
  initial_by form w (ValueText-F.Other text) e = worth form w

  initial_kept : (form : ValueText) → W u form → SameOne (value_of_initialiser m form) (value_of_initialiser m' form)
  initial_kept form w = initial_by form w (out-ValueText form) refl

  node_kept : (f : Find) → P (ref_of f) → (node : Node) → IsWrittenIn u node → SameOne (value_of_node m f node) (value_of_node m' f node)
  node_kept f g node w =
      chosen (IfAny (ValueWithin P)) (is_enum_constant node) (is_enum_constant node) _ _ _ _ refl
      (kept (IfAny (ValueWithin P)) (Some (value.Constant (ref_of f))) (constant-lies P (ref_of f) g))
      (and_then-kept (W u) (ValueWithin P) (value_of_initialiser m) (value_of_initialiser m') initial_kept (initialiser node) (initialiser_written u node w))

  default_kept : (node : Option Node) → IfAny (IsWrittenIn u) node → SameOne (option_map (value_in m) (option_and_then default node)) (option_map (value_in m') (option_and_then default node))
  default_kept node w = option_map-kept (W u) (ValueWithin P) (value_in m) (value_in m') (value-kept P u m m' s) (option_and_then default node) (at node w)
    where
      at : (node : Option Node) → IfAny (IsWrittenIn u) node → IfAny (W u) (option_and_then default node)
      at None w = tt
      at (Some node) w = default_written u node w

constant_good : (P : ElementRef → Type 0) (v : Value) → ValueWithin P v → IfAny (ValueWithin P) (constant_or_none v)
constant_good P v g = elim (is_constant_kind (out-Value v)) as (λ b. IfAny (ValueWithin P) (cond b (Some v) None)) [ true ↦ g | false ↦ tt ]

named_good : (P : ElementRef → Type 0) (name : List ℕ) (o : Option Value) → IfAny (ValueWithin P) o → IfAny (λ (n : Named). ValueWithin P n.1) (option_map (λ v. (name, v)) o)
named_good P name None g = tt
named_good P name (Some v) g = g

module _ (one other : TypeTable) (Has : List ℕ → Type 0) (t : IsTable one) (r : SameReads one other Has) (n : (at : ElementRef) → Has at.unit → NamesStay one other Has at) where
  abbrev L : ElementRef → Type 0
  L = Lies one other Has

  abbrev IsThere : Find → Type 0
  IsThere = FindLies one other Has

  abbrev F : Finds → Type 0
  F = FindsLie one other Has

  abbrev C : Carried → Type 0
  C = CarriedLies one other Has

  abbrev Worth : Option Value → Type 0
  Worth = IfAny (ValueWithin L)

  abbrev NV : Named → Type 0
  NV named = ValueWithin L named.1

  abbrev NVs : List Named → Type 0
  NVs = AllByRecursion NV

  -- ---- what names are worth

  abbrev ConstantsStay : ℕ → Find → Type 0
  ConstantsStay levels f = (text : List ℕ) → Contains (unit_chains f.unit) (parts text) → Kept Worth (constant_within one levels f text) (constant_within other levels f text)

  by_constants : (levels : ℕ) (f : Find) → IsThere f → ConstantsStay levels f → SameMeanings L f.unit (meanings_within one levels f) (meanings_within other levels f)
  by_constants levels f l k =
      let scope = (place one other Has t r n f l).scopes false in
      record { constants = k; class_types = scope.types; annotation_types = scope.annotations }

  found_kept : (m m' : Find → Meanings) → ((f : Find) → IsThere f → SameMeanings L f.unit (m f) (m' f)) → (finds : Finds) → F finds → Kept Worth (value_of_finds m finds) (value_of_finds m' finds)
  found_kept m m' s Nothing g = kept Worth None tt
  found_kept m m' s Several g = kept Worth None tt
  found_kept m m' s (One f) l =
      and_then-kept (IsWrittenIn f.unit) (ValueWithin L) (value_of_node (m f) f) (value_of_node (m' f) f) (node_kept L f.unit (m f) (m' f) (s f l) f l.unit)
      (node_at f.unit f.path) (all-written f.unit f.path)

  constants_kept : (levels : ℕ) (f : Find) → IsThere f → ConstantsStay levels f
  unfolding constant_within
  constants_kept zero f l text w = kept Worth None tt
  constants_kept (suc levels) f l text w =
      through F Worth (value_of_finds (meanings_within one levels)) (value_of_finds (meanings_within other levels)) _ _ (meaning-kept one other Has t r n f l (parts text) w)
      (found_kept (meanings_within one levels) (meanings_within other levels) (λ g k. by_constants levels g k (constants_kept levels g k)))

  meanings_kept : (f : Find) → IsThere f → SameMeanings L f.unit (meanings one f) (meanings other f)
  unfolding meanings
  meanings_kept f l = by_constants max_names f l (constants_kept max_names f l)

  -- ---- annotations

  carried_there : (c : Carried) → C c → IsThere c.at
  carried_there c g = subst IsThere (sym g.is_there) (lies-there one other Has t r g.on g.lies)

  mirror_kept : (c : Carried) → C c → Kept (AnnotationWithin L) (mirror_of one c) (mirror_of other c)
  mirror_kept c g = annotation-kept L c.at.unit (meanings one c.at) (meanings other c.at) (meanings_kept c.at (carried_there c g)) c.text g.chains

  abbrev Cs : List Carried → Type 0
  Cs = AllByRecursion C

  mirrors_kept : (at : ElementRef) → L at → Kept (AllByRecursion (AnnotationWithin L)) (mirrors one at) (mirrors other at)
  unfolding mirrors
  mirrors_kept at l =
      through Cs (AllByRecursion (AnnotationWithin L)) (map (mirror_of one)) (map (mirror_of other)) _ _ (directly-kept one other Has r n at l)
      (map-kept C (AnnotationWithin L) (mirror_of one) (mirror_of other) mirror_kept)

  all_mirrors_kept : (at : ElementRef) → L at → Kept (AllByRecursion (AnnotationWithin L)) (all_mirrors one at) (all_mirrors other at)
  unfolding all_mirrors
  all_mirrors_kept at l =
      through Cs (AllByRecursion (AnnotationWithin L)) (map (mirror_of one)) (map (mirror_of other)) _ _ (present-kept one other Has r n at l)
      (map-kept C (AnnotationWithin L) (mirror_of one) (mirror_of other) mirror_kept)

  -- ---- defaults

  default_at_kept : (f : Find) → IsThere f → (node : Option Node) → IfAny (IsWrittenIn f.unit) node → Kept Worth (default_at one f node) (default_at other f node)
  default_at_kept f l node w = default_kept L f.unit (meanings one f) (meanings other f) (meanings_kept f l) node w

  default_of_kept : (at : ElementRef) → L at → Kept Worth (default_of one at) (default_of other at)
  unfolding default_of
  default_of_kept at l =
      let f = find_in one at in
      moved Worth _ _ _ _ (default_at_kept f (lies-there one other Has t r at l) (node_at f.unit f.path) (all-written f.unit f.path)) refl
      (ap (λ (g : Find). default_at other g (node_at g.unit g.path)) (sym (n at l).place))

  child_kept : (f : Find) → IsThere f → (child : ℕ × Node) → IsWrittenIn f.unit child.1 → Kept (IfAny NV) (child_default one f child) (child_default other f child)
  child_kept f l child w =
      let at = find_at f.part f.unit f.path child.0 in
      let k = default_at_kept at (lies-at one other Has r f l (f.path ++ child.0 ∷ [])) (Some child.1) w in
      record {
        equal = ap (λ (o : Option Value). option_map (λ v. (simple_name child.1, v)) o) k.equal;
        good = named_good L (simple_name child.1) (default_at one at (Some child.1)) k.good;
      }

  node_defaults_kept : (f : Find) → IsThere f → (node : Node) → AllByRecursion (λ (child : ℕ × Node). IsWrittenIn f.unit child.1) (enumerate_from 0 (children node))
      → Kept NVs (node_defaults one f node) (node_defaults other f node)
  node_defaults_kept f l node w =
      let Written : ℕ × Node → Type 0 = λ child. IsWrittenIn f.unit child.1 in
      record {
        equal = filter_map-same Written (child_default one f) (child_default other f) (λ child v. (child_kept f l child v).equal) (enumerate_from 0 (children node)) w;
        good = filter_map-good Written NV (child_default one f) (λ child v. (child_kept f l child v).good) (enumerate_from 0 (children node)) w;
      }

  defaults_in_kept : (f : Find) → IsThere f → Kept NVs (defaults_in one f) (defaults_in other f)
  defaults_in_kept f l = by (node_at f.unit f.path) (children-written f.unit f.path)
    where
      by : (o : Option Node) → IfAny (λ node. AllByRecursion (λ (child : ℕ × Node). IsWrittenIn f.unit child.1) (enumerate_from 0 (children node))) o
          → Kept NVs (option_map_or (node_defaults one f) o []) (option_map_or (node_defaults other f) o [])
      by None w = kept NVs [] tt
      by (Some node) w = node_defaults_kept f l node w

  defaults_kept : (o : Option ElementRef) → IfAny L o → Kept NVs (defaults one o) (defaults other o)
  defaults_kept None g = kept NVs [] tt
  defaults_kept (Some at) l =
      moved NVs _ _ _ _ (defaults_in_kept (find_in one at) (lies-there one other Has t r at l)) refl (ap (defaults_in other) (sym (n at l).place))

  with_defaults_kept : (c : Carried) → C c → Kept NVs (with_defaults one c) (with_defaults other c)
  with_defaults_kept c g =
      let k = mirror_kept c g in
      let own : Kept NVs (values_of (mirror_of one c)) (values_of (mirror_of other c)) = record { equal = ap values_of k.equal; good = values-lie L (mirror_of one c) k.good } in
      append-kept NV _ _ _ _ own
      (through NVs NVs (filter (λ d. not (has_name (values_of (mirror_of one c)) d.0))) (filter (λ d. not (has_name (values_of (mirror_of other c)) d.0))) _ _
      (defaults_kept c.annotation_type g.annotation_type)
      (filter-kept NV _ _ (λ d h. ap (λ (values : List Named). not (has_name values d.0)) own.equal)))

  values_with_defaults_kept : (at : ElementRef) → L at → (number : ℕ) → Kept (IfAny NVs) (values_with_defaults one at number) (values_with_defaults other at number)
  unfolding values_with_defaults
  values_with_defaults_kept at l number =
      through Cs (IfAny NVs) (λ (list : List Carried). option_map (with_defaults one) (slice_get list number)) (λ (list : List Carried). option_map (with_defaults other) (slice_get list number)) _ _
      (present-kept one other Has r n at l)
      (λ list g. option_map-kept C NVs (with_defaults one) (with_defaults other) with_defaults_kept (slice_get list number) (if_any C (slice_get list number) (each_at C list number g)))

  -- ---- constants

  constant_type_same : (m : Mirror) → AllByRecursion L (elements_of m) → is_constant_type one m ≡ is_constant_type other m
  constant_type_same m w = ap (λ (text : List ℕ). is_primitive (layer m) || is_text_type text) (text_of-same one other Has r m w)

  constant_value_kept : (f : Find) → IsThere f → (form : ValueText) → W f.unit form → Kept Worth (constant_value one f form) (constant_value other f form)
  constant_value_kept f l form w =
      let k = value-kept L f.unit (meanings one f) (meanings other f) (meanings_kept f l) form w in
      record { equal = ap constant_or_none k.equal; good = constant_good L (value_in (meanings one f) form) k.good }

  typed_kept : (f : Find) → IsThere f → (field : FieldDecl) → FieldWritten f.unit field → Kept Worth (typed_constant one f field) (typed_constant other f field)
  typed_kept f l field w =
      let of = ((place one other Has t r n f l).scopes false).types field.of w.0 in
      chosen Worth (is_constant_type one (type_meaning one (Within f) field.of)) (is_constant_type other (type_meaning other (Within f) field.of)) _ _ _ _
      (constant_type_same (type_meaning one (Within f) field.of) of.good ∙ ap (is_constant_type other) of.equal)
      (and_then-kept (W f.unit) (ValueWithin L) (constant_value one f) (constant_value other f) (constant_value_kept f l) field.constant w.1)
      (kept Worth None tt)

  constant_at_kept : (f : Find) → IsThere f → (node : Node) → IsWrittenIn f.unit node → Kept Worth (constant_at one f node) (constant_at other f node)
  constant_at_kept f l node w =
      chosen Worth (has is_final (modifiers node)) (has is_final (modifiers node)) _ _ _ _ refl
      (and_then-kept (FieldWritten f.unit) (ValueWithin L) (typed_constant one f) (typed_constant other f) (typed_kept f l) (field_of node) (field_written f.unit node w))
      (kept Worth None tt)

  constant_of_kept : (at : ElementRef) → L at → Kept Worth (constant_of one at) (constant_of other at)
  unfolding constant_of
  constant_of_kept at l =
      let f = find_in one at in
      moved Worth _ _ _ _
      (and_then-kept (IsWrittenIn f.unit) (ValueWithin L) (constant_at one f) (constant_at other f) (constant_at_kept f (lies-there one other Has t r at l)) (node_at f.unit f.path) (all-written f.unit f.path)) refl
      (ap (λ (g : Find). option_and_then (constant_at other g) (node_at g.unit g.path)) (sym (n at l).place))

  pub values-by : (at : ElementRef) → L at → ValuesStay one other Has at
  values-by at l = record {
    mirrors = mirrors_kept at l;
    all_mirrors = all_mirrors_kept at l;
    with_defaults = values_with_defaults_kept at l;
    constant = constant_of_kept at l;
    default = default_of_kept at l;
  }
