-- What a question on types reads at the elements of a closed cut, it reads there over the cut too, and the elements that come lie in the cut.
use Rattle.std.proofs.Common.{◌≡◌, ℕ, zero, suc, Bool, true, false, List, [], ◌∷◌, map, take, codes, Option, None, Some, if◌then◌else◌, refl, sym, ap, subst, ◌∙◌}
use Rattle.std.specs.List.{AllByRecursion}
use Rattle.std.specs.Str.{bytes_eq}
use Rattle.apt_base.specs.declared.element.ElementRef.{ElementRef}
use Rattle.decl_tree.specs.declared.type_text.TypeText.{TypeText}
use Rattle.decl_tree.specs.declared.declaration.TypeKind.{TypeKind}
use Rattle.decl_tree.specs.declared.declaration.TypeKind.TheVariants as kind
use Rattle.decl_tree.specs.declared.declaration.TypeDecl.{TypeDecl}
use Rattle.decl_tree.specs.declared.compilation.UnitText.{UnitText}
use Rattle.decl_elements.specs.Nodes.{Node}
use Rattle.element_table.specs.declared.part.Part.{Part}
use Rattle.element_table.specs.declared.part.Part.TheVariants.{Source, Stub}
use Rattle.element_table.specs.TypeTable.{TypeTable, unit_of, part_of}
use Rattle.element_table.specs.TableElements as elements
use Rattle.element_table.specs.TableElements.{node_from}
use Rattle.type_mirror.specs.declared.mirror.PrimitiveKind.{PrimitiveKind}
use Rattle.type_mirror.specs.declared.mirror.PrimitiveKind.TheVariants as primitive
use Rattle.type_mirror.specs.declared.mirror.Mirror.{Mirror}
use Rattle.type_layers.specs.Layers as layers
use Rattle.type_layers.specs.Layers.{mirror_of}
use Rattle.name_resolve.specs.Ways.{node_at, type_at}
use Rattle.name_resolve.specs.Finds.{Find, Finds}
use Rattle.name_resolve.specs.Supertypes.{Supertype, Written, Implied, is_object, written_or_object, superclass_in, interfaces_in}
use Rattle.name_resolve.specs.Meaning.{Scope, Within, Header, scope_at, tops_of, meaning, qualifier_meaning, found, qualifier}
use Rattle.name_resolve.specs.Mirrors.{Meant, look_at, ref_of, found_mirror, type_meaning, implied_arguments, class_mirror, supertype_mirror, first_or_nothing, superclass_of, superclass, interfaces_of, interfaces}
use Rattle.type_resolve.specs.Scopes.{find_in, or_stub}
use Rattle.type_relations.specs.Boxed.{box_of}
use Rattle.type_relations.specs.Named.{named_in, object_at}
use Rattle.reach_map.specs.Chains.{of_option, type_chains, unit_chains}
use Rattle.reach_map.specs.Candidates.{implied_names}
use Rattle.reach_map.specs.ClosedCuts.{NameSet, cut, IsWritten}
use Rattle.reach_map.proofs.Cuts.{Lies, SameTop, SameName, stub_same, names_same}
use Rattle.decl_elements.proofs.Everywhere.{each_to, each_map, each_contained}
use Rattle.reach_map.proofs.SameMirrors.{SameAt, same_mirror}
use Rattle.reach_map.proofs.WrittenChains.{OfHeader, of_superclass, of_interface_chains, in_type_at}
use Rattle.closed_cuts.specs.Kept.{IfAny}
use Rattle.closed_cuts.specs.CutElements.{HasUnit, LiesIn, IsRooted}
use Rattle.closed_cuts.specs.NodeTexts.{node_texts, IsWrittenIn}
use Rattle.closed_cuts.proofs.Keeping.{if_any, kept, moved, map-facts}
use Rattle.closed_cuts.proofs.PartsWithin.{closed_up}
use Rattle.closed_cuts.proofs.GoodMeanings.{FindsHave, HaveAt, found-good, mirror-good}
use Rattle.closed_cuts.proofs.WrittenTexts.{all-written}
use Rattle.closed_cuts.proofs.AgreeingReads.{Good, AllGood, SameMirror, SameMirrors, SameText, SameUnit, SameReads}
use Rattle.closed_cuts.proofs.CutNames.{implied_same, lies-has, finds-have, held, Stands, stands}

module _ (table : TypeTable) (names : NameSet) (rooted : IsRooted table names) where
  abbrev other : TypeTable
  other = cut table names

  abbrev Has : List ℕ → Type 0
  Has = HasUnit (cut table names)

  abbrev P : ElementRef → Type 0
  P = LiesIn table names

  abbrev G : Mirror → Type 0
  G = Good table (cut table names) (HasUnit (cut table names))

  abbrev Gs : List Mirror → Type 0
  Gs = AllGood table (cut table names) (HasUnit (cut table names))

  abbrev SameOne : Mirror → Mirror → Type 0
  SameOne = SameMirror table (cut table names) (HasUnit (cut table names))

  abbrev SameAll : List Mirror → List Mirror → Type 0
  SameAll = SameMirrors table (cut table names) (HasUnit (cut table names))

  -- ---- finds as mirrors

  top_kept : (part : Part) (name text : List ℕ) (arguments : List Mirror) → Gs arguments → SameTop table names part name
      → SameOne (found_mirror (tops_of table part name) text None arguments) (found_mirror (tops_of other part name) text None arguments)
  top_kept part name text arguments g s = record {
    equal = ap (λ (fs : Finds). found_mirror fs text None arguments) s.equal;
    good = found-good P (tops_of table part name) (finds-have table names rooted.is_table (tops_of table part name) s.good) text None tt arguments g;
  }

  named_kept : (part : Part) (name : List ℕ) → SameTop table names part name → SameOne (named_in table part name) (named_in other part name)
  unfolding named_in
  named_kept part name s = top_kept part name name [] tt s

  -- ---- in a scope of a unit of the cut

  module _ (scope : Scope) (l : Lies table names (scope_at scope).part (scope_at scope).unit) where
    -- of a chain: its fronts mean the same, and what they mean lies in the cut
    abbrev pub ChainKept : List (List ℕ) → Type 0
    ChainKept chain = SameAt (look_at table scope) (look_at other scope) chain × HaveAt P (look_at table scope) chain

    pub chain_kept : (chain : List (List ℕ)) → ((front : ℕ) → SameName table names rooted.closed scope (take front chain)) → ChainKept chain
    chain_kept chain all = (
      λ front. ((all front).whole.equal, (all front).front.equal),
      λ front. (finds-have table names rooted.is_table _ (all front).whole.good, finds-have table names rooted.is_table _ (all front).front.good),
    )

    pub chains_kept : AllByRecursion ChainKept (unit_chains (scope_at scope).unit)
    chains_kept = each_to _ ChainKept chain_kept (unit_chains (scope_at scope).unit) (names_same table names rooted.closed scope l)

    pub text_kept : (text : TypeText) → AllByRecursion ChainKept (type_chains text) → SameOne (type_meaning table scope text) (type_meaning other scope text)
    unfolding type_meaning
    text_kept text a = record {
      equal = ap (λ (m : Meant). m.mirror) (same_mirror (look_at table scope) (look_at other scope) text (each_to ChainKept _ (λ chain k. k.0) (type_chains text) a));
      good = mirror-good P (look_at table scope) text (each_to ChainKept _ (λ chain k. k.1) (type_chains text) a);
    }

    pub no_chain : ChainKept []
    unfolding meaning qualifier_meaning found qualifier
    no_chain = (λ front. nothing front, λ front. none front)
      where
        nothing : (front : ℕ) → (meaning table scope (take front []) ≡ meaning other scope (take front [])) × (qualifier_meaning table scope (take front []) ≡ qualifier_meaning other scope (take front []))
        nothing zero = (refl, refl)
        nothing (suc front) = (refl, refl)

        none : (front : ℕ) → FindsHave P (meaning table scope (take front [])) × FindsHave P (qualifier_meaning table scope (take front []))
        none zero = (tt, tt)
        none (suc front) = (tt, tt)

  -- ---- supertypes

  module _ (f : Find) (l : Lies table names f.part f.unit) where
    abbrev C : List (List ℕ) → Type 0
    C = ChainKept (Header f) l

    abbrev SupertypeKept : Supertype → Type 0
    SupertypeKept s = SameOne (supertype_mirror table f s) (supertype_mirror other f s)

    written_kept : (text : TypeText) → AllByRecursion C (type_chains text) → SupertypeKept (Written text)
    written_kept text a = text_kept (Header f) l text a

    own_good : G (class_mirror (ref_of f) None [])
    unfolding mirror_of
    own_good = closed_up P (layers.Declared (ref_of f) None []) (lies-has table names rooted.is_table f.part f.unit l, (tt, tt))

    arguments_good : (b : Bool) → Gs (if b then class_mirror (ref_of f) None [] ∷ [] else [])
    arguments_good true = (own_good, tt)
    arguments_good false = tt

    implied_kept : (name : List ℕ) → SameTop table names f.part name → SupertypeKept (Implied name)
    implied_kept name s = top_kept f.part name name (implied_arguments f name) (arguments_good (bytes_eq name (codes "java.lang.Enum"))) s

    implied : AllByRecursion (SameTop table names f.part) implied_names
    implied = implied_same table names rooted.closed f.part f.unit l

    of_written : (t : Option TypeText) → AllByRecursion C (of_option type_chains t) → AllByRecursion SupertypeKept (written_or_object t)
    of_written None a = (implied_kept (codes "java.lang.Object") implied.0, tt)
    of_written (Some text) a = (written_kept text a, tt)

    of_class : (of_object : Bool) (k : TypeKind) (d : TypeDecl) → OfHeader C d → AllByRecursion SupertypeKept (superclass_in of_object k d)
    of_class true kind.Class d a = tt
    of_class false kind.Class d a = of_written d.superclass (of_superclass C (no_chain (Header f) l) d a)
    of_class b kind.Enum d a = (implied_kept (codes "java.lang.Enum") implied.1.0, tt)
    of_class b kind.AnnotationType d a = tt
    of_class b kind.Interface d a = tt

    of_texts : (d : TypeDecl) → OfHeader C d → AllByRecursion SupertypeKept (map Written d.interfaces)
    of_texts d a = each_map SupertypeKept Written d.interfaces (each_to _ _ written_kept d.interfaces (of_interface_chains C (no_chain (Header f) l) d a))

    of_interfaces : (k : TypeKind) (d : TypeDecl) → OfHeader C d → AllByRecursion SupertypeKept (interfaces_in k d)
    of_interfaces kind.Class d a = of_texts d a
    of_interfaces kind.Enum d a = of_texts d a
    of_interfaces kind.AnnotationType d a = (implied_kept (codes "java.lang.annotation.Annotation") implied.1.1.0, tt)
    of_interfaces kind.Interface d a = of_texts d a

    nothing_kept : SameOne (first_or_nothing []) (first_or_nothing [])
    unfolding mirror_of
    nothing_kept = kept G (first_or_nothing []) (closed_up P layers.Nothing tt)

    first_good : (ms : List Mirror) → Gs ms → G (first_or_nothing ms)
    first_good [] g = nothing_kept.good
    first_good (m ∷ ms) g = g.0

    first_kept : (list : List Supertype) → AllByRecursion SupertypeKept list
        → SameOne (first_or_nothing (map (supertype_mirror table f) list)) (first_or_nothing (map (supertype_mirror other f) list))
    first_kept list a =
        let k = map-facts G (supertype_mirror table f) (supertype_mirror other f) list a in
        record { equal = ap first_or_nothing k.equal; good = first_good (map (supertype_mirror table f) list) k.good }

    abbrev InHeader : Option TypeDecl → Type 0
    InHeader d = IfAny (OfHeader C) d

    superclass_by : (d : Option TypeDecl) → InHeader d → SameOne (superclass_of table f d) (superclass_of other f d)
    superclass_by None a = nothing_kept
    superclass_by (Some d) a = first_kept (superclass_in (is_object f) d.kind d) (of_class (is_object f) d.kind d a)

    interfaces_by : (d : Option TypeDecl) → InHeader d → SameAll (interfaces_of table f d) (interfaces_of other f d)
    interfaces_by None a = kept Gs [] tt
    interfaces_by (Some d) a = map-facts G (supertype_mirror table f) (supertype_mirror other f) (interfaces_in d.kind d) (of_interfaces d.kind d a)

    in_header : InHeader (type_at f.unit f.path)
    in_header = if_any _ (type_at f.unit f.path) (in_type_at C (no_chain (Header f) l) f.unit (chains_kept (Header f) l) f.path)

    pub superclass_kept : SameOne (superclass table f) (superclass other f)
    unfolding superclass
    superclass_kept = superclass_by (type_at f.unit f.path) in_header

    pub interfaces_kept : SameAll (interfaces table f) (interfaces other f)
    unfolding interfaces
    interfaces_kept = interfaces_by (type_at f.unit f.path) in_header

  -- ---- by an element

  pub stands_at : (at : ElementRef) → P at → Stands table names at.unit
  stands_at at p = stands table names rooted.is_table at.unit p

  abbrev pub find_at : (at : ElementRef) → P at → Find
  find_at at p = record { part = (stands_at at p).part; unit = (stands_at at p).unit; path = at.path }

  pub found_here : (t : TypeTable) (at : ElementRef) (part : Part) (u : UnitText) → part_of t at.unit ≡ Some part → unit_of t at.unit ≡ Some u
      → find_in t at ≡ record { part = part; unit = u; path = at.path }
  found_here t at part u e e' = held t at u e' ∙ ap (λ (o : Option Part). find_of o) e
    where
      find_of : Option Part → Find
      find_of o = record { part = or_stub o; unit = u; path = at.path }

  pub finds_table : (at : ElementRef) (p : P at) → find_in table at ≡ find_at at p
  finds_table at p = let s = stands_at at p in found_here table at s.part s.unit s.part_is s.unit_is

  pub finds_cut : (at : ElementRef) (p : P at) → find_in other at ≡ find_at at p
  finds_cut at p = let s = stands_at at p in found_here other at s.part s.unit s.part_stays s.unit_stays

  superclasses_read : (at : ElementRef) → P at → SameOne (superclass table (find_in table at)) (superclass other (find_in other at))
  superclasses_read at p =
      moved G _ _ _ _ (superclass_kept (find_at at p) (stands_at at p).lies) (ap (superclass table) (finds_table at p)) (ap (superclass other) (finds_cut at p))

  interfaces_read : (at : ElementRef) → P at → SameAll (interfaces table (find_in table at)) (interfaces other (find_in other at))
  interfaces_read at p =
      moved Gs _ _ _ _ (interfaces_kept (find_at at p) (stands_at at p).lies) (ap (interfaces table) (finds_table at p)) (ap (interfaces other) (finds_cut at p))

  text_read : (at : ElementRef) (p : P at) (text : TypeText) → IsWritten (stands_at at p).unit text → SameText table other Has at text
  text_read at p text w =
      let s = stands_at at p in
      let scope : Scope = Within (find_at at p) in
      moved G _ _ _ _ (text_kept scope s.lies text (each_contained (ChainKept scope s.lies) (unit_chains s.unit) (type_chains text) (chains_kept scope s.lies) w))
      (ap (λ (f : Find). type_meaning table (Within f) text) (finds_table at p)) (ap (λ (f : Find). type_meaning other (Within f) text) (finds_cut at p))

  texts_of_some : (at : ElementRef) (p : P at) (o : Option Node) → IfAny (IsWrittenIn (stands_at at p).unit) o → IfAny (λ node. AllByRecursion (SameText table other Has at) (node_texts node)) o
  texts_of_some at p None w = tt
  texts_of_some at p (Some node) w = each_to (IsWritten (stands_at at p).unit) (SameText table other Has at) (text_read at p) (node_texts node) w.texts

  node_is : (at : ElementRef) (p : P at) → node_at (stands_at at p).unit at.path ≡ elements.node_at table at
  unfolding elements.node_at node_at
  node_is at p = ap (λ (o : Option UnitText). node_from table o at.unit at.path) (sym (stands_at at p).unit_is)

  texts_read : (at : ElementRef) → P at → IfAny (λ node. AllByRecursion (SameText table other Has at) (node_texts node)) (elements.node_at table at)
  texts_read at p =
      subst (IfAny (λ node. AllByRecursion (SameText table other Has at) (node_texts node))) (node_is at p)
      (texts_of_some at p (node_at (stands_at at p).unit at.path) (all-written (stands_at at p).unit at.path))

  object_read : (at : ElementRef) → P at → SameOne (object_at table at) (object_at other at)
  object_read at p =
      let s = stands_at at p in
      moved G _ _ _ _ (named_kept s.part (codes "java.lang.Object") (implied_same table names rooted.closed s.part s.unit s.lies).0)
      (ap (λ (o : Option Part). named_in table (or_stub o) (codes "java.lang.Object")) s.part_is)
      (ap (λ (o : Option Part). named_in other (or_stub o) (codes "java.lang.Object")) s.part_stays)

  -- ---- names that are implied, by a source of the set

  implied_here : AllByRecursion (SameTop table names Source) implied_names
  implied_here = implied_same table names rooted.closed Source rooted.unit (rooted.root, rooted.in_set, rooted.is_source)

  boxes_read : (k : PrimitiveKind) → SameOne (box_of table k) (box_of other k)
  boxes_read primitive.Boolean = named_kept Source _ implied_here.1.1.1.1.1.1.0
  boxes_read primitive.Byte = named_kept Source _ implied_here.1.1.1.1.1.1.1.0
  boxes_read primitive.Short = named_kept Source _ implied_here.1.1.1.1.1.1.1.1.0
  boxes_read primitive.Int = named_kept Source _ implied_here.1.1.1.1.1.1.1.1.1.0
  boxes_read primitive.Long = named_kept Source _ implied_here.1.1.1.1.1.1.1.1.1.1.0
  boxes_read primitive.Char = named_kept Source _ implied_here.1.1.1.1.1.1.1.1.1.1.1.0
  boxes_read primitive.Float = named_kept Source _ implied_here.1.1.1.1.1.1.1.1.1.1.1.1.0
  boxes_read primitive.Double = named_kept Source _ implied_here.1.1.1.1.1.1.1.1.1.1.1.1.1.0

  units_read : (name : List ℕ) → Has name → SameUnit table other Has name
  units_read name q = let s = stands table names rooted.is_table name q in record { unit = s.unit; one_has = s.unit_is; other_has = s.unit_stays }

  pub cut_reads : SameReads table (cut table names) (HasUnit (cut table names))
  cut_reads = record {
    units = units_read;
    texts = texts_read;
    superclasses = superclasses_read;
    interfaces = interfaces_read;
    object_at = object_read;
    string = named_kept Stub (codes "java.lang.String") (stub_same table names (codes "java.lang.String"));
    object = named_kept Source (codes "java.lang.Object") implied_here.0;
    cloneable = named_kept Source (codes "java.lang.Cloneable") implied_here.1.1.1.1.0;
    serializable = named_kept Source (codes "java.io.Serializable") implied_here.1.1.1.1.1.0;
    boxes = boxes_read;
  }
