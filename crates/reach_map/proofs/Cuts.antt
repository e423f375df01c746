-- The meaning of a name is the same over a table and over its cut to a closed set.
use Rattle.std.proofs.Common.{◌≡◌, ℕ, zero, suc, Bool, true, false, cond, T, List, [], ◌∷◌, length, take, take_all, Option, None, Some, is_some, refl, sym, ap, subst, ◌∙◌, arith}
use Rattle.std.specs.Option.{option_or}
use Rattle.std.specs.List.{AllByRecursion, Contains}
use Rattle.std.specs.FinMap as fin
use Rattle.apt_base.specs.Identifiers.{parts}
use Rattle.decl_tree.specs.declared.compilation.Body.{Body}
use Rattle.decl_tree.specs.declared.compilation.Body.TheVariants.{Declared, Info}
use Rattle.decl_tree.specs.declared.type_text.TypeText.{TypeText}
use Rattle.decl_tree.specs.declared.compilation.UnitText.{UnitText}
use Rattle.element_table.specs.declared.part.Part.{Part}
use Rattle.element_table.specs.declared.part.Part.TheVariants.{Source, Stub}
use Rattle.element_table.specs.TypeTable.{TypeTable, unit_of, part_of, IsTable}
use Rattle.name_resolve.specs.Finds.{Find, Finds}
use Rattle.apt_base.specs.Limits.{max_type_steps}
use Rattle.name_resolve.specs.Meaning.{Scope, Header, scope_at, qualifier, found, top_of, top_in, tops_of, members, meaning, qualifier_meaning}
use Rattle.name_resolve.specs.Annotations.{found_annotation, annotation_meaning}
use Rattle.name_resolve.specs.Mirrors.{Meant, look_at, type_meaning, superclass, interfaces}
use Rattle.name_resolve.proofs.TopTypes.{part_by}
use Rattle.name_resolve.proofs.Agreement.{Asks, Same, AreGood, SameTops, IsClosed, members-same, qualifier-same, found-same}
use Rattle.reach_map.specs.Chains.{type_chains, unit_chains}
use Rattle.reach_map.specs.Candidates.{candidates}
use Rattle.reach_map.specs.ClosedCuts.{cut, is_cut_off, IsClosedSet, IsWritten, MeansTheSame, KeepsMeanings}
use Rattle.decl_elements.proofs.Everywhere.{each, each_to, each_contained}
use Rattle.reach_map.proofs.SameMirrors.{SameNames, SameAt, same_mirror}
use Rattle.reach_map.proofs.SameSupertypes.{superclass-same, interfaces-same}
use Rattle.reach_map.proofs.WrittenChains.{in_type_at}
use Rattle.reach_map.proofs.Asked.{of_implied, chains_ask, shorter_asks, supertypes_ask}

absent_by : (b : Bool) (source stub : Option UnitText) → option_or source stub ≡ None → option_or (cond b source None) stub ≡ None
absent_by true source stub e = e
absent_by false None stub e = e
absent_by false (Some s) stub e = absurd (cc)

away_by : (b : Bool) (source stub : Option UnitText) → (is_some source ≡ true → is_some stub ≡ false) → is_cut_off b (part_by source stub) ≡ true → option_or (cond b source None) stub ≡ None
away_by true (Some s) stub apart off = absurd (cc)
away_by false (Some s) None apart off = refl
away_by false (Some s) (Some t) apart off = let none : true ≡ false = apart refl in absurd (cc)
away_by b None (Some t) apart off = absurd (cc)
away_by b None None apart off = absurd (cc)

stays_by : (b : Bool) (source stub : Option UnitText) → is_cut_off b (part_by source stub) ≡ false → option_or (cond b source None) stub ≡ option_or source stub
stays_by true source stub off = refl
stays_by false None stub off = refl
stays_by false (Some s) stub off = absurd (cc)

module _ (table : TypeTable) (names : List ℕ → Bool) where
  -- a stub of the table, or a source unit of the set
  abbrev pub Lies : Part → UnitText → Type 0
  Lies Stub u = (name : List ℕ) × (fin.get table.stub name ≡ Some u)
  Lies Source u = (name : List ℕ) × T (names name) × (fin.get table.source name ≡ Some u)

  abbrev pub GoodFinds : Finds → Type 0
  GoodFinds fs = AreGood (tops_of table) (tops_of (cut table names)) Lies fs

  abbrev pub SameFinds : Finds → Finds → Type 0
  SameFinds fs gs = Same (tops_of table) (tops_of (cut table names)) Lies fs gs

  abbrev pub SameTop : Part → List ℕ → Type 0
  SameTop part name = SameTops (tops_of table) (tops_of (cut table names)) Lies part name

  chosen : (b : Bool) → T b → (o : Option UnitText) → cond b o None ≡ o
  chosen true t o = refl
  chosen false t o = absurd t

  pub get_cut : (name : List ℕ) → fin.get (fin.retain_keys table.source names) name ≡ cond (names name) (fin.get table.source name) None
  get_cut name = fin.get-retain_keys table.source names name (λ x e. ap names (sym (fin.slice_cmp-IsAntisymmetric fin.nat_cmp-IsAntisymmetric name x e)))

  kept : (name : List ℕ) → T (names name) → fin.get (fin.retain_keys table.source names) name ≡ fin.get table.source name
  kept name k = get_cut name ∙ chosen (names name) k (fin.get table.source name)

  top_of-good : (part : Part) (u : UnitText) → Lies part u → (body : Body) → GoodFinds (top_of part u body)
  top_of-good part u l (Declared d) = l
  top_of-good part u l (Info annotations doc) = tt

  stubs-good : (name : List ℕ) (stub : Option UnitText) → fin.get table.stub name ≡ stub → GoodFinds (top_in None stub)
  stubs-good name None e = tt
  stubs-good name (Some u) e = top_of-good Stub u (name, e) u.body

  sources-good : (name : List ℕ) → T (names name) → (source : Option UnitText) → fin.get table.source name ≡ source → (stub : Option UnitText) → fin.get table.stub name ≡ stub → GoodFinds (top_in source stub)
  sources-good name k None e stub f = stubs-good name stub f
  sources-good name k (Some u) e stub f = top_of-good Source u (name, k, e) u.body

  pub source_same : (name : List ℕ) → T (names name) → SameTop Source name
  unfolding tops_of cut
  source_same name k = record {
    equal = ap (λ (o : Option UnitText). top_in o (fin.get table.stub name)) (sym (kept name k));
    good = sources-good name k (fin.get table.source name) refl (fin.get table.stub name) refl;
  }

  pub stub_same : (name : List ℕ) → SameTop Stub name
  unfolding tops_of cut
  stub_same name = record { equal = refl; good = stubs-good name (fin.get table.stub name) refl }

  module _ (closed : IsClosedSet table names) where
    pub candidates_same : (part : Part) (u : UnitText) → Lies part u → AllByRecursion (SameTop part) (candidates u)
    candidates_same Source u l = each_to _ (SameTop Source) source_same (candidates u) (closed l.0 u l.1 l.2)
    candidates_same Stub u l = each (SameTop Stub) stub_same (candidates u)

    is_closed : IsClosed (tops_of table) (tops_of (cut table names)) Lies
    is_closed f l = supertypes_ask (SameTop f.part) f (candidates_same f.part f.unit l)

    abbrev asks_at : Scope → List (List ℕ) → Type 0
    asks_at scope chain = Asks (SameTop (scope_at scope).part) (scope_at scope).unit chain

    pub members_same : (f : Find) → Lies f.part f.unit → (name : List ℕ) → SameFinds (members table f name) (members (cut table names) f name)
    unfolding members
    members_same = members-same (tops_of table) (tops_of (cut table names)) Lies is_closed max_type_steps

    -- a name, by itself and in front of another one
    pub record SameName (scope : Scope) (chain : List (List ℕ)) : Type 0 where
      pub whole : SameFinds (meaning table scope chain) (meaning (cut table names) scope chain)
      pub front : SameFinds (qualifier_meaning table scope chain) (qualifier_meaning (cut table names) scope chain)

    asked_same : (scope : Scope) → Lies (scope_at scope).part (scope_at scope).unit → (chain : List (List ℕ)) → asks_at scope chain → SameName scope chain
    unfolding meaning qualifier_meaning
    asked_same scope l chain a = record {
      whole = found-same (tops_of table) (tops_of (cut table names)) Lies (members table) (members (cut table names)) members_same scope l chain a;
      front = qualifier-same (tops_of table) (tops_of (cut table names)) Lies (members table) (members (cut table names)) members_same scope l chain a;
    }

    -- each front of each name chain that is written in a unit of the set, or in a stub
    pub names_same : (scope : Scope) → Lies (scope_at scope).part (scope_at scope).unit
        → AllByRecursion (λ chain. (front : ℕ) → SameName scope (take front chain)) (unit_chains (scope_at scope).unit)
    names_same scope l =
        each_to (asks_at scope) _ (λ chain a front. asked_same scope l (take front chain) (shorter_asks (SameTop (scope_at scope).part) (scope_at scope).unit chain front a))
        (unit_chains (scope_at scope).unit)
        (chains_ask (SameTop (scope_at scope).part) (scope_at scope).unit (candidates_same (scope_at scope).part (scope_at scope).unit l))

    looks_same : (scope : Scope) → Lies (scope_at scope).part (scope_at scope).unit
        → AllByRecursion (SameAt (look_at table scope) (look_at (cut table names) scope)) (unit_chains (scope_at scope).unit)
    looks_same scope l =
        each_to _ (SameAt (look_at table scope) (look_at (cut table names) scope)) (λ chain same front. ((same front).whole.equal, (same front).front.equal))
        (unit_chains (scope_at scope).unit) (names_same scope l)

    types_same : (scope : Scope) → Lies (scope_at scope).part (scope_at scope).unit → (text : TypeText) → IsWritten (scope_at scope).unit text
        → type_meaning table scope text ≡ type_meaning (cut table names) scope text
    unfolding type_meaning
    types_same scope l text written =
        ap (λ (m : Meant). m.mirror) (same_mirror (look_at table scope) (look_at (cut table names) scope) text
        (each_contained (SameAt (look_at table scope) (look_at (cut table names) scope)) (unit_chains (scope_at scope).unit) (type_chains text) (looks_same scope l) written))

    annotations_same : (scope : Scope) → Lies (scope_at scope).part (scope_at scope).unit → (name : List ℕ) → Contains (unit_chains (scope_at scope).unit) (parts name)
        → annotation_meaning table scope name ≡ annotation_meaning (cut table names) scope name
    unfolding annotation_meaning
    annotations_same scope l name written =
        let look = look_at table scope in
        let other = look_at (cut table names) scope in
        let same : SameAt look other (parts name) = (each_contained (SameAt look other) (unit_chains (scope_at scope).unit) (parts name ∷ []) (looks_same scope l) (written, tt)).0 in
        ap found_annotation (subst (SameNames look other) (take_all (length (parts name)) (parts name) (omega arith)) (same (length (parts name)))).0

    nothing_same : (scope : Scope) → SameAt (look_at table scope) (look_at (cut table names) scope) []
    unfolding meaning qualifier_meaning found qualifier
    nothing_same scope zero = (refl, refl)
    nothing_same scope (suc front) = (refl, refl)

    supertypes_same : (f : Find) → Lies f.part f.unit → (superclass table f ≡ superclass (cut table names) f) × (interfaces table f ≡ interfaces (cut table names) f)
    supertypes_same f l =
        let implied = of_implied (SameTop f.part) f.unit (candidates_same f.part f.unit l) in
        let header = in_type_at (SameAt (look_at table (Header f)) (look_at (cut table names) (Header f))) (nothing_same (Header f)) f.unit (looks_same (Header f) l) f.path in (
          superclass-same table (cut table names) f (nothing_same (Header f)) implied.0.equal implied.1.0.equal implied.1.1.0.equal header,
          interfaces-same table (cut table names) f (nothing_same (Header f)) implied.0.equal implied.1.0.equal implied.1.1.0.equal header,
        )

    pub meaning-cut : (scope : Scope) → Lies (scope_at scope).part (scope_at scope).unit → MeansTheSame table (cut table names) scope
    meaning-cut scope l = record {
      names = each_to _ _ (λ chain same front. (same front).whole.equal) (unit_chains (scope_at scope).unit) (names_same scope l);
      fronts = each_to _ _ (λ chain same front. (same front).front.equal) (unit_chains (scope_at scope).unit) (names_same scope l);
      types = types_same scope l;
      annotations = annotations_same scope l;
      superclass = (supertypes_same (scope_at scope) l).0;
      interfaces = (supertypes_same (scope_at scope) l).1;
    }

  -- ---- by the name of a unit

  lies_by : (name : List ℕ) (source stub : Option UnitText) → fin.get table.source name ≡ source → fin.get table.stub name ≡ stub → (part : Part) (u : UnitText)
      → part_by source stub ≡ Some part → (part ≡ Source → T (names name)) → option_or source stub ≡ Some u → Lies part u
  lies_by name (Some s) stub e f Stub u p k is = absurd (cc)
  lies_by name None (Some t) e f Stub u p k is = (name, f ∙ is)
  lies_by name None None e f Stub u p k is = absurd (cc)
  lies_by name (Some s) stub e f Source u p k is = (name, k refl, e ∙ is)
  lies_by name None (Some t) e f Source u p k is = absurd (cc)
  lies_by name None None e f Source u p k is = absurd (cc)

  is_kept : (b : Bool) (at : Option Part) → is_cut_off b at ≡ false → at ≡ Some Source → T b
  is_kept true at e is = tt
  is_kept false at e is = let off : is_cut_off false at ≡ true = ap (is_cut_off false) is in absurd (cc)

  pub keeps : (name : List ℕ) → KeepsMeanings table names name
  keeps name closed off scope is_in =
      meaning-cut closed scope
      (lies_by name (fin.get table.source name) (fin.get table.stub name) refl refl (scope_at scope).part (scope_at scope).unit is_in.part
      (λ e. is_kept (names name) (part_of table name) off (is_in.part ∙ ap Some e)) is_in.unit)

  -- ---- which units the cut has

  pub unit_of-cut : (name : List ℕ) → unit_of (cut table names) name ≡ option_or (cond (names name) (fin.get table.source name) None) (fin.get table.stub name)
  unfolding cut
  unit_of-cut name = ap (λ (o : Option UnitText). option_or o (fin.get table.stub name)) (get_cut name)

  pub absent : (name : List ℕ) → unit_of table name ≡ None → None ≡ unit_of (cut table names) name
  absent name none = sym (unit_of-cut name ∙ absent_by (names name) (fin.get table.source name) (fin.get table.stub name) none)

  pub away : (name : List ℕ) → IsTable table → is_cut_off (names name) (part_of table name) ≡ true → None ≡ unit_of (cut table names) name
  away name t off = sym (unit_of-cut name ∙ away_by (names name) (fin.get table.source name) (fin.get table.stub name) (λ e. t.apart name e) off)

  pub stays : (name : List ℕ) → is_cut_off (names name) (part_of table name) ≡ false → unit_of table name ≡ unit_of (cut table names) name
  stays name off = sym (unit_of-cut name ∙ stays_by (names name) (fin.get table.source name) (fin.get table.stub name) off)
