-- The cut to a closed set beyond names: what imports and implied names mean over it, which units it has, and where each of them stands.
use Rattle.std.proofs.Common.{◌++◌, ◌≡◌, ℕ, Bool, true, false, cond, T, List, Option, None, Some, IfSome, is_some, ◌||◌, refl, sym, ap, subst, ◌∙◌}
use Rattle.std.specs.Option.{option_or}
use Rattle.std.specs.List.{AllByRecursion, flat_map}
use Rattle.std.specs.FinMap as fin
use Rattle.apt_base.specs.Identifiers.{parts}
use Rattle.apt_base.specs.declared.element.ElementRef.{ElementRef}
use Rattle.decl_tree.specs.declared.compilation.UnitText.{UnitText}
use Rattle.element_table.specs.declared.part.Part.{Part}
use Rattle.element_table.specs.declared.part.Part.TheVariants.{Source, Stub}
use Rattle.element_table.specs.TypeTable.{TypeTable, unit_of, part_of, has_unit, IsTable}
use Rattle.element_table.specs.UnitNames.{unit_name}
use Rattle.name_resolve.specs.Finds.{Finds, Nothing, One, Several}
use Rattle.name_resolve.specs.Meaning.{imported, tops_of, but_last}
use Rattle.name_resolve.specs.QualifiedNames.{prefixes}
use Rattle.name_resolve.proofs.Agreement.{imported-same}
use Rattle.name_resolve.proofs.TopTypes.{part_by}
use Rattle.type_resolve.specs.Scopes.{find_from, find_in, or_stub}
use Rattle.reach_map.specs.Chains.{unit_chains}
use Rattle.reach_map.specs.Candidates.{prefix_names, chain_candidates, implied_names, import_prefixes, prefixes_of_all, candidates}
use Rattle.reach_map.specs.ClosedCuts.{cut, IsClosedSet}
use Rattle.reach_map.proofs.Asked.{front, of_implied}
use Rattle.reach_map.proofs.Cuts.{Lies, GoodFinds, SameFinds, SameTop, candidates_same, get_cut, unit_of-cut}
use Rattle.decl_elements.proofs.Everywhere.{each_left, each_right, each_of_map, each_of_flat_map, each_to}
use Rattle.closed_cuts.specs.CutElements.{HasUnit, LiesIn}
use Rattle.closed_cuts.proofs.GoodMeanings.{FindsHave}

-- ---- a unit of a table has the name that it stands under

name_is : (o : Option UnitText) (name : List ℕ) (u : UnitText) → o ≡ Some u → IfSome o (λ unit. unit_name unit ≡ name) → unit_name u ≡ name
name_is None name u e n = absurd (cc)
name_is (Some v) name u e n = let same : v ≡ u = cc in ap unit_name (sym same) ∙ n

name_of : (source stub : Option UnitText) (name : List ℕ) (u : UnitText) → option_or source stub ≡ Some u
    → IfSome source (λ unit. unit_name unit ≡ name) → IfSome stub (λ unit. unit_name unit ≡ name) → unit_name u ≡ name
name_of (Some s) stub name u e n m = name_is (Some s) name u e n
name_of None stub name u e n m = name_is stub name u e m

pub unit-named : (table : TypeTable) → IsTable table → (name : List ℕ) (u : UnitText) → unit_of table name ≡ Some u → unit_name u ≡ name
unit-named table t name u e = name_of (fin.get table.source name) (fin.get table.stub name) name u e (t.sources_named name) (t.stubs_named name)

-- an element of it, by that unit
pub held : (table : TypeTable) (at : ElementRef) (u : UnitText) → unit_of table at.unit ≡ Some u
    → find_in table at ≡ record { part = or_stub (part_of table at.unit); unit = u; path = at.path }
unfolding find_in
held table at u e = ap (λ (o : Option UnitText). find_from table o at) e

-- ---- a unit of the cut, by whether the name is in the set and what each part has

has : Bool → Option UnitText → Option UnitText → Bool
has b source stub = is_some (cond b source None) || is_some stub

module _ (table : TypeTable) (names : List ℕ → Bool) where
  module _ (closed : IsClosedSet table names) where
    -- the prefixes of what an import names
    import_names : (part : Part) (u : UnitText) → Lies table names part u
        → AllByRecursion (λ i. AllByRecursion (λ p. SameTop table names part p.joined) (prefixes (parts i.name))) u.imports
    unfolding candidates
    import_names part u l =
        let S : List ℕ → Type 0 = SameTop table names part in
        let chains : List (List ℕ) = flat_map (chain_candidates u) (unit_chains u) in
        let all : AllByRecursion S (candidates u) = candidates_same table names closed part u l in
        each_to (λ i. AllByRecursion S (prefix_names (parts i.name))) _ (λ i a. each_of_map S (λ p. p.joined) (prefixes (parts i.name)) a) u.imports
        (each_of_flat_map S (λ i. prefix_names (parts i.name)) u.imports
        (each_right S chains (import_prefixes u.imports) (each_left S (chains ++ import_prefixes u.imports) (prefixes_of_all implied_names) all.1.1)))

    -- what an import names
    pub imports_same : (part : Part) (u : UnitText) → Lies table names part u
        → AllByRecursion (λ i. SameFinds table names (imported (tops_of table) part (parts i.name)) (imported (tops_of (cut table names)) part (parts i.name))) u.imports
    imports_same part u l =
        each_to _ _
        (λ i a. imported-same (tops_of table) (tops_of (cut table names)) (Lies table names) part (parts i.name) a) u.imports (import_names part u l)

    -- what the names in front of its last one mean
    pub import_types_same : (part : Part) (u : UnitText) → Lies table names part u
        → AllByRecursion
        (λ i. SameFinds table names (imported (tops_of table) part (but_last (parts i.name))) (imported (tops_of (cut table names)) part (but_last (parts i.name)))) u.imports
    import_types_same part u l =
        each_to _ _
        (λ i a.
        imported-same (tops_of table) (tops_of (cut table names)) (Lies table names) part (but_last (parts i.name)) (front (SameTop table names part) (parts i.name) a))
        u.imports (import_names part u l)

    -- each implied name
    pub implied_same : (part : Part) (u : UnitText) → Lies table names part u → AllByRecursion (SameTop table names part) implied_names
    implied_same part u l = of_implied (SameTop table names part) u (candidates_same table names closed part u l)

  -- ---- the cut has the units that lie in it

  cut_has : (name : List ℕ) → has_unit (cut table names) name ≡ has (names name) (fin.get table.source name) (fin.get table.stub name)
  unfolding cut has
  cut_has name = ap (λ (o : Option UnitText). is_some o || is_some (fin.get table.stub name)) (get_cut table names name)

  has_source : (b : Bool) → T b → (source stub : Option UnitText) (u : UnitText) → source ≡ Some u → has b source stub ≡ true
  unfolding has
  has_source true t source stub u e = rw e refl
  has_source false t source stub u e = absurd t

  has_stub : (b c : Bool) → (b || true) ≡ true
  has_stub true c = refl
  has_stub false c = refl

  stub_there : (b : Bool) (source stub : Option UnitText) (u : UnitText) → stub ≡ Some u → has b source stub ≡ true
  unfolding has
  stub_there b source stub u e = ap (λ (o : Option UnitText). is_some (cond b source None) || is_some o) e ∙ has_stub (is_some (cond b source None)) b

  pub lies-has : IsTable table → (part : Part) (u : UnitText) → Lies table names part u → HasUnit (cut table names) (unit_name u)
  lies-has t Source u l =
      let e = name_is (fin.get table.source l.0) l.0 u l.2 (t.sources_named l.0) in
      subst (HasUnit (cut table names)) (sym e) (cut_has l.0 ∙ has_source (names l.0) l.1 (fin.get table.source l.0) (fin.get table.stub l.0) u l.2)
  lies-has t Stub u l =
      let e = name_is (fin.get table.stub l.0) l.0 u l.1 (t.stubs_named l.0) in
      subst (HasUnit (cut table names)) (sym e) (cut_has l.0 ∙ stub_there (names l.0) (fin.get table.source l.0) (fin.get table.stub l.0) u l.1)

  -- it stands under its own name in its part
  abbrev pub IsPlacedIn : Part → UnitText → List ℕ → Type 0
  IsPlacedIn part u name = (part_of table name ≡ Some part) × (unit_of table name ≡ Some u)

  source_placed : (source stub : Option UnitText) (u : UnitText) → source ≡ Some u → (part_by source stub ≡ Some Source) × (option_or source stub ≡ Some u)
  source_placed source stub u e = (rw e refl, rw e refl)

  stub_placed : (source stub : Option UnitText) (u : UnitText) → (is_some source ≡ true → is_some stub ≡ false) → stub ≡ Some u
      → (part_by source stub ≡ Some Stub) × (option_or source stub ≡ Some u)
  stub_placed None stub u apart e = (rw e refl, e)
  stub_placed (Some s) stub u apart e = let no : is_some stub ≡ false = apart refl in let yes : is_some stub ≡ true = ap is_some e in absurd (cc)

  pub lies-placed : IsTable table → (part : Part) (u : UnitText) → Lies table names part u → IsPlacedIn part u (unit_name u)
  lies-placed t Source u l =
      subst (IsPlacedIn Source u) (sym (name_is (fin.get table.source l.0) l.0 u l.2 (t.sources_named l.0)))
      (source_placed (fin.get table.source l.0) (fin.get table.stub l.0) u l.2)
  lies-placed t Stub u l =
      subst (IsPlacedIn Stub u) (sym (name_is (fin.get table.stub l.0) l.0 u l.1 (t.stubs_named l.0)))
      (stub_placed (fin.get table.source l.0) (fin.get table.stub l.0) u (λ e. t.apart l.0 e) l.1)

  pub finds-have : IsTable table → (fs : Finds) → GoodFinds table names fs → FindsHave (LiesIn table names) fs
  finds-have t Nothing g = tt
  finds-have t (One f) g = lies-has t f.part f.unit g
  finds-have t Several g = tt

  -- ---- where a unit of the cut stands

  pub record Stands (name : List ℕ) : Type 0 where
    pub part : Part
    pub unit : UnitText
    pub lies : Lies table names part unit
    pub part_is : part_of table name ≡ Some part
    pub part_stays : part_of (cut table names) name ≡ Some part
    pub unit_is : unit_of table name ≡ Some unit
    pub unit_stays : unit_of (cut table names) name ≡ Some unit

  cut_part : (name : List ℕ) → part_of (cut table names) name ≡ part_by (cond (names name) (fin.get table.source name) None) (fin.get table.stub name)
  unfolding cut
  cut_part name = ap (λ (o : Option UnitText). part_by o (fin.get table.stub name)) (get_cut table names name)

  stands_by : (name : List ℕ) (b : Bool) → (names name ≡ b) → (source stub : Option UnitText) → fin.get table.source name ≡ source → fin.get table.stub name ≡ stub
      → (is_some source ≡ true → is_some stub ≡ false) → has b source stub ≡ true → Stands name
  unfolding has
  stands_by name true k (Some s) stub e f apart h = record {
    part = Source;
    unit = s;
    lies = (name, subst T (sym k) tt, e);
    part_is = rw e refl;
    part_stays = cut_part name ∙ rw (k, e) refl;
    unit_is = rw e refl;
    unit_stays = unit_of-cut table names name ∙ rw (k, e) refl;
  }
  stands_by name b k None (Some t) e f apart h = record {
    part = Stub;
    unit = t;
    lies = (name, f);
    part_is = rw (e, f) refl;
    part_stays = cut_part name ∙ rw (e, f) (none_part b t k);
    unit_is = rw (e, f) refl;
    unit_stays = unit_of-cut table names name ∙ rw (e, f) (none_unit b t k);
  }
    where
      none_part : (b : Bool) (t : UnitText) → names name ≡ b → part_by (cond (names name) None None) (Some t) ≡ Some Stub
      none_part true t k = rw k refl
      none_part false t k = rw k refl

      none_unit : (b : Bool) (t : UnitText) → names name ≡ b → option_or (cond (names name) None None) (Some t) ≡ Some t
      none_unit true t k = rw k refl
      none_unit false t k = rw k refl
  stands_by name true k None None e f apart h = absurd (cc)
  stands_by name false k None None e f apart h = absurd (cc)
  stands_by name false k (Some s) (Some t) e f apart h = let none : true ≡ false = apart refl in absurd (cc)
  stands_by name false k (Some s) None e f apart h = absurd (cc)

  pub stands : IsTable table → (name : List ℕ) → HasUnit (cut table names) name → Stands name
  stands t name h =
      stands_by name (names name) refl (fin.get table.source name) (fin.get table.stub name) refl refl (λ e. t.apart name e) (sym (cut_has name) ∙ h)
