-- The law on names over closed cuts.
use Rattle.std.proofs.Common.{ℕ, Bool, true, false, List, [], ◌∷◌, length, take, take_all, Option, None, Some, sym, ap, subst, ◌∙◌, arith}
use Rattle.std.specs.List.{AllByRecursion, Contains}
use Rattle.apt_base.specs.Identifiers.{parts}
use Rattle.apt_base.specs.declared.element.ElementRef.{ElementRef}
use Rattle.decl_tree.specs.declared.declaration.TypeKind.{TypeKind}
use Rattle.decl_tree.specs.declared.declaration.TypeKind.TheVariants as kind
use Rattle.decl_tree.specs.declared.declaration.TypeDecl.{TypeDecl}
use Rattle.decl_tree.specs.declared.type_text.TypeText.{TypeText}
use Rattle.element_table.specs.TypeTable.{TypeTable}
use Rattle.name_resolve.specs.Annotations.{if_annotation, annotation_of, found_annotation, annotation_meaning}
use Rattle.name_resolve.specs.Finds.{Find, Finds, Nothing, One, Several}
use Rattle.name_resolve.specs.Meaning.{Scope, scope_of, scope_at, meaning, tops_of}
use Rattle.name_resolve.specs.Mirrors.{ref_of}
use Rattle.name_resolve.specs.Ways.{type_at}
use Rattle.type_resolve.specs.Scopes.{find_in}
use Rattle.reach_map.specs.Chains.{type_chains, unit_chains}
use Rattle.reach_map.specs.Candidates.{implied_names}
use Rattle.reach_map.specs.ClosedCuts.{NameSet, cut, IsWritten}
use Rattle.reach_map.proofs.Cuts.{Lies, GoodFinds, SameFinds, SameName, SameTop, names_same, members_same}
use Rattle.decl_elements.proofs.Everywhere.{each_to, each_both, each_contained}
use Rattle.closed_cuts.specs.CutElements.{HasUnit, LiesIn, IsRooted}
use Rattle.closed_cuts.specs.Kept.{Kept, IfAny}
use Rattle.closed_cuts.specs.TypeLaws.{Within}
use Rattle.closed_cuts.specs.NameLaws as laws
use Rattle.closed_cuts.specs.NameLaws.{FindsLie, ScopeStays, PlaceStays, NamesStay, AllNamesStay, AllNamesAgree}
use Rattle.closed_cuts.proofs.AgreeingCuts.{joined, one_cut}
use Rattle.closed_cuts.proofs.CutNames.{imports_same, import_types_same, implied_same, lies-has, lies-placed}
use Rattle.closed_cuts.proofs.CutReads.{ChainKept, chain_kept, text_kept, found_here, stands_at, find_at, finds_table, finds_cut}

module _ (table : TypeTable) (names : NameSet) (rooted : IsRooted table names) where
  abbrev other : TypeTable
  other = cut table names

  found_kept : (fs gs : Finds) → SameFinds table names fs gs → laws.SameFinds table (cut table names) (HasUnit (cut table names)) fs gs
  found_kept fs gs s = record { equal = s.equal; good = at fs s.good }
    where
      at : (fs : Finds) → GoodFinds table names fs → FindsLie table (cut table names) (HasUnit (cut table names)) fs
      at Nothing g = tt
      at (One f) l =
          let placed = lies-placed table names rooted.is_table f.part f.unit l in
          record { unit = lies-has table names rooted.is_table f.part f.unit l; is_there = found_here table names rooted table (ref_of f) f.part f.unit placed.0 placed.1 }
      at Several g = tt

  kind_lies : (k : TypeKind) (at : ElementRef) → LiesIn table names at → IfAny (LiesIn table names) (if_annotation k at)
  kind_lies kind.AnnotationType at l = l
  kind_lies kind.Class at l = tt
  kind_lies kind.Enum at l = tt
  kind_lies kind.Interface at l = tt

  of_lies : (d : Option TypeDecl) (at : ElementRef) → LiesIn table names at → IfAny (LiesIn table names) (annotation_of d at)
  of_lies None at l = tt
  of_lies (Some d) at l = kind_lies d.kind at l

  annotation_lies : (fs : Finds) → FindsLie table (cut table names) (HasUnit (cut table names)) fs → IfAny (LiesIn table names) (found_annotation fs)
  annotation_lies Nothing g = tt
  annotation_lies (One f) g = of_lies (type_at f.unit f.path) (ref_of f) g.unit
  annotation_lies Several g = tt

  whole_at : (scope : Scope) (l : Lies table names (scope_at scope).part (scope_at scope).unit) (name : List ℕ) → Contains (unit_chains (scope_at scope).unit) (parts name)
      → laws.SameFinds table (cut table names) (HasUnit (cut table names)) (meaning table scope (parts name)) (meaning other scope (parts name))
  whole_at scope l name written =
      let W : List (List ℕ) → Type 0 = λ chain. laws.SameFinds table (cut table names) (HasUnit (cut table names)) (meaning table scope chain) (meaning other scope chain) in
      let S : List (List ℕ) → Type 0 = λ chain. (front : ℕ) → SameName table names rooted.closed scope (take front chain) in
      let all = each_contained S (unit_chains (scope_at scope).unit) (parts name ∷ []) (names_same table names rooted.closed scope l) (written, tt) in
      subst W (take_all (length (parts name)) (parts name) (omega arith)) (found_kept _ _ (all.0 (length (parts name))).whole)

  annotation_kept : (scope : Scope) (l : Lies table names (scope_at scope).part (scope_at scope).unit) (name : List ℕ) → Contains (unit_chains (scope_at scope).unit) (parts name)
      → Kept (IfAny (LiesIn table names)) (annotation_meaning table scope name) (annotation_meaning other scope name)
  unfolding annotation_meaning
  annotation_kept scope l name written =
      let k = whole_at scope l name written in
      record { equal = ap found_annotation k.equal; good = annotation_lies (meaning table scope (parts name)) k.good }

  written_chains : (scope : Scope) (l : Lies table names (scope_at scope).part (scope_at scope).unit) (text : TypeText) → IsWritten (scope_at scope).unit text
      → AllByRecursion (ChainKept table names rooted scope l) (type_chains text)
  written_chains scope l text written =
      each_contained (ChainKept table names rooted scope l) (unit_chains (scope_at scope).unit) (type_chains text)
      (each_to _ (ChainKept table names rooted scope l) (chain_kept table names rooted scope l) (unit_chains (scope_at scope).unit) (names_same table names rooted.closed scope l)) written

  in_scope : (f : Find) → Lies table names f.part f.unit → (header : Bool) → ScopeStays table (cut table names) (HasUnit (cut table names)) f header
  in_scope f l true = record {
    wholes = each_to _ _ (λ chain s front. found_kept _ _ (s front).whole) (unit_chains f.unit) (names_same table names rooted.closed (scope_of true f) l);
    fronts = each_to _ _ (λ chain s front. found_kept _ _ (s front).front) (unit_chains f.unit) (names_same table names rooted.closed (scope_of true f) l);
    types = λ text written. text_kept table names rooted (scope_of true f) l text (written_chains (scope_of true f) l text written);
    annotations = annotation_kept (scope_of true f) l;
  }
  in_scope f l false = record {
    wholes = each_to _ _ (λ chain s front. found_kept _ _ (s front).whole) (unit_chains f.unit) (names_same table names rooted.closed (scope_of false f) l);
    fronts = each_to _ _ (λ chain s front. found_kept _ _ (s front).front) (unit_chains f.unit) (names_same table names rooted.closed (scope_of false f) l);
    types = λ text written. text_kept table names rooted (scope_of false f) l text (written_chains (scope_of false f) l text written);
    annotations = annotation_kept (scope_of false f) l;
  }

  in_place : (f : Find) → Lies table names f.part f.unit → PlaceStays table (cut table names) (HasUnit (cut table names)) f
  in_place f l = record {
    scopes = in_scope f l;
    members = λ name. found_kept _ _ (members_same table names rooted.closed f l name);
    imports = each_to _ _ (λ i s. found_kept _ _ s) f.unit.imports (imports_same table names rooted.closed f.part f.unit l);
    import_types = each_to _ _ (λ i s. found_kept _ _ s) f.unit.imports (import_types_same table names rooted.closed f.part f.unit l);
    implied = each_to (SameTop table names f.part) _ (λ name s. found_kept _ _ s) implied_names (implied_same table names rooted.closed f.part f.unit l);
  }

pub names-stay : AllNamesStay
names-stay table names rooted at l =
    let here = finds_table table names rooted at l in
    record {
      place = here ∙ sym (finds_cut table names rooted at l);
      there =
          subst (λ (f : Find). PlaceStays table (cut table names) (HasUnit (cut table names)) f) (sym here)
          (in_place table names rooted (find_at table names rooted at l) (stands_at table names rooted at l).lies);
    }

-- ---- two tables with one cut

module _ (one other third : TypeTable) (Has : List ℕ → Type 0) (f : Find) where
  join_finds : (x y z : Finds) → Kept (FindsLie one third Has) x z → Kept (FindsLie other third Has) y z → Kept (FindsLie one other Has) x y
  join_finds x y z k l = record { equal = k.equal ∙ sym l.equal; good = lies x k.good }
    where
      lies : (x : Finds) → FindsLie one third Has x → FindsLie one other Has x
      lies Nothing g = tt
      lies (One f) g = record { unit = g.unit; is_there = g.is_there }
      lies Several g = tt

  join_scope : (header : Bool) → ScopeStays one third Has f header → ScopeStays other third Has f header → ScopeStays one other Has f header
  join_scope header r s = record {
    wholes = each_both _ _ _ (λ chain a b front. join_finds _ _ _ (a front) (b front)) (unit_chains f.unit) r.wholes s.wholes;
    fronts = each_both _ _ _ (λ chain a b front. join_finds _ _ _ (a front) (b front)) (unit_chains f.unit) r.fronts s.fronts;
    types = λ text written. joined (Within one other Has) _ _ _ (r.types text written) (s.types text written);
    annotations = λ name written. joined (IfAny (λ (at : ElementRef). Has at.unit)) _ _ _ (r.annotations name written) (s.annotations name written);
  }

  join_place : PlaceStays one third Has f → PlaceStays other third Has f → PlaceStays one other Has f
  join_place r s = record {
    scopes = λ header. join_scope header (r.scopes header) (s.scopes header);
    members = λ name. join_finds _ _ _ (r.members name) (s.members name);
    imports = each_both _ _ _ (λ i a b. join_finds _ _ _ a b) f.unit.imports r.imports s.imports;
    import_types = each_both _ _ _ (λ i a b. join_finds _ _ _ a b) f.unit.imports r.import_types s.import_types;
    implied =
        each_both
        (λ name. Kept (FindsLie one third Has) (tops_of one f.part name) (tops_of third f.part name))
        (λ name. Kept (FindsLie other third Has) (tops_of other f.part name) (tops_of third f.part name))
        (λ name. Kept (FindsLie one other Has) (tops_of one f.part name) (tops_of other f.part name))
        (λ name a b. join_finds (tops_of one f.part name) (tops_of other f.part name) (tops_of third f.part name) a b) implied_names r.implied s.implied;
  }

join_names : (one other third : TypeTable) (Has : List ℕ → Type 0) (at : ElementRef) → NamesStay one third Has at → NamesStay other third Has at → NamesStay one other Has at
join_names one other third Has at r s =
    let place = r.place ∙ sym s.place in
    record { place = place; there = join_place one other third Has (find_in one at) r.there (subst (λ (f : Find). PlaceStays other third Has f) (sym place) s.there) }

pub names-agree : AllNamesAgree
names-agree one other names same at l =
    let cuts = one_cut one other names same in
    join_names one other (cut one names) (HasUnit (cut one names)) at (names-stay one names same.one_rooted at l)
    (subst (λ (t : TypeTable). NamesStay other t (HasUnit t) at) cuts
    (names-stay other names same.other_rooted at (subst (λ (t : TypeTable). HasUnit t at.unit) (sym cuts) l)))
