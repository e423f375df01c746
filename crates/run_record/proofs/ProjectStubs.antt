-- The table of a project that was read has the stubs of its key: sources leave the stubs as they are.
use Rattle.std.proofs.Common.{◌≡◌, ℕ, ◌+◌, Bool, true, false, cond, Option, Some, None, List, [], ◌∷◌, map, Result, Ok, Err, refl, sym, ap, subst, ◌∙◌}
use Rattle.apt_outside.specs.Files.{Files}
use Rattle.decl_grammar.specs.declared.written.Lines.{Lines}
use Rattle.decl_tree.specs.declared.compilation.UnitText.{UnitText}
use Rattle.element_table.specs.declared.part.Part.TheVariants.{Source, Stub}
use Rattle.element_table.specs.UnitNames.{unit_name}
use Rattle.element_table.specs.TypeCounts.{unit_types}
use Rattle.element_table.specs.TypeTable.{TypeTable, Against, IsThere, IsFull, has_unit, table_types, up_to_most, entered, counted_answer, answer_to, outcome_by, outcome_of}
use Rattle.unit_locations.specs.declared.location.UnitLocation.{UnitLocation}
use Rattle.unit_locations.specs.LocatedTable.{LocatedTable, located_by, nothing_located}
use Rattle.decl_parser.specs.Parsed.{shown_parsed}
use Rattle.tree_store.specs.declared.sources.RawSources.{RawSources}
use Rattle.record_forms.specs.declared.record.Key.{Key}
use Rattle.project_units.specs.declared.project.Project.{Project}
use Rattle.project_units.specs.Refusals.{Refusal}
use Rattle.project_units.specs.Units.{Obstacle, Duplicate, Full, first_path, with_lines, enter_by, enter_unit, enter_each, enter_units, and_then}
use Rattle.project_reading.specs.declared.sources.ReadSource.{ReadSource}
use Rattle.project_reading.specs.declared.sources.ReadSources.{ReadSources}
use Rattle.project_reading.specs.declared.sources.Tables.{Tables}
use Rattle.project_reading.specs.Configuration.{Options}
use Rattle.project_reading.specs.Project.{read_all, read_beside, read_both, entered_by, enter_next, enter_all, enter_behind, enter_both, tables_of, named, Keeps}
use Rattle.run_record.specs.Stands.{HasStubs}

-- what came first went well
pub record WentWell {A B E : Type 0} (first : Result A E) (next : A → Result B E) (value : B) : Type 0 where
  pub given : A
  pub began : first ≡ Ok given
  pub went : next given ≡ Ok value

well : {A B E : Type 0} (first : Result A E) (next : A → Result B E) (value : B) → and_then first next ≡ Ok value → WentWell first next value
well (Ok a) next value is = record { given = a; began = refl; went = is }
well (Err why) next value is = absurd cc

abbrev unwrapped : {A E : Type 0} → A → Result A E → A
unwrapped other (Ok value) = value
unwrapped other (Err why) = other

-- ---- sources leave the stubs as they are

-- where it is a table, it has the stubs of this one
abbrev HasSame : {E : Type 0} → LocatedTable → Result LocatedTable E → Type 0
HasSame table (Ok next) = next.table.stub ≡ table.table.stub
HasSame table (Err why) = Unit {0}

-- by the cases of an answer that has no name here
by_answer : {X : Type 0} (P : Result TypeTable Against → Type 0) (there : X) (counted : Option ℕ → X) (out : X → Result TypeTable Against) (next : TypeTable)
    → out there ≡ Err IsThere → ((types : ℕ) → out (counted (Some types)) ≡ Ok next) → out (counted None) ≡ Err IsFull
    → P (Err IsThere) → P (Ok next) → P (Err IsFull) → (b : Bool) (o : Option ℕ) → P (out (cond b there (counted o)))
by_answer P there counted out next one two three p q r true o = subst P (sym one) p
by_answer P there counted out next one two three p q r false (Some types) = subst P (sym (two types)) q
by_answer P there counted out next one two three p q r false None = subst P (sym three) r

unit_leaves : (unit : UnitText) (at : UnitLocation) (table : LocatedTable) (name first : List ℕ)
    → HasSame table (enter_by name first (located_by (outcome_of Source unit table.table) unit at table))
unfolding answer_to
unit_leaves unit at table name first =
    by_answer (λ outcome. HasSame table (enter_by name first (located_by outcome unit at table))) _ counted_answer (λ answer. outcome_by answer Source unit table.table) (entered Source unit table.table)
    refl (λ types. refl) refl tt refl tt (has_unit table.table (unit_name unit)) (up_to_most (table_types table.table + unit_types unit))

then_leaves : {E : Type 0} (table : LocatedTable) (first : Result LocatedTable E) (next : LocatedTable → Result LocatedTable E) → HasSame table first → ((mid : LocatedTable) → HasSame mid (next mid)) → HasSame table (and_then first next)
then_leaves {E} table (Ok mid) next same more = go (next mid) (more mid)
  where
    go : (last : Result LocatedTable E) → HasSame mid last → HasSame table last
    go (Ok end) is = is ∙ same
    go (Err why) is = tt
then_leaves table (Err why) next same more = tt

each_leaves : (path : List ℕ) (units : List (UnitText × Lines)) (table : LocatedTable) → HasSame table (enter_each Source path table units)
each_leaves path [] table = refl
each_leaves path (unit ∷ units) table =
    then_leaves table (enter_unit Source path table unit) (λ next. enter_each Source path next units)
    (unit_leaves unit.0 (record { path = path; lines = unit.1 }) table (unit_name unit.0) (first_path table (unit_name unit.0) path))
    (each_leaves path units)

file_leaves : (path : List ℕ) (table : LocatedTable) (entered : Result LocatedTable Obstacle) → HasSame table entered → HasSame table (entered_by path entered)
file_leaves path table (Ok next) same = same
file_leaves path table (Err (Duplicate name first)) same = tt
file_leaves path table (Err Full) same = tt

all_leave : (sources : List ReadSource) (table : LocatedTable) → HasSame table (enter_all Source table sources)
all_leave [] table = refl
all_leave (source ∷ sources) table =
    let units = with_lines (shown_parsed source.declared).0 (shown_parsed source.declared).1 in
    then_leaves table (enter_next Source table source) (λ next. enter_all Source next sources)
    (file_leaves source.path table (enter_each Source source.path table units) (each_leaves source.path units table)) (all_leave sources)

-- ---- the project

pub has_stubs : (tells : Bool) (options : Options) (tree : Files) (project : Project) → Keeps tells options tree project → HasStubs project.key project.initial.table
unfolding Keeps
has_stubs tells options tree project keeps =
    let all = well (read_both keeps.given) enter_both (record { stubs = project.stubs; initial = project.initial }) keeps.tables in
    let files = well (read_all Stub keeps.given.stubs) (read_beside keeps.given.sources) all.given all.began in
    let sources = well (read_all Source keeps.given.sources) (λ read. Ok (record { stubs = files.given; sources = read })) all.given files.went in
    let stubs = well (enter_all Stub nothing_located all.given.stubs) (enter_behind all.given.sources) (record { stubs = project.stubs; initial = project.initial }) all.went in
    let entered = well (enter_all Source stubs.given all.given.sources) (λ table. Ok (record { stubs = stubs.given; initial = table })) (record { stubs = project.stubs; initial = project.initial }) stubs.went in
    let same : entered.given.table.stub ≡ stubs.given.table.stub = subst (λ (r : Result LocatedTable Refusal). HasSame stubs.given r) entered.began (all_leave all.given.sources stubs.given) in
    record {
      files = keeps.given.stubs;
      named = sym (ap (λ (k : Key). k.stubs) keeps.key.is);
      read = files.given;
      is_read = files.began;
      stubs = stubs.given;
      entered = ap (enter_all Stub nothing_located) (ap (λ (r : Result ReadSources Refusal). (unwrapped all.given r).stubs) sources.went) ∙ stubs.began;
      same = subst (λ (t : LocatedTable). t.table.stub ≡ stubs.given.table.stub) (ap (λ (r : Result Tables Refusal). (unwrapped (record { stubs = project.stubs; initial = project.initial }) r).initial) entered.went) same;
    }
