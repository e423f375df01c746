-- Units that are entered one after another, and created sources.
use Rattle.std.proofs.Common.{◌≡◌, ℕ, suc, ◌<◌, ◌≤◌, cond, Option, Some, None, List, [], ◌∷◌, ◌++◌, length, map, Result, Ok, Err, inl, inr, ap, ◌∙◌, refl, sym, subst}
use Rattle.std.specs.Option.{unwrap_or}
use Rattle.std.specs.Vec.Iter.{into_iter_steps}
use Rattle.std.specs.declared.vec.IntoIter.{IntoIter}
use Rattle.std.proofs.lemmas.Bool.{lt-ltb, le-ltb}
use Rattle.apt_base.specs.declared.kinds.What.TheVariants.{FileBytes}
use Rattle.decl_tree.specs.declared.compilation.UnitText.{UnitText}
use Rattle.decl_grammar.specs.declared.written.Lines.{Lines}
use Rattle.decl_grammar.specs.Grammar.{line_alone}
use Rattle.decl_limits.specs.Units.{Declared}
use Rattle.decl_parser.specs.Parsed.{shown_parsed}
use Rattle.decl_parser.specs.declared.parsing.FileFault.{FileFault}
use Rattle.decl_parser.specs.declared.parsing.FileFault.TheVariants as file
use Rattle.decl_parser.specs.declared.parsing.Parsed.{Parsed}
use Rattle.file_answers.specs.Flaws.{TooLarge, Reading}
use Rattle.file_readings.specs.FileReadings.{reading_of, Parses}
use Rattle.element_table.specs.declared.fault.EnterFault.{EnterFault}
use Rattle.element_table.specs.declared.fault.EnterFault.TheVariants as enter
use Rattle.element_table.specs.declared.part.Part.{Part}
use Rattle.element_table.specs.declared.part.Part.TheVariants.{Source}
use Rattle.element_table.specs.UnitNames.{unit_name}
use Rattle.element_table.specs.TypeTable.{TypeTable, Against, answer_to, entered, Answers, unit_back}
use Rattle.element_table.proofs.TableLaws.{outcome_of-Ok, outcome_of-Duplicate, outcome_of-TooMany}
use Rattle.unit_locations.specs.declared.location.UnitLocation.{UnitLocation}
use Rattle.unit_locations.specs.LocatedTable.{LocatedTable, entered_at, located_by}
use Rattle.project_units.specs.declared.unit_fault.UnitFault.{UnitFault}
use Rattle.project_units.specs.declared.unit_fault.UnitFault.TheVariants as code
use Rattle.project_units.specs.declared.refusal.Refusal as declared
use Rattle.apt_base.specs.Names.{NameSet, with_name, with_names}
use Rattle.apt_base.specs.Limits.{max_file_bytes}
use Rattle.project_units.specs.Refusals.{Refusal, Stop, Refused, Failed, Memory, OrMemory}
use Rattle.project_units.specs.Units.{Obstacle, Duplicate, Entered, with_lines, first_path, enter_by, enter_unit, and_then, enter_each, enter_units, enter_sources, Gathered, gather, enter_read, created_reading, enter_created, gather_all, ascending}
use Rattle.project_units.specs.Entering.{Reports, Obstructs, EntersUnits, EntersNamed, RefusesAs, of_unread, of_units, Gathers}

-- ---- one unit

module _ (part : Part) (path : List ℕ) (table next : LocatedTable) (unit : UnitText) (lines : Lines) where
  abbrev at : UnitLocation
  at = record { path = path; lines = lines }

  abbrev told_by : Result TypeTable Against → Result LocatedTable Obstacle
  told_by outcome = enter_by (unit_name unit) (first_path table (unit_name unit) path) (located_by outcome unit at table)

  -- a unit that the table took
  pub enters_unit : Answers (answer_to table.table unit) (Ok tt) → next ≡ entered_at part unit at table → EntersUnits (enter_unit part path table (unit, lines)) next (Ok tt)
  enters_unit answer is = ap told_by (outcome_of-Ok part table.table unit (entered part unit table.table) answer refl) ∙ ap Ok (sym is)

  -- a unit that it did not take: it is as it was
  pub enters_unit-not : (fault : EnterFault) (told : UnitFault) → Answers (answer_to table.table unit) (Err fault) → next ≡ table → unit_back fault ≡ unit → Reports next path fault told
      → EntersUnits (enter_unit part path table (unit, lines)) next (Err told)
  enters_unit-not (enter.Duplicate back) (code.Duplicate name first) answer same is told =
      let name_is : name ≡ unit_name unit = told.0 ∙ ap unit_name is in
      let first_is : first ≡ first_path table (unit_name unit) path = told.1 ∙ ap (λ t. first_path t name path) same ∙ ap (λ n. first_path table n path) name_is in
      ap told_by (outcome_of-Duplicate part table.table unit back answer) ∙ ap (λ n. Err (Duplicate n (first_path table (unit_name unit) path))) (sym name_is) ∙ ap (λ f. Err (Duplicate name f)) (sym first_is)
  enters_unit-not (enter.Duplicate back) code.TooMany answer same is told = absurd told
  enters_unit-not (enter.TooMany back) (code.Duplicate name first) answer same is told = absurd told
  enters_unit-not (enter.TooMany back) code.TooMany answer same is told = ap told_by (outcome_of-TooMany part table.table unit back answer)
  enters_unit-not (enter.Memory back) (code.Duplicate name first) answer same is told = absurd told
  enters_unit-not (enter.Memory back) code.TooMany answer same is told = absurd told
  enters_unit-not fault code.Memory answer same is told = tt

-- ---- more units

-- the lines of the next unit are taken from those that are left
abbrev pub NextLines : List Lines → Option Lines → List Lines → Type 0
NextLines before None after = (length before ≡ 0) × (length after ≡ 0)
NextLines before (Some lines) after = before ≡ lines ∷ after

pub next_lines : {Z : Type 0} (s t : IntoIter Lines Z) (r : Option Lines) → into_iter_steps s r t → NextLines s.rest.items r t.rest.items
next_lines s t None is = (sym s.rest.ok.0 ∙ is.0, sym t.rest.ok.0 ∙ is.1)
next_lines s t (Some lines) is = is.0

-- a unit has them, or line 1 where there are none
pub with_next : (unit : UnitText) (units : List UnitText) (before after : List Lines) (next : Option Lines) → NextLines before next after
    → with_lines (unit ∷ units) before ≡ (unit, unwrap_or next (line_alone 1)) ∷ with_lines units after
with_next unit units [] [] None is = refl
with_next unit units [] (first ∷ rest) None is = absurd (let e : suc (length rest) ≡ 0 = is.1 in cc)
with_next unit units (first ∷ rest) after None is = absurd (let e : suc (length rest) ≡ 0 = is.0 in cc)
with_next unit units before after (Some lines) is = ap (with_lines (unit ∷ units)) is

-- one that entered decides nothing
pub enters_more : (part : Part) (path : List ℕ) (table next : LocatedTable) (unit : UnitText × Lines) (units : List (UnitText × Lines)) → enter_unit part path table unit ≡ Ok next
    → enter_each part path table (unit ∷ units) ≡ enter_each part path next units
enters_more part path table next unit units is = ap (λ o. and_then o (λ t. enter_each part path t units)) is

obstructs_then : {A B : Type 0} (outcome : Result A Obstacle) (fault : UnitFault) (next : A → Result B Obstacle) → Obstructs outcome fault → Obstructs (and_then outcome next) fault
obstructs_then outcome (code.Duplicate name first) next is = ap (λ o. and_then o next) is
obstructs_then outcome code.TooMany next is = ap (λ o. and_then o next) is
obstructs_then outcome code.Memory next is = tt

-- the first that did not
pub enters_no_more : (part : Part) (path : List ℕ) (table : LocatedTable) (unit : UnitText × Lines) (units : List (UnitText × Lines)) (fault : UnitFault) → Obstructs (enter_unit part path table unit) fault
    → Obstructs (enter_each part path table (unit ∷ units)) fault
enters_no_more part path table unit units fault stands = obstructs_then (enter_unit part path table unit) fault (λ t. enter_each part path t units) stands

-- ---- with their names

pub enters_named : (path : List ℕ) (table next : LocatedTable) (declared : Declared) (names : List (List ℕ)) → enter_units Source path table declared ≡ Ok next → names ≡ map unit_name declared.0
    → EntersNamed (enter_sources path table declared) next (Ok names)
enters_named path table next declared names each named =
    ap (λ o. and_then o (λ t. Ok (record { table = t; names = map unit_name declared.0 }))) each ∙ ap (λ ns. Ok (record { table = next; names = ns })) (sym named)

pub enters_unnamed : (path : List ℕ) (table next : LocatedTable) (declared : Declared) (fault : UnitFault) → Obstructs (enter_units Source path table declared) fault
    → EntersNamed (enter_sources path table declared) next (Err fault)
enters_unnamed path table next declared fault stands = obstructs_then (enter_units Source path table declared) fault (λ t. Ok (record { table = t; names = map unit_name declared.0 })) stands

-- ---- a created source is read

module _ (path bytes : List ℕ) where
  -- one that is longer than a file may be
  pub reading-long : max_file_bytes < length bytes → created_reading path bytes ≡ Err (TooLarge FileBytes)
  reading-long long = ap (λ b. cond b (Err (TooLarge FileBytes)) (reading_of path bytes)) (lt-ltb max_file_bytes (length bytes) long)

  reading-short : length bytes ≤ max_file_bytes → created_reading path bytes ≡ reading_of path bytes
  reading-short short = ap (λ b. cond b (Err (TooLarge FileBytes)) (reading_of path bytes)) (le-ltb max_file_bytes (length bytes) short)

  pub short-parses : (result : Result Parsed FileFault) → length bytes ≤ max_file_bytes → Parses (reading_of path bytes) result → Parses (created_reading path bytes) result
  short-parses result short is = subst (λ (r : Reading). Parses r result) (sym (reading-short short)) is

-- ---- and entered, or refused

or_memory : {A : Type 0} (outcome : Result A Refusal) (due s : Stop) → RefusesAs outcome due → OrMemory due s → RefusesAs outcome s
or_memory outcome due s is (inl same) = subst (RefusesAs outcome) (sym same) is
or_memory outcome due s is (inr memory) = subst (RefusesAs outcome) (sym memory) tt

module _ (before : Gathered) (path bytes : List ℕ) where
  refused_unread : (fault : FileFault) → Parses (created_reading path bytes) (Err fault) → RefusesAs (enter_created before (path, bytes)) (of_unread path fault)
  refused_unread (file.Bad place) is = ap (enter_read before path) is
  refused_unread (file.TooLarge limit) is = ap (enter_read before path) is
  refused_unread file.Memory is = tt

  -- it gives no units
  pub gathers-unread : (fault : FileFault) (s : Stop) → Parses (created_reading path bytes) (Err fault) → OrMemory (of_unread path fault) s → RefusesAs (enter_created before (path, bytes)) s
  gathers-unread fault s is due = or_memory (enter_created before (path, bytes)) (of_unread path fault) s (refused_unread fault is) due

  -- it gives units, and what comes of these comes of it
  pub gathers-read : (parsed : Parsed) (table : LocatedTable) (roots : NameSet) (result : Result Unit declared.Refusal) → Parses (created_reading path bytes) (Ok parsed)
      → Gathers (gather before.roots (enter_sources path before.table (shown_parsed parsed))) table roots result → Gathers (enter_created before (path, bytes)) table roots result
  gathers-read parsed table roots result is gathers = subst (λ (o : Result Gathered Refusal). Gathers o table roots result) (sym (ap (enter_read before path) is)) gathers

refused_by : (roots : NameSet) (outcome : Result Entered Obstacle) (fault : UnitFault) → Obstructs outcome fault → RefusesAs (gather roots outcome) (of_units fault)
refused_by roots outcome (code.Duplicate name first) is = ap (gather roots) is
refused_by roots outcome code.TooMany is = ap (gather roots) is
refused_by roots outcome code.Memory is = tt

-- the units of one that can't be entered
pub gathers-unentered : (roots : NameSet) (outcome : Result Entered Obstacle) (fault : UnitFault) (s : Stop) → Obstructs outcome fault → s ≡ of_units fault → RefusesAs (gather roots outcome) s
gathers-unentered roots outcome fault s is same = subst (RefusesAs (gather roots outcome)) (sym same) (refused_by roots outcome fault is)

-- those of one that were entered
pub gathers-entered : (roots roots' : NameSet) (outcome : Result Entered Obstacle) (table : LocatedTable) (names : List (List ℕ)) → outcome ≡ Ok (record { table = table; names = names }) → roots' ≡ with_names roots names
    → Gathers (gather roots outcome) table roots' (Ok tt)
gathers-entered roots roots' outcome table names is named = ap (gather roots) is ∙ ap (λ (ns : NameSet). Ok (record { table = table; roots = ns })) (sym named)

-- ---- more created sources

refuses_then : {A B : Type 0} (outcome : Result A Refusal) (s : Stop) (next : A → Result B Refusal) → RefusesAs outcome s → RefusesAs (and_then outcome next) s
refuses_then outcome (Refused refusal) next is = ap (λ o. and_then o next) is
refuses_then outcome (Failed object) next is = absurd is
refuses_then outcome Memory next is = tt

refuses_ascending : (outcome : Result Gathered Refusal) (s : Stop) → RefusesAs outcome s → RefusesAs (ascending outcome) s
refuses_ascending outcome (Refused refusal) is = ap ascending is
refuses_ascending outcome (Failed object) is = absurd is
refuses_ascending outcome Memory is = tt

-- the first that is refused
pub gathers_not : (before : Gathered) (created : List ℕ × List ℕ) (sources : List (List ℕ × List ℕ)) (s : Stop) → RefusesAs (enter_created before created) s → RefusesAs (ascending (gather_all before (created ∷ sources))) s
gathers_not before created sources s is = refuses_ascending _ s (refuses_then (enter_created before created) s (λ next. gather_all next sources) is)

-- ---- names

-- a name more behind those that were added
pub with_names_push : (set : NameSet) (names : List (List ℕ)) (name : List ℕ) → with_names set (names ++ name ∷ []) ≡ with_name (with_names set names) name
with_names_push set [] name = refl
with_names_push set (first ∷ names) name = with_names_push (with_name set first) names name

-- names behind others
pub with_names_append : (set : NameSet) (names others : List (List ℕ)) → with_names set (names ++ others) ≡ with_names (with_names set names) others
with_names_append set [] others = refl
with_names_append set (first ∷ names) others = with_names_append (with_name set first) names others
