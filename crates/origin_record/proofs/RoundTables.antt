-- The tables of a recorded build: a shape has one reading, and where all units enter, those up to a round do.
use Rattle.std.proofs.Common.{◌≡◌, ℕ, zero, suc, ◌+◌, ◌<◌, ◌≤◌, Bool, true, false, cond, is_some, List, [], ◌∷◌, ◌++◌, length, get_or, take, drop, drop-cons, drop_of_length-le, Option, Some, None, Result, Ok, Err, refl, sym, ap, subst, ◌∙◌, arith}
use Rattle.apt_base.specs.Fields.{◌>>=◌}
use Rattle.apt_base.specs.Readings.{GivesAll}
use Rattle.apt_base.specs.declared.fault.FormFault.{FormFault}
use Rattle.apt_base.specs.declared.fault.FormFault.TheVariants.{Bad, Memory}
use Rattle.apt_base.proofs.FieldsLemmas.{IsBytes}
use Rattle.decl_syntax.specs.Reading.{whole_unit}
use Rattle.decl_syntax.specs.Shape.{unit_form}
use Rattle.decl_syntax.specs.Shapes.{IsNoShape}
use Rattle.decl_syntax.proofs.Spelled.{whole_unit-spelled, whole_unit-again}
use Rattle.decl_tree.specs.Legal.{is_legal}
use Rattle.decl_tree.specs.declared.compilation.UnitText.{UnitText}
use Rattle.element_table.specs.TypeTable.{TypeTable, empty_table}
use Rattle.record_forms.specs.declared.record.Record.{Record}
use Rattle.record_forms.specs.declared.record.OldRound.{OldRound}
use Rattle.origin_record.specs.OldTables.{enter_named, enter_all, enter_rounds, table_at, Enters}

pub unit_of_shape : (bytes : List ℕ) (unit : UnitText) → bytes ≡ unit_form unit → is_legal unit ≡ true → whole_unit bytes ≡ Some unit
unit_of_shape bytes unit spelled legal = ap whole_unit spelled ∙ whole_unit-again unit legal

none_of : (o : Option UnitText) → ((u : UnitText) → o ≡ Some u → ⊥) → o ≡ None
none_of None h = refl
none_of (Some u) h = absurd (h u refl)

pub none_of_no_shape : (bytes : List ℕ) → IsBytes bytes → IsNoShape bytes → whole_unit bytes ≡ None
none_of_no_shape bytes bs none = none_of (whole_unit bytes) (λ u e. none u (whole_unit-spelled bytes u bs e))

-- ---- the units up to a round

some_bound : {A B : Type 0} (r : Option A) (f g : A → Option B) → ((a : A) → is_some (f a) ≡ true → is_some (g a) ≡ true) → is_some (r >>= f) ≡ true → is_some (r >>= g) ≡ true
some_bound None f g h e = e
some_bound (Some a) f g h e = h a e

rounds_before : (k : ℕ) (table : TypeTable) (rounds : List OldRound) → is_some (enter_rounds table rounds) ≡ true → is_some (enter_rounds table (take k rounds)) ≡ true
unfolding enter_rounds
rounds_before zero table rounds e = refl
rounds_before (suc k) table [] e = e
rounds_before (suc k) table (round ∷ others) e =
    some_bound (enter_all table round.entered) (λ next. enter_rounds next others) (λ next. enter_rounds next (take k others)) (λ next. rounds_before k next others) e

take-all : {A : Type 0} (xs : List A) → take (length xs) xs ≡ xs
take-all [] = refl
take-all (x ∷ xs) = ap (λ (ys : List _). x ∷ ys) (take-all xs)

-- a table for all rounds, and so one for each
pub table_before : (value : Record) (k : ℕ) → is_some (table_at value (length value.rounds)) ≡ true → is_some (table_at value k) ≡ true
unfolding table_at
table_before value k e =
    some_bound (enter_all empty_table value.initial) (λ t. enter_rounds t (take (length value.rounds) value.rounds)) (λ t. enter_rounds t (take k value.rounds))
    (λ t h. rounds_before k t value.rounds (subst (λ (rs : List OldRound). is_some (enter_rounds t rs) ≡ true) (take-all value.rounds) h)) e

pub no_table : (o : Option TypeTable) → is_some o ≡ true → o ≡ None → ⊥
no_table o e f = cc

-- ---- a shape that was parsed, or not

abbrev pub failed : (A : Type 0) → FormFault → Result A FormFault
failed A fault = Err fault

pub no_unit : (bytes : List ℕ) (fault : FormFault) → IsBytes bytes → (failed UnitText fault ≡ Err Bad → IsNoShape bytes) → GivesAll (failed UnitText fault) (whole_unit bytes)
no_unit bytes Memory bs none = tt
no_unit bytes Bad bs none = none_of_no_shape bytes bs (none refl)

-- ---- entering one after another, as a loop does

drop_is : {A : Type 0} (xs : List A) (i : ℕ) (x : A) → i < length xs → x ≡ get_or xs i x → drop i xs ≡ x ∷ drop (i + 1) xs
drop_is xs i x lt is =
    let next : suc i ≡ i + 1 = omega arith in
    drop-cons xs i x lt ∙ ap (λ (y : _). y ∷ drop (suc i) xs) (sym is) ∙ ap (λ (n : ℕ). x ∷ drop n xs) next

all_some : (table next : TypeTable) (named : List ℕ × List ℕ) (others : List (List ℕ × List ℕ)) → enter_named table named ≡ Some next → enter_all table (named ∷ others) ≡ enter_all next others
unfolding enter_all
all_some table next named others e = rw e refl

all_none : (table : TypeTable) (named : List ℕ × List ℕ) (others : List (List ℕ × List ℕ)) → enter_named table named ≡ None → enter_all table (named ∷ others) ≡ None
unfolding enter_all
all_none table named others e = rw e refl

all_end : (table : TypeTable) → enter_all table [] ≡ Some table
unfolding enter_all
all_end table = refl

pub more_units : (table next : TypeTable) (units : List (List ℕ × List ℕ)) (i : ℕ) (named : List ℕ × List ℕ) (total : Option TypeTable) → i < length units → named ≡ get_or units i named
    → enter_named table named ≡ Some next → enter_all table (drop i units) ≡ total → enter_all next (drop (i + 1) units) ≡ total
more_units table next units i named total lt is e so_far = sym (all_some table next named (drop (i + 1) units) e) ∙ ap (enter_all table) (sym (drop_is units i named lt is)) ∙ so_far

pub units_fail : (fault : FormFault) (table : TypeTable) (units : List (List ℕ × List ℕ)) (i : ℕ) (named : List ℕ × List ℕ) (total : Option TypeTable) (after : TypeTable) → i < length units → named ≡ get_or units i named
    → Enters (failed Unit fault) (enter_named table named) after → enter_all table (drop i units) ≡ total → Enters (failed Unit fault) total after
units_fail Memory table units i named total after lt is e so_far = tt
units_fail Bad table units i named total after lt is e so_far = sym so_far ∙ ap (enter_all table) (drop_is units i named lt is) ∙ all_none table named (drop (i + 1) units) e

pub units_done : (table : TypeTable) (units : List (List ℕ × List ℕ)) (i : ℕ) (total : Option TypeTable) → length units ≤ i → enter_all table (drop i units) ≡ total → total ≡ Some table
units_done table units i total le so_far = sym so_far ∙ ap (enter_all table) (drop_of_length-le units le) ∙ all_end table

rounds_some : (table next : TypeTable) (round : OldRound) (others : List OldRound) → enter_all table round.entered ≡ Some next → enter_rounds table (round ∷ others) ≡ enter_rounds next others
unfolding enter_rounds
rounds_some table next round others e = rw e refl

rounds_none : (table : TypeTable) (round : OldRound) (others : List OldRound) → enter_all table round.entered ≡ None → enter_rounds table (round ∷ others) ≡ None
unfolding enter_rounds
rounds_none table round others e = rw e refl

rounds_end : (table : TypeTable) → enter_rounds table [] ≡ Some table
unfolding enter_rounds
rounds_end table = refl

pub more_rounds : (table next : TypeTable) (rounds : List OldRound) (i : ℕ) (round : OldRound) (total : Option TypeTable) → i < length rounds → round ≡ get_or rounds i round
    → enter_all table round.entered ≡ Some next → enter_rounds table (drop i rounds) ≡ total → enter_rounds next (drop (i + 1) rounds) ≡ total
more_rounds table next rounds i round total lt is e so_far = sym (rounds_some table next round (drop (i + 1) rounds) e) ∙ ap (enter_rounds table) (sym (drop_is rounds i round lt is)) ∙ so_far

pub rounds_fail : (fault : FormFault) (table : TypeTable) (rounds : List OldRound) (i : ℕ) (round : OldRound) (total : Option TypeTable) (after : TypeTable) → i < length rounds → round ≡ get_or rounds i round
    → Enters (failed Unit fault) (enter_all table round.entered) after → enter_rounds table (drop i rounds) ≡ total → Enters (failed Unit fault) total after
rounds_fail Memory table rounds i round total after lt is e so_far = tt
rounds_fail Bad table rounds i round total after lt is e so_far = sym so_far ∙ ap (enter_rounds table) (drop_is rounds i round lt is) ∙ rounds_none table round (drop (i + 1) rounds) e

pub rounds_done : (table : TypeTable) (rounds : List OldRound) (i : ℕ) (total : Option TypeTable) → length rounds ≤ i → enter_rounds table (drop i rounds) ≡ total → total ≡ Some table
rounds_done table rounds i total le so_far = sym so_far ∙ ap (enter_rounds table) (drop_of_length-le rounds le) ∙ rounds_end table
