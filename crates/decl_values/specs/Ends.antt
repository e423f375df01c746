-- What functions return that read expressions, and rows of values, pairs and fields, up to what stands behind an expression.
use Rattle.std.specs.Prelude.{◌≡◌, ◌≤◌, ◌-◌, ℕ, Bool, true, false, List, [], ◌∷◌, ◌++◌, length, take, nat_le, Option, Some, None, option_map, Result, Ok, Err, if◌then◌else◌, ◌==◌}
use Rattle.decl_turns.specs.declared.states.Place.{Place}
use Rattle.decl_turns.specs.declared.states.Place.TheVariants as place
use Rattle.decl_turns.specs.declared.states.Piece.{Piece}
use Rattle.decl_values.specs.declared.reached.Row.{Row}
use Rattle.decl_values.specs.declared.reached.End.{End}
use Rattle.apt_base.specs.declared.around.Around.{Around}
use Rattle.decl_tree.specs.declared.type_text.TypeText.{TypeText}
use Rattle.decl_tree.specs.declared.annotation.ValueText.{ValueText}
use Rattle.decl_tree.specs.declared.annotation.ElementValuePair.{ElementValuePair}
use Rattle.decl_grammar.specs.declared.symbol.Symbol.{Symbol}
use Rattle.decl_grammar.specs.declared.fault.ReadFault.{ReadFault}
use Rattle.decl_grammar.specs.declared.fault.ReadFault.TheVariants as faults
use Rattle.decl_grammar.specs.Symbols.{operator}
use Rattle.decl_grammar.specs.TokenNames as token
use Rattle.decl_grammar.specs.declared.written.Declarator.{Declarator}
use Rattle.decl_grammar.specs.declared.written.NameAt.{NameAt}
use Rattle.decl_grammar.specs.Reading.{starts, Outcome, done, fault, ◌>>=◌, one_at, Fails}
use Rattle.decl_grammar.specs.Form.{Rest, Behind, Form, names, ats, primitive_sorts, paired, defaulted, expression_part, value_and_rest, value_end, initialiser, constant_value, pair, turn, many, either, turned, with_front}
use Rattle.decl_grammar.specs.Types.{silently, sign, behind, name, name_at, next_argument, dim, pair_of}
use Rattle.decl_grammar.specs.Expressions.{part_form, created_part, next_created_part, array_of, value_there, listed_end, listed_values, declarator_of, value_or_end}
use Rattle.decl_grammar.specs.Rule.{reads, read_nest}
use Rattle.decl_grammar.specs.Rows.{row_behind, failed_upto, row_from}
use Rattle.decl_values.specs.FieldRows.{fields_from}
use Rattle.decl_turns.specs.States.{stands_of, freedom_of, after_of, part_at, expression_read, IsFree}

-- ---- parts

abbrev pub argument_firsts : List ℕ
argument_firsts = ats ++ ((operator token.question ∷ []) ++ (names ++ primitive_sorts))

unfoldable pub created_class : Form (Unit {0})
created_class = turn silently (pair created_part (many next_created_part))

-- a part of an expression that stands here
abbrev pub part_read : ℕ → Place → Piece → List Symbol → Outcome (Unit {0})
part_read room p pc ts = read_nest room (expression_part (stands_of p) (part_at pc ts)) ts

abbrev pub part_form_read : ℕ → Piece → List Symbol → Outcome (Unit {0})
part_form_read room pc ts = reads room (part_form (part_at pc ts)) ts

-- the type arguments behind commas, behind others
abbrev pub arguments_behind : List TypeText → ℕ → List Symbol → Outcome (List TypeText)
arguments_behind front room ts = row_behind front room next_argument ts

-- ---- how far on readings failed

-- as many symbols are left as this says
abbrev pub counted : Option (List Symbol) → Option ℕ
counted far = option_map length far

abbrev pub less_of : Option ℕ → ℕ → ℕ
less_of None n = n
less_of (Some m) n = if nat_le m n then m else n

abbrev pub furthest_of : Option ℕ → Option ℕ → Option ℕ
furthest_of far None = far
furthest_of far (Some n) = Some (less_of far n)

abbrev pub fallen_of : Option ℕ → ReadFault → ReadFault
fallen_of far faults.Memory = faults.Memory
fallen_of far (faults.Bad n) = faults.Bad (less_of far n)
fallen_of far (faults.Deep n) = faults.Deep n

-- ---- the rest of an expression

-- what a row gives from a place in it on, behind these symbols, where readings failed this far on
abbrev pub row_read : ℕ → (p : Place) → Option (List Symbol) → List Symbol → Row → Outcome (Rest (stands_of p))
row_read room p far us row = row_from (stands_of p) far us room (freedom_of row.leave) (after_of row.before) row.rest.now

-- The row goes on at the next place, behind the symbols that were passed.
pub record GoneOn (room : ℕ) (p : Place) (far : Option (List Symbol)) (us : List Symbol) (row next : Row) : Type 0 where
  pub passed : List Symbol
  pub to : Option (List Symbol)
  pub parts : row.rest.now ≡ passed ++ next.rest.now
  pub kept : next.far ≡ counted to
  pub free : IsFree p next.leave
  pub same : row_read room p far us row ≡ row_read room p to (us ++ passed) next

-- the same at any front, and wherever readings failed before
abbrev pub Goes : ℕ → Place → Row → Result Row ReadFault → Type 0
Goes room p row (Ok next) = (us : List Symbol) (far : Option (List Symbol)) → row.far ≡ counted far → IsFree p row.leave → GoneOn room p far us row next
Goes room p row (Err e) = (us : List Symbol) (far : Option (List Symbol)) → row.far ≡ counted far → IsFree p row.leave → Fails e (row_read room p far us row)

-- where it does not go on it ends here
abbrev pub EndsHere : ℕ → Place → Row → Type 0
EndsHere room p row =
    (us : List Symbol) (far : Option (List Symbol)) → row.far ≡ counted far → IsFree p row.leave
    → row_read room p far us row ≡ failed_upto far (turned (λ y. (us, y)) (read_nest room (value_end (stands_of p)) row.rest.now))

abbrev pub GoesOrEnds : ℕ → Place → Row → Result (Option Row) ReadFault → Type 0
GoesOrEnds room p row (Ok (Some next)) = Goes room p row (Ok next)
GoesOrEnds room p row (Ok None) = EndsHere room p row
GoesOrEnds room p row (Err e) = Goes room p row (Err e)

-- An expression ends here: these are its symbols, and what is read is what stands behind it.
pub record Ended (room : ℕ) (p : Place) (read : Outcome (Rest (stands_of p))) (ts : List Symbol) (end : End) : Type 0 where
  pub passed : List Symbol
  pub far : Option (List Symbol)
  pub parts : ts ≡ passed ++ end.rest.now
  pub kept : end.far ≡ counted far
  pub same : read ≡ failed_upto far (turned (λ y. (passed, y)) (read_nest room (value_end (stands_of p)) end.rest.now))

abbrev pub EndsRow : ℕ → (p : Place) → Outcome (Rest (stands_of p)) → List Symbol → Result End ReadFault → Type 0
EndsRow room p read ts (Ok end) = Ended room p read ts end
EndsRow room p read ts (Err e) = Fails e read

-- ---- values and initialisers, up to what stands behind them

-- This was read, and what stands behind it is read from here on.
pub record ReadUpTo {V : Type 0} (room : ℕ) (p : Place) (read : Outcome (V × Behind (stands_of p))) (ts : List Symbol) (v : V) (end : End) : Type 0 where
  pub fewer : length end.rest.now ≤ length ts
  pub far : Option (List Symbol)
  pub kept : end.far ≡ counted far
  pub same : read ≡ failed_upto far (turned (λ y. (v, y)) (read_nest room (value_end (stands_of p)) end.rest.now))

abbrev pub EndsWith : {V : Type 0} → ℕ → (p : Place) → Outcome (V × Behind (stands_of p)) → List Symbol → Result (V × End) ReadFault → Type 0
EndsWith room p read ts (Ok x) = ReadUpTo room p read ts x.0 x.1
EndsWith room p read ts (Err e) = Fails e read

abbrev pub value_read : ℕ → (p : Place) → List Symbol → Outcome (ValueText × Behind (stands_of p))
value_read room p ts = read_nest room (value_and_rest (stands_of p)) ts

-- the default of an element, and what ends it
abbrev pub default_read : ℕ → List Symbol → Outcome (ValueText × Behind defaulted)
default_read room ts = read_nest room (value_and_rest defaulted) ts

abbrev pub expression_as_value : ℕ → (p : Place) → List Symbol → Outcome (ValueText × Behind (stands_of p))
expression_as_value room p ts = turned value_there (expression_read room p ts)

-- an array with these values, where this many symbols are left behind it
abbrev pub array_left : List ValueText → List Symbol → ℕ → ValueText
array_left vs ts left = array_of (take (length ts - left) ts, vs)

abbrev pub initialiser_read : ℕ → List Symbol → Outcome (Option ValueText × Behind (stands_of place.Assigned))
initialiser_read room ts = read_nest room initialiser ts

abbrev pub value_or_end_read : ℕ → List Symbol → Outcome (Option ValueText × Behind (stands_of place.Assigned))
value_or_end_read room ts = reads room value_or_end ts

-- What is known where an initialiser is no constant form with a `;` behind it: where a constant form was read no `;` stands behind it, and else this is how
-- many symbols are left at its fault.
abbrev pub ConstantTried : ℕ → List Symbol → Option ValueText → ℕ → Type 0
ConstantTried room ts (Some v) left =
    (rest : List Symbol) × (read_nest room constant_value ts ≡ done v rest) × (left ≡ length rest) × (starts (operator token.semicolon ∷ []) rest ≡ false)
ConstantTried room ts None left = (at : List Symbol) × (read_nest room constant_value ts ≡ fault at) × (left ≡ length at)

-- what was read as a constant form, where it ended here
abbrev pub kept_here : Option ValueText → ℕ → ℕ → Option ValueText
kept_here v left here = if here == left then v else None

-- ---- what stands behind one of several

-- behind the `{` of an array, up to its `}`
unfoldable pub array_rest : Form (List ValueText)
array_rest = either listed_end (either (behind (sign token.comma) listed_end) listed_values)

-- behind a value of an array: whether another one comes
abbrev pub listed_step : List Symbol → Outcome Bool
listed_step ts =
    if starts (operator token.close_brace ∷ []) ts then (one_at (operator token.close_brace ∷ []) ts >>= λ s rest. done false rest)
    else (one_at (operator token.comma ∷ []) ts >>= λ s rest.
    if starts (operator token.close_brace ∷ []) rest then (one_at (operator token.close_brace ∷ []) rest >>= λ z after. done false after)
    else done true rest)

-- behind a value of a pair: the name of the next pair, where there is one
abbrev pub paired_step : ℕ → List Symbol → Outcome (Option (List ℕ))
paired_step room ts =
    if starts (operator token.close_parenthesis ∷ []) ts then (one_at (operator token.close_parenthesis ∷ []) ts >>= λ s rest. done None rest)
    else (one_at (operator token.comma ∷ []) ts >>= λ s rest. reads room name rest >>= λ n behind.
    one_at (operator token.equals ∷ []) behind >>= λ z after. done (Some n) after)

-- behind a field: the name of the next one and the brackets behind it, where there is one
abbrev pub declared_step : ℕ → List Symbol → Outcome (Option (NameAt × List Around))
declared_step room ts =
    if starts (operator token.semicolon ∷ []) ts then (one_at (operator token.semicolon ∷ []) ts >>= λ s rest. done None rest)
    else (one_at (operator token.comma ∷ []) ts >>= λ s rest. reads room name_at rest >>= λ n behind.
    reads room (many dim) behind >>= λ ds after. done (Some (n, ds)) after)

-- ---- rows

-- the values of an array from one on
abbrev pub values_from : ℕ → List Symbol → Outcome (List ValueText)
values_from room ts = reads room listed_values ts

-- the pairs from the value of this one on
abbrev pub pairs_from : ℕ → List ℕ → List Symbol → Outcome (List ElementValuePair)
pairs_from room n ts = turned (λ x. pair_of n x.0 ∷ x.1) (read_nest room (value_and_rest paired) ts)

-- What is read in all, where these items stand in front, readings failed this far on, and this is what is still to be read.
pub record SoFar {A : Type 0} (total : Outcome (List A)) (front : List A) (far : Option ℕ) (later : Outcome (List A)) : Type 0 where
  pub to : Option (List Symbol)
  pub kept : far ≡ counted to
  pub same : total ≡ failed_upto to (with_front front later)

-- one item more: the last one, or one behind which others come
abbrev pub ItemRead : {A : Type 0} → Outcome (List A) → Option ℕ → A → Option (Outcome (List A)) → End → Type 0
ItemRead {A} read far x None end = read ≡ done (x ∷ []) end.rest.now
ItemRead {A} read far x (Some later) end = (total : Outcome (List A)) (front : List A) → SoFar total front far read → SoFar total (front ++ x ∷ []) end.far later

-- a fault is that of the whole
abbrev pub ItemFails : {A : Type 0} → Outcome (List A) → Option ℕ → ReadFault → Type 0
ItemFails {A} read far e = (total : Outcome (List A)) (front : List A) → SoFar total front far read → Fails e total

-- a value of an array, and whether another one comes
abbrev pub later_if : {A : Type 0} → Bool → Outcome A → Option (Outcome A)
later_if true o = Some o
later_if false o = None

abbrev pub ListedItem : ℕ → Option ℕ → List Symbol → Result (ValueText × (Bool × End)) ReadFault → Type 0
ListedItem room far ts (Ok x) = ItemRead (values_from room ts) far x.0 (later_if x.1.0 (values_from room x.1.1.rest.now)) x.1.1
ListedItem room far ts (Err e) = ItemFails (values_from room ts) far e

-- a pair under any name, and the name of the next one
abbrev pub pairs_later : ℕ → Option (List ℕ) → List Symbol → Option (Outcome (List ElementValuePair))
pairs_later room None ts = None
pairs_later room (Some n) ts = Some (pairs_from room n ts)

abbrev pub PairedItem : ℕ → Option ℕ → List Symbol → Result (ValueText × (Option (List ℕ) × End)) ReadFault → Type 0
PairedItem room far ts (Ok x) = (n : List ℕ) → ItemRead (pairs_from room n ts) far (pair_of n x.0) (pairs_later room x.1.0 x.1.1.rest.now) x.1.1
PairedItem room far ts (Err e) = (n : List ℕ) → ItemFails (pairs_from room n ts) far e

-- a field under any name and with any brackets, and the name of the next one with its brackets
abbrev pub fields_later : ℕ → Option (NameAt × List Around) → List Symbol → Option (Outcome (List Declarator))
fields_later room None ts = None
fields_later room (Some x) ts = Some (fields_from room x.0 x.1 ts)

abbrev pub FieldItem : ℕ → Option ℕ → List Symbol → Result (Option ValueText × (Option (NameAt × List Around) × End)) ReadFault → Type 0
FieldItem room far ts (Ok x) = (n : NameAt) (ds : List Around) → ItemRead (fields_from room n ds ts) far (declarator_of n ds x.0) (fields_later room x.1.0 x.1.1.rest.now) x.1.1
FieldItem room far ts (Err e) = (n : NameAt) (ds : List Around) → ItemFails (fields_from room n ds ts) far e
