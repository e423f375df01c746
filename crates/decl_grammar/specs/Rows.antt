-- What functions read, in words: parts with another meaning, rows of parts behind others, lists that may be absent, and rows of expressions.
use Rattle.std.specs.Prelude.{ℕ, List, Option, Some, None, option_map}
use Rattle.std.specs.Borrow.{Bor}
use Rattle.decl_grammar.specs.declared.written.MemberAt.{MemberAt}
use Rattle.decl_tree.specs.declared.compilation.Import.{Import}
use Rattle.decl_grammar.specs.declared.symbol.Symbol.{Symbol}
use Rattle.decl_grammar.specs.declared.written.Modifiers.{Modifiers}
use Rattle.decl_grammar.specs.Reading.{Outcome}
use Rattle.decl_grammar.specs.Form.{Stands, Freedom, After, Rest, Form, maybe, many, nest, enum_rest, import_rest, expression_rest, turned, with_front, failed_at, further_of}
use Rattle.decl_grammar.specs.Constants.{more_dotted}
use Rattle.decl_grammar.specs.Types.{Mark, list_or_none, with_marks, dot_name}
use Rattle.decl_grammar.specs.Expressions.{with_symbols}
use Rattle.decl_grammar.specs.Grammar.{single_or}
use Rattle.decl_grammar.specs.Rule.{reads, read_nest}

-- a name, where there is one, and none for `*`
abbrev pub name_seen : Option (Bor (List ℕ)) → Option (List ℕ)
name_seen o = option_map (λ t. t.now) o

-- a part with another meaning
abbrev pub read_as : {A B : Type 0} → (A → B) → ℕ → Form A → List Symbol → Outcome B
read_as h room f ts = turned h (reads room f ts)

-- a list behind another
abbrev pub read_behind : {A : Type 0} → List A → ℕ → Form (List A) → List Symbol → Outcome (List A)
read_behind front room f ts = with_front front (reads room f ts)

-- the parts that stand here behind others
abbrev pub row_behind : {A : Type 0} → List A → ℕ → Form A → List Symbol → Outcome (List A)
row_behind front room f ts = with_front front (reads room (many f) ts)

-- a list, where one stands here
abbrev pub list_at : {A : Type 0} → ℕ → Form (List A) → List Symbol → Outcome (List A)
list_at room f ts = turned list_or_none (reads room (maybe f) ts)

-- the enum constants behind commas, behind others
abbrev pub constants_behind : List MemberAt → ℕ → List Symbol → Outcome (List MemberAt)
constants_behind front room ts = with_front front (list_at room (nest enum_rest) ts)

-- the modifiers that stand here behind others
abbrev pub marks_behind : Modifiers → ℕ → Form Mark → List Symbol → Outcome Modifiers
marks_behind front room f ts = turned (with_marks front) (reads room (many f) ts)

-- the names behind dots, behind a text
abbrev pub names_behind : List ℕ → ℕ → List Symbol → Outcome (List ℕ)
names_behind front room ts = turned (more_dotted front) (reads room (many dot_name) ts)

-- an import from its second name on, behind a text
abbrev pub import_behind : List ℕ → ℕ → List Symbol → Outcome Import
import_behind front room ts = turned (λ o. single_or o front) (reads room (maybe (nest import_rest)) ts)

-- the same where there is a second name
abbrev pub deeper_behind : List ℕ → ℕ → List Symbol → Outcome Import
deeper_behind front room ts = turned (λ rest. rest front) (read_nest room import_rest ts)

-- ---- rows of expressions

-- what is read where readings of types failed, this far on at most
abbrev pub failed_upto : {A : Type 0} → Option (List Symbol) → Outcome A → Outcome A
failed_upto None o = o
failed_upto (Some at) o = failed_at at o

-- the further of the places so far and one more
abbrev pub further_than : Option (List Symbol) → List Symbol → List Symbol
further_than None at = at
further_than (Some far) at = further_of far at

-- What a row gives from here on: behind the symbols that were passed, where readings of types failed this far on at most.
abbrev pub row_from : (s : Stands) → Option (List Symbol) → List Symbol → ℕ → Freedom → After → List Symbol → Outcome (Rest s)
row_from s far us room w a ts = failed_upto far (turned (λ y. with_symbols (us, y)) (read_nest room (expression_rest s w a) ts))
