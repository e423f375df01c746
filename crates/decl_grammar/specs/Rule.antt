-- What each form that holds itself is, and how forms are read through them.
use Rattle.std.specs.Prelude.{ℕ, zero, suc, Bool, true, false, List, length, if◌then◌else◌, ◌*◌}
use Rattle.decl_grammar.specs.declared.symbol.Symbol.{Symbol}
use Rattle.decl_grammar.specs.Reading.{starts, Outcome, fault, deep}
use Rattle.decl_grammar.specs.Form.{Nest, counts, Of, Form, Wholes, Begun, Readers, Is, Begins, first_of, read, alone, paired, listed, defaulted, assigned, type_arguments, created_arguments, array_value, nested_annotation, first_name, constant_value, expression_part, nested_type, modifiers, plain_modifiers, static_word, import_rest, enum_rest, param_rest, first_rest, value_and_rest, expression_rest, initialiser, value_end, constant_items, constant_chain}
use Rattle.decl_grammar.specs.Types.{keyword, modifier, plain_modifier, modifiers_form}
use Rattle.decl_grammar.specs.Expressions.{end_form, value_rule, initialiser_form}
use Rattle.decl_grammar.specs.Grammar.{param_rest_form, first_rest_form, enum_rest_form, type_rest, import_rest_form}
use Rattle.decl_grammar.specs.TokenNames as token

-- ---- forms that hold themselves

abbrev pub rule : (m : Nest) → Form (Of m)
rule nested_type = type_rest
rule modifiers = modifiers_form modifier
rule plain_modifiers = modifiers_form plain_modifier
rule static_word = keyword token.static
rule import_rest = import_rest_form
rule enum_rest = enum_rest_form
rule param_rest = param_rest_form
rule first_rest = first_rest_form
rule initialiser = initialiser_form
rule (value_end assigned) = end_form assigned
rule type_arguments = value_rule type_arguments
rule created_arguments = value_rule created_arguments
rule array_value = value_rule array_value
rule nested_annotation = value_rule nested_annotation
rule first_name = value_rule first_name
rule constant_value = value_rule constant_value
rule (expression_part s p) = value_rule (expression_part s p)
rule (value_and_rest s) = value_rule (value_and_rest s)
rule (expression_rest s w a) = value_rule (expression_rest s w a)
rule constant_items = value_rule constant_items
rule constant_chain = value_rule constant_chain
rule (value_end alone) = value_rule (value_end alone)
rule (value_end paired) = value_rule (value_end paired)
rule (value_end listed) = value_rule (value_end listed)
rule (value_end defaulted) = value_rule (value_end defaulted)

-- a form that holds itself, where this many more may be open: of one that counts the room is one less within
abbrev pub enter_if : (m : Nest) → Bool → (ℕ → Readers) → ℕ → List Symbol → Outcome (Of m)
enter_if m true inner zero ts = if starts (first_of m) ts then deep ts else fault ts
enter_if m true inner (suc room) ts = read (inner room) (rule m) ts
enter_if m false inner room ts = read (inner room) (rule m) ts

abbrev pub enter : (ℕ → Readers) → ℕ → Readers
enter inner room m ts = enter_if m (counts m) inner room ts

-- the same through this many forms that hold themselves; at most three of them begin at one symbol, so that three for each symbol are enough
abbrev pub read_at : ℕ → ℕ → Readers
read_at zero room m ts = fault ts
read_at (suc n) room m ts = enter (read_at n) room m ts

unfoldable pub read_nest : ℕ → Readers
read_nest room m ts = read_at (3 * suc (length ts)) room m ts

-- what is read where this many constructs may still be opened
abbrev pub reads : {A : Type 0} → ℕ → Form A → List Symbol → Outcome A
reads room f ts = read (read_nest room) f ts

-- what is such a form, of at most this height, and what begins one
abbrev pub WholeAt : ℕ → Wholes
WholeAt zero m ts x = ⊥
WholeAt (suc h) m ts x = Is (WholeAt h) (rule m) ts x

abbrev pub BegunAt : ℕ → Begun
BegunAt zero m ts n = ⊥
BegunAt (suc h) m ts n = Begins (WholeAt h) (BegunAt h) (rule m) ts n
