-- Each field of one declaration has a name of its own, with a `,` before it, and behind the last one stands a `;`: so an initialiser with all behind it has more separators than it declares further fields.
use Rattle.std.proofs.Common.{ℕ, zero, suc, List, Option, length, refl, arith}
use Rattle.decl_tree.specs.declared.annotation.ValueText.{ValueText}
use Rattle.decl_grammar.specs.declared.written.Declarator.{Declarator}
use Rattle.decl_grammar.specs.Form.{Freedom, After, names, assigned, anywhere, between, expression_rest, initialiser, value_end, pair, turn, many, nest}
use Rattle.decl_grammar.specs.Types.{sign, name_at, dim}
use Rattle.decl_grammar.specs.Expressions.{expression, declarator_first, no_declarators, without_value, value_or_end, assigned_end, constant_alone, initialised, kept_alone, initialiser_form}
use Rattle.decl_limits.proofs.Counted.{AtLeast, none, one, weaker, in-pair, in-turn, in-behind, in-before, in-either, in-attempt, nest-zero, nest-suc}
use Rattle.decl_limits.proofs.EvenForms.{even}
use Rattle.decl_limits.proofs.FewRows.{ended, behind_row, Rows, told-least, signs-least, other-least, any-least}
use Rattle.decl_grammar.specs.TokenNames as token

abbrev pub behind_value : Option ValueText × List Declarator → ℕ
behind_value x = suc (length x.1)

record FieldRows (h : ℕ) : Type 0 where
  rows : Rows assigned h
  first : AtLeast h (nest initialiser) behind_value

constant-least : (h : ℕ) → AtLeast h (turn kept_alone constant_alone) behind_value
unfolding constant_alone
constant-least h = in-turn kept_alone behind_value (in-before 1 (none h _ refl) (one h 6 refl)) (λ ss. omega arith)

expression-least : (h : ℕ) → Rows assigned h → AtLeast h (expression assigned) (behind_row assigned)
expression-least h rows = in-either (told-least assigned h rows names refl anywhere between) (in-either (signs-least assigned h rows anywhere between) (other-least assigned h rows anywhere))

initialiser-least : (h : ℕ) → Rows assigned h → AtLeast h initialiser_form behind_value
unfolding initialiser_form
initialiser-least h rows = in-attempt (constant-least h) (in-turn initialised behind_value (expression-least h rows) (λ x. omega arith))

value-least : (h : ℕ) → FieldRows h → AtLeast h value_or_end behind_value
unfolding value_or_end
value-least h fields =
    in-either (weaker behind_value (in-behind 0 (none h (sign token.equals) refl) fields.first) (λ x. omega arith))
    (in-turn without_value behind_value fields.rows.end (λ ds. omega arith))

-- a further field: its name, and what stands behind that
further-least : (h : ℕ) → FieldRows h → AtLeast h (turn declarator_first (pair name_at (pair (many dim) value_or_end))) length
further-least h fields =
    in-turn declarator_first length (in-pair (none h name_at even.name_at_even) (in-pair (none h (many dim) even.dims_even) (value-least h fields))) (λ x. omega arith)

end-least : (h : ℕ) → FieldRows h → AtLeast h assigned_end (ended assigned)
unfolding assigned_end
end-least h fields =
    in-either (in-turn no_declarators (ended assigned) (one h 6 refl) (λ s. omega arith))
    (weaker (ended assigned) (in-behind 1 (one h 7 refl) (further-least h fields)) (λ ds. omega arith))

field-rows : (h : ℕ) → FieldRows h
field-rows zero = record {
  rows = record {
    rest = λ w a. nest-zero (expression_rest assigned w a) (behind_row assigned);
    end = nest-zero (value_end assigned) (ended assigned);
  };
  first = nest-zero initialiser behind_value;
}
field-rows (suc h) = record {
  rows = record {
    rest = λ w a. nest-suc h (expression_rest assigned w a) (behind_row assigned) (any-least assigned h (field-rows h).rows anywhere a);
    end = nest-suc h (value_end assigned) (ended assigned) (end-least h (field-rows h));
  };
  first = nest-suc h initialiser behind_value (initialiser-least h (field-rows h).rows);
}

-- what stands behind the name and the brackets of a field
pub value-fewer : (h : ℕ) → AtLeast h value_or_end behind_value
value-fewer h = value-least h (field-rows h)

-- the rest of an initialiser from a place in it on, and what ends one
pub rest-fewer : (h : ℕ) (w : Freedom) (a : After) → AtLeast h (nest (expression_rest assigned w a)) (behind_row assigned)
rest-fewer h w a = (field-rows h).rows.rest w a

pub end-fewer : (h : ℕ) → AtLeast h (nest (value_end assigned)) (ended assigned)
end-fewer h = (field-rows h).rows.end
