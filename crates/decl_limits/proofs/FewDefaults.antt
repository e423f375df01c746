-- The default of an element of an annotation interface ends at a `;`.
use Rattle.std.proofs.Common.{ℕ, zero, suc, [], ◌∷◌, Option, refl, arith}
use Rattle.decl_tree.specs.declared.annotation.ValueText.{ValueText}
use Rattle.decl_grammar.specs.Form.{defaulted, strict, between, first_names, array_value, nested_annotation, value_and_rest, expression_rest, value_end, bracketed, nest}
use Rattle.decl_grammar.specs.Symbols.{operator}
use Rattle.decl_grammar.specs.TokenNames as token
use Rattle.decl_grammar.specs.Types.{keyword, silently}
use Rattle.decl_grammar.specs.Expressions.{annotation_there, value_there, value_squares, expression, value_of, value_form}
use Rattle.decl_grammar.specs.Grammar.{no_default, some_default, element_end}
use Rattle.decl_limits.proofs.Counted.{AtLeast, none, one, weaker, in-pair, in-turn, in-behind, in-either, nest-zero, nest-suc}
use Rattle.decl_limits.proofs.FewRows.{ended, behind_row, Rows, step-least, told-least, less-least, plain-dots-least, any-least}

rows-least : (h : ℕ) → Rows defaulted h
rows-least zero = record {
  rest = λ w a. nest-zero (expression_rest defaulted w a) (behind_row defaulted);
  end = nest-zero (value_end defaulted) (ended defaulted);
}
rows-least (suc h) = record {
  rest = λ w a. nest-suc h (expression_rest defaulted w a) (behind_row defaulted) (any-least defaulted h (rows-least h) w a);
  end = nest-suc h (value_end defaulted) (ended defaulted) (in-turn silently (ended defaulted) (one h 6 refl) (λ s. omega arith));
}

abbrev value_ended : ValueText × Unit {0} → ℕ
value_ended x = 1

squares-least : (h : ℕ) → AtLeast h (value_squares defaulted) (behind_row defaulted)
unfolding value_squares
squares-least h = step-least defaulted h (rows-least h) (bracketed (operator token.open_bracket ∷ [])) refl strict between

expression-least : (h : ℕ) → AtLeast h (expression defaulted) (behind_row defaulted)
expression-least h =
    in-either (told-least defaulted h (rows-least h) (first_names defaulted) refl strict between)
    (in-either (less-least defaulted h (rows-least h) strict between) (in-either (plain-dots-least defaulted h (rows-least h) strict) (squares-least h)))

value-least : (h : ℕ) → AtLeast h (value_form defaulted) value_ended
unfolding value_form value_of
value-least h =
    in-either (weaker value_ended (in-pair (none h (nest array_value) refl) (rows-least h).end) (λ x. omega arith))
    (in-either (in-turn annotation_there value_ended (in-pair (none h (nest nested_annotation) refl) (rows-least h).end) (λ x. omega arith))
    (in-turn value_there value_ended (expression-least h) (λ x. omega arith)))

value-row : (h : ℕ) → AtLeast h (nest (value_and_rest defaulted)) value_ended
value-row zero = nest-zero (value_and_rest defaulted) value_ended
value-row (suc h) = nest-suc h (value_and_rest defaulted) value_ended (value-least h)

abbrev end_there : Option ValueText → ℕ
end_there o = 1

pub element-end-least : (h : ℕ) → AtLeast h element_end (λ o. 1)
unfolding element_end
element-end-least h =
    in-either (in-turn no_default end_there (one h 6 refl) (λ s. omega arith))
    (in-turn some_default end_there (in-behind 0 (none h (keyword token.default) refl) (value-row h)) (λ x. omega arith))
