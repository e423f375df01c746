-- The rest of an expression is its symbols, and what stands behind it.
use Rattle.std.proofs.Common.{◌≡◌, ℕ, zero, suc, Option, Some, None, subst, List, [], ◌∷◌, ◌++◌, refl, sym, ap, ◌∙◌, append_assoc, inl, inr}
use Rattle.decl_grammar.specs.declared.symbol.Symbol.{Symbol}
use Rattle.decl_grammar.specs.Form.{Wholes, expression_part, conditional, freedom_in, Stands, primitive_sorts, ats, equals, less_sorts, one_of, bracketed, arguments, annotated, created, type_reference, tested, tested_name, tested_dim, Freedom, After, Part, Rest, names, plain_sorts, alone, paired, listed, defaulted, assigned, strict, anywhere, between, name_there, greater, dot, colons, colon_arguments, creation, test, test_name, test_arguments, test_end, expression_rest, value_end, Form, turn, either, nest, attempt, Is}
use Rattle.decl_grammar.specs.Symbols.{word, operator, numbers}
use Rattle.decl_grammar.specs.TokenNames as token
use Rattle.decl_grammar.specs.Expressions.{in_condition, behind_condition, in_lambda, part_symbols, step, told_steps, new_step, two_readings, less_form, plain_dots, plain_squares, greater_dots, greater_squares, dot_form, square_form, other_steps, signs_form, no_symbols, rest_form, expression}
use Rattle.decl_grammar.specs.Rule.{WholeAt}
use Rattle.decl_grammar.proofs.Rivals.{WholeUp, Upto}
use Rattle.decl_grammar.proofs.Heights.{Whole, whole-up, upto-any}
use Rattle.decl_grammar.proofs.OpenBrackets.{leads-append}
use Rattle.decl_grammar.proofs.Effects.{in_brackets, Effect, level, part_effect, Levels}
use Rattle.decl_grammar.proofs.Closed.{levels-any}

-- these symbols are those of the expression, in which all brackets are closed, and behind them comes what stands behind it
abbrev pub Front : (s : Stands) → List Symbol → Rest s → Type 0
Front s us z = (vs : List Symbol) × (us ≡ z.0 ++ vs) × Whole (value_end s) vs z.1 × Levels in_brackets level z.0

abbrev pub Fronts : Wholes → (s : Stands) → Form (Rest s) → Type 0
Fronts v s f = (us : List Symbol) (z : Rest s) → Is v f us z → Front s us z

fronts-either : (v : Wholes) (s : Stands) (f g : Form (Rest s)) → Fronts v s f → Fronts v s g → Fronts v s (either f g)
fronts-either v s f g p q us z (inl is) = p us z is
fronts-either v s f g p q us z (inr is) = q us z is

fronts-attempt : (v : Wholes) (s : Stands) (f g : Form (Rest s)) → Fronts v s f → Fronts v s g → Fronts v s (attempt f g)
fronts-attempt v s f g p q us z (inl is) = p us z is
fronts-attempt v s f g p q us z (inr is) = q us z is

fronts-end : (v : Wholes) (up : WholeUp v Whole) (s : Stands) → Fronts v s (turn no_symbols (nest (value_end s)))
fronts-end v up s us z is = (
  us,
  ap (λ (x : Rest s). x.0 ++ us) (sym is.2),
  subst (λ (x : Rest s). Whole (value_end s) us x.1) (sym is.2) (up (value_end s) us is.0 is.1),
  subst (λ (x : Rest s). Levels in_brackets level x.0) (sym is.2) (λ k ks l. refl),
)

-- each rest of an expression is so
abbrev pub RestFronts : Wholes → Stands → Type 0
RestFronts v s = (w : Freedom) (a : After) (us : List Symbol) (z : Rest s) → v (expression_rest s w a) us z → Front s us z

fronts-step : (v : Wholes) (up : WholeUp v Whole) (s : Stands) → RestFronts v s → (p : Part) → part_effect in_brackets p ≡ level → (w : Freedom) (a : After) → Fronts v s (step s p w a)
unfolding step part_symbols
fronts-step v up s ih p even w a us z is =
    let q = is.1 in
    let r = ih w a q.1 is.0.1 q.4 in
    let part : is.0.0 ≡ q.0 = q.3.2 ∙ q.3.1.1 in
    let here : Levels in_brackets level q.0 = subst (λ (e : Effect). Levels in_brackets e q.0) even (levels-any in_brackets (expression_part s p) q.0 q.3.0.1 (up (expression_part s p) q.0 q.3.0.1 q.3.1.0)) in
    let whole : us ≡ z.0 ++ r.0 =
    q.2 ∙ ap (λ (x : List Symbol). q.0 ++ x) r.1 ∙ ap (λ (x : List Symbol). x ++ (is.0.1.0 ++ r.0)) (sym part) ∙ sym (append_assoc is.0.0 is.0.1.0 r.0) ∙ ap (λ (x : Rest s). x.0 ++ r.0) (sym is.2) in
    let more : Levels in_brackets level (q.0 ++ is.0.1.0) = λ k ks l. leads-append q.0 is.0.1.0 (k ∷ ks) (k ∷ ks) (k ∷ ks) (here k ks l) (r.3 k ks l) in
    let all : Levels in_brackets level (is.0.0 ++ is.0.1.0) = subst (λ (x : List Symbol). Levels in_brackets level (x ++ is.0.1.0)) (sym part) more in
    (r.0, whole, subst (λ (x : Rest s). Whole (value_end s) r.0 x.1) (sym is.2) r.2, subst (λ (x : Rest s). Levels in_brackets level x.0) (sym is.2) all)

new-fronts : (v : Wholes) (up : WholeUp v Whole) (s : Stands) → RestFronts v s → (w : Freedom) (a : After) → Fronts v s (new_step s w a)
new-fronts v up s ih w between = fronts-step v up s ih created refl w creation
new-fronts v up s ih w name_there = fronts-step v up s ih created refl w creation
new-fronts v up s ih w greater = fronts-step v up s ih created refl w creation
new-fronts v up s ih w dot = fronts-step v up s ih created refl w creation
new-fronts v up s ih w colons = fronts-step v up s ih (one_of (word token.new ∷ [])) refl w between
new-fronts v up s ih w colon_arguments = fronts-step v up s ih (one_of (word token.new ∷ [])) refl w between
new-fronts v up s ih w creation = fronts-step v up s ih created refl w creation
new-fronts v up s ih w test = fronts-step v up s ih created refl w creation
new-fronts v up s ih w test_name = fronts-step v up s ih created refl w creation
new-fronts v up s ih w test_arguments = fronts-step v up s ih created refl w creation
new-fronts v up s ih w test_end = fronts-step v up s ih created refl w creation

told-fronts : (v : Wholes) (up : WholeUp v Whole) (s : Stands) → RestFronts v s → (sorts : List ℕ) → part_effect in_brackets (one_of sorts) ≡ level → (w : Freedom) (a : After) → Fronts v s (told_steps s sorts w a)
unfolding numbers told_steps
told-fronts v up s ih sorts even w a = (fronts-either v s (step s (one_of sorts) w name_there) (either (step s (one_of plain_sorts) w between) (either (step s (bracketed (operator token.open_parenthesis ∷ [])) w between) (either (new_step s w a) (either (step s tested w test) (either (step s (one_of (operator token.greater_than ∷ [])) w greater) (either (step s (one_of (operator token.question ∷ [])) (in_condition w) between) (either (step s (one_of (operator token.colon ∷ [])) (behind_condition w) between) (step s (one_of (operator token.arrow ∷ [])) (in_lambda w) between)))))))) (fronts-step v up s ih (one_of sorts) even w name_there) (fronts-either v s (step s (one_of plain_sorts) w between) (either (step s (bracketed (operator token.open_parenthesis ∷ [])) w between) (either (new_step s w a) (either (step s tested w test) (either (step s (one_of (operator token.greater_than ∷ [])) w greater) (either (step s (one_of (operator token.question ∷ [])) (in_condition w) between) (either (step s (one_of (operator token.colon ∷ [])) (behind_condition w) between) (step s (one_of (operator token.arrow ∷ [])) (in_lambda w) between))))))) (fronts-step v up s ih (one_of plain_sorts) refl w between) (fronts-either v s (step s (bracketed (operator token.open_parenthesis ∷ [])) w between) (either (new_step s w a) (either (step s tested w test) (either (step s (one_of (operator token.greater_than ∷ [])) w greater) (either (step s (one_of (operator token.question ∷ [])) (in_condition w) between) (either (step s (one_of (operator token.colon ∷ [])) (behind_condition w) between) (step s (one_of (operator token.arrow ∷ [])) (in_lambda w) between)))))) (fronts-step v up s ih (bracketed (operator token.open_parenthesis ∷ [])) refl w between) (fronts-either v s (new_step s w a) (either (step s tested w test) (either (step s (one_of (operator token.greater_than ∷ [])) w greater) (either (step s (one_of (operator token.question ∷ [])) (in_condition w) between) (either (step s (one_of (operator token.colon ∷ [])) (behind_condition w) between) (step s (one_of (operator token.arrow ∷ [])) (in_lambda w) between))))) (new-fronts v up s ih w a) (fronts-either v s (step s tested w test) (either (step s (one_of (operator token.greater_than ∷ [])) w greater) (either (step s (one_of (operator token.question ∷ [])) (in_condition w) between) (either (step s (one_of (operator token.colon ∷ [])) (behind_condition w) between) (step s (one_of (operator token.arrow ∷ [])) (in_lambda w) between)))) (fronts-step v up s ih tested refl w test) (fronts-either v s (step s (one_of (operator token.greater_than ∷ [])) w greater) (either (step s (one_of (operator token.question ∷ [])) (in_condition w) between) (either (step s (one_of (operator token.colon ∷ [])) (behind_condition w) between) (step s (one_of (operator token.arrow ∷ [])) (in_lambda w) between))) (fronts-step v up s ih (one_of (operator token.greater_than ∷ [])) refl w greater) (fronts-either v s (step s (one_of (operator token.question ∷ [])) (in_condition w) between) (either (step s (one_of (operator token.colon ∷ [])) (behind_condition w) between) (step s (one_of (operator token.arrow ∷ [])) (in_lambda w) between)) (fronts-step v up s ih (one_of (operator token.question ∷ [])) refl (in_condition w) between) (fronts-either v s (step s (one_of (operator token.colon ∷ [])) (behind_condition w) between) (step s (one_of (operator token.arrow ∷ [])) (in_lambda w) between) (fronts-step v up s ih (one_of (operator token.colon ∷ [])) refl (behind_condition w) between) (fronts-step v up s ih (one_of (operator token.arrow ∷ [])) refl (in_lambda w) between)))))))))

less-fronts : (v : Wholes) (up : WholeUp v Whole) (s : Stands) → RestFronts v s → (w : Freedom) (a : After) → Fronts v s (less_form s w a)
unfolding two_readings
less-fronts v up s ih w between = fronts-step v up s ih (one_of (less_sorts between)) refl w between
less-fronts v up s ih w name_there = fronts-attempt v s (step s type_reference w colons) (step s (one_of (operator token.less_than ∷ [])) w between) (fronts-step v up s ih type_reference refl w colons) (fronts-step v up s ih (one_of (operator token.less_than ∷ [])) refl w between)
less-fronts v up s ih w greater = fronts-step v up s ih (one_of (less_sorts greater)) refl w between
less-fronts v up s ih w dot = fronts-step v up s ih arguments refl w between
less-fronts v up s ih w colons = fronts-step v up s ih arguments refl w colon_arguments
less-fronts v up s ih w colon_arguments = fronts-step v up s ih (one_of (less_sorts colon_arguments)) refl w between
less-fronts v up s ih w creation = fronts-step v up s ih (one_of (less_sorts creation)) refl w between
less-fronts v up s ih w test = fronts-step v up s ih (one_of (less_sorts test)) refl w between
less-fronts v up s ih w test_name = fronts-step v up s ih arguments refl w test_arguments
less-fronts v up s ih w test_arguments = fronts-step v up s ih (one_of (less_sorts test_arguments)) refl w between
less-fronts v up s ih w test_end = fronts-step v up s ih (one_of (less_sorts test_end)) refl w between

plain-dots-fronts : (v : Wholes) (up : WholeUp v Whole) (s : Stands) → RestFronts v s → (w : Freedom) → Fronts v s (plain_dots s w)
unfolding plain_dots
plain-dots-fronts v up s ih w = (fronts-either v s (step s (one_of (operator token.dot ∷ [])) w dot) (step s (one_of (operator token.double_colon ∷ [])) w colons) (fronts-step v up s ih (one_of (operator token.dot ∷ [])) refl w dot) (fronts-step v up s ih (one_of (operator token.double_colon ∷ [])) refl w colons))

plain-squares-fronts : (v : Wholes) (up : WholeUp v Whole) (s : Stands) → RestFronts v s → (w : Freedom) → Fronts v s (plain_squares s w)
unfolding plain_squares
plain-squares-fronts v up s ih w = (fronts-either v s (step s (bracketed (operator token.open_bracket ∷ [])) w between) (step s (one_of ats) w between) (fronts-step v up s ih (bracketed (operator token.open_bracket ∷ [])) refl w between) (fronts-step v up s ih (one_of ats) refl w between))

greater-dots-fronts : (v : Wholes) (up : WholeUp v Whole) (s : Stands) → RestFronts v s → (w : Freedom) → Fronts v s (greater_dots s w)
greater-dots-fronts v up alone ih w = fronts-step v up alone ih (one_of []) refl w between
greater-dots-fronts v up paired ih w = fronts-step v up paired ih (one_of []) refl w between
greater-dots-fronts v up listed ih w = fronts-step v up listed ih (one_of []) refl w between
greater-dots-fronts v up defaulted ih w = fronts-step v up defaulted ih (one_of []) refl w between
greater-dots-fronts v up assigned ih w = plain-dots-fronts v up assigned ih w

greater-squares-fronts : (v : Wholes) (up : WholeUp v Whole) (s : Stands) → RestFronts v s → (w : Freedom) → Fronts v s (greater_squares s w)
greater-squares-fronts v up alone ih w = fronts-step v up alone ih annotated refl w name_there
greater-squares-fronts v up paired ih w = fronts-step v up paired ih annotated refl w name_there
greater-squares-fronts v up listed ih w = fronts-step v up listed ih annotated refl w name_there
greater-squares-fronts v up defaulted ih w = fronts-step v up defaulted ih annotated refl w name_there
greater-squares-fronts v up assigned ih w = plain-squares-fronts v up assigned ih w

dot-fronts : (v : Wholes) (up : WholeUp v Whole) (s : Stands) → RestFronts v s → (w : Freedom) (a : After) → Fronts v s (dot_form s w a)
dot-fronts v up s ih w between = plain-dots-fronts v up s ih w
dot-fronts v up s ih w name_there = plain-dots-fronts v up s ih w
dot-fronts v up s ih w greater = greater-dots-fronts v up s ih w
dot-fronts v up s ih w dot = plain-dots-fronts v up s ih w
dot-fronts v up s ih w colons = plain-dots-fronts v up s ih w
dot-fronts v up s ih w colon_arguments = plain-dots-fronts v up s ih w
dot-fronts v up s ih w creation = fronts-step v up s ih (one_of []) refl w between
dot-fronts v up s ih w test = plain-dots-fronts v up s ih w
dot-fronts v up s ih w test_name = (fronts-either v s (step s tested_name w test_name) (step s (one_of (operator token.double_colon ∷ [])) w colons) (fronts-step v up s ih tested_name refl w test_name) (fronts-step v up s ih (one_of (operator token.double_colon ∷ [])) refl w colons))
dot-fronts v up s ih w test_arguments = (fronts-either v s (step s tested_name w test_name) (step s (one_of (operator token.double_colon ∷ [])) w colons) (fronts-step v up s ih tested_name refl w test_name) (fronts-step v up s ih (one_of (operator token.double_colon ∷ [])) refl w colons))
dot-fronts v up s ih w test_end = plain-dots-fronts v up s ih w

square-fronts : (v : Wholes) (up : WholeUp v Whole) (s : Stands) → RestFronts v s → (w : Freedom) (a : After) → Fronts v s (square_form s w a)
square-fronts v up s ih w between = plain-squares-fronts v up s ih w
square-fronts v up s ih w name_there = plain-squares-fronts v up s ih w
square-fronts v up s ih w greater = greater-squares-fronts v up s ih w
square-fronts v up s ih w dot = plain-squares-fronts v up s ih w
square-fronts v up s ih w colons = plain-squares-fronts v up s ih w
square-fronts v up s ih w colon_arguments = plain-squares-fronts v up s ih w
square-fronts v up s ih w creation = plain-squares-fronts v up s ih w
square-fronts v up s ih w test = plain-squares-fronts v up s ih w
square-fronts v up s ih w test_name = fronts-step v up s ih tested_dim refl w test_end
square-fronts v up s ih w test_arguments = fronts-step v up s ih tested_dim refl w test_end
square-fronts v up s ih w test_end = fronts-step v up s ih tested_dim refl w test_end

equals-even : (w : Freedom) → part_effect in_brackets (one_of (equals w)) ≡ level
equals-even strict = refl
equals-even (conditional n) = refl
equals-even anywhere = refl

other-fronts : (v : Wholes) (up : WholeUp v Whole) (s : Stands) → RestFronts v s → (w : Freedom) → Fronts v s (other_steps s w)
unfolding other_steps
other-fronts v up s ih w = (fronts-either v s (step s (bracketed (operator token.open_brace ∷ [])) w between) (step s (one_of (equals w)) w between) (fronts-step v up s ih (bracketed (operator token.open_brace ∷ [])) refl w between) (fronts-step v up s ih (one_of (equals w)) (equals-even w) w between))

signs-fronts : (v : Wholes) (up : WholeUp v Whole) (s : Stands) → RestFronts v s → (w : Freedom) (a : After) → Fronts v s (signs_form s w a)
unfolding signs_form
signs-fronts v up s ih w a =
    fronts-either v s (less_form s w a) (either (dot_form s w a) (square_form s w a)) (less-fronts v up s ih w a)
    (fronts-either v s (dot_form s w a) (square_form s w a) (dot-fronts v up s ih w a) (square-fronts v up s ih w a))

any-fronts : (v : Wholes) (up : WholeUp v Whole) (s : Stands) → RestFronts v s → (w : Freedom) (a : After) → Fronts v s (either (told_steps s names w a) (either (signs_form s w a) (either (other_steps s w) (turn no_symbols (nest (value_end s))))))
any-fronts v up s ih w a =
    fronts-either v s (told_steps s names w a) (either (signs_form s w a) (either (other_steps s w) (turn no_symbols (nest (value_end s))))) (told-fronts v up s ih names refl w a)
    (fronts-either v s (signs_form s w a) (either (other_steps s w) (turn no_symbols (nest (value_end s)))) (signs-fronts v up s ih w a)
    (fronts-either v s (other_steps s w) (turn no_symbols (nest (value_end s))) (other-fronts v up s ih w) (fronts-end v up s)))

form-fronts : (v : Wholes) (up : WholeUp v Whole) (s : Stands) → RestFronts v s → (w : Freedom) (a : After) → Fronts v s (rest_form s w a)
form-fronts v up s ih w between = any-fronts v up s ih w between
form-fronts v up s ih w name_there = any-fronts v up s ih w name_there
form-fronts v up s ih w greater = any-fronts v up s ih w greater
form-fronts v up s ih w dot = any-fronts v up s ih w dot
form-fronts v up s ih w colons = any-fronts v up s ih w colons
form-fronts v up s ih w colon_arguments = any-fronts v up s ih w colon_arguments
form-fronts v up s ih w creation = any-fronts v up s ih w creation
form-fronts v up s ih w test = (fronts-either v s (step s (one_of names) w test_name) (step s (one_of primitive_sorts) w test_end) (fronts-step v up s ih (one_of names) refl w test_name) (fronts-step v up s ih (one_of primitive_sorts) refl w test_end))
form-fronts v up s ih w test_name = any-fronts v up s ih w test_name
form-fronts v up s ih w test_arguments = any-fronts v up s ih w test_arguments
form-fronts v up s ih w test_end = any-fronts v up s ih w test_end

pub rest-fronts : (h : ℕ) (s : Stands) → RestFronts (WholeAt h) s
rest-fronts zero s w a us z is = absurd is
rest-fronts (suc h) s w a us z is = form-fronts (WholeAt h) (whole-up h) s (rest-fronts h s) (freedom_in s w) a us z is

fronts-any : (s : Stands) → RestFronts Whole s
fronts-any s w a us z is = rest-fronts is.0 s w a us z is.1

fronts-upto : (l : Option ℕ) (s : Stands) → RestFronts (Upto l) s
fronts-upto None s = fronts-any s
fronts-upto (Some h) s = rest-fronts h s

-- an initialiser is its symbols, and what stands behind it
pub expression-fronts : (l : Option ℕ) → Fronts (Upto l) assigned (expression assigned)
expression-fronts l =
    fronts-either (Upto l) assigned (told_steps assigned names anywhere between) (either (signs_form assigned anywhere between) (other_steps assigned anywhere)) (told-fronts (Upto l) (upto-any l) assigned (fronts-upto l assigned) names refl anywhere between)
    (fronts-either (Upto l) assigned (signs_form assigned anywhere between) (other_steps assigned anywhere) (signs-fronts (Upto l) (upto-any l) assigned (fronts-upto l assigned) anywhere between) (other-fronts (Upto l) (upto-any l) assigned (fronts-upto l assigned) anywhere))
