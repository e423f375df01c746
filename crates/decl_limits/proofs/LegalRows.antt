-- Rows of expressions are legal with all that stands behind them, where the values and the ends that stand in them are: a part adds its symbols, and is read only where a value may be open.
use Rattle.std.proofs.Common.{◌≡◌, ◌&&◌, ℕ, zero, suc, ◌≤◌, Bool, true, List, [], ◌∷◌, ◌++◌, refl, sym, ap, ◌∙◌, arith, append_assoc}
use Rattle.apt_base.specs.Forms.{is_name, fits_if_some}
use Rattle.decl_tree.specs.Legal.{pair_fits, is_legal_value}
use Rattle.decl_grammar.specs.declared.symbol.Symbol.{Symbol}
use Rattle.decl_grammar.specs.declared.written.Declarator.{Declarator}
use Rattle.decl_grammar.specs.Symbols.{word, operator}
use Rattle.decl_grammar.specs.TokenNames as token
use Rattle.decl_grammar.specs.Form.{Stands, Freedom, After, Part, Behind, Rest, is_value, names, ats, plain_sorts, primitive_sorts, equals, first_names, less_sorts, alone, paired, listed, defaulted, assigned, strict, anywhere, between, name_there, greater, dot, colons, colon_arguments, creation, test, test_name, test_arguments, test_end, one_of, bracketed, arguments, annotated, created, type_reference, tested, tested_name, tested_dim, expression_part, expression_rest, value_end, Form, turn, either, nest}
use Rattle.decl_grammar.specs.Types.{as_written}
use Rattle.decl_grammar.specs.Expressions.{in_condition, behind_condition, in_lambda, symbols_of_part, part_symbols, with_symbols, step, told_steps, new_step, two_readings, less_form, plain_dots, plain_squares, greater_dots, greater_squares, dot_form, square_form, other_steps, signs_form, no_symbols, rest_form, value_squares, expression}
use Rattle.decl_limits.proofs.LegalTexts.{Items, items-grow}
use Rattle.decl_limits.proofs.LegalForms.{Has, has-more, has-turn, has-pair, has-either, has-attempt, has-seen, has-no-room}

-- ---- what is said of them

-- a field with its name and its constant
abbrev pub declarator_fits : ℕ → Declarator → Bool
declarator_fits room d = is_name d.name.name && fits_if_some (is_legal_value room) d.constant

-- what stands behind a value
abbrev pub BehindFits : (s : Stands) → ℕ → List Symbol → Behind s → Type 0
BehindFits alone room ts x = Unit {0}
BehindFits paired room ts ps = Items (pair_fits (is_legal_value room)) ts ps
BehindFits listed room ts vs = Items (is_legal_value room) ts vs
BehindFits defaulted room ts x = Unit {0}
BehindFits assigned room ts ds = Items (declarator_fits room) ts ds

pub behind-grow : (s : Stands) (room : ℕ) (us vs : List Symbol) (x : Behind s) → BehindFits s room vs x → BehindFits s room (us ++ vs) x
behind-grow alone room us vs x p = tt
behind-grow paired room us vs x p = items-grow (pair_fits (is_legal_value room)) us vs x p
behind-grow listed room us vs x p = items-grow (is_legal_value room) us vs x p
behind-grow defaulted room us vs x p = tt
behind-grow assigned room us vs x p = items-grow (declarator_fits room) us vs x p

-- the rest of an expression: its symbols are the first ones
abbrev pub RestFits : (s : Stands) → ℕ → List Symbol → Rest s → Type 0
RestFits s room ts x = (back : List Symbol) × (ts ≡ x.0 ++ back) × BehindFits s room ts x.1

-- within a value something may be open
abbrev pub Open : Stands → ℕ → Type 0
Open s room = is_value s ≡ true → 1 ≤ room

abbrev pub StepFits : (s : Stands) → ℕ → List Symbol → Rest s → Type 0
StepFits s room ts x = Open s room × RestFits s room ts x

abbrev pub Rests : ℕ → Stands → Type 0
Rests h s = (w : Freedom) (a : After) (room : ℕ) → Has h room (nest (expression_rest s w a)) (RestFits s room)

abbrev pub Ends : ℕ → Stands → Type 0
Ends h s = (room : ℕ) → Has h room (nest (value_end s)) (BehindFits s room)

-- ---- a part, and the rest behind it

value-part : (h : ℕ) (s : Stands) (p : Part) → is_value s ≡ true → Has h zero (nest (expression_part s p)) (λ ts x. Open s zero)
value-part h s p e = has-no-room h (expression_part s p) e (λ ts x. Open s zero)

part-open : (h room : ℕ) (s : Stands) (p : Part) → Has h room (nest (expression_part s p)) (λ ts x. Open s room)
part-open h zero alone p = value-part h alone p refl
part-open h zero paired p = value-part h paired p refl
part-open h zero listed p = value-part h listed p refl
part-open h zero defaulted p = value-part h defaulted p refl
part-open h zero assigned p = record { there = λ ts x a sh is. λ e. absurd cc }
part-open h (suc room) s p = record { there = λ ts x a sh is. λ e. omega arith }

abbrev PartAt : Stands → ℕ → List Symbol → List Symbol → Type 0
PartAt s room ts us = (us ≡ ts) × Open s room

symbols-has : (h room : ℕ) (s : Stands) (p : Part) → Has h room (part_symbols s p) (PartAt s room)
unfolding part_symbols
symbols-has h room s p = has-turn symbols_of_part (PartAt s room) (has-seen as_written (part-open h room s p)) (λ ts x a q. q)

pub step-fits : (h : ℕ) (s : Stands) → Rests h s → (p : Part) (w : Freedom) (a : After) (room : ℕ) → Has h room (step s p w a) (StepFits s room)
unfolding step
step-fits h s rests p w a room =
    has-turn with_symbols (StepFits s room)
    (has-pair (λ ts x. StepFits s room ts (with_symbols x)) (symbols-has h room s p) (rests w a room)
    (λ us vs x t p q. (p.1, (q.0, ap (λ (ss : List Symbol). us ++ ss) q.1 ∙ (sym (append_assoc us x.1.0 q.0) ∙ ap (λ (ss : List Symbol). (ss ++ x.1.0) ++ q.0) (sym p.0)), behind-grow s room us vs x.1.1 q.2))))
    (λ ts x t p. p)

-- ---- the rest of an expression, as it is written

new-fits : (h : ℕ) (s : Stands) → Rests h s → (w : Freedom) (a : After) (room : ℕ) → Has h room (new_step s w a) (StepFits s room)
new-fits h s rests w between room = step-fits h s rests created w creation room
new-fits h s rests w name_there room = step-fits h s rests created w creation room
new-fits h s rests w greater room = step-fits h s rests created w creation room
new-fits h s rests w dot room = step-fits h s rests created w creation room
new-fits h s rests w colons room = step-fits h s rests (one_of (word token.new ∷ [])) w between room
new-fits h s rests w colon_arguments room = step-fits h s rests (one_of (word token.new ∷ [])) w between room
new-fits h s rests w creation room = step-fits h s rests created w creation room
new-fits h s rests w test room = step-fits h s rests created w creation room
new-fits h s rests w test_name room = step-fits h s rests created w creation room
new-fits h s rests w test_arguments room = step-fits h s rests created w creation room
new-fits h s rests w test_end room = step-fits h s rests created w creation room

told-fits : (h : ℕ) (s : Stands) → Rests h s → (sorts : List ℕ) (w : Freedom) (a : After) (room : ℕ) → Has h room (told_steps s sorts w a) (StepFits s room)
unfolding told_steps
told-fits h s rests sorts w a room =
    has-either (step-fits h s rests (one_of sorts) w name_there room)
    (has-either (step-fits h s rests (one_of plain_sorts) w between room)
    (has-either (step-fits h s rests (bracketed (operator token.open_parenthesis ∷ [])) w between room)
    (has-either (new-fits h s rests w a room)
    (has-either (step-fits h s rests tested w test room)
    (has-either (step-fits h s rests (one_of (operator token.greater_than ∷ [])) w greater room)
    (has-either (step-fits h s rests (one_of (operator token.question ∷ [])) (in_condition w) between room)
    (has-either (step-fits h s rests (one_of (operator token.colon ∷ [])) (behind_condition w) between room)
    (step-fits h s rests (one_of (operator token.arrow ∷ [])) (in_lambda w) between room))))))))

less-fits : (h : ℕ) (s : Stands) → Rests h s → (w : Freedom) (a : After) (room : ℕ) → Has h room (less_form s w a) (StepFits s room)
unfolding two_readings
less-fits h s rests w between room = step-fits h s rests (one_of (less_sorts between)) w between room
less-fits h s rests w name_there room = has-attempt (step-fits h s rests type_reference w colons room) (step-fits h s rests (one_of (operator token.less_than ∷ [])) w between room)
less-fits h s rests w greater room = step-fits h s rests (one_of (less_sorts greater)) w between room
less-fits h s rests w dot room = step-fits h s rests arguments w between room
less-fits h s rests w colons room = step-fits h s rests arguments w colon_arguments room
less-fits h s rests w colon_arguments room = step-fits h s rests (one_of (less_sorts colon_arguments)) w between room
less-fits h s rests w creation room = step-fits h s rests (one_of (less_sorts creation)) w between room
less-fits h s rests w test room = step-fits h s rests (one_of (less_sorts test)) w between room
less-fits h s rests w test_name room = step-fits h s rests arguments w test_arguments room
less-fits h s rests w test_arguments room = step-fits h s rests (one_of (less_sorts test_arguments)) w between room
less-fits h s rests w test_end room = step-fits h s rests (one_of (less_sorts test_end)) w between room

plain-dots-fit : (h : ℕ) (s : Stands) → Rests h s → (w : Freedom) (room : ℕ) → Has h room (plain_dots s w) (StepFits s room)
unfolding plain_dots
plain-dots-fit h s rests w room = has-either (step-fits h s rests (one_of (operator token.dot ∷ [])) w dot room) (step-fits h s rests (one_of (operator token.double_colon ∷ [])) w colons room)

greater-dots-fit : (h : ℕ) (s : Stands) → Rests h s → (w : Freedom) (room : ℕ) → Has h room (greater_dots s w) (StepFits s room)
greater-dots-fit h assigned rests w room = plain-dots-fit h assigned rests w room
greater-dots-fit h alone rests w room = step-fits h alone rests (one_of []) w between room
greater-dots-fit h paired rests w room = step-fits h paired rests (one_of []) w between room
greater-dots-fit h listed rests w room = step-fits h listed rests (one_of []) w between room
greater-dots-fit h defaulted rests w room = step-fits h defaulted rests (one_of []) w between room

test-dots-fit : (h : ℕ) (s : Stands) → Rests h s → (w : Freedom) (room : ℕ) → Has h room (dot_form s w test_name) (StepFits s room)
test-dots-fit h s rests w room = has-either (step-fits h s rests tested_name w test_name room) (step-fits h s rests (one_of (operator token.double_colon ∷ [])) w colons room)

dots-fit : (h : ℕ) (s : Stands) → Rests h s → (w : Freedom) (a : After) (room : ℕ) → Has h room (dot_form s w a) (StepFits s room)
dots-fit h s rests w between room = plain-dots-fit h s rests w room
dots-fit h s rests w name_there room = plain-dots-fit h s rests w room
dots-fit h s rests w greater room = greater-dots-fit h s rests w room
dots-fit h s rests w dot room = plain-dots-fit h s rests w room
dots-fit h s rests w colons room = plain-dots-fit h s rests w room
dots-fit h s rests w colon_arguments room = plain-dots-fit h s rests w room
dots-fit h s rests w creation room = step-fits h s rests (one_of []) w between room
dots-fit h s rests w test room = plain-dots-fit h s rests w room
dots-fit h s rests w test_name room = test-dots-fit h s rests w room
dots-fit h s rests w test_arguments room = test-dots-fit h s rests w room
dots-fit h s rests w test_end room = plain-dots-fit h s rests w room

plain-squares-fit : (h : ℕ) (s : Stands) → Rests h s → (w : Freedom) (room : ℕ) → Has h room (plain_squares s w) (StepFits s room)
unfolding plain_squares
plain-squares-fit h s rests w room = has-either (step-fits h s rests (bracketed (operator token.open_bracket ∷ [])) w between room) (step-fits h s rests (one_of ats) w between room)

greater-squares-fit : (h : ℕ) (s : Stands) → Rests h s → (w : Freedom) (room : ℕ) → Has h room (greater_squares s w) (StepFits s room)
greater-squares-fit h assigned rests w room = plain-squares-fit h assigned rests w room
greater-squares-fit h alone rests w room = step-fits h alone rests annotated w name_there room
greater-squares-fit h paired rests w room = step-fits h paired rests annotated w name_there room
greater-squares-fit h listed rests w room = step-fits h listed rests annotated w name_there room
greater-squares-fit h defaulted rests w room = step-fits h defaulted rests annotated w name_there room

squares-fit : (h : ℕ) (s : Stands) → Rests h s → (w : Freedom) (a : After) (room : ℕ) → Has h room (square_form s w a) (StepFits s room)
squares-fit h s rests w between room = plain-squares-fit h s rests w room
squares-fit h s rests w name_there room = plain-squares-fit h s rests w room
squares-fit h s rests w greater room = greater-squares-fit h s rests w room
squares-fit h s rests w dot room = plain-squares-fit h s rests w room
squares-fit h s rests w colons room = plain-squares-fit h s rests w room
squares-fit h s rests w colon_arguments room = plain-squares-fit h s rests w room
squares-fit h s rests w creation room = plain-squares-fit h s rests w room
squares-fit h s rests w test room = plain-squares-fit h s rests w room
squares-fit h s rests w test_name room = step-fits h s rests tested_dim w test_end room
squares-fit h s rests w test_arguments room = step-fits h s rests tested_dim w test_end room
squares-fit h s rests w test_end room = step-fits h s rests tested_dim w test_end room

signs-fit : (h : ℕ) (s : Stands) → Rests h s → (w : Freedom) (a : After) (room : ℕ) → Has h room (signs_form s w a) (StepFits s room)
unfolding signs_form
signs-fit h s rests w a room = has-either (less-fits h s rests w a room) (has-either (dots-fit h s rests w a room) (squares-fit h s rests w a room))

others-fit : (h : ℕ) (s : Stands) → Rests h s → (w : Freedom) (room : ℕ) → Has h room (other_steps s w) (StepFits s room)
unfolding other_steps
others-fit h s rests w room = has-either (step-fits h s rests (bracketed (operator token.open_brace ∷ [])) w between room) (step-fits h s rests (one_of (equals w)) w between room)

weak : {h room : ℕ} (s : Stands) {f : Form (Rest s)} → Has h room f (StepFits s room) → Has h room f (RestFits s room)
weak {h} {room} s p = has-more (RestFits s room) p (λ ts x a q. q.1)

ends-fit : (h : ℕ) (s : Stands) → Ends h s → (room : ℕ) → Has h room (turn no_symbols (nest (value_end s))) (RestFits s room)
ends-fit h s ends room = has-turn no_symbols (RestFits s room) (ends room) (λ ts b a p. (ts, refl, p))

any-fits : (h : ℕ) (s : Stands) → Rests h s → Ends h s → (w : Freedom) (a : After) (room : ℕ) → Has h room (either (told_steps s names w a) (either (signs_form s w a) (either (other_steps s w) (turn no_symbols (nest (value_end s)))))) (RestFits s room)
any-fits h s rests ends w a room =
    has-either (weak s (told-fits h s rests names w a room)) (has-either (weak s (signs-fit h s rests w a room)) (has-either (weak s (others-fit h s rests w room)) (ends-fit h s ends room)))

pub rest-fits : (h : ℕ) (s : Stands) → Rests h s → Ends h s → (w : Freedom) (a : After) (room : ℕ) → Has h room (rest_form s w a) (RestFits s room)
rest-fits h s rests ends w between room = any-fits h s rests ends w between room
rest-fits h s rests ends w name_there room = any-fits h s rests ends w name_there room
rest-fits h s rests ends w greater room = any-fits h s rests ends w greater room
rest-fits h s rests ends w dot room = any-fits h s rests ends w dot room
rest-fits h s rests ends w colons room = any-fits h s rests ends w colons room
rest-fits h s rests ends w colon_arguments room = any-fits h s rests ends w colon_arguments room
rest-fits h s rests ends w creation room = any-fits h s rests ends w creation room
rest-fits h s rests ends w test room = has-either (weak s (step-fits h s rests (one_of names) w test_name room)) (weak s (step-fits h s rests (one_of primitive_sorts) w test_end room))
rest-fits h s rests ends w test_name room = any-fits h s rests ends w test_name room
rest-fits h s rests ends w test_arguments room = any-fits h s rests ends w test_arguments room
rest-fits h s rests ends w test_end room = any-fits h s rests ends w test_end room

-- ---- expressions

first-fits : (h : ℕ) (s : Stands) → Rests h s → (room : ℕ) → Has h room (either (told_steps s (first_names s) strict between) (either (less_form s strict between) (either (plain_dots s strict) (value_squares s)))) (StepFits s room)
unfolding value_squares
first-fits h s rests room =
    has-either (told-fits h s rests (first_names s) strict between room)
    (has-either (less-fits h s rests strict between room) (has-either (plain-dots-fit h s rests strict room) (step-fits h s rests (bracketed (operator token.open_bracket ∷ [])) strict between room)))

pub expression-fits : (h : ℕ) (s : Stands) → Rests h s → (room : ℕ) → Has h room (expression s) (StepFits s room)
expression-fits h assigned rests room =
    has-either (told-fits h assigned rests names anywhere between room) (has-either (signs-fit h assigned rests anywhere between room) (others-fit h assigned rests anywhere room))
expression-fits h alone rests room = first-fits h alone rests room
expression-fits h paired rests room = first-fits h paired rests room
expression-fits h listed rests room = first-fits h listed rests room
expression-fits h defaulted rests room = first-fits h defaulted rests room
