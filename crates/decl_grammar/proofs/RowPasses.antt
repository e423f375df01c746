-- Over a whole type with its `::` an initialiser in which its first `<` is an operator stands behind the same `::`.
use Rattle.std.proofs.Common.{◌≡◌, ℕ, zero, suc, true, List, [], ◌∷◌, ◌++◌, refl, sym, ap, subst, ◌∙◌, append_assoc, inl, inr}
use Rattle.decl_grammar.specs.declared.symbol.Symbol.{Symbol}
use Rattle.decl_grammar.specs.declared.written.Declarator.{Declarator}
use Rattle.decl_grammar.specs.Form.{conditional, primitive_sorts, ats, equals, less_sorts, one_of, bracketed, arguments, created, type_reference, tested, tested_name, tested_dim, Freedom, After, Part, Rest, names, plain_sorts, assigned, strict, anywhere, between, name_there, greater, dot, colons, colon_arguments, creation, test, test_name, test_arguments, test_end, expression_rest, value_end, Form, turn, either, nest, attempt, Is, Begins}
use Rattle.decl_grammar.specs.Symbols.{word, operator, numbers}
use Rattle.decl_grammar.specs.TokenNames as token
use Rattle.decl_grammar.specs.Expressions.{in_condition, behind_condition, in_lambda, part_symbols, step, told_steps, new_step, two_readings, less_form, plain_dots, plain_squares, greater_dots, greater_squares, dot_form, square_form, other_steps, signs_form, no_symbols, rest_form}
use Rattle.decl_grammar.specs.Rule.{WholeAt, BegunAt}
use Rattle.decl_grammar.proofs.Heads.{nil_parts}
use Rattle.decl_grammar.proofs.Heights.{Started, begins-at}
use Rattle.decl_grammar.proofs.OpenBrackets.{Leads}
use Rattle.decl_grammar.proofs.Raised.{whole-next}
use Rattle.decl_grammar.proofs.TypeParts.{Onward, begun-stops, colons-only, is_colons, lists, onward, passing}
use Rattle.decl_grammar.proofs.Declarators.{nest-begun, no-end}

-- ---- rows

-- symbols before the rest of an initialiser
abbrev pub glue : List Symbol → Rest assigned → Rest assigned
glue us y = (us ++ y.0, y.1)

mark : List Symbol → List Declarator → Rest assigned
mark us y = (us, y)

pub glue-append : (a b : List Symbol) (y : Rest assigned) → glue a (glue b y) ≡ glue (a ++ b) y
unfolding mark
glue-append a b y = ap (λ (u : List Symbol). mark u y.1) (sym (append_assoc a b y.0))

abbrev pub Past : ℕ → List Symbol → List Symbol → Rest assigned → Type 0
Past h us vs z = (w : Freedom) × (y : Rest assigned) × WholeAt h (expression_rest assigned w colons) vs y × (z ≡ glue us y)

abbrev pub Reached : List Symbol → ℕ → Type 0
Reached vs n = (w : Freedom) × Started (expression_rest assigned w colons) vs n

abbrev PassesWhole : ℕ → Form (Rest assigned) → Type 0
PassesWhole h f = (d : ℕ) (us : List Symbol) (r : Symbol) (rs : List Symbol) (z : Rest assigned) → Leads us (lists d) [] → Is (WholeAt h) f (us ++ r ∷ rs) z → Past h us (r ∷ rs) z

abbrev PassesBegun : ℕ → Form (Rest assigned) → Type 0
PassesBegun h f = (d : ℕ) (us : List Symbol) (r : Symbol) (rs : List Symbol) (n : ℕ) → Leads us (lists d) [] → Begins (WholeAt h) (BegunAt h) f (us ++ r ∷ rs) n → Reached (r ∷ rs) n

abbrev Passes : ℕ → Form (Rest assigned) → Type 0
Passes h f = PassesWhole h f × PassesBegun h f

-- each rest of an initialiser is so
abbrev RestWhole : ℕ → Type 0
RestWhole h = (w : Freedom) (a : After) (d : ℕ) (us : List Symbol) (r : Symbol) (rs : List Symbol) (z : Rest assigned) → Leads us (lists d) [] → WholeAt h (expression_rest assigned w a) (us ++ r ∷ rs) z → Past h us (r ∷ rs) z

abbrev RestBegun : ℕ → Type 0
RestBegun h = (w : Freedom) (a : After) (d : ℕ) (us : List Symbol) (r : Symbol) (rs : List Symbol) (n : ℕ) → Leads us (lists d) [] → BegunAt h (expression_rest assigned w a) (us ++ r ∷ rs) n → Reached (r ∷ rs) n

abbrev RestPasses : ℕ → Type 0
RestPasses h = RestWhole h × RestBegun h

whole-either : (h : ℕ) (f g : Form (Rest assigned)) → PassesWhole h f → PassesWhole h g → PassesWhole h (either f g)
whole-either h f g p q d us r rs z l (inl is) = p d us r rs z l is
whole-either h f g p q d us r rs z l (inr is) = q d us r rs z l is

begun-either : (h : ℕ) (f g : Form (Rest assigned)) → PassesBegun h f → PassesBegun h g → PassesBegun h (either f g)
begun-either h f g p q d us r rs n l (inl b) = p d us r rs n l b
begun-either h f g p q d us r rs n l (inr b) = q d us r rs n l b

passes-either : (h : ℕ) (f g : Form (Rest assigned)) → Passes h f → Passes h g → Passes h (either f g)
passes-either h f g p q = (whole-either h f g p.0 q.0, begun-either h f g p.1 q.1)

whole-attempt : (h : ℕ) (f g : Form (Rest assigned)) → PassesWhole h f → PassesWhole h g → PassesWhole h (attempt f g)
whole-attempt h f g p q d us r rs z l (inl is) = p d us r rs z l is
whole-attempt h f g p q d us r rs z l (inr is) = q d us r rs z l is

begun-attempt : (h : ℕ) (f g : Form (Rest assigned)) → PassesBegun h f → PassesBegun h g → PassesBegun h (attempt f g)
begun-attempt h f g p q d us r rs n l (inl b) = p d us r rs n l b
begun-attempt h f g p q d us r rs n l (inr b) = q d us r rs n l b

passes-attempt : (h : ℕ) (f g : Form (Rest assigned)) → Passes h f → Passes h g → Passes h (attempt f g)
passes-attempt h f g p q = (whole-attempt h f g p.0 q.0, begun-attempt h f g p.1 q.1)

end-whole : (h : ℕ) → PassesWhole h (turn no_symbols (nest (value_end assigned)))
end-whole h d us r rs z l is = let b = begins-at h (value_end assigned) (us ++ r ∷ rs) is.0 is.1 in absurd (no-end h d us r rs b.0 l b.1)

end-begun : (h : ℕ) → PassesBegun h (turn no_symbols (nest (value_end assigned)))
end-begun h d us r rs n l b = absurd (no-end h d us r rs n l (nest-begun h (value_end assigned) (λ k. refl) us r rs n b))

passes-end : (h : ℕ) → Passes h (turn no_symbols (nest (value_end assigned)))
passes-end h = (end-whole h, end-begun h)

colons-whole : (h : ℕ) (w : Freedom) (a : After) (vs : List Symbol) (y : Rest assigned) → is_colons a ≡ true → WholeAt h (expression_rest assigned w a) vs y → WholeAt h (expression_rest assigned w colons) vs y
colons-whole h w a vs y e is = subst (λ (x : After). WholeAt h (expression_rest assigned w x) vs y) (colons-only a e) is

colons-begun : (h : ℕ) (w : Freedom) (a : After) (vs : List Symbol) (n : ℕ) → is_colons a ≡ true → BegunAt h (expression_rest assigned w a) vs n → Started (expression_rest assigned w colons) vs n
colons-begun h w a vs n e b = (h, subst (λ (x : After). BegunAt h (expression_rest assigned w x) vs n) (colons-only a e) b)

step-whole : (h : ℕ) → RestPasses h → (p : Part) (w : Freedom) (a : After) → passing p a ≡ true → PassesWhole h (step assigned p w a)
unfolding step part_symbols
step-whole h ih p w a e d us r rs z l is = go is.1.0 is.1.1 (is.1.3.2 ∙ is.1.3.1.1) is.1.4 (onward h p a e d us r rs is.1.0 is.1.1 is.1.3.0.1 is.1.2 l is.1.3.1.0)
  where
    go : (b c : List Symbol) → is.0.0 ≡ b → WholeAt h (expression_rest assigned w a) c is.0.1 → Onward a us r rs b c → Past h us (r ∷ rs) z
    go b c q rest (inl f) =
        let t = ih.0 w a f.1 f.0 r rs is.0.1 f.4 (subst (λ (u : List Symbol). WholeAt h (expression_rest assigned w a) u is.0.1) f.3 rest) in
        (t.0, t.1, t.2, is.2 ∙ ap (λ (u : List Symbol). glue u is.0.1) q ∙ ap (λ (y : Rest assigned). glue b y) t.3 ∙ glue-append b f.0 t.1 ∙ ap (λ (u : List Symbol). glue u t.1) (sym f.2))
    go b c q rest (inr f) =
        (w, is.0.1, colons-whole h w a (r ∷ rs) is.0.1 f.0 (subst (λ (u : List Symbol). WholeAt h (expression_rest assigned w a) u is.0.1) f.1.1 rest), is.2 ∙ ap (λ (u : List Symbol). glue u is.0.1) (q ∙ sym f.1.0))

step-begun : (h : ℕ) → RestPasses h → (p : Part) (w : Freedom) (a : After) → passing p a ≡ true → PassesBegun h (step assigned p w a)
unfolding step part_symbols
step-begun h ih p w a e d us r rs n l (inl (inl b)) = let z = (nil_parts us (r ∷ rs) (sym b.0)).1 in absurd cc
step-begun h ih p w a e d us r rs n l (inl (inr q)) = absurd (begun-stops h p a e d us r rs q.2 l q.5)
step-begun h ih p w a e d us r rs n l (inr q) = go q.0 q.1 q.5 (onward h p a e d us r rs q.0 q.1 q.4.0.1 q.3 l q.4.1.0)
  where
    go : (b c : List Symbol) → Begins (WholeAt h) (BegunAt h) (nest (expression_rest assigned w a)) c n → Onward a us r rs b c → Reached (r ∷ rs) n
    go b c rest (inl f) =
        ih.1 w a f.1 f.0 r rs n f.4 (nest-begun h (expression_rest assigned w a) (λ k. refl) f.0 r rs n (subst (λ (u : List Symbol). Begins (WholeAt h) (BegunAt h) (nest (expression_rest assigned w a)) u n) f.3 rest))
    go b c rest (inr f) =
        (w, colons-begun h w a (r ∷ rs) n f.0 (nest-begun h (expression_rest assigned w a) (λ k. refl) [] r rs n (subst (λ (u : List Symbol). Begins (WholeAt h) (BegunAt h) (nest (expression_rest assigned w a)) u n) f.1.1 rest)))

passes-step : (h : ℕ) → RestPasses h → (p : Part) (w : Freedom) (a : After) → passing p a ≡ true → Passes h (step assigned p w a)
passes-step h ih p w a e = (step-whole h ih p w a e, step-begun h ih p w a e)

new-passes : (h : ℕ) → RestPasses h → (w : Freedom) (a : After) → Passes h (new_step assigned w a)
new-passes h ih w between = passes-step h ih created w creation refl
new-passes h ih w name_there = passes-step h ih created w creation refl
new-passes h ih w greater = passes-step h ih created w creation refl
new-passes h ih w dot = passes-step h ih created w creation refl
new-passes h ih w colons = passes-step h ih (one_of (word token.new ∷ [])) w between refl
new-passes h ih w colon_arguments = passes-step h ih (one_of (word token.new ∷ [])) w between refl
new-passes h ih w creation = passes-step h ih created w creation refl
new-passes h ih w test = passes-step h ih created w creation refl
new-passes h ih w test_name = passes-step h ih created w creation refl
new-passes h ih w test_arguments = passes-step h ih created w creation refl
new-passes h ih w test_end = passes-step h ih created w creation refl

told-passes : (h : ℕ) → RestPasses h → (sorts : List ℕ) → passing (one_of sorts) name_there ≡ true → (w : Freedom) (a : After) → Passes h (told_steps assigned sorts w a)
unfolding numbers told_steps
told-passes h ih sorts even w a = (passes-either h (step assigned (one_of sorts) w name_there) (either (step assigned (one_of plain_sorts) w between) (either (step assigned (bracketed (operator token.open_parenthesis ∷ [])) w between) (either (new_step assigned w a) (either (step assigned tested w test) (either (step assigned (one_of (operator token.greater_than ∷ [])) w greater) (either (step assigned (one_of (operator token.question ∷ [])) (in_condition w) between) (either (step assigned (one_of (operator token.colon ∷ [])) (behind_condition w) between) (step assigned (one_of (operator token.arrow ∷ [])) (in_lambda w) between)))))))) (passes-step h ih (one_of sorts) w name_there even) (passes-either h (step assigned (one_of plain_sorts) w between) (either (step assigned (bracketed (operator token.open_parenthesis ∷ [])) w between) (either (new_step assigned w a) (either (step assigned tested w test) (either (step assigned (one_of (operator token.greater_than ∷ [])) w greater) (either (step assigned (one_of (operator token.question ∷ [])) (in_condition w) between) (either (step assigned (one_of (operator token.colon ∷ [])) (behind_condition w) between) (step assigned (one_of (operator token.arrow ∷ [])) (in_lambda w) between))))))) (passes-step h ih (one_of plain_sorts) w between refl) (passes-either h (step assigned (bracketed (operator token.open_parenthesis ∷ [])) w between) (either (new_step assigned w a) (either (step assigned tested w test) (either (step assigned (one_of (operator token.greater_than ∷ [])) w greater) (either (step assigned (one_of (operator token.question ∷ [])) (in_condition w) between) (either (step assigned (one_of (operator token.colon ∷ [])) (behind_condition w) between) (step assigned (one_of (operator token.arrow ∷ [])) (in_lambda w) between)))))) (passes-step h ih (bracketed (operator token.open_parenthesis ∷ [])) w between refl) (passes-either h (new_step assigned w a) (either (step assigned tested w test) (either (step assigned (one_of (operator token.greater_than ∷ [])) w greater) (either (step assigned (one_of (operator token.question ∷ [])) (in_condition w) between) (either (step assigned (one_of (operator token.colon ∷ [])) (behind_condition w) between) (step assigned (one_of (operator token.arrow ∷ [])) (in_lambda w) between))))) (new-passes h ih w a) (passes-either h (step assigned tested w test) (either (step assigned (one_of (operator token.greater_than ∷ [])) w greater) (either (step assigned (one_of (operator token.question ∷ [])) (in_condition w) between) (either (step assigned (one_of (operator token.colon ∷ [])) (behind_condition w) between) (step assigned (one_of (operator token.arrow ∷ [])) (in_lambda w) between)))) (passes-step h ih tested w test refl) (passes-either h (step assigned (one_of (operator token.greater_than ∷ [])) w greater) (either (step assigned (one_of (operator token.question ∷ [])) (in_condition w) between) (either (step assigned (one_of (operator token.colon ∷ [])) (behind_condition w) between) (step assigned (one_of (operator token.arrow ∷ [])) (in_lambda w) between))) (passes-step h ih (one_of (operator token.greater_than ∷ [])) w greater refl) (passes-either h (step assigned (one_of (operator token.question ∷ [])) (in_condition w) between) (either (step assigned (one_of (operator token.colon ∷ [])) (behind_condition w) between) (step assigned (one_of (operator token.arrow ∷ [])) (in_lambda w) between)) (passes-step h ih (one_of (operator token.question ∷ [])) (in_condition w) between refl) (passes-either h (step assigned (one_of (operator token.colon ∷ [])) (behind_condition w) between) (step assigned (one_of (operator token.arrow ∷ [])) (in_lambda w) between) (passes-step h ih (one_of (operator token.colon ∷ [])) (behind_condition w) between refl) (passes-step h ih (one_of (operator token.arrow ∷ [])) (in_lambda w) between refl)))))))))

less-passes : (h : ℕ) → RestPasses h → (w : Freedom) (a : After) → Passes h (less_form assigned w a)
unfolding two_readings
less-passes h ih w between = passes-step h ih (one_of (less_sorts between)) w between refl
less-passes h ih w name_there = passes-attempt h (step assigned type_reference w colons) (step assigned (one_of (operator token.less_than ∷ [])) w between) (passes-step h ih type_reference w colons refl) (passes-step h ih (one_of (operator token.less_than ∷ [])) w between refl)
less-passes h ih w greater = passes-step h ih (one_of (less_sorts greater)) w between refl
less-passes h ih w dot = passes-step h ih arguments w between refl
less-passes h ih w colons = passes-step h ih arguments w colon_arguments refl
less-passes h ih w colon_arguments = passes-step h ih (one_of (less_sorts colon_arguments)) w between refl
less-passes h ih w creation = passes-step h ih (one_of (less_sorts creation)) w between refl
less-passes h ih w test = passes-step h ih (one_of (less_sorts test)) w between refl
less-passes h ih w test_name = passes-step h ih arguments w test_arguments refl
less-passes h ih w test_arguments = passes-step h ih (one_of (less_sorts test_arguments)) w between refl
less-passes h ih w test_end = passes-step h ih (one_of (less_sorts test_end)) w between refl

plain-dots-passes : (h : ℕ) → RestPasses h → (w : Freedom) → Passes h (plain_dots assigned w)
unfolding plain_dots
plain-dots-passes h ih w = (passes-either h (step assigned (one_of (operator token.dot ∷ [])) w dot) (step assigned (one_of (operator token.double_colon ∷ [])) w colons) (passes-step h ih (one_of (operator token.dot ∷ [])) w dot refl) (passes-step h ih (one_of (operator token.double_colon ∷ [])) w colons refl))

plain-squares-passes : (h : ℕ) → RestPasses h → (w : Freedom) → Passes h (plain_squares assigned w)
unfolding plain_squares
plain-squares-passes h ih w = (passes-either h (step assigned (bracketed (operator token.open_bracket ∷ [])) w between) (step assigned (one_of ats) w between) (passes-step h ih (bracketed (operator token.open_bracket ∷ [])) w between refl) (passes-step h ih (one_of ats) w between refl))

greater-dots-passes : (h : ℕ) → RestPasses h → (w : Freedom) → Passes h (greater_dots assigned w)
greater-dots-passes h ih w = plain-dots-passes h ih w

greater-squares-passes : (h : ℕ) → RestPasses h → (w : Freedom) → Passes h (greater_squares assigned w)
greater-squares-passes h ih w = plain-squares-passes h ih w

dot-passes : (h : ℕ) → RestPasses h → (w : Freedom) (a : After) → Passes h (dot_form assigned w a)
dot-passes h ih w between = plain-dots-passes h ih w
dot-passes h ih w name_there = plain-dots-passes h ih w
dot-passes h ih w greater = greater-dots-passes h ih w
dot-passes h ih w dot = plain-dots-passes h ih w
dot-passes h ih w colons = plain-dots-passes h ih w
dot-passes h ih w colon_arguments = plain-dots-passes h ih w
dot-passes h ih w creation = passes-step h ih (one_of []) w between refl
dot-passes h ih w test = plain-dots-passes h ih w
dot-passes h ih w test_name = (passes-either h (step assigned tested_name w test_name) (step assigned (one_of (operator token.double_colon ∷ [])) w colons) (passes-step h ih tested_name w test_name refl) (passes-step h ih (one_of (operator token.double_colon ∷ [])) w colons refl))
dot-passes h ih w test_arguments = (passes-either h (step assigned tested_name w test_name) (step assigned (one_of (operator token.double_colon ∷ [])) w colons) (passes-step h ih tested_name w test_name refl) (passes-step h ih (one_of (operator token.double_colon ∷ [])) w colons refl))
dot-passes h ih w test_end = plain-dots-passes h ih w

square-passes : (h : ℕ) → RestPasses h → (w : Freedom) (a : After) → Passes h (square_form assigned w a)
square-passes h ih w between = plain-squares-passes h ih w
square-passes h ih w name_there = plain-squares-passes h ih w
square-passes h ih w greater = greater-squares-passes h ih w
square-passes h ih w dot = plain-squares-passes h ih w
square-passes h ih w colons = plain-squares-passes h ih w
square-passes h ih w colon_arguments = plain-squares-passes h ih w
square-passes h ih w creation = plain-squares-passes h ih w
square-passes h ih w test = plain-squares-passes h ih w
square-passes h ih w test_name = passes-step h ih tested_dim w test_end refl
square-passes h ih w test_arguments = passes-step h ih tested_dim w test_end refl
square-passes h ih w test_end = passes-step h ih tested_dim w test_end refl

equals-even : (w : Freedom) → passing (one_of (equals w)) between ≡ true
equals-even strict = refl
equals-even (conditional n) = refl
equals-even anywhere = refl

other-passes : (h : ℕ) → RestPasses h → (w : Freedom) → Passes h (other_steps assigned w)
unfolding other_steps
other-passes h ih w = (passes-either h (step assigned (bracketed (operator token.open_brace ∷ [])) w between) (step assigned (one_of (equals w)) w between) (passes-step h ih (bracketed (operator token.open_brace ∷ [])) w between refl) (passes-step h ih (one_of (equals w)) w between (equals-even w)))

signs-passes : (h : ℕ) → RestPasses h → (w : Freedom) (a : After) → Passes h (signs_form assigned w a)
unfolding signs_form
signs-passes h ih w a =
    passes-either h (less_form assigned w a) (either (dot_form assigned w a) (square_form assigned w a)) (less-passes h ih w a)
    (passes-either h (dot_form assigned w a) (square_form assigned w a) (dot-passes h ih w a) (square-passes h ih w a))

any-passes : (h : ℕ) → RestPasses h → (w : Freedom) (a : After) → Passes h (either (told_steps assigned names w a) (either (signs_form assigned w a) (either (other_steps assigned w) (turn no_symbols (nest (value_end assigned))))))
any-passes h ih w a =
    passes-either h (told_steps assigned names w a) (either (signs_form assigned w a) (either (other_steps assigned w) (turn no_symbols (nest (value_end assigned))))) (told-passes h ih names refl w a)
    (passes-either h (signs_form assigned w a) (either (other_steps assigned w) (turn no_symbols (nest (value_end assigned)))) (signs-passes h ih w a)
    (passes-either h (other_steps assigned w) (turn no_symbols (nest (value_end assigned))) (other-passes h ih w) (passes-end h)))

form-passes : (h : ℕ) → RestPasses h → (w : Freedom) (a : After) → Passes h (rest_form assigned w a)
form-passes h ih w between = any-passes h ih w between
form-passes h ih w name_there = any-passes h ih w name_there
form-passes h ih w greater = any-passes h ih w greater
form-passes h ih w dot = any-passes h ih w dot
form-passes h ih w colons = any-passes h ih w colons
form-passes h ih w colon_arguments = any-passes h ih w colon_arguments
form-passes h ih w creation = any-passes h ih w creation
form-passes h ih w test = (passes-either h (step assigned (one_of names) w test_name) (step assigned (one_of primitive_sorts) w test_end) (passes-step h ih (one_of names) w test_name refl) (passes-step h ih (one_of primitive_sorts) w test_end refl))
form-passes h ih w test_name = any-passes h ih w test_name
form-passes h ih w test_arguments = any-passes h ih w test_arguments
form-passes h ih w test_end = any-passes h ih w test_end

pub rest-passes : (h : ℕ) → RestPasses h
rest-passes zero = (λ w a d us r rs z l is. absurd is, λ w a d us r rs n l b. absurd b)
rest-passes (suc h) = (
  λ w a d us r rs z l is. let t = (form-passes h (rest-passes h) anywhere a).0 d us r rs z l is in (t.0, t.1, whole-next h (expression_rest assigned t.0 colons) (r ∷ rs) t.1 t.2, t.3),
  λ w a d us r rs n l b. (form-passes h (rest-passes h) anywhere a).1 d us r rs n l b,
)
