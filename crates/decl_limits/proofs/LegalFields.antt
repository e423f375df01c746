-- Fields that are read have legal names and constants. A constant that is kept is a constant form that was read as a value, so it is legal with the room of the field.
use Rattle.std.proofs.Common.{◌≡◌, ℕ, zero, suc, true, List, ◌++◌, Option, None, Some, inl, inr, refl, sym, ap, subst, ◌∙◌, append_assoc}
use Rattle.apt_base.specs.Forms.{is_name, fits_if_some}
use Rattle.decl_tree.specs.declared.annotation.ValueText.{ValueText}
use Rattle.decl_tree.specs.Legal.{is_legal_value}
use Rattle.decl_grammar.specs.declared.symbol.Symbol.{Symbol}
use Rattle.decl_grammar.specs.declared.written.Declarator.{Declarator}
use Rattle.decl_grammar.specs.declared.written.NameAt.{NameAt}
use Rattle.decl_grammar.specs.Form.{assigned, initialiser, expression_rest, value_end, constant_value, Is, turn, many, nest, anywhere}
use Rattle.decl_grammar.specs.Types.{sign, dim, name_at}
use Rattle.decl_grammar.specs.Expressions.{kept, kept_alone, constant_alone, initialiser_form, no_declarators, without_value, value_or_end, declarator_first, assigned_end}
use Rattle.decl_grammar.specs.Rule.{WholeAt}
use Rattle.decl_grammar.specs.File.{IsShallow}
use Rattle.decl_grammar.proofs.Kept.{kept-whole}
use Rattle.decl_limits.specs.Texts.{AreTexts}
use Rattle.decl_limits.proofs.LegalTexts.{and-true, texts-front, Items, no-items, items-grow, items-more, made-fits, symbol-made}
use Rattle.decl_limits.proofs.LegalForms.{Has, anything, has-turn, has-pair, has-behind, has-either, has-symbol, has-lowest, has-free}
use Rattle.decl_limits.proofs.LegalRows.{BehindFits, declarator_fits, RestFits, Rests, Ends, rest-fits, expression-fits}
use Rattle.decl_limits.proofs.LegalValues.{value-rows}
use Rattle.decl_grammar.specs.TokenNames as token

-- the name of what is declared
abbrev pub NameFits : List Symbol → NameAt → Type 0
NameFits ts n = is_name n.name ≡ true

name-there : (h : ℕ) (ts : List Symbol) (n : NameAt) → AreTexts ts → Is (WholeAt h) name_at ts n → NameFits ts n
name-there h ts n a is = subst (λ (m : NameAt). NameFits ts m) (sym is.2) (made-fits ts is.0.text a (symbol-made is.0 ts is.1.0 a))

pub name-at-has : (h room : ℕ) → Has h room name_at NameFits
name-at-has h room = record { there = λ ts n a sh is. name-there h ts n a is }

-- ---- initialisers

abbrev pub InitFits : ℕ → List Symbol → Option ValueText × List Declarator → Type 0
InitFits room ts x = (fits_if_some (is_legal_value room) x.0 ≡ true) × Items (declarator_fits room) ts x.1

record FieldLegal (h : ℕ) : Type 0 where
  rests : Rests h assigned
  ends : Ends h assigned
  initial : (room : ℕ) → Has h room (nest initialiser) (InitFits room)

-- what may be open in an initialiser may be in the constant form that its first symbols are
constant-shallow : (room : ℕ) (ts ss back : List Symbol) → ts ≡ ss ++ back → IsShallow initialiser_form room ts → IsShallow (nest constant_value) room ss
unfolding initialiser_form constant_alone
constant-shallow room ts ss back e sh ks bs n d b = sh ks (bs ++ back) n (e ∙ ap (λ (xs : List Symbol). xs ++ back) d ∙ append_assoc ks bs back) (b.0, inl (inl b.1))

-- what is kept of the first symbols
kept-legal : (room : ℕ) (ts ss back : List Symbol) → ts ≡ ss ++ back → AreTexts ts → IsShallow initialiser_form room ts → fits_if_some (is_legal_value room) (kept ss) ≡ true
kept-legal room ts ss back e a sh = go (kept ss) refl
  where
    go : (o : Option ValueText) → kept ss ≡ o → fits_if_some (is_legal_value room) o ≡ true
    go None same = refl
    go (Some v) same =
        let w = kept-whole ss v same in
        ((value-rows w.0).constant room).there ss v (texts-front ts ss back e a) (constant-shallow room ts ss back e sh) w.1

alone-there : (h room : ℕ) (ts : List Symbol) (x : Option ValueText × List Declarator) → AreTexts ts → IsShallow initialiser_form room ts → Is (WholeAt h) (turn kept_alone constant_alone) ts x → InitFits room ts x
unfolding constant_alone
alone-there h room ts x a sh is =
    let p = is.1 in
    let q = p.1 in
    let z = q.3 in
    let written : is.0 ≡ q.0 = p.2 ∙ (z.2 ∙ z.1.1) in
    let legal = kept-legal room ts q.0 q.1 q.2 a sh in
    subst (λ (y : Option ValueText × List Declarator). InitFits room ts y) (sym is.2)
    (subst (λ (ss : List Symbol). fits_if_some (is_legal_value room) (kept ss) ≡ true) (sym written) legal, no-items (declarator_fits room) ts)

initialiser-there : (h room : ℕ) → FieldLegal h → (ts : List Symbol) (x : Option ValueText × List Declarator) → AreTexts ts → IsShallow initialiser_form room ts → Is (WholeAt h) initialiser_form ts x → InitFits room ts x
unfolding initialiser_form
initialiser-there h room rows ts x a sh (inl is) = alone-there h room ts x a sh is
initialiser-there h room rows ts x a sh (inr is) =
    let p = (expression-fits h assigned rows.rests room).there ts is.0 a (λ ks bs n e b. sh ks bs n e (b.0, inr b.1)) is.1 in
    let rest = p.1 in
    subst (λ (y : Option ValueText × List Declarator). InitFits room ts y) (sym is.2) (kept-legal room ts is.0.0 rest.0 rest.1 a sh, rest.2)

-- ---- what stands behind the name of a field

value-has : (h room : ℕ) → FieldLegal h → Has h room value_or_end (InitFits room)
unfolding value_or_end
value-has h room rows =
    has-either (has-behind (rows.initial room) (λ us vs x p. (p.0, items-grow (declarator_fits room) us vs x.1 p.1)))
    (has-turn without_value (InitFits room) (rows.ends room) (λ ts ds a p. (refl, p)))

end-has : (h room : ℕ) → FieldLegal h → Has h room assigned_end (BehindFits assigned room)
unfolding assigned_end
end-has h room rows =
    has-either (has-turn no_declarators (BehindFits assigned room) (anything h room (sign token.semicolon)) (λ ts s a p. no-items (declarator_fits room) ts))
    (has-behind
    (has-turn declarator_first (BehindFits assigned room)
    (has-pair (λ ts x. Items (declarator_fits room) ts (declarator_first x)) (has-symbol refl (name-at-has h room))
    (has-pair (λ ts x. InitFits room ts x.1) (anything h room (many dim)) (value-has h room rows) (λ us vs x a p q. (q.0, items-grow (declarator_fits room) us vs x.1.1 q.1)))
    (λ us vs x a p q. items-more (declarator_fits room) us vs (record { name = x.0; dims = x.1.0; constant = x.1.1.0 }) x.1.1.1 p.1 (and-true p.0 q.0) q.1))
    (λ ts x a p. p))
    (items-grow (declarator_fits room)))

field-legal : (h : ℕ) → FieldLegal h
field-legal zero = record {
  rests = λ w a room. has-lowest room (expression_rest assigned w a) (RestFits assigned room);
  ends = λ room. has-lowest room (value_end assigned) (BehindFits assigned room);
  initial = λ room. has-lowest room initialiser (InitFits room);
}
field-legal (suc h) = record {
  rests = λ w a room. has-free h room (expression_rest assigned w a) refl (RestFits assigned room) (rest-fits h assigned (field-legal h).rests (field-legal h).ends anywhere a room);
  ends = λ room. has-free h room (value_end assigned) refl (BehindFits assigned room) (end-has h room (field-legal h));
  initial = λ room. has-free h room initialiser refl (InitFits room) (record { there = initialiser-there h room (field-legal h) });
}

-- the constant of a first field, and the fields behind it
pub value-or-end-has : (h room : ℕ) → Has h room value_or_end (InitFits room)
value-or-end-has h room = value-has h room (field-legal h)
