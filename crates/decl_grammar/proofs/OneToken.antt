-- Sets of sorts, and the test that a form can be read by looking at the next symbol alone.
use Rattle.std.proofs.Common.{◌≡◌, ℕ, ◌<◌, ◌≤◌, Bool, true, false, cond, eqb, List, [], ◌∷◌, ◌++◌, ◌⊎◌, refl, sym, ap, ◌∙◌, arith, inl, inr}
use Rattle.std.specs.Prelude.{◌||◌, ◌&&◌, nat_lt}
use Rattle.std.proofs.Math.Bool.{or-false}
use Rattle.std.proofs.lemmas.Bool.{eqb-true}
use Rattle.decl_grammar.specs.Symbols.{operator}
use Rattle.decl_grammar.specs.TokenNames as token
use Rattle.decl_grammar.specs.declared.symbol.Symbol.{Symbol}
use Rattle.decl_grammar.specs.Reading.{has, starts}
use Rattle.decl_grammar.specs.Form.{Part, one_of, bracketed, arguments, annotated, created, type_reference, tested, tested_name, tested_dim, Nest, type_arguments, created_arguments, array_value, nested_annotation, first_name, constant_value, expression_part, nested_type, modifiers, plain_modifiers, static_word, import_rest, enum_rest, param_rest, first_rest, value_and_rest, expression_rest, initialiser, value_end, constant_items, constant_chain, first_of, names, ats, Form, terminal, pair, turn, maybe, many, either, seen, nest, over, attempt, nullable, first}

abbrev pub no : Bool → Bool
no true = false
no false = true

pub no_true : (b : Bool) → no b ≡ true → b ≡ false
no_true true e = absurd cc
no_true false e = refl

pub both : (a b : Bool) → (a && b) ≡ true → (a ≡ true) × (b ≡ true)
both true b e = (refl, e)
both false b e = absurd cc

pub both_true : (a b : Bool) → a ≡ true → b ≡ true → (a && b) ≡ true
both_true true b e d = d
both_true false b e d = absurd cc

pub neither : (a b : Bool) → (a || b) ≡ false → (a ≡ false) × (b ≡ false)
neither true b e = absurd cc
neither false b e = (refl, e)

pub one_or : (a b : Bool) → (a || b) ≡ true → (a ≡ true) ⊎ (b ≡ true)
one_or true b e = inl refl
one_or false b e = inr e

pub or_left : (a b : Bool) → a ≡ true → (a || b) ≡ true
or_left true b e = refl
or_left false b e = absurd cc

pub or_right : (a b : Bool) → b ≡ true → (a || b) ≡ true
or_right true b e = refl
or_right false b e = e

pub not_both : {A : Type 0} (b : Bool) → b ≡ true → b ≡ false → A
not_both b p q = absurd cc

pub has-cons : (k : ℕ) (ks : List ℕ) (n : ℕ) → has (k ∷ ks) n ≡ (eqb n k || has ks n)
has-cons k [] n = sym (or-false (eqb n k))
has-cons k (l ∷ ks) n = refl

or_assoc : (a b c : Bool) → ((a || b) || c) ≡ (a || (b || c))
or_assoc true b c = refl
or_assoc false b c = refl

pub has-append : (ks ls : List ℕ) (n : ℕ) → has (ks ++ ls) n ≡ (has ks n || has ls n)
has-append [] ls n = refl
has-append (k ∷ ks) ls n = has-cons k (ks ++ ls) n ∙ ap (λ (b : Bool). eqb n k || b) (has-append ks ls n) ∙ sym (or_assoc (eqb n k) (has ks n) (has ls n)) ∙ ap (λ (b : Bool). b || has ls n) (sym (has-cons k ks n))

pub starts-append : (ks ls : List ℕ) (ts : List Symbol) → starts (ks ++ ls) ts ≡ (starts ks ts || starts ls ts)
starts-append ks ls [] = refl
starts-append ks ls (t ∷ ts) = has-append ks ls t.sort

-- no sort is in both
abbrev pub disjoint : List ℕ → List ℕ → Bool
disjoint [] ls = true
disjoint (k ∷ ks) ls = no (has ls k) && disjoint ks ls

pub disjoint-has : (ks ls : List ℕ) (n : ℕ) → disjoint ks ls ≡ true → has ks n ≡ true → has ls n ≡ false
disjoint-has [] ls n d h = absurd cc
disjoint-has (k ∷ ks) ls n d h =
    let p = both (no (has ls k)) (disjoint ks ls) d in
    elim (one_or (eqb n k) (has ks n) (sym (has-cons k ks n) ∙ h)) [
      | inl e ↦ ap (has ls) (eqb-true n k e) ∙ no_true (has ls k) p.0
      | inr e ↦ disjoint-has ks ls n p.1 e
    ]

-- all of the first are in the second
abbrev pub within : List ℕ → List ℕ → Bool
within [] ls = true
within (k ∷ ks) ls = has ls k && within ks ls

eqb_self : (k : ℕ) → eqb k k ≡ true
eqb_self k = grind arith

within-more : (ks ls : List ℕ) (l : ℕ) → within ks ls ≡ true → within ks (l ∷ ls) ≡ true
within-more [] ls l e = refl
within-more (k ∷ ks) ls l e =
    let p = both (has ls k) (within ks ls) e in
    both_true (has (l ∷ ls) k) (within ks (l ∷ ls)) (has-cons l ls k ∙ or_right (eqb k l) (has ls k) p.0) (within-more ks ls l p.1)

pub within-self : (ks : List ℕ) → within ks ks ≡ true
within-self [] = refl
within-self (k ∷ ks) = both_true (has (k ∷ ks) k) (within ks (k ∷ ks)) (has-cons k ks k ∙ or_left (eqb k k) (has ks k) (eqb_self k)) (within-more ks ks k (within-self ks))

pub within-has : (ks ls : List ℕ) (n : ℕ) → within ks ls ≡ true → has ks n ≡ true → has ls n ≡ true
within-has [] ls n d h = absurd cc
within-has (k ∷ ks) ls n d h =
    let p = both (has ls k) (within ks ls) d in
    elim (one_or (eqb n k) (has ks n) (sym (has-cons k ks n) ∙ h)) [
      | inl e ↦ ap (has ls) (eqb-true n k e) ∙ p.0
      | inr e ↦ within-has ks ls n p.1 e
    ]

-- what none of more sorts begins, none of fewer begins
pub within-starts : (ks ls : List ℕ) (ts : List Symbol) → within ks ls ≡ true → starts ls ts ≡ false → starts ks ts ≡ false
within-starts ks ls [] d h = refl
within-starts ks ls (t ∷ ts) d h = go (has ks t.sort) refl
  where
    go : (c : Bool) → has ks t.sort ≡ c → c ≡ false
    go true e = not_both (has ls t.sort) (within-has ks ls t.sort d e) h
    go false e = refl

-- the sorts of symbol that can continue each nested form, and each form
abbrev pub more_of_part : Part → List ℕ
more_of_part (one_of ks) = []
more_of_part (bracketed ks) = []
more_of_part arguments = []
more_of_part annotated = []
more_of_part created = operator token.dot ∷ operator token.less_than ∷ []
more_of_part type_reference = []
more_of_part tested = operator token.dot ∷ operator token.open_parenthesis ∷ ats
more_of_part tested_name = []
more_of_part tested_dim = []

abbrev pub more_of : Nest → List ℕ
more_of type_arguments = []
more_of created_arguments = []
more_of array_value = []
more_of nested_annotation = operator token.dot ∷ operator token.open_parenthesis ∷ []
more_of constant_value = operator token.dot ∷ operator token.open_bracket ∷ operator token.plus ∷ operator token.open_parenthesis ∷ []
more_of (expression_part s p) = more_of_part p
more_of first_name = []
more_of nested_type = []
more_of modifiers = operator token.dot ∷ operator token.open_parenthesis ∷ first_of modifiers
more_of plain_modifiers = operator token.dot ∷ operator token.open_parenthesis ∷ first_of modifiers
more_of static_word = []
more_of import_rest = operator token.dot ∷ []
more_of enum_rest = operator token.comma ∷ operator token.open_parenthesis ∷ operator token.open_brace ∷ operator token.dot ∷ (ats ++ names)
more_of param_rest = operator token.open_bracket ∷ operator token.comma ∷ ats
more_of first_rest = operator token.open_bracket ∷ operator token.comma ∷ operator token.dot ∷ ats
more_of (value_and_rest s) = []
more_of (expression_rest s w a) = []
more_of initialiser = []
more_of (value_end s) = []
more_of constant_items = []
more_of constant_chain = operator token.dot ∷ operator token.open_bracket ∷ operator token.plus ∷ []

abbrev pub more : {A : Type 0} → Form A → List ℕ
more (terminal k) = []
more (pair f g) = cond (nullable g) (more f ++ more g) (more g)
more (turn h f) = more f
more (maybe f) = first f ++ more f
more (many f) = first f ++ more f
more (either f g) = more f ++ more g
more (seen h f) = more f
more (nest m) = more_of m
more (over opens) = []
more (attempt f g) = more f ++ more g

-- the next symbol always tells how to go on, but between two readings
abbrev pub ok : {A : Type 0} → Form A → Bool
ok (terminal k) = true
ok (pair f g) = ok f && (ok g && disjoint (first g) (more f))
ok (turn h f) = ok f
ok (maybe f) = ok f && no (nullable f)
ok (many f) = ok f && (no (nullable f) && disjoint (first f) (more f))
ok (either f g) = ok f && (ok g && (no (nullable f) && (no (nullable g) && disjoint (first g) (first f))))
ok (seen h f) = ok f
ok (nest m) = true
ok (over opens) = true
ok (attempt f g) = ok f && ok g

-- The rank of a form that holds itself: those that it may begin with, before its first symbol, are of smaller ranks.
abbrev pub rank : Nest → ℕ
rank initialiser = 2
rank (value_and_rest s) = 2
rank (expression_rest s w a) = 2
rank (expression_part s p) = 1
rank constant_items = 1
rank type_arguments = 0
rank created_arguments = 0
rank array_value = 0
rank nested_annotation = 0
rank first_name = 0
rank constant_value = 0
rank nested_type = 0
rank modifiers = 0
rank plain_modifiers = 0
rank static_word = 0
rank import_rest = 0
rank enum_rest = 0
rank param_rest = 0
rank first_rest = 0
rank (value_end s) = 0
rank constant_chain = 0

pub rank-bound : (m : Nest) → rank m ≤ 2
rank-bound initialiser = omega arith
rank-bound (value_and_rest s) = omega arith
rank-bound (expression_rest s w a) = omega arith
rank-bound (expression_part s p) = omega arith
rank-bound constant_items = omega arith
rank-bound type_arguments = omega arith
rank-bound created_arguments = omega arith
rank-bound array_value = omega arith
rank-bound nested_annotation = omega arith
rank-bound first_name = omega arith
rank-bound constant_value = omega arith
rank-bound nested_type = omega arith
rank-bound modifiers = omega arith
rank-bound plain_modifiers = omega arith
rank-bound static_word = omega arith
rank-bound import_rest = omega arith
rank-bound enum_rest = omega arith
rank-bound param_rest = omega arith
rank-bound first_rest = omega arith
rank-bound (value_end s) = omega arith
rank-bound constant_chain = omega arith

pub rank-below : (m : Nest) (k : ℕ) → nat_lt (rank m) k ≡ true → rank m < k
rank-below m k e = grind arith

-- the forms that hold themselves and stand before the first symbol are of smaller ranks than this
abbrev pub guarded : ℕ → {A : Type 0} → Form A → Bool
guarded k (terminal ks) = true
guarded k (pair f g) = guarded k f && (no (nullable f) || guarded k g)
guarded k (turn h f) = guarded k f
guarded k (maybe f) = guarded k f
guarded k (many f) = guarded k f
guarded k (either f g) = guarded k f && guarded k g
guarded k (seen h f) = guarded k f
guarded k (nest m) = nat_lt (rank m) k
guarded k (over opens) = true
guarded k (attempt f g) = guarded k f && guarded k g

-- each rank is smaller than three
nest-guarded : (m : Nest) → nat_lt (rank m) 3 ≡ true
nest-guarded initialiser = refl
nest-guarded (value_and_rest s) = refl
nest-guarded (expression_rest s w a) = refl
nest-guarded (expression_part s p) = refl
nest-guarded constant_items = refl
nest-guarded type_arguments = refl
nest-guarded created_arguments = refl
nest-guarded array_value = refl
nest-guarded nested_annotation = refl
nest-guarded first_name = refl
nest-guarded constant_value = refl
nest-guarded nested_type = refl
nest-guarded modifiers = refl
nest-guarded plain_modifiers = refl
nest-guarded static_word = refl
nest-guarded import_rest = refl
nest-guarded enum_rest = refl
nest-guarded param_rest = refl
nest-guarded first_rest = refl
nest-guarded (value_end s) = refl
nest-guarded constant_chain = refl

-- all ranks are smaller than three
pub any-guarded : {A : Type 0} (f : Form A) → guarded 3 f ≡ true
any-guarded (terminal ks) = refl
any-guarded (pair f g) = both_true (guarded 3 f) (no (nullable f) || guarded 3 g) (any-guarded f) (or_right (no (nullable f)) (guarded 3 g) (any-guarded g))
any-guarded (turn h f) = any-guarded f
any-guarded (maybe f) = any-guarded f
any-guarded (many f) = any-guarded f
any-guarded (either f g) = both_true (guarded 3 f) (guarded 3 g) (any-guarded f) (any-guarded g)
any-guarded (seen h f) = any-guarded f
any-guarded (nest m) = nest-guarded m
any-guarded (over opens) = refl
any-guarded (attempt f g) = both_true (guarded 3 f) (guarded 3 g) (any-guarded f) (any-guarded g)
