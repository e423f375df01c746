-- Texts that are made of symbols, and that they fit: each is in UTF-8, and has no more bytes than its symbols.
use lib.Utf8.{encode}
use Rattle.std.proofs.Common.{◌≡◌, ◌&&◌, ℕ, suc, ◌+◌, ◌≤◌, Bool, true, false, cond, List, [], ◌∷◌, ◌++◌, length, codes, refl, sym, ap, subst, ◌∙◌, arith, append_assoc, length-append}
use Rattle.std.specs.List.{list_all, sum_by}
use Rattle.std.specs.Str.{IsUtf8}
use Rattle.std.proofs.lemmas.Bool.{lt-ltb}
use Rattle.std.proofs.lemmas.List.Sums.{sum_by-cons, sum_by-append}
use Rattle.std.proofs.lemmas.Str.{IsUtf8-append, is_utf8-from_IsUtf8}
use Rattle.apt_base.specs.Forms.{is_name, is_short, all_fit}
use Rattle.decl_grammar.specs.declared.symbol.Symbol.{Symbol}
use Rattle.decl_grammar.specs.Form.{Each, Is}
use Rattle.decl_grammar.specs.Constants.{more_dotted, spaced, joined}
use Rattle.decl_grammar.specs.Types.{name, dot_name, name_chain}
use Rattle.decl_grammar.specs.Rule.{WholeAt}
use Rattle.decl_grammar.proofs.OneToken.{both, both_true}
use Rattle.decl_limits.specs.Texts.{bytes_of, AreUtf8, AreTexts}

-- ---- tests

pub and-true : {a b : Bool} → a ≡ true → b ≡ true → (a && b) ≡ true
and-true {a} {b} p q = both_true a b p q

-- ---- symbols

abbrev pub size : List Symbol → ℕ
size ts = sum_by bytes_of ts

utf8-front : (us vs : List Symbol) → AreUtf8 (us ++ vs) → AreUtf8 us
utf8-front [] vs a = tt
utf8-front (u ∷ us) vs a = (a.0, a.1, utf8-front us vs a.2)

utf8-back : (us vs : List Symbol) → AreUtf8 (us ++ vs) → AreUtf8 vs
utf8-back [] vs a = a
utf8-back (u ∷ us) vs a = utf8-back us vs a.2

pub both-sizes : (ts us vs : List Symbol) → ts ≡ us ++ vs → size ts ≡ size us + size vs
both-sizes ts us vs e = ap size e ∙ sum_by-append bytes_of us vs

pub texts-front : (ts us vs : List Symbol) → ts ≡ us ++ vs → AreTexts ts → AreTexts us
texts-front ts us vs e a = (utf8-front us vs (subst AreUtf8 e a.0), omega (arith, a.1, both-sizes ts us vs e))

pub texts-back : (ts us vs : List Symbol) → ts ≡ us ++ vs → AreTexts ts → AreTexts vs
texts-back ts us vs e a = (utf8-back us vs (subst AreUtf8 e a.0), omega (arith, a.1, both-sizes ts us vs e))

pub symbols-few : (ts : List Symbol) → length ts ≤ size ts
symbols-few [] = omega arith
symbols-few (t ∷ ts) = omega (arith, sum_by-cons bytes_of t ts, symbols-few ts)

pub list-short : {A : Type 0} (ts : List Symbol) (xs : List A) → AreTexts ts → length xs ≤ length ts → is_short xs ≡ true
list-short ts xs a le = lt-ltb _ _ (omega (arith, le, symbols-few ts, a.1))

-- one more is short as well
pub one-more-short : {A : Type 0} (ts : List Symbol) (xs : List A) → AreTexts ts → length xs ≤ suc (length ts) → is_short xs ≡ true
one-more-short ts xs a le = lt-ltb _ _ (omega (arith, le, symbols-few ts, a.1))

-- ---- items, of which there are no more than symbols

pub record Items {A : Type 0} (fits : A → Bool) (ts : List Symbol) (xs : List A) : Type 0 where
  pub fit : list_all fits xs ≡ true
  pub few : length xs ≤ length ts

pub no-items : {A : Type 0} (fits : A → Bool) (ts : List Symbol) → Items fits ts []
no-items fits ts = record { fit = refl; few = omega arith }

pub items-fit : {A : Type 0} (fits : A → Bool) (ts : List Symbol) (xs : List A) → AreTexts ts → Items fits ts xs → all_fit fits xs ≡ true
items-fit fits ts xs a i = and-true (list-short ts xs a i.few) i.fit

pub items-grow : {A : Type 0} (fits : A → Bool) (us vs : List Symbol) (xs : List A) → Items fits vs xs → Items fits (us ++ vs) xs
items-grow fits us vs xs i = record { fit = i.fit; few = omega (arith, i.few, length-append us vs) }

pub items-before : {A : Type 0} (fits : A → Bool) (us vs : List Symbol) (xs : List A) → Items fits us xs → Items fits (us ++ vs) xs
items-before fits us vs xs i = record { fit = i.fit; few = omega (arith, i.few, length-append us vs) }

-- an item in some symbols, and those behind it
pub items-more : {A : Type 0} (fits : A → Bool) (us vs : List Symbol) (x : A) (xs : List A) → 1 ≤ length us → fits x ≡ true → Items fits vs xs → Items fits (us ++ vs) (x ∷ xs)
items-more fits us vs x xs one fit i = record { fit = and-true fit i.fit; few = omega (arith, one, i.few, length-append us vs) }

list_all-append : {A : Type 0} (fits : A → Bool) (xs ys : List A) → list_all fits xs ≡ true → list_all fits ys ≡ true → list_all fits (xs ++ ys) ≡ true
list_all-append fits [] ys p q = q
list_all-append fits (x ∷ xs) ys p q = let z = both (fits x) (list_all fits xs) p in and-true z.0 (list_all-append fits xs ys z.1 q)

pub items-append : {A : Type 0} (fits : A → Bool) (us vs : List Symbol) (xs ys : List A) → Items fits us xs → Items fits vs ys → Items fits (us ++ vs) (xs ++ ys)
items-append fits us vs xs ys i j = record { fit = list_all-append fits xs ys i.fit j.fit; few = omega (arith, i.few, j.few, length-append us vs, length-append xs ys) }

-- ---- texts

pub record Made (ts : List Symbol) (text : List ℕ) : Type 0 where
  pub utf8 : IsUtf8 text
  pub short : length text ≤ size ts

pub made-fits : (ts : List Symbol) (text : List ℕ) → AreTexts ts → Made ts text → is_name text ≡ true
made-fits ts text a m = and-true (is_utf8-from_IsUtf8 text m.utf8) (lt-ltb _ _ (omega (arith, m.short, a.1)))

pub made-grow : (us vs : List Symbol) (text : List ℕ) → Made vs text → Made (us ++ vs) text
made-grow us vs text m = record { utf8 = m.utf8; short = omega (arith, m.short, sum_by-append bytes_of us vs) }

pub made-before : (us vs : List Symbol) (text : List ℕ) → Made us text → Made (us ++ vs) text
made-before us vs text m = record { utf8 = m.utf8; short = omega (arith, m.short, sum_by-append bytes_of us vs) }

-- the text of a symbol
pub symbol-made : (s : Symbol) (ts : List Symbol) → ts ≡ s ∷ [] → AreTexts ts → Made ts s.text
symbol-made s ts e a =
    let u : AreUtf8 (s ∷ []) = subst AreUtf8 e a.0 in
    record { utf8 = u.0; short = omega (arith, ap size e) }

pub name-made : (h : ℕ) (ts : List Symbol) (text : List ℕ) → AreTexts ts → Is (WholeAt h) name ts text → Made ts text
unfolding name
name-made h ts text a is = subst (λ (t : List ℕ). Made ts t) (sym is.2) (symbol-made is.0 ts is.1.0 a)

pub dot-utf8 : IsUtf8 (codes ".")
unfolding encode
dot-utf8 = (46 ∷ [], (refl, refl))

-- a name behind a dot, put behind a text
dotted-made : (h : ℕ) (us vs : List Symbol) (text next : List ℕ) → AreTexts vs → Made us text → Is (WholeAt h) dot_name vs next → Made (us ++ vs) ((text ++ codes ".") ++ next)
unfolding dot_name
dotted-made h us vs text next a m is =
    let p = is.1 in
    let n = name-made h p.1 is.0.1 (texts-back vs p.0 p.1 p.2 a) p.4 in
    let same : next ≡ is.0.1 = is.2 in
    record {
      utf8 = IsUtf8-append (text ++ codes ".") next (IsUtf8-append text (codes ".") m.utf8 dot-utf8) (subst IsUtf8 (sym same) n.utf8);
      short = omega (arith, m.short, n.short, ap length same, length-append (text ++ codes ".") next, length-append text (codes "."), sum_by-append bytes_of us vs, both-sizes vs p.0 p.1 p.2, ap size p.3.0);
    }

-- names behind a text, each with a dot before it
dots-made : (h : ℕ) (ns : List (List ℕ)) (us vs : List Symbol) (text : List ℕ) → AreTexts vs → Made us text → Each (Is (WholeAt h) dot_name) vs ns → Made (us ++ vs) (more_dotted text ns)
dots-made h [] us vs text a m each = record { utf8 = m.utf8; short = omega (arith, m.short, sum_by-append bytes_of us vs) }
dots-made h (n ∷ ns) us vs text a m each =
    let front = texts-front vs each.0 each.1 each.2 a in
    let back = texts-back vs each.0 each.1 each.2 a in
    let all = dots-made h ns (us ++ each.0) each.1 ((text ++ codes ".") ++ n) back (dotted-made h us each.0 text n front m each.3) each.4 in
    subst (λ (ss : List Symbol). Made ss (more_dotted ((text ++ codes ".") ++ n) ns)) (append_assoc us each.0 each.1 ∙ ap (λ (ss : List Symbol). us ++ ss) (sym each.2)) all

pub chain-made : (h : ℕ) (ts : List Symbol) (text : List ℕ) → AreTexts ts → Is (WholeAt h) name_chain ts text → Made ts text
unfolding name_chain
chain-made h ts text a is =
    let p = is.1 in
    let m = name-made h p.0 is.0.0 (texts-front ts p.0 p.1 p.2 a) p.3 in
    let all = dots-made h is.0.1 p.0 p.1 is.0.0 (texts-back ts p.0 p.1 p.2 a) m p.4 in
    subst (λ (t : List ℕ). Made ts t) (sym is.2) (subst (λ (ss : List Symbol). Made ss (more_dotted is.0.0 is.0.1)) (sym p.2) all)

-- ---- the texts of symbols with blanks between them

blank-utf8 : IsUtf8 (codes " ")
unfolding encode
blank-utf8 = (32 ∷ [], (refl, refl))

spaced-made : (ts : List Symbol) → AreUtf8 ts → Made ts (spaced ts)
spaced-made [] a = record { utf8 = ([], (refl, refl)); short = omega arith }
spaced-made (s ∷ ss) a = go s.further (spaced-made ss a.2)
  where
    go : (further : Bool) → Made ss (spaced ss) → Made (s ∷ ss) (cond further (spaced ss) (codes " " ++ (s.text ++ spaced ss)))
    go true m = record { utf8 = m.utf8; short = omega (arith, m.short, sum_by-cons bytes_of s ss) }
    go false m = record {
      utf8 = IsUtf8-append (codes " ") (s.text ++ spaced ss) blank-utf8 (IsUtf8-append s.text (spaced ss) a.0 m.utf8);
      short = omega (arith, m.short, sum_by-cons bytes_of s ss, length-append (codes " ") (s.text ++ spaced ss), length-append s.text (spaced ss));
    }

pub joined-made : (ts : List Symbol) → AreUtf8 ts → Made ts (joined ts)
joined-made [] a = record { utf8 = ([], (refl, refl)); short = omega arith }
joined-made (s ∷ ss) a =
    let m = spaced-made ss a.2 in
    record {
      utf8 = IsUtf8-append s.text (spaced ss) a.0 m.utf8;
      short = omega (arith, m.short, sum_by-cons bytes_of s ss, length-append s.text (spaced ss));
    }
