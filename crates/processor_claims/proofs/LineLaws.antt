-- The first line of a text, blanks at the ends of a text, and what lines say.
use Rattle.std.proofs.Common.{◌≡◌, ℕ, zero, suc, ◌+◌, ◌<◌, ◌≤◌, Bool, true, false, eqb, ◌==◌, List, [], ◌∷◌, ◌++◌, length, take, drop, refl, sym, ap, subst, ◌∙◌, arith, add-one, Option, Some, None}
use Rattle.std.specs.List.{position_or_len, onto_first}
use Rattle.std.specs.Str.{IsUtf8}
use Rattle.std.proofs.lemmas.Bool.{eqb-true, false_from_ne_true}
use Rattle.apt_base.specs.Identifiers.{is_dotted}
use Rattle.apt_base.proofs.FieldsLemmas.{is_text-of_utf8, is_text-fails}
use Rattle.processor_claims.specs.Lines.{is_line_end, lines_behind, lines, lines_after, is_blank, trimmed_front, trimmed_end, onto_trimmed, content, onto_said, said, name_in, first_bad, readings}

-- a text that is not empty begins with its first line
pub lines-first : (c : ℕ) (cs : List ℕ) → lines (c ∷ cs) ≡ take (position_or_len is_line_end (c ∷ cs)) (c ∷ cs) ∷ lines_after (drop (position_or_len is_line_end (c ∷ cs)) (c ∷ cs))
unfolding lines_behind
lines-first c [] = by (is_line_end c) refl
  where
    by : (b : Bool) → is_line_end c ≡ b → lines (c ∷ []) ≡ take (position_or_len is_line_end (c ∷ [])) (c ∷ []) ∷ lines_after (drop (position_or_len is_line_end (c ∷ [])) (c ∷ []))
    by true e = rw e refl
    by false e = rw e refl
lines-first c (d ∷ ds) = by (is_line_end c) refl (lines-first d ds)
  where
    by : (b : Bool) → is_line_end c ≡ b → lines (d ∷ ds) ≡ take (position_or_len is_line_end (d ∷ ds)) (d ∷ ds) ∷ lines_after (drop (position_or_len is_line_end (d ∷ ds)) (d ∷ ds))
        → lines (c ∷ d ∷ ds) ≡ take (position_or_len is_line_end (c ∷ d ∷ ds)) (c ∷ d ∷ ds) ∷ lines_after (drop (position_or_len is_line_end (c ∷ d ∷ ds)) (c ∷ d ∷ ds))
    by true e later = rw e refl
    by false e later =
        let one : 1 + position_or_len is_line_end (d ∷ ds) ≡ suc (position_or_len is_line_end (d ∷ ds)) = omega arith in
        rw (e, one) (ap (onto_first c) later)

-- behind a CR, a LF at the front ends no line
pub behind_cr-lf : (rest : List ℕ) → lines_behind true (10 ∷ rest) ≡ lines rest
unfolding lines_behind
behind_cr-lf rest = refl

pub behind_cr-other : (c : ℕ) (rest : List ℕ) → eqb c 10 ≡ false → lines_behind true (c ∷ rest) ≡ lines (c ∷ rest)
unfolding lines_behind
behind_cr-other c rest e = rw e refl

pub behind_cr-none : lines_behind true [] ≡ lines []
unfolding lines_behind
behind_cr-none = refl

pub lines-none : lines [] ≡ []
unfolding lines_behind
lines-none = refl

pub trimmed_front-blank : (c : ℕ) (cs : List ℕ) → is_blank c ≡ true → trimmed_front (c ∷ cs) ≡ trimmed_front cs
unfolding trimmed_front
trimmed_front-blank c cs e = rw e refl

pub trimmed_front-kept : (c : ℕ) (cs : List ℕ) → is_blank c ≡ false → trimmed_front (c ∷ cs) ≡ c ∷ cs
unfolding trimmed_front
trimmed_front-kept c cs e = rw e refl

pub trimmed_front-none : trimmed_front [] ≡ []
unfolding trimmed_front
trimmed_front-none = refl

pub trimmed_end-none : trimmed_end [] ≡ []
unfolding trimmed_end
trimmed_end-none = refl

pub trimmed_end-blank : (xs : List ℕ) (c : ℕ) → is_blank c ≡ true → trimmed_end (xs ++ c ∷ []) ≡ trimmed_end xs
unfolding trimmed_end
trimmed_end-blank [] c e = rw e refl
trimmed_end-blank (x ∷ xs) c e = ap (onto_trimmed x) (trimmed_end-blank xs c e)

pub trimmed_end-kept : (xs : List ℕ) (c : ℕ) → is_blank c ≡ false → trimmed_end (xs ++ c ∷ []) ≡ xs ++ c ∷ []
unfolding trimmed_end
trimmed_end-kept [] c e = rw e refl
trimmed_end-kept (x ∷ []) c e = ap (onto_trimmed x) (trimmed_end-kept [] c e)
trimmed_end-kept (x ∷ y ∷ ys) c e = ap (onto_trimmed x) (trimmed_end-kept (y ∷ ys) c e)

-- a line that says nothing is passed over
pub said-nothing : (number : ℕ) (line : List ℕ) (more : List (List ℕ)) → content line ≡ [] → said number (line ∷ more) ≡ said (number + 1) more
unfolding said
said-nothing number line more e = rw (e, add-one) refl

pub said-something : (number : ℕ) (line : List ℕ) (more : List (List ℕ)) → 0 < length (content line) → said number (line ∷ more) ≡ (number, content line) ∷ said (number + 1) more
unfolding said
said-something number line more some = by (content line) some
  where
    by : (text : List ℕ) → 0 < length text → onto_said number text (said (suc number) more) ≡ (number, text) ∷ said (number + 1) more
    by [] none = absurd (omega arith)
    by (c ∷ cs) there = rw add-one refl

pub said-end : (number : ℕ) → said number [] ≡ []
unfolding said
said-end number = refl

-- ---- the same as the code meets it

pub behind_cr-empty : (text : List ℕ) → length text ≡ 0 → lines text ≡ lines_behind true text
behind_cr-empty [] e = sym behind_cr-none
behind_cr-empty (c ∷ cs) e = absurd (omega arith)

pub behind_cr-taken : (text : List ℕ) (first : ℕ) (rest : List ℕ) → text ≡ first ∷ rest → first ≡ 10 → lines rest ≡ lines_behind true text
behind_cr-taken text first rest e is = sym (ap (lines_behind true) (e ∙ ap (λ c. c ∷ rest) is) ∙ behind_cr-lf rest)

pub behind_cr-kept : (text : List ℕ) (first : ℕ) (rest : List ℕ) → text ≡ first ∷ rest → (first ≡ 10 → ⊥) → lines text ≡ lines_behind true text
behind_cr-kept text first rest e other =
    ap lines e ∙ sym (ap (lines_behind true) e ∙ behind_cr-other first rest (false_from_ne_true (eqb first 10) (λ is. other (eqb-true first 10 is))))

pub lines_after-empty : (text : List ℕ) → length text ≡ 0 → lines text ≡ lines_after text
lines_after-empty [] e = lines-none
lines_after-empty (c ∷ cs) e = absurd (omega arith)

pub lines-split : (text line rest behind : List ℕ) (n : ℕ) → 0 < length text → n ≡ position_or_len is_line_end text → line ≡ take n text → rest ≡ drop n text → lines behind ≡ lines_after rest
    → lines text ≡ line ∷ lines behind
lines-split [] line rest behind n some _ _ _ _ = absurd (omega arith)
lines-split (c ∷ cs) line rest behind n some at front back later =
    let here : take n (c ∷ cs) ∷ lines_after (drop n (c ∷ cs)) ≡ line ∷ lines behind = cong (sym front) (ap lines_after (sym back) ∙ sym later) in
    lines-first c cs ∙ ap (λ (i : ℕ). take i (c ∷ cs) ∷ lines_after (drop i (c ∷ cs))) (sym at) ∙ here
  where
    cong : {x y : List ℕ} {xs ys : List (List ℕ)} → x ≡ y → xs ≡ ys → x ∷ xs ≡ y ∷ ys
    cong p q = cc

module _ (text rest : List ℕ) (so_far : trimmed_front rest ≡ trimmed_front text) where
  pub front-done : length rest ≡ 0 → rest ≡ trimmed_front text
  front-done none = empty rest none ∙ so_far
    where
      empty : (xs : List ℕ) → length xs ≡ 0 → xs ≡ trimmed_front xs
      empty [] e = sym trimmed_front-none
      empty (x ∷ xs) e = absurd (omega arith)

  pub front-kept : (first : ℕ) (after : List ℕ) → rest ≡ first ∷ after → false ≡ is_blank first → rest ≡ trimmed_front text
  front-kept first after e kept = e ∙ sym (ap trimmed_front e ∙ trimmed_front-kept first after (sym kept)) ∙ so_far

  pub front-goes : (first : ℕ) (after : List ℕ) → rest ≡ first ∷ after → true ≡ is_blank first → trimmed_front after ≡ trimmed_front text
  front-goes first after e blank = sym (ap trimmed_front e ∙ trimmed_front-blank first after (sym blank)) ∙ so_far

module _ (text rest : List ℕ) (so_far : trimmed_end rest ≡ trimmed_end text) where
  pub end-done : length rest ≡ 0 → rest ≡ trimmed_end text
  end-done none = empty rest none ∙ so_far
    where
      empty : (xs : List ℕ) → length xs ≡ 0 → xs ≡ trimmed_end xs
      empty [] e = sym trimmed_end-none
      empty (x ∷ xs) e = absurd (omega arith)

  pub end-kept : (before : List ℕ) (last : ℕ) → rest ≡ before ++ last ∷ [] → false ≡ is_blank last → rest ≡ trimmed_end text
  end-kept before last e kept = e ∙ sym (ap trimmed_end e ∙ trimmed_end-kept before last (sym kept)) ∙ so_far

  pub end-goes : (before : List ℕ) (last : ℕ) → rest ≡ before ++ last ∷ [] → true ≡ is_blank last → trimmed_end before ≡ trimmed_end text
  end-goes before last e blank = sym (ap trimmed_end e ∙ trimmed_end-blank before last (sym blank)) ∙ so_far

module _ (text name : List ℕ) (same : name ≡ text) where
  pub name_in-dotted : IsUtf8 text → true ≡ is_dotted name → Some name ≡ name_in text
  unfolding name_in
  name_in-dotted utf8 dotted =
      let is : is_dotted text ≡ true = sym (dotted ∙ ap is_dotted same) in
      rw (is_text-of_utf8 text utf8, is) (ap Some same)

  pub name_in-other : IsUtf8 text → false ≡ is_dotted name → None ≡ name_in text
  unfolding name_in
  name_in-other utf8 other =
      let is : is_dotted text ≡ false = sym (other ∙ ap is_dotted same) in
      rw (is_text-of_utf8 text utf8, is) refl

pub name_in-no_text : (text : List ℕ) → ¬ (IsUtf8 text) → None ≡ name_in text
unfolding name_in
name_in-no_text text broken = rw (is_text-fails text broken) refl

-- ---- readers of lines

module _ {A : Type 0} (read : List ℕ → Option A) (all more : List (ℕ × List ℕ)) (number : ℕ) (text : List ℕ) (begins : all ≡ (number, text) ∷ more) where
  pub first_bad-goes : (x : A) → Some x ≡ read text → first_bad read all ≡ first_bad read more
  first_bad-goes x is = ap (first_bad read) begins ∙ rw (← is) refl

  pub first_bad-here : None ≡ read text → first_bad read all ≡ Some number
  first_bad-here is = ap (first_bad read) begins ∙ rw (← is) refl

  pub readings-goes : (x : A) → Some x ≡ read text → readings read all ≡ x ∷ readings read more
  readings-goes x is = ap (readings read) begins ∙ rw (← is) refl

-- ---- going over the lines

pub split-shorter : (rest behind text line : ℕ) → 0 < text → rest + line ≡ text → behind ≤ rest → (0 < rest → behind < rest) → behind < text
split-shorter zero behind text line some parts within below = omega arith
split-shorter (suc rest) behind text line some parts within below =
    let lt : behind < suc rest = below (omega arith) in omega arith

module _ (number : ℕ) (rest : List ℕ) (all : List (ℕ × List ℕ)) (same : said number (lines rest) ≡ all) where
  pub said-over : true ≡ (length rest == 0) → all ≡ []
  said-over none = sym same ∙ empty rest none
    where
      empty : (text : List ℕ) → true ≡ (length text == 0) → said number (lines text) ≡ []
      empty [] e = ap (said number) lines-none ∙ said-end number
      empty (c ∷ cs) e = absurd (omega (arith, eqb-true (length (c ∷ cs)) 0 (sym e)))

  module _ (text line after : List ℕ) (split : lines rest ≡ line ∷ lines after) (is : text ≡ content line) where
    pub said-found : false ≡ (length text == 0) → all ≡ (number, text) ∷ said (number + 1) (lines after)
    said-found some =
        let there : 0 < length (content line) = subst (λ t. 0 < length t) is (above text some) in
        sym same ∙ ap (said number) split ∙ said-something number line (lines after) there ∙ ap (λ t. (number, t) ∷ said (number + 1) (lines after)) (sym is)
      where
        above : (t : List ℕ) → false ≡ (length t == 0) → 0 < length t
        above [] e = let f : ⊥ = cc in absurd f
        above (c ∷ cs) e = omega arith

    pub said-passed : true ≡ (length text == 0) → said (number + 1) (lines after) ≡ all
    said-passed none = sym (said-nothing number line (lines after) (sym is ∙ nothing text none)) ∙ ap (said number) (sym split) ∙ same
      where
        nothing : (t : List ℕ) → true ≡ (length t == 0) → t ≡ []
        nothing [] e = refl
        nothing (c ∷ cs) e = absurd (omega (arith, eqb-true (length (c ∷ cs)) 0 (sym e)))
