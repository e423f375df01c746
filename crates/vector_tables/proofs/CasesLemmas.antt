-- How the answers on a file, its characters and its tokens hang together.
use Rattle.std.proofs.Common.{◌≡◌, ◌≢◌, ◌⊎◌, eqb, inl, inr, ℕ, ◌+◌, ◌<◌, Bool, true, false, Result, Ok, Err, IfOk, MatchBool, bytes_eq, List, length, take, map, get_or, Option, refl, sym, ap, ◌∙◌, subst, arith}
use Rattle.std.proofs.lemmas.Bool.{false≢true}
use Rattle.std.proofs.lemmas.Bool.Decides.{eqb_tells}
use Rattle.std.proofs.lemmas.List.{take_more_same, get_or-map, get_or_default, length-map}
use Rattle.std.proofs.lemmas.Slice.Eq.{bytes_eq-Decides}
use Rattle.std.proofs.lemmas.Str.{encodes-chars}
use Rattle.std.proofs.lemmas.Slice.Zip.{firsts-zip, seconds-zip}
use Rattle.std.specs.Str.{chars, encode_utf8_all, IsUtf8}
use Rattle.java_tokens.specs.declared.fault.TextFault.TheVariants.{Bad, Memory}
use Rattle.java_tokens.specs.declared.shift.Shift.{Shift}
use Rattle.java_tokens.specs.declared.token.Token.{Token}
use Rattle.java_tokens.specs.declared.token.TokenKind.{TokenKind}
use Rattle.java_tokens.specs.Characters.{Placed, AreChars, IsCharFault}
use Rattle.java_tokens.specs.CharsShown.{offsets_of, placed_chars}
use Rattle.java_tokens.specs.Tokens.{Lexeme, AreTokens}
use Rattle.java_tokens.specs.TokensShown.{shown_token, shown_tokens}
use Rattle.java_tokens.proofs.Readings.{offsets-length}
use Rattle.vector_tables.specs.Cases.{Wanted, no_characters, IsAlike, GivenBy, Gives}

-- an answer to one fact is one to another that holds where it does
pub same_answer : (P Q : Type 0) (b : Bool) → (P → Q) → (Q → P) → MatchBool b P (¬ P) → MatchBool b Q (¬ Q)
same_answer P Q true to back holds = to holds
same_answer P Q false to back not = λ q. not (back q)

pub same_result : {E : Type 0} (P Q : Type 0) (r : Result Bool E) → (P → Q) → (Q → P) → IfOk r (λ b. MatchBool b P (¬ P)) → IfOk r (λ b. MatchBool b Q (¬ Q))
same_result P Q (Ok b) to back answer = same_answer P Q b to back answer
same_result P Q (Err e) to back answer = answer

module _ (file text : List ℕ) (shifts : List Shift) (wanted : Wanted) where
  abbrev all : List Placed
  all = placed_chars text shifts

  codes_are : map (λ c. c.0) all ≡ chars text
  codes_are = firsts-zip (chars text) (offsets_of (chars text) shifts) (offsets-length (chars text) shifts)

  offsets_are : map (λ c. c.1) all ≡ offsets_of (chars text) shifts
  offsets_are = seconds-zip (chars text) (offsets_of (chars text) shifts) (offsets-length (chars text) shifts)

  -- what the characters give, the file does
  pub gives_by : AreChars file all → GivenBy (chars text) (offsets_of (chars text) shifts) wanted → Gives file wanted
  gives_by are given = inl (all, are, subst (λ cs. GivenBy cs (map (λ c. c.1) all) wanted) (sym codes_are) (subst (λ os. GivenBy (chars text) os wanted) (sym offsets_are) given))

  pub given_by : ((other : List Placed) → AreChars file other → all ≡ other) → ((place : ℕ) → IsCharFault file place → ⊥) → Gives file wanted → GivenBy (chars text) (offsets_of (chars text) shifts) wanted
  given_by one none (inl (other, are, given)) =
      subst (λ os. GivenBy (chars text) os wanted) offsets_are (subst (λ cs. GivenBy cs (map (λ c. c.1) all) wanted) codes_are (subst (λ x. GivenBy (map (λ c. c.0) x) (map (λ c. c.1) x) wanted) (sym (one other are)) given))
  given_by one none (inr (place, fault, is)) = absurd (none place fault)

-- the place of the fault is the one that is wanted
pub fault_given : (file : List ℕ) (wanted : Wanted) (place : ℕ) → ((all : List Placed) → AreChars file all → ⊥) → ((other : ℕ) → IsCharFault file other → place ≡ other) → Gives file wanted → wanted ≡ no_characters place
fault_given file wanted place none one (inl (all, are, given)) = absurd (none all are)
fault_given file wanted place none one (inr (other, fault, is)) = is ∙ ap no_characters (sym (one other fault))

-- tokens that are alike are equal
abbrev lexeme : TokenKind → ℕ → ℕ → List ℕ → Option (List ℕ) → Lexeme
lexeme kind start line text doc = record { kind = kind; start = start; line = line; text = text; doc = doc }

alike_equal : (a b : Lexeme) → IsAlike a b → a ≡ b
alike_equal a b alike =
    ap (λ k. lexeme k a.start a.line a.text a.doc) alike.kind ∙ ap (λ s. lexeme b.kind s a.line a.text a.doc) alike.start ∙ ap (λ l. lexeme b.kind b.start l a.text a.doc) alike.line
    ∙ ap (λ t. lexeme b.kind b.start b.line t a.doc) alike.text ∙ ap (λ d. lexeme b.kind b.start b.line b.text d) alike.doc

equal_alike : (a b : Lexeme) → a ≡ b → IsAlike a b
equal_alike a b same = record {
  kind = ap (λ x. x.kind) same;
  start = ap (λ x. x.start) same;
  line = ap (λ x. x.line) same;
  text = ap (λ x. x.text) same;
  doc = ap (λ x. x.doc) same;
}

shown_at : (tokens : List Token) (n : ℕ) (d : Token) (x : Lexeme) → n < length tokens → get_or (shown_tokens tokens) n x ≡ shown_token (get_or tokens n d)
shown_at tokens n d x h = get_or-map shown_token tokens n d x h

module _ (tokens list : List Token) where
  -- this many tokens are as expected
  pub record AreEqual (n : ℕ) : Type 0 where
    pub equal : take n (shown_tokens tokens) ≡ take n (shown_tokens list)

  pub equal_none : AreEqual 0
  equal_none = record { equal = refl }

  pub equal_more : (n : ℕ) (d e : Token) → n < length tokens → n < length list → AreEqual n → IsAlike (shown_token (get_or tokens n d)) (shown_token (get_or list n e)) → AreEqual (n + 1)
  equal_more n d e h l so_far alike = record {
    equal = take_more_same (shown_tokens tokens) (shown_tokens list) n (shown_token d) (omega (arith, h, length-map tokens shown_token)) (omega (arith, l, length-map list shown_token)) so_far.equal
        (shown_at tokens n d (shown_token d) h ∙ alike_equal _ _ alike ∙ sym (shown_at list n e (shown_token d) l));
  }

  -- one is not
  pub not_equal_at : (n : ℕ) (d e : Token) → n < length tokens → n < length list → ¬ IsAlike (shown_token (get_or tokens n d)) (shown_token (get_or list n e)) → ¬ (shown_tokens tokens ≡ shown_tokens list)
  not_equal_at n d e h l not same =
      not (equal_alike _ _ (sym (shown_at tokens n d (shown_token d) h) ∙ ap (λ x. get_or x n (shown_token d)) same ∙ shown_at list n e (shown_token d) l))

-- a place is compared with the only one
pub place_answer : (P : ℕ → Type 0) (at place : ℕ) → P at → ((other : ℕ) → P other → at ≡ other) → MatchBool (eqb at place) (P place) (¬ P place)
place_answer P at place here one = by_test (eqb_tells at place)
  where
    by_test : ((eqb at place ≡ true) × (at ≡ place)) ⊎ ((eqb at place ≡ false) × (at ≢ place)) → MatchBool (eqb at place) (P place) (¬ P place)
    by_test (inl same) = subst (λ b. MatchBool b (P place) (¬ P place)) (sym same.0) (subst P same.1 here)
    by_test (inr other) = subst (λ b. MatchBool b (P place) (¬ P place)) (sym other.0) (λ there. other.1 (one place there))

pub bad_memory : (place : ℕ) → Bad place ≡ Memory → ⊥
bad_memory place e = absurd (cc)

-- the bytes of a text are these
pub text_answer : (bytes text : List ℕ) (b : Bool) → IsUtf8 bytes → b ≡ bytes_eq bytes text → MatchBool b (encode_utf8_all (chars bytes) ≡ text) (¬ (encode_utf8_all (chars bytes) ≡ text))
text_answer bytes text true utf8 e = encodes-chars bytes utf8 ∙ (bytes_eq-Decides bytes text).0 (sym e)
text_answer bytes text false utf8 e = λ same. false≢true (e ∙ (bytes_eq-Decides bytes text).1 (sym (encodes-chars bytes utf8) ∙ same))

-- the tokens that were read are those that the characters have
pub tokens_answer : (codes offsets : List ℕ) (tokens list : List Lexeme) (b : Bool) → AreTokens codes offsets tokens → ((others : List Lexeme) → AreTokens codes offsets others → tokens ≡ others)
    → MatchBool b (tokens ≡ list) (¬ (tokens ≡ list)) → MatchBool b (AreTokens codes offsets list) (¬ AreTokens codes offsets list)
tokens_answer codes offsets tokens list b are one answer =
    same_answer (tokens ≡ list) (AreTokens codes offsets list) b (λ same. subst (AreTokens codes offsets) same are) (λ have. one list have) answer

-- this many cases pass
pub record PassSoFar {A : Type 0} (P : A → Type 0) (cases : List A) (n : ℕ) : Type 0 where
  pub passed : (k : ℕ) (d : A) → k < n → P (get_or cases k d)

pub pass_more : {A : Type 0} (P : A → Type 0) (cases : List A) (n : ℕ) (e : A) (b : Bool) → PassSoFar P cases n → n < length cases → MatchBool b (P (get_or cases n e)) (¬ P (get_or cases n e)) → b ≡ true → PassSoFar P cases (n + 1)
pass_more {A} P cases n e b so_far h answer is = record { passed = λ k d l. by_place k d l (eqb_tells k n) }
  where
    here : P (get_or cases n e)
    here = subst (λ x. MatchBool x (P (get_or cases n e)) (¬ P (get_or cases n e))) is answer

    by_place : (k : ℕ) (d : A) → k < n + 1 → ((eqb k n ≡ true) × (k ≡ n)) ⊎ ((eqb k n ≡ false) × (k ≢ n)) → P (get_or cases k d)
    by_place k d l (inl same) = subst (λ m. P (get_or cases m d)) (sym same.1) (subst P (get_or_default cases n e d h) here)
    by_place k d l (inr other) = so_far.passed k d (omega (arith, l, other.1))
