-- How the tokens of a text are gathered one by one.
use lib.Utf8.{scalars, scalar}
use Rattle.std.proofs.Common.{◌≡◌, ◌≢◌, inl, inr, ◌&&◌, not, bytes_eq, codes, ℕ, zero, suc, ◌+◌, ◌<◌, ◌≤◌, Bool, true, false, cond, List, [], ◌∷◌, ◌++◌, length, take, drop, slice_index, Option, None, Some, refl, sym, ap, ◌∙◌, subst, arith, append-nil, append_assoc, length-append, length-drop}
use Rattle.std.proofs.lemmas.List.{take-append-drop, take_at, drop_at, length-take-le}
use Rattle.std.proofs.lemmas.Str.{chars-nil, encodes-chars, encodes-append, chars-encodes, scalars-chars, length-le-encodes}
use Rattle.std.proofs.lemmas.Bool.{false≢true}
use Rattle.std.proofs.lemmas.Slice.Eq.{bytes_eq-Decides}
use Rattle.std.specs.Bool.{MatchBool}
use Rattle.std.specs.Str.{chars, IsUtf8, IsCharBoundary, encode_utf8_all}
use Rattle.java_tokens.specs.declared.token.TokenKind.{TokenKind}
use Rattle.java_tokens.specs.Tokens.{IsNext, HasNoNext, Element, Reads, IsEnd, Lexeme, tokens_from, AreTokens, IsTokenFault, line_ends, returns, is_doc}
use Rattle.java_tokens.specs.declared.chars.Chars.{Chars}
use Rattle.java_tokens.specs.TokensShown.{codes_in, offsets_in}
use Rattle.java_tokens.specs.Table.{bytes_of, IsFront}
use Rattle.java_tokens.specs.TokenReading.{IsLexing}
use Rattle.java_tokens.proofs.TableLemmas.{both_true}
use Rattle.java_tokens.proofs.NextFronts.{front_taken, next_some}
use Rattle.java_tokens.proofs.Places.{line_ends-append, returns-append, line_ends_few}
use Rattle.java_tokens.proofs.Ascii.{same_front, same_text}
use Rattle.java_tokens.proofs.LongestFronts.{front_bytes, front_within, front_boundary, front_chars}

Reads-snoc : (text : List ℕ) (es : List Element) (rest front after : List ℕ) (k : Option TokenKind) → Reads text es rest → IsNext rest front after k → Reads text (es ++ (k, front) ∷ []) after
Reads-snoc text [] rest front after k is next = (after, subst (λ t. IsNext t front after k) (sym is) next, refl)
Reads-snoc text (e ∷ es) rest front after k (between, first, more) next = (between, first, Reads-snoc between es rest front after k more next)

-- some characters behind these tokens of a file were read, with this last doc comment
abbrev pub IsBehind : Chars → List Lexeme → List ℕ → ℕ → ℕ → Bool → Option (List ℕ) → Type 0
IsBehind read ts rest width line after_return doc = (before : ℕ) × IsLexing (codes_in read) (offsets_in read) rest before width line after_return doc ts

pub lexing_none : (bs offsets : List ℕ) → IsUtf8 bs → IsLexing (chars bs) offsets bs 0 0 1 false None []
lexing_none bs offsets utf8 = record {
  within = omega arith;
  rest_is = refl;
  wide = refl;
  total = omega (arith, ap length (encodes-chars bs utf8));
  line_is = omega arith;
  return_is = refl;
  es = [];
  reads = refl;
  shown = λ more. refl;
}

-- what the front of the rest is
pub record IsCut (rest front after : List ℕ) (width : ℕ) : Type 0 where
  pub some : 0 < length front
  pub wide : width ≡ bytes_of (chars rest) (length front)
  pub front_is : chars (take width rest) ≡ front
  pub bytes_are : take width rest ≡ encode_utf8_all front
  pub after_is : chars (drop width rest) ≡ after
  pub split : chars rest ≡ front ++ after
  pub within : width ≤ length rest

scalars_left : (cs : List ℕ) (n : ℕ) → scalars cs ≡ true → scalars (drop n cs) ≡ true
scalars_left cs zero e = e
scalars_left [] (suc n) e = refl
scalars_left (c ∷ cs) (suc n) e = scalars_left cs n (both_true (scalar c) (scalars cs) e).1

pub cut_of : (rest front after : List ℕ) (width : ℕ) (k : Option TokenKind) → IsUtf8 rest → IsNext (chars rest) front after k → width ≡ length (encode_utf8_all front) → IsCut rest front after width
cut_of rest front after width k utf8 next is = record {
  some = next_some (chars rest) front after k next;
  wide = wide;
  front_is = front_chars rest (length front) width utf8 wide ∙ sym taken;
  bytes_are = front_bytes rest (length front) width utf8 wide ∙ ap encode_utf8_all (sym taken);
  after_is = ap chars left ∙ chars-encodes after scalar_after;
  split = next.split;
  within = front_within rest (length front) width utf8 wide;
}
  where
    taken : front ≡ take (length front) (chars rest)
    taken = front_taken (chars rest) front after next.split

    wide : width ≡ bytes_of (chars rest) (length front)
    wide = is ∙ ap (λ t. length (encode_utf8_all t)) taken

    split : rest ≡ encode_utf8_all front ++ encode_utf8_all after
    split = sym (encodes-chars rest utf8) ∙ ap encode_utf8_all next.split ∙ encodes-append front after

    left : drop width rest ≡ encode_utf8_all after
    left = ap (drop width) split ∙ drop_at (encode_utf8_all front) (encode_utf8_all after) width (sym is)

    scalar_after : scalars after ≡ true
    scalar_after = subst (λ t. scalars t ≡ true) (ap (drop (length front)) next.split ∙ drop_at front after (length front) refl) (scalars_left (chars rest) (length front) (scalars-chars rest utf8))

take_drop : (all front after : List ℕ) (n : ℕ) → drop n all ≡ front ++ after → n ≤ length all → (take (n + length front) all ≡ take n all ++ front) × (drop (n + length front) all ≡ after)
take_drop all front after n split within =
    let whole : all ≡ take n all ++ (front ++ after) = sym (take-append-drop n all) ∙ ap (λ x. take n all ++ x) split in
    let long : length (take n all ++ front) ≡ n + length front = length-append (take n all) front ∙ ap (λ m. m + length front) (length-take-le n all within) in
    let grouped : all ≡ (take n all ++ front) ++ after = whole ∙ sym (append_assoc (take n all) front after) in
    (ap (take (n + length front)) grouped ∙ take_at (take n all ++ front) after (n + length front) long, ap (drop (n + length front)) grouped ∙ drop_at (take n all ++ front) after (n + length front) long)

-- one more is read
pub lexing_more : (all offsets rest front after : List ℕ) (before width line w : ℕ) (r : Bool) (doc doc' : Option (List ℕ)) (tokens tokens' : List Lexeme) (k : Option TokenKind) → IsLexing all offsets rest before width line r doc tokens → IsNext (chars rest) front after k → IsCut rest front after w
    → ((more : List Element) → tokens ++ tokens_from all offsets before doc ((k, front) ∷ more) ≡ tokens' ++ tokens_from all offsets (before + length front) doc' more)
    → IsLexing all offsets (drop w rest) (before + length (chars (take w rest))) (width + length (take w rest)) (line + line_ends r (chars (take w rest))) (returns r (chars (take w rest))) doc' tokens'
lexing_more all offsets rest front after before width line w r doc doc' tokens tokens' k lexing next cut shown =
    subst (λ f. IsLexing all offsets (drop w rest) (before + length f) (width + length (take w rest)) (line + line_ends r f) (returns r f) doc' tokens') (sym cut.front_is) done
  where
    cuts : (take (before + length front) all ≡ take before all ++ front) × (drop (before + length front) all ≡ after)
    cuts = take_drop all front after before (sym lexing.rest_is ∙ cut.split) lexing.within

    done : IsLexing all offsets (drop w rest) (before + length front) (width + length (take w rest)) (line + line_ends r front) (returns r front) doc' tokens'
    done = record {
      within = omega (arith, lexing.within, length-drop before all, ap length (sym lexing.rest_is ∙ cut.split), length-append front after);
      rest_is = cut.after_is ∙ sym cuts.1;
      wide =
          ap (λ n. n + length (take w rest)) lexing.wide ∙ ap (λ t. bytes_of all before + length t) cut.bytes_are
          ∙ sym (ap (λ t. length (encode_utf8_all t)) cuts.0 ∙ ap length (encodes-append (take before all) front) ∙ length-append (encode_utf8_all (take before all)) (encode_utf8_all front));
      total = omega (arith, lexing.total, ap length (take-append-drop w rest), length-append (take w rest) (drop w rest));
      line_is = omega (arith, lexing.line_is, ap (line_ends false) cuts.0, line_ends-append false (take before all) front, ap (λ x. line_ends x front) lexing.return_is);
      return_is = ap (λ x. returns x front) lexing.return_is ∙ sym (ap (returns false) cuts.0 ∙ returns-append false (take before all) front);
      es = lexing.es ++ (k, front) ∷ [];
      reads = subst (Reads all (lexing.es ++ (k, front) ∷ [])) (sym cuts.1) (Reads-snoc all lexing.es (drop before all) front after k lexing.reads (subst (λ t. IsNext t front after k) lexing.rest_is next));
      shown = λ more. ap (tokens_from all offsets 0 None) (append_assoc lexing.es ((k, front) ∷ []) more) ∙ lexing.shown ((k, front) ∷ more) ∙ shown more;
    }

-- a token
pub lexing_token : (all offsets rest : List ℕ) (before width line w : ℕ) (r : Bool) (doc : Option (List ℕ)) (tokens : List Lexeme) (kind : TokenKind) → IsUtf8 rest → IsLexing all offsets rest before width line r doc tokens → IsFront (chars rest) w (Some kind)
    → IsLexing all offsets (drop w rest) (before + length (chars (take w rest))) (width + length (take w rest)) (line + line_ends r (chars (take w rest))) (returns r (chars (take w rest))) None
    (tokens ++ record { kind = kind; start = slice_index offsets before; line = line; text = take w rest; doc = doc } ∷ [])
lexing_token all offsets rest before width line w r doc tokens kind utf8 lexing (front, after, next, is) =
    let cut = cut_of rest front after w (Some kind) utf8 next is in
    lexing_more all offsets rest front after before width line w r doc None tokens _ (Some kind) lexing next cut (λ more.
    ap (λ l. tokens ++ l) (ap (λ n. record { kind = kind; start = slice_index offsets before; line = n; text = encode_utf8_all front; doc = doc } ∷ tokens_from all offsets (before + length front) None more) (sym lexing.line_is)
    ∙ ap (λ t. record { kind = kind; start = slice_index offsets before; line = line; text = t; doc = doc } ∷ tokens_from all offsets (before + length front) None more) (sym cut.bytes_are))
    ∙ sym (append_assoc tokens (record { kind = kind; start = slice_index offsets before; line = line; text = take w rest; doc = doc } ∷ []) (tokens_from all offsets (before + length front) None more)))

-- a separator
pub lexing_separator : (all offsets rest : List ℕ) (before width line w : ℕ) (r : Bool) (doc doc' : Option (List ℕ)) (tokens : List Lexeme) → IsUtf8 rest → IsLexing all offsets rest before width line r doc tokens → IsFront (chars rest) w None
    → doc' ≡ cond (is_doc (chars (take w rest))) (Some (take w rest)) doc
    → IsLexing all offsets (drop w rest) (before + length (chars (take w rest))) (width + length (take w rest)) (line + line_ends r (chars (take w rest))) (returns r (chars (take w rest))) doc' tokens
lexing_separator all offsets rest before width line w r doc doc' tokens utf8 lexing (front, after, next, is) doc_is =
    let cut = cut_of rest front after w None utf8 next is in
    let same_doc : cond (is_doc front) (Some (encode_utf8_all front)) doc ≡ doc' =
    ap (λ f. cond (is_doc f) (Some (encode_utf8_all front)) doc) (sym cut.front_is) ∙ ap (λ t. cond (is_doc (chars (take w rest))) (Some t) doc) (sym cut.bytes_are) ∙ sym doc_is in
    lexing_more all offsets rest front after before width line w r doc doc' tokens tokens None lexing next cut (λ more. ap (λ d. tokens ++ tokens_from all offsets (before + length front) d more) same_doc)

-- the end
pub lexing_done : (all offsets rest : List ℕ) (before width line : ℕ) (r : Bool) (doc : Option (List ℕ)) (tokens : List Lexeme) → IsLexing all offsets rest before width line r doc tokens → IsEnd (chars rest) → AreTokens all offsets tokens
lexing_done all offsets rest before width line r doc tokens lexing end =
    (lexing.es, (drop before all, lexing.reads, subst IsEnd lexing.rest_is end), sym (ap (tokens_from all offsets 0 None) (sym (append-nil lexing.es)) ∙ lexing.shown [] ∙ append-nil tokens))

-- nothing goes on
pub lexing_stuck : (all offsets rest : List ℕ) (before width line : ℕ) (r : Bool) (doc : Option (List ℕ)) (tokens : List Lexeme) → IsLexing all offsets rest before width line r doc tokens → ¬ IsEnd (chars rest) → HasNoNext (chars rest) → IsTokenFault all offsets (slice_index offsets before)
lexing_stuck all offsets rest before width line r doc tokens lexing no_end no_next =
    (before, (lexing.es, drop before all, lexing.reads, (λ end. no_end (subst IsEnd (sym lexing.rest_is) end)), subst HasNoNext lexing.rest_is no_next, omega (arith, length-drop before all, lexing.within)), refl)

-- where it is not the end, there is a character
pub lexing_some : (all offsets rest : List ℕ) (before width line : ℕ) (r : Bool) (doc : Option (List ℕ)) (tokens : List Lexeme) → IsLexing all offsets rest before width line r doc tokens → ¬ IsEnd (chars rest) → before + 1 ≤ length all
lexing_some all offsets rest before width line r doc tokens lexing no_end = by_rest (chars rest) refl
  where
    by_rest : (cs : List ℕ) → chars rest ≡ cs → before + 1 ≤ length all
    by_rest [] e = absurd (no_end (inl e))
    by_rest (c ∷ cs) e = omega (arith, length-drop before all, ap length (sym lexing.rest_is ∙ e))

-- how far a place is
pub lexing_far : (all offsets rest : List ℕ) (before width line : ℕ) (r : Bool) (doc : Option (List ℕ)) (tokens : List Lexeme) → IsLexing all offsets rest before width line r doc tokens → (before ≤ width) × (line ≤ before + 1)
lexing_far all offsets rest before width line r doc tokens lexing =
    (omega (arith, lexing.wide, length-le-encodes (take before all), length-take-le before all lexing.within), omega (arith, lexing.line_is, line_ends_few false (take before all), length-take-le before all lexing.within))

-- a front may be cut off, and has a byte
pub front_cut : (rest : List ℕ) (w : ℕ) (k : Option TokenKind) → IsUtf8 rest → IsFront (chars rest) w k → IsCharBoundary rest w
front_cut rest w k utf8 (front, after, next, is) = front_boundary rest (length front) w utf8 (cut_of rest front after w k utf8 next is).wide

pub front_some : (rest : List ℕ) (w : ℕ) (k : Option TokenKind) → IsUtf8 rest → IsFront (chars rest) w k → (0 < w) × (w ≤ length rest)
front_some rest w k utf8 (front, after, next, is) =
    let cut = cut_of rest front after w k utf8 next is in
    (omega (arith, cut.some, is, length-le-encodes front), cut.within)

-- the tests of the code
pub end_empty : (rest : List ℕ) → length rest ≡ 0 → IsEnd (chars rest)
end_empty [] e = inl chars-nil
end_empty (x ∷ rest) e = absurd (omega (arith, e))

pub end_sub : (rest : List ℕ) → IsUtf8 rest → bytes_eq rest (26 ∷ []) ≡ true → IsEnd (chars rest)
end_sub rest utf8 e = inr ((bytes_eq-Decides (chars rest) (26 ∷ [])).0 (sym (same_text (26 ∷ []) rest refl utf8) ∙ e))

pub no_end : (rest : List ℕ) → IsUtf8 rest → length rest ≢ 0 → bytes_eq rest (26 ∷ []) ≡ false → ¬ IsEnd (chars rest)
no_end rest utf8 some e (inl is) = some (sym (ap length (encodes-chars rest utf8)) ∙ ap (λ t. length (encode_utf8_all t)) is)
no_end rest utf8 some e (inr is) = false≢true (sym e ∙ same_text (26 ∷ []) rest refl utf8 ∙ (bytes_eq-Decides (chars rest) (26 ∷ [])).1 is)

pub end_tested : (rest : List ℕ) (b : Bool) → IsUtf8 rest → length rest ≢ 0 → b ≡ bytes_eq rest (26 ∷ []) → MatchBool b (IsEnd (chars rest)) (¬ IsEnd (chars rest))
end_tested rest true utf8 some e = end_sub rest utf8 (sym e)
end_tested rest false utf8 some e = no_end rest utf8 some (sym e)

pub doc_short : (t : List ℕ) → IsUtf8 t → bytes_eq t (codes "/**/") ≡ true → false ≡ is_doc (chars t)
doc_short t utf8 e = sym (ap (λ b. bytes_eq (take 3 (chars t)) (codes "/**") && not b) (sym (same_text (codes "/**/") t refl utf8) ∙ e) ∙ and_false (bytes_eq (take 3 (chars t)) (codes "/**")))
  where
    and_false : (a : Bool) → (a && false) ≡ false
    and_false true = refl
    and_false false = refl

pub doc_tested : (t : List ℕ) → IsUtf8 t → bytes_eq t (codes "/**/") ≡ false → bytes_eq (take 3 t) (codes "/**") ≡ is_doc (chars t)
doc_tested t utf8 e =
    same_front 3 (codes "/**") t refl utf8 ∙ and_true (bytes_eq (take 3 (chars t)) (codes "/**")) ∙ ap (λ b. bytes_eq (take 3 (chars t)) (codes "/**") && not b) (sym e ∙ same_text (codes "/**/") t refl utf8)
  where
    and_true : (a : Bool) → a ≡ (a && not false)
    and_true true = refl
    and_true false = refl

pub lexing_at : (all offsets rest rest' : List ℕ) (before before' width width' line line' : ℕ) (r r' : Bool) (doc doc' : Option (List ℕ)) (tokens tokens' : List Lexeme) → IsLexing all offsets rest before width line r doc tokens
    → rest' ≡ rest → before' ≡ before → width' ≡ width → line' ≡ line → r' ≡ r → doc' ≡ doc → tokens' ≡ tokens → IsLexing all offsets rest' before' width' line' r' doc' tokens'
lexing_at all offsets rest rest' before before' width width' line line' r r' doc doc' tokens tokens' lexing p q s t u v w =
    subst (λ x. IsLexing all offsets x before' width' line' r' doc' tokens') (sym p)
    (subst (λ x. IsLexing all offsets rest x width' line' r' doc' tokens') (sym q)
    (subst (λ x. IsLexing all offsets rest before x line' r' doc' tokens') (sym s)
    (subst (λ x. IsLexing all offsets rest before width x r' doc' tokens') (sym t)
    (subst (λ x. IsLexing all offsets rest before width line x doc' tokens') (sym u)
    (subst (λ x. IsLexing all offsets rest before width line r x tokens') (sym v)
    (subst (IsLexing all offsets rest before width line r doc) (sym w) lexing))))))

-- where the next token or separator has been cut off
pub record IsMoved (rest text back : List ℕ) (w before before' width width' line line' : ℕ) (r r' : Bool) : Type 0 where
  pub text_is : text ≡ take w rest
  pub back_is : back ≡ drop w rest
  pub before_is : before' ≡ before + length (chars text)
  pub width_is : width' ≡ width + length text
  pub line_is : line' ≡ line + line_ends r (chars text)
  pub return_is : r' ≡ returns r (chars text)

moved_at : (all offsets rest text back : List ℕ) (w before before' width width' line line' : ℕ) (r r' : Bool) (doc' doc'' : Option (List ℕ)) (tokens' tokens'' : List Lexeme) → IsMoved rest text back w before before' width width' line line' r r'
    → IsLexing all offsets (drop w rest) (before + length (chars (take w rest))) (width + length (take w rest)) (line + line_ends r (chars (take w rest))) (returns r (chars (take w rest))) doc' tokens'
    → doc'' ≡ doc' → tokens'' ≡ tokens' → IsLexing all offsets back before' width' line' r' doc'' tokens''
moved_at all offsets rest text back w before before' width width' line line' r r' doc' doc'' tokens' tokens'' moved lexing d t =
    lexing_at all offsets (drop w rest) back _ before' _ width' _ line' _ r' doc' doc'' tokens' tokens'' lexing moved.back_is (moved.before_is ∙ ap (λ x. before + length (chars x)) moved.text_is) (moved.width_is ∙ ap (λ x. width + length x) moved.text_is) (moved.line_is ∙ ap (λ x. line + line_ends r (chars x)) moved.text_is) (moved.return_is ∙ ap (λ x. returns r (chars x)) moved.text_is) d t

pub moved_token : (all offsets rest text back : List ℕ) (w before before' width width' line line' : ℕ) (r r' : Bool) (doc : Option (List ℕ)) (ts : List Lexeme) (token : Lexeme) (kind : TokenKind) → IsUtf8 rest → IsMoved rest text back w before before' width width' line line' r r'
    → IsLexing all offsets rest before width line r doc ts → IsFront (chars rest) w (Some kind) → token ≡ record { kind = kind; start = slice_index offsets before; line = line; text = text; doc = doc } → IsLexing all offsets back before' width' line' r' None (ts ++ token ∷ [])
moved_token all offsets rest text back w before before' width width' line line' r r' doc ts token kind utf8 moved lexing front shows =
    moved_at all offsets rest text back w before before' width width' line line' r r' None None _ (ts ++ token ∷ []) moved (lexing_token all offsets rest before width line w r doc ts kind utf8 lexing front) refl
    (ap (λ x. ts ++ x ∷ []) (shows ∙ ap (λ x. record { kind = kind; start = slice_index offsets before; line = line; text = x; doc = doc }) moved.text_is))

pub moved_separator : (all offsets rest text back : List ℕ) (w before before' width width' line line' : ℕ) (r r' : Bool) (doc doc' : Option (List ℕ)) (ts : List Lexeme) → IsUtf8 rest → IsMoved rest text back w before before' width width' line line' r r'
    → IsLexing all offsets rest before width line r doc ts → IsFront (chars rest) w None → doc' ≡ cond (is_doc (chars text)) (Some text) doc → IsLexing all offsets back before' width' line' r' doc' ts
moved_separator all offsets rest text back w before before' width width' line line' r r' doc doc' ts utf8 moved lexing front doc_is =
    moved_at all offsets rest text back w before before' width width' line line' r r' doc' doc' _ ts moved (lexing_separator all offsets rest before width line w r doc doc' ts utf8 lexing front (doc_is ∙ ap (λ x. cond (is_doc (chars x)) (Some x) doc) moved.text_is)) refl refl
