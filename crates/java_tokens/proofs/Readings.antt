-- How the characters of a file are gathered one by one.
use lib.Utf8.{scalars, scalar as scalar_of}
use Rattle.std.proofs.Common.{◌≡◌, ℕ, ◌+◌, ◌-◌, ◌<◌, ◌≤◌, Bool, true, false, cond, List, [], ◌∷◌, ◌++◌, length, take, drop, map, bytes_eq, refl, sym, ap, ◌∙◌, subst, arith, append-nil, append_assoc, length-append, length-drop}
use Rattle.std.proofs.lemmas.List.{drop_all, drop_at, take_at, drop-drop, map-append, length-map}
use Rattle.std.proofs.lemmas.List.Elements.{All-get_or, All-push}
use Rattle.std.proofs.lemmas.List.Sorted.{IsNonDecreasingBy-push}
use Rattle.std.proofs.lemmas.Str.{length-encode, len_utf8_bounds, chars-append, chars_past_char, chars-nil, encodes-chars, IsUtf8-encode, IsUtf8-append, drop_past_char}
use Rattle.std.proofs.lemmas.Slice.Eq.{bytes_eq-Decides}
use Rattle.std.specs.List.{zip, All}
use Rattle.std.specs.Prelude.{encode_utf8}
use Rattle.std.specs.Char.{IsScalar, len_utf8}
use Rattle.std.specs.Str.{chars, IsUtf8, encode_utf8_all}
use Rattle.java_tokens.specs.declared.shift.Shift.{Shift}
use Rattle.java_tokens.specs.Characters.{Placed, IsPlain, Spells, Spelled, HasChar, HasNoChar, slashes_after, AreChars, IsCharFault}
use Rattle.java_tokens.specs.CharsShown.{places_from, shift_at, offsets_of, placed_chars, Ascend, AreWithin}
use Rattle.java_tokens.proofs.CharactersLemmas.{has_long, raw_char, plain_rest, plain_begins, plain_slashes}
use Rattle.java_tokens.proofs.TableLemmas.{both_true}
use Rattle.java_tokens.proofs.Shifts.{shift_settled, shift_before, shift_behind, places_from-length, map_places}

-- one character more at the end
pub Spelled-snoc : (s o : ℕ) (text : List ℕ) (cs : List Placed) (rest : List ℕ) (s' at code : ℕ) (spelling after : List ℕ) → Spelled s o text cs rest s' → at + length rest ≡ o + length text → rest ≡ spelling ++ after → Spells s' spelling after code → Spelled s o text (cs ++ (code, at) ∷ []) after (slashes_after s' spelling)
Spelled-snoc s o text [] rest s' at code spelling after (is, same) place split how =
    let here : at ≡ o = omega (arith, place, ap length is) in
    (here, (spelling, after, is ∙ split, subst (λ n. Spells n spelling after code) (sym same) how, (refl, ap (λ n. slashes_after n spelling) same)))
Spelled-snoc s o text (c ∷ cs) rest s' at code spelling after (is, (sp, left, cut, first, more)) place split how =
    let long : length text ≡ length sp + length left = ap length cut ∙ length-append sp left in
    (is, (sp, left, cut, first, Spelled-snoc (slashes_after s sp) (o + length sp) left cs rest s' at code spelling after more (omega (arith, place, long)) split how))

zip-snoc : (cs os : List ℕ) (c o : ℕ) → length os ≡ length cs → zip (cs ++ c ∷ []) (os ++ o ∷ []) ≡ zip cs os ++ (c, o) ∷ []
zip-snoc [] [] c o same = refl
zip-snoc [] (x ∷ os) c o same = absurd (omega (arith, same))
zip-snoc (x ∷ cs) [] c o same = absurd (omega (arith, same))
zip-snoc (x ∷ cs) (y ∷ os) c o same = ap (λ ps. (x, y) ∷ ps) (zip-snoc cs os c o (omega (arith, same)))

places_from-snoc : (place : ℕ) (cs : List ℕ) (c : ℕ) → places_from place (cs ++ c ∷ []) ≡ places_from place cs ++ (place + length (encode_utf8_all cs)) ∷ []
places_from-snoc place [] c = ap (λ n. n ∷ []) (nothing place)
  where
    nothing : (n : ℕ) → n ≡ n + 0
    nothing n = omega arith
places_from-snoc place (x ∷ cs) c =
    let all : length (encode_utf8_all (x ∷ cs)) ≡ len_utf8 x + length (encode_utf8_all cs) = length-append (encode_utf8 x) (encode_utf8_all cs) ∙ ap (λ n. n + length (encode_utf8_all cs)) (length-encode x) in
    let further : place + len_utf8 x + length (encode_utf8_all cs) ≡ place + length (encode_utf8_all (x ∷ cs)) = omega (arith, all) in
    ap (λ ps. place ∷ ps) (places_from-snoc (place + len_utf8 x) cs c ∙ ap (λ n. places_from (place + len_utf8 x) cs ++ n ∷ []) further)

abbrev offset_by : List Shift → ℕ → ℕ
offset_by shifts place = place + shift_at shifts place

pub offsets-length : (cs : List ℕ) (shifts : List Shift) → length (offsets_of cs shifts) ≡ length cs
offsets-length cs shifts = length-map (places_from 0 cs) (offset_by shifts) ∙ places_from-length 0 cs

-- what the shifts are where the text has come to a place, and the file to an offset
pub record IsShifted (shifts : List Shift) (most place at : ℕ) : Type 0 where
  pub here : place + shift_at shifts place ≡ at
  pub reached : All (λ s. s.place ≤ place) shifts
  pub ascending : Ascend shifts
  pub within : AreWithin most shifts

-- what they are behind the next character: places before it are shifted as they were
pub record GoesOn (shifts shifts' : List Shift) (most place at : ℕ) : Type 0 where
  pub before : (p : ℕ) → p < place → shift_at shifts' p ≡ shift_at shifts p
  pub shifted : IsShifted shifts' most place at

-- a character is as wide in the file as in the text
pub shift_stays : (shifts : List Shift) (most place at width wide : ℕ) → IsShifted shifts most place at → width ≡ wide → GoesOn shifts shifts most (place + wide) (at + width)
shift_stays shifts most place at width wide shifted same = record {
  before = λ p h. refl;
  shifted = record {
    here = omega (arith, shift_settled shifts place (place + wide) shifted.reached (omega arith), shifted.here, same);
    reached = λ k d h. omega (arith, All-get_or (λ s. s.place ≤ place) shifts k d h shifted.reached);
    ascending = shifted.ascending;
    within = shifted.within;
  };
}

-- it is not, and one shift more says so
pub shift_grows : (shifts : List Shift) (s : Shift) (most place at width wide : ℕ) → IsShifted shifts most place at → wide ≤ width → at + width ≤ most → s.place ≡ place + wide → s.by + (place + wide) ≡ at + width → GoesOn shifts (shifts ++ s ∷ []) most (place + wide) (at + width)
shift_grows shifts s most place at width wide shifted wider fits begins by = record {
  before = λ p h. shift_before shifts s p (omega (arith, h, begins));
  shifted = record {
    here = omega (arith, shift_behind shifts s (place + wide) (omega (arith, begins)), by);
    reached = All-push (λ x. x.place ≤ place + wide) shifts s (λ k d h. omega (arith, All-get_or (λ x. x.place ≤ place) shifts k d h shifted.reached)) (omega (arith, begins));
    ascending = IsNonDecreasingBy-push (λ x. x.place) shifts s shifted.ascending (λ d some. omega (arith, All-get_or (λ x. x.place ≤ place) shifts (length shifts - 1) d (omega (arith, some)) shifted.reached, begins));
    within = All-push (λ x. x.by ≤ most) shifts s shifted.within (omega (arith, by, fits));
  };
}

-- the characters so far
pub record IsReading (file text : List ℕ) (shifts : List Shift) (slashes at : ℕ) : Type 0 where
  pub within : at ≤ length file
  pub few : slashes ≤ at
  pub short : length text ≤ at
  pub spelled : Spelled 0 0 file (placed_chars text shifts) (drop at file) slashes
  pub shifted : IsShifted shifts (length file) (length text) at

pub reading_none : (file : List ℕ) → IsReading file [] [] 0 0
reading_none file = record {
  within = omega arith;
  few = omega arith;
  short = omega arith;
  spelled = subst (λ cs. Spelled 0 0 file (zip cs (offsets_of cs [])) (drop 0 file) 0) (sym chars-nil) (refl, refl);
  shifted = record {
    here = refl;
    reached = λ k d h. absurd (omega (arith, h));
    ascending = λ i j d l h. absurd (omega (arith, h));
    within = λ k d h. absurd (omega (arith, h));
  };
}

few_after : (b : Bool) (s n : ℕ) → (b ≡ true → 1 ≤ n) → cond b (s + 1) 0 ≤ s + n
few_after true s n some = omega (arith, some refl)
few_after false s n some = omega arith

-- the offset of one character more
offsets-snoc : (cs : List ℕ) (c at : ℕ) (shifts shifts' : List Shift) (end : ℕ) → length (encode_utf8_all cs) < end → length (encode_utf8_all cs) + shift_at shifts (length (encode_utf8_all cs)) ≡ at → ((p : ℕ) → p < end → shift_at shifts' p ≡ shift_at shifts p)
    → offsets_of (cs ++ c ∷ []) shifts' ≡ offsets_of cs shifts ++ at ∷ []
offsets-snoc cs c at shifts shifts' end h here before =
    let n = length (encode_utf8_all cs) in
    let last : offset_by shifts' (0 + n) ≡ at = ap (offset_by shifts') (nothing n) ∙ ap (λ by. n + by) (before n h) ∙ here in
    ap (map (offset_by shifts')) (places_from-snoc 0 cs c) ∙ map-append (offset_by shifts') (places_from 0 cs) ((0 + n) ∷ []) ∙ ap (λ x. map (offset_by shifts') (places_from 0 cs) ++ x ∷ []) last
    ∙ ap (λ xs. xs ++ at ∷ []) (map_places (offset_by shifts') (offset_by shifts) end 0 cs (λ p l. ap (λ by. p + by) (before p l)) (omega (arith, h)))
  where
    nothing : (n : ℕ) → 0 + n ≡ n
    nothing n = omega arith

-- one character more
pub reading_more : (file text : List ℕ) (shifts shifts' : List Shift) (slashes at width code : ℕ) → IsReading file text shifts slashes at → IsUtf8 text → HasChar slashes (drop at file) width code → IsScalar code → at + width ≤ length file → GoesOn shifts shifts' (length file) (length text + len_utf8 code) (at + width)
    → IsReading file (text ++ encode_utf8 code) shifts' (slashes_after slashes (take width (drop at file))) (at + width)
reading_more file text shifts shifts' slashes at width code reading utf8 (spelling, after, split, wide, how) scalar fits goes_on =
    let codes : chars (text ++ encode_utf8 code) ≡ chars text ++ code ∷ [] =
    chars-append text (encode_utf8 code) utf8 ∙ ap (λ cs. chars text ++ cs) (chars_past_char (encode_utf8 code) [] code (IsUtf8-encode code scalar) (sym (append-nil (encode_utf8 code))) ∙ ap (λ cs. code ∷ cs) chars-nil) in
    let all : length (encode_utf8_all (chars text)) ≡ length text = ap length (encodes-chars text utf8) in
    let long : length (text ++ encode_utf8 code) ≡ length text + len_utf8 code = length-append text (encode_utf8 code) ∙ ap (λ n. length text + n) (length-encode code) in
    let some = len_utf8_bounds code in
    let front : take width (drop at file) ≡ spelling = ap (λ n. take n (drop at file)) wide ∙ ap (take (length spelling)) split ∙ take_at spelling after (length spelling) refl in
    let left : drop (at + width) file ≡ after = sym (drop-drop width at file) ∙ ap (λ n. drop n (drop at file)) wide ∙ ap (drop (length spelling)) split ∙ drop_at spelling after (length spelling) refl in
    let offsets : offsets_of (chars text ++ code ∷ []) shifts' ≡ offsets_of (chars text) shifts ++ at ∷ [] =
    offsets-snoc (chars text) code at shifts shifts' (length text + len_utf8 code) (omega (arith, all, some.0)) (ap (λ n. n + shift_at shifts n) all ∙ reading.shifted.here) goes_on.before in
    let pairs : placed_chars (text ++ encode_utf8 code) shifts' ≡ placed_chars text shifts ++ (code, at) ∷ [] =
    ap (λ cs. zip cs (offsets_of cs shifts')) codes ∙ ap (zip (chars text ++ code ∷ [])) offsets ∙ zip-snoc (chars text) (offsets_of (chars text) shifts) code at (offsets-length (chars text) shifts) in
    let place : at + length (drop at file) ≡ 0 + length file = omega (arith, length-drop at file, reading.within) in
    let more : Spelled 0 0 file (placed_chars text shifts ++ (code, at) ∷ []) after (slashes_after slashes spelling) =
    Spelled-snoc 0 0 file (placed_chars text shifts) (drop at file) slashes at code spelling after reading.spelled place split how in
    record {
      within = fits;
      few = subst (λ sp. slashes_after slashes sp ≤ at + width) (sym front) (omega (arith, few_after (bytes_eq spelling (92 ∷ [])) slashes width (λ e. omega (arith, wide, ap length ((bytes_eq-Decides spelling (92 ∷ [])).0 e))), reading.few));
      short = omega (arith, reading.short, long, has_long slashes (drop at file) width code (spelling, after, split, wide, how));
      spelled = subst (λ cs. Spelled 0 0 file cs (drop (at + width) file) (slashes_after slashes (take width (drop at file)))) (sym pairs)
          (subst (λ r. Spelled 0 0 file (placed_chars text shifts ++ (code, at) ∷ []) r (slashes_after slashes (take width (drop at file)))) (sym left)
          (subst (λ sp. Spelled 0 0 file (placed_chars text shifts ++ (code, at) ∷ []) after (slashes_after slashes sp)) (sym front) more));
      shifted = subst (λ n. IsShifted shifts' (length file) n (at + width)) (sym long) goes_on.shifted;
    }

-- one character more of a text without `\`
plain_more : (file text : List ℕ) (shifts : List Shift) (slashes at c : ℕ) (rest after : List ℕ) → IsReading file text shifts slashes at → IsUtf8 text → IsScalar c → IsPlain (encode_utf8 c ++ rest) → drop at file ≡ (encode_utf8 c ++ rest) ++ after → IsReading file (text ++ encode_utf8 c) shifts 0 (at + len_utf8 c)
plain_more file text shifts slashes at c rest after reading utf8 scalar plain cut =
    let w = length (encode_utf8 c) in
    let split : drop at file ≡ encode_utf8 c ++ (rest ++ after) = cut ∙ append_assoc (encode_utf8 c) rest after in
    let has : HasChar slashes (drop at file) (len_utf8 c) c = raw_char slashes (drop at file) (rest ++ after) c (plain_begins slashes c rest after (drop at file) plain cut) scalar split in
    let long : length (drop at file) ≡ w + length (rest ++ after) = ap length split ∙ length-append (encode_utf8 c) (rest ++ after) in
    let fits : at + len_utf8 c ≤ length file = omega (arith, long, length-encode c, length-drop at file, reading.within) in
    let front : take (len_utf8 c) (drop at file) ≡ encode_utf8 c = ap (λ n. take n (drop at file)) (sym (length-encode c)) ∙ ap (take w) split ∙ take_at (encode_utf8 c) (rest ++ after) w refl in
    subst (λ s. IsReading file (text ++ encode_utf8 c) shifts s (at + len_utf8 c)) (ap (slashes_after slashes) front ∙ plain_slashes slashes c rest plain)
    (reading_more file text shifts shifts slashes at (len_utf8 c) c reading utf8 has scalar fits (shift_stays shifts (length file) (length text) at (len_utf8 c) (len_utf8 c) reading.shifted refl))

-- how many `\` stand directly before what follows such characters
abbrev slashes_behind : List ℕ → ℕ → ℕ
slashes_behind [] slashes = slashes
slashes_behind (c ∷ cs) slashes = 0

none_behind : (cs : List ℕ) → slashes_behind cs 0 ≡ 0
none_behind [] = refl
none_behind (c ∷ cs) = refl

some_behind : (cs : List ℕ) (slashes : ℕ) → 0 < length (encode_utf8_all cs) → slashes_behind cs slashes ≡ 0
some_behind [] slashes some = absurd (omega (arith, some))
some_behind (c ∷ cs) slashes some = refl

plain_chars : (cs file text : List ℕ) (shifts : List Shift) (slashes at : ℕ) (after : List ℕ) → IsReading file text shifts slashes at → IsUtf8 text → scalars cs ≡ true → IsPlain (encode_utf8_all cs) → drop at file ≡ encode_utf8_all cs ++ after → IsReading file (text ++ encode_utf8_all cs) shifts (slashes_behind cs slashes) (at + length (encode_utf8_all cs))
plain_chars [] file text shifts slashes at after reading utf8 are plain cut =
    subst (λ t. IsReading file t shifts slashes (at + 0)) (sym (append-nil text)) (subst (λ n. IsReading file text shifts slashes n) (nothing at) reading)
  where
    nothing : (n : ℕ) → n ≡ n + 0
    nothing n = omega arith
plain_chars (c ∷ cs) file text shifts slashes at after reading utf8 are plain cut =
    let rest = encode_utf8_all cs in
    let both = both_true (scalar_of c) (scalars cs) are in
    let more = plain_more file text shifts slashes at c rest after reading utf8 both.0 plain cut in
    let left : drop (at + len_utf8 c) file ≡ rest ++ after = drop_past_char file (rest ++ after) at c (cut ∙ append_assoc (encode_utf8 c) rest after) in
    let all = plain_chars cs file (text ++ encode_utf8 c) shifts 0 (at + len_utf8 c) after more (IsUtf8-append text (encode_utf8 c) utf8 (IsUtf8-encode c both.0)) both.1 (plain_rest (encode_utf8 c) rest plain) left in
    let end : at + len_utf8 c + length rest ≡ at + length (encode_utf8 c ++ rest) = omega (arith, length-append (encode_utf8 c) rest, length-encode c) in
    subst (λ t. IsReading file t shifts 0 (at + length (encode_utf8 c ++ rest))) (append_assoc text (encode_utf8 c) rest)
    (subst (λ n. IsReading file ((text ++ encode_utf8 c) ++ rest) shifts 0 n) end
    (subst (λ s. IsReading file ((text ++ encode_utf8 c) ++ rest) shifts s (at + len_utf8 c + length rest)) (none_behind cs) all))

-- a text without `\` more
pub reading_plain : (file text : List ℕ) (shifts : List Shift) (slashes at : ℕ) (plain after : List ℕ) → IsReading file text shifts slashes at → IsUtf8 text → IsUtf8 plain → IsPlain plain → 0 < length plain → drop at file ≡ plain ++ after → IsReading file (text ++ plain) shifts 0 (at + length plain)
reading_plain file text shifts slashes at plain after reading utf8 (cs, (are, spell)) is some cut =
    subst (λ s. IsReading file (text ++ plain) shifts s (at + length plain)) (some_behind cs slashes (subst (λ p. 0 < length p) (sym spell) some))
    (subst (λ p. IsReading file (text ++ p) shifts (slashes_behind cs slashes) (at + length p)) spell
    (plain_chars cs file text shifts slashes at after reading utf8 are (subst IsPlain (sym spell) is) (cut ∙ ap (λ p. p ++ after) (sym spell))))

-- all characters were read
pub reading_done : (file text : List ℕ) (shifts : List Shift) (slashes at : ℕ) → IsReading file text shifts slashes at → length file ≤ at → AreChars file (placed_chars text shifts)
reading_done file text shifts slashes at reading end = (slashes, subst (λ r. Spelled 0 0 file (placed_chars text shifts) r slashes) (drop_all at file end) reading.spelled)

-- no character goes on
pub reading_stuck : (file text : List ℕ) (shifts : List Shift) (slashes at : ℕ) → IsReading file text shifts slashes at → at < length file → HasNoChar slashes (drop at file) → IsCharFault file at
reading_stuck file text shifts slashes at reading some none =
    (placed_chars text shifts, drop at file, slashes, reading.spelled, omega (arith, length-drop at file, some), omega (arith, length-drop at file, some), none)
