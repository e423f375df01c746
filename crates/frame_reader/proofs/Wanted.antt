-- How many bytes of a frame come next.
use Rattle.std.proofs.Common.{◌≡◌, ◌⊎◌, inl, inr, ℕ, ◌+◌, ◌-◌, ◌<◌, ◌≤◌, Bool, true, false, cond, eqb, List, [], ◌∷◌, ◌++◌, length, take, drop, refl, sym, ap, subst, ◌∙◌, arith}
use Rattle.std.proofs.lemmas.Bool.{cases_lt, lt-ltb, le-ltb, eqb-true, eq-eqb}
use Rattle.std.proofs.lemmas.List.{take_at, take-append-drop, take-append-le, length-append, length-take-le}
use Rattle.std.specs.Int.{w32, from_be_bytes}
use Rattle.frame_forms.specs.declared.bad_kind.BadKind.{BadKind}
use Rattle.frame_forms.specs.declared.bad_kind.BadKind.TheVariants as kinds
use Rattle.frame_forms.specs.Scans.{Scan, whole, begun, bad}
use Rattle.frame_forms.specs.FrameTable.{Fields, frame_form}
use Rattle.frame_forms.specs.Frames.{scanned, closed, is_out_of_range, frame_scan}
use Rattle.frame_forms.proofs.Framed.{IsHead, framed-closed, framed-out, range_is}
use Rattle.frame_forms.proofs.Steady.{whole_rest}
use Rattle.frame_reader.specs.declared.fields.FieldsReader.{FieldsReader}
use Rattle.frame_reader.specs.declared.found.Found.{Found}
use Rattle.frame_reader.specs.declared.found.Found.TheVariants as founds
use Rattle.frame_reader.specs.declared.stage.Stage.{Stage}
use Rattle.frame_reader.specs.declared.stage.Stage.TheVariants as stages
use Rattle.frame_reader.specs.Stages.{found_by, found_in, IsWholeFrame, IsWithin, InStage, count_in, next_end, wanted_by, wanted_in}
use Rattle.frame_reader.proofs.Scanning.{length_found, fields_found, frame_found, whole_found}
use Rattle.frame_reader.proofs.Staging.{short_begun}

-- ---- the length of a frame

closed_full : (count : ℕ) (body behind : List ℕ) (s : Scan Fields) (a : Fields) (rest : List ℕ) → closed count body behind s ≡ whole a rest → (length body ≡ count) × (behind ≡ rest)
closed_full count body behind (whole x []) a rest e = by_length (eqb (length body) count) refl e
  where
    by_length : (b : Bool) → eqb (length body) count ≡ b → cond b (whole x behind) begun ≡ whole a rest → (length body ≡ count) × (behind ≡ rest)
    by_length true is h = (eqb-true (length body) count is, whole_rest x a behind rest h)
    by_length false is h = absurd cc
closed_full count body behind (whole x (byte ∷ more)) a rest e = absurd cc
closed_full count body behind begun a rest e = by_length (eqb (length body) count) e
  where
    by_length : (b : Bool) → cond b (bad (drop (count - 1) body ++ behind) kinds.Field) begun ≡ whole a rest → (length body ≡ count) × (behind ≡ rest)
    by_length true h = absurd cc
    by_length false h = absurd cc
closed_full count body behind (bad r k) a rest e = absurd cc

-- it is shorter than a frame can be
closed_begun : (count : ℕ) (body behind : List ℕ) (s : Scan Fields) → length body ≡ count → closed count body behind s ≡ begun → ⊥
closed_begun count body behind (whole a []) full e = let wrong : whole a behind ≡ begun = ap (λ (b : Bool). cond b (whole a behind) begun) (sym (eq-eqb (length body) count full)) ∙ e in absurd cc
closed_begun count body behind (whole a (byte ∷ rest)) full e = absurd cc
closed_begun count body behind begun full e =
    let last = bad (drop (count - 1) body ++ behind) kinds.Field in
    let wrong : last ≡ begun = ap (λ (b : Bool). cond b last begun) (sym (eq-eqb (length body) count full)) ∙ e in absurd cc
closed_begun count body behind (bad rest kind) full e = absurd cc

-- the length at the front of bytes
module _ (bytes : List ℕ) (le : 4 ≤ length bytes) where
  abbrev tail : List ℕ
  tail = drop 4 bytes

  is_head : IsHead (scanned frame_form) (take 4 bytes) (count_in bytes)
  is_head = record { four = length-take-le 4 bytes le; worth = refl }

  halves : (length (take 4 bytes) ≡ 4) × (4 + length tail ≡ length bytes)
  halves =
      let four = length-take-le 4 bytes le in
      (four, omega (arith, four, ap length (take-append-drop 4 bytes), length-append (take 4 bytes) tail))

  again : frame_scan (take 4 bytes ++ tail) ≡ frame_scan bytes
  again = ap frame_scan (take-append-drop 4 bytes)

  out_of_range : is_out_of_range (count_in bytes) ≡ true → frame_scan bytes ≡ bad (drop 3 (take 4 bytes ++ tail)) kinds.Length
  out_of_range out = sym again ∙ framed-out (scanned frame_form) (take 4 bytes) tail (count_in bytes) is_head out

  in_range : is_out_of_range (count_in bytes) ≡ false → frame_scan bytes ≡ closed (count_in bytes) (take (count_in bytes) tail) (drop (count_in bytes) tail) (scanned frame_form (take (count_in bytes) tail))
  in_range within = sym again ∙ framed-closed (scanned frame_form) (take 4 bytes) tail (count_in bytes) is_head within

  -- a frame that is begun has fewer bytes than its length says
  pub begun_within : frame_scan bytes ≡ begun → (is_out_of_range (count_in bytes) ≡ false) × (length bytes < 4 + count_in bytes)
  begun_within e = by_range (is_out_of_range (count_in bytes)) refl
    where
      by_tail : is_out_of_range (count_in bytes) ≡ false → (length tail < count_in bytes) ⊎ (count_in bytes ≤ length tail) → length bytes < 4 + count_in bytes
      by_tail within (inl lt) = omega (arith, lt, halves.1)
      by_tail within (inr full) =
          absurd (closed_begun (count_in bytes) (take (count_in bytes) tail) (drop (count_in bytes) tail) (scanned frame_form (take (count_in bytes) tail)) (length-take-le (count_in bytes) tail full) (sym (in_range within) ∙ e))

      by_range : (out : Bool) → is_out_of_range (count_in bytes) ≡ out → (is_out_of_range (count_in bytes) ≡ false) × (length bytes < 4 + count_in bytes)
      by_range false within = (within, by_tail within (cases_lt (length tail) (count_in bytes)))
      by_range true out = let wrong : bad (drop 3 (take 4 bytes ++ tail)) kinds.Length ≡ begun = sym (out_of_range out) ∙ e in absurd cc

  -- and a whole one as many
  whole_within : (a : Fields) → frame_scan bytes ≡ whole a [] → (is_out_of_range (count_in bytes) ≡ false) × (length bytes ≡ 4 + count_in bytes)
  whole_within a e = by_range (is_out_of_range (count_in bytes)) refl
    where
      full : is_out_of_range (count_in bytes) ≡ false → length bytes ≡ 4 + count_in bytes
      full within =
          let body = take (count_in bytes) tail in
          let behind = drop (count_in bytes) tail in
          let closes = closed_full (count_in bytes) body behind (scanned frame_form body) a [] (sym (in_range within) ∙ e) in
          omega (arith, halves.1, closes.0, ap length closes.1, ap length (take-append-drop (count_in bytes) tail), length-append body behind)

      by_range : (out : Bool) → is_out_of_range (count_in bytes) ≡ out → (is_out_of_range (count_in bytes) ≡ false) × (length bytes ≡ 4 + count_in bytes)
      by_range false within = (within, full within)
      by_range true out = let wrong : bad (drop 3 (take 4 bytes ++ tail)) kinds.Length ≡ whole a [] = sym (out_of_range out) ∙ e in absurd cc

pub frame_is_long : (bytes : List ℕ) → IsWholeFrame bytes → 4 ≤ length bytes
frame_is_long bytes is = cases (cases_lt (length bytes) 4)
  where
    cases : (length bytes < 4) ⊎ (4 ≤ length bytes) → 4 ≤ length bytes
    cases (inl lt) = let wrong : founds.Whole ≡ founds.Begun = sym (frame_found bytes is) ∙ short_begun bytes lt in absurd cc
    cases (inr le) = le

-- a frame is longer than its length, and as long as that says
pub frame_length : (bytes : List ℕ) → IsWholeFrame bytes → (4 < length bytes) × (length bytes ≡ 4 + count_in bytes)
frame_length bytes is =
    let w = whole_within bytes (frame_is_long bytes is) is.0 is.1 in
    (omega (arith, w.1, (range_is (scanned frame_form) (count_in bytes) w.0).0), w.1)

-- ---- what comes next

pub found_begun : (bytes : List ℕ) → found_in bytes ≡ founds.Begun → frame_scan bytes ≡ begun
found_begun bytes e = cases (frame_scan bytes) refl e
  where
    cases : (s : Scan Fields) → frame_scan bytes ≡ s → found_by bytes s ≡ founds.Begun → frame_scan bytes ≡ begun
    cases (whole a rest) is f = absurd cc
    cases begun is f = is
    cases (bad rest kind) is f = absurd cc

next_short : (bytes : List ℕ) → length bytes < 4 → next_end bytes ≡ 4
next_short bytes lt = ap (λ (b : Bool). cond b 4 (4 + count_in bytes)) (lt-ltb (length bytes) 4 lt)

next_long : (bytes : List ℕ) → 4 ≤ length bytes → next_end bytes ≡ 4 + count_in bytes
next_long bytes le = ap (λ (b : Bool). cond b 4 (4 + count_in bytes)) (le-ltb (length bytes) 4 le)

pub wanted_begun : (bytes : List ℕ) → found_in bytes ≡ founds.Begun → wanted_in bytes ≡ next_end bytes - length bytes
unfolding wanted_in
wanted_begun bytes e = ap (λ (found : Found). wanted_by found bytes) e

-- where a frame is begun a byte comes next
pub wants_some : (bytes : List ℕ) → found_in bytes ≡ founds.Begun → 1 ≤ wanted_in bytes
wants_some bytes e = cases (cases_lt (length bytes) 4)
  where
    cases : (length bytes < 4) ⊎ (4 ≤ length bytes) → 1 ≤ wanted_in bytes
    cases (inl lt) = omega (arith, lt, wanted_begun bytes e, next_short bytes lt)
    cases (inr le) = omega (arith, wanted_begun bytes e, next_long bytes le, (begun_within bytes le (found_begun bytes e)).1)

-- no frame ends before them
pub frame_wants : (front more : List ℕ) → found_in front ≡ founds.Begun → IsWholeFrame (front ++ more) → wanted_in front ≤ length more
frame_wants front more e is = cases (cases_lt (length front) 4)
  where
    cases : (length front < 4) ⊎ (4 ≤ length front) → wanted_in front ≤ length more
    cases (inl lt) = omega (arith, lt, wanted_begun front e, next_short front lt, length-append front more, (frame_length (front ++ more) is).0)
    cases (inr le) =
        let same : count_in (front ++ more) ≡ count_in front = ap (from_be_bytes w32) (take-append-le 4 front more le) in
        omega (arith, wanted_begun front e, next_long front le, length-append front more, (frame_length (front ++ more) is).1, same)

-- behind all but the last byte of a frame one comes next
pub last_wanted : (front : List ℕ) (byte : ℕ) → found_in front ≡ founds.Begun → IsWholeFrame (front ++ byte ∷ []) → wanted_in front ≡ 1
last_wanted front byte e is =
    let long = frame_length (front ++ byte ∷ []) is in
    let le : 4 ≤ length front = omega (arith, long.0, length-append front (byte ∷ [])) in
    let same : count_in (front ++ byte ∷ []) ≡ count_in front = ap (from_be_bytes w32) (take-append-le 4 front (byte ∷ []) le) in
    omega (arith, wanted_begun front e, next_long front le, length-append front (byte ∷ []), long.1, same)

-- ---- by the stage

pub wanted_length : (stage : Stage) (fields : FieldsReader) (bytes : List ℕ) → stage ≡ stages.Length → InStage stage fields bytes → 4 - length bytes ≡ wanted_in bytes
wanted_length stage fields bytes e s =
    let few : length bytes < 4 = subst (λ (t : Stage). InStage t fields bytes) e s in
    ap (λ (n : ℕ). n - length bytes) (sym (next_short bytes few)) ∙ sym (wanted_begun bytes (length_found stage fields bytes e s))

pub wanted_fields : (stage : Stage) (end : ℕ) (fields : FieldsReader) (bytes : List ℕ) → stage ≡ stages.Fields end → InStage stage fields bytes → end - length bytes ≡ wanted_in bytes
wanted_fields stage end fields bytes e s =
    let w : IsWithin end fields bytes = subst (λ (t : Stage). InStage t fields bytes) e s in
    let long : 4 ≤ length bytes = omega (arith, ap length w.split, length-append w.head w.body, w.is_length.four) in
    let count : count_in bytes ≡ w.count = ap (λ (b : List ℕ). count_in b) w.split ∙ ap (from_be_bytes w32) (take_at w.head w.body 4 w.is_length.four) ∙ w.is_length.worth in
    let ends : next_end bytes ≡ end = omega (arith, next_long bytes long, count, w.ends) in
    ap (λ (n : ℕ). n - length bytes) (sym ends) ∙ sym (wanted_begun bytes (fields_found stage end fields bytes e s))

pub wanted_whole : (stage : Stage) (fields : FieldsReader) (bytes : List ℕ) → stage ≡ stages.Whole → InStage stage fields bytes → 0 ≡ wanted_in bytes
unfolding wanted_in
wanted_whole stage fields bytes e s = ap (λ (found : Found). wanted_by found bytes) (sym (frame_found bytes (whole_found stage fields bytes e s)))

pub wanted_bad : (stage : Stage) (place : ℕ) (kind : BadKind) (fields : FieldsReader) (bytes : List ℕ) → stage ≡ stages.Bad place kind → InStage stage fields bytes → 0 ≡ wanted_in bytes
unfolding wanted_in
wanted_bad stage place kind fields bytes e s = ap (λ (found : Found). wanted_by found bytes) (sym (subst (λ (t : Stage). InStage t fields bytes) e s))
