-- How far the bytes of one frame are, from byte to byte.
use Rattle.std.proofs.Common.{◌≡◌, ℕ, ◌+◌, ◌-◌, ◌<◌, ◌≤◌, Bool, true, false, cond, eqb, List, [], ◌∷◌, ◌++◌, length, drop, Option, Some, None, refl, sym, ap, ◌∙◌, subst, append_assoc, append-nil, arith}
use Rattle.std.specs.Int.{w32, from_be_bytes}
use Rattle.std.proofs.lemmas.Bool.{eq-eqb, ne_eqb}
use Rattle.std.proofs.lemmas.List.{length-append}
use Rattle.frame_forms.specs.declared.bad_kind.BadKind.{BadKind}
use Rattle.frame_forms.specs.declared.bad_kind.BadKind.TheVariants as kinds
use Rattle.frame_forms.specs.Scans.{Scan, whole, begun, bad, and_then}
use Rattle.frame_forms.specs.FrameTable.{Fields, frame_form}
use Rattle.frame_forms.specs.Frames.{scanned, closed, framed, framed_behind, is_out_of_range, frame_scan, place_in, first_bad}
use Rattle.frame_forms.specs.BadBytes.{IsLength}
use Rattle.frame_forms.proofs.Steady.{number_scan-short}
use Rattle.frame_forms.proofs.Framed.{framed-closed, take_short, drop_short, range_is}
use Rattle.frame_forms.proofs.BadByteRules.{length_rule, fields_rule, rest_rule, end_rule}
use Rattle.frame_reader.specs.declared.fields.FieldsReader.{FieldsReader}
use Rattle.frame_reader.specs.declared.found.Found.TheVariants as founds
use Rattle.frame_reader.specs.declared.task.Gather.{Gather}
use Rattle.frame_reader.specs.declared.task.Task.{Task}
use Rattle.frame_reader.specs.declared.task.TextList.{TextList}
use Rattle.frame_reader.specs.Rests.{Reading, forgotten, tasks_rest}
use Rattle.frame_reader.specs.Stands.{Stands}
use Rattle.frame_reader.specs.Follows.{Means, IsAtTag, ended, TellsEnd}
use Rattle.frame_reader.specs.Stages.{found_by, found_in, fields_behind, IsWholeFrame, IsWithin}

-- ---- values that were forgotten

was_begun : {A : Type 0} (r : Scan A) → forgotten r ≡ begun → r ≡ begun
was_begun (whole a rest) e = absurd (cc)
was_begun begun e = refl
was_begun (bad rest kind) e = absurd (cc)

was_whole : {A : Type 0} (r : Scan A) (rest : List ℕ) → forgotten r ≡ whole tt rest → (a : A) × (r ≡ whole a rest)
was_whole (whole a behind) rest e = let same : behind ≡ rest = cc in (a, ap (λ (t : List ℕ). whole a t) same)
was_whole begun rest e = absurd (cc)
was_whole (bad behind kind) rest e = absurd (cc)

was_bad : {A : Type 0} (r : Scan A) (rest : List ℕ) (kind : BadKind) → forgotten r ≡ bad rest kind → r ≡ bad rest kind
was_bad (whole a behind) rest kind e = absurd (cc)
was_bad begun rest kind e = absurd (cc)
was_bad {A} (bad behind k) rest kind e =
    let same : behind ≡ rest = cc in
    let like : k ≡ kind = cc in
    ap (λ (t : List ℕ). let r : Scan A = bad t k in r) same ∙ ap (λ (l : BadKind). let r : Scan A = bad rest l in r) like

placed : {A : Type 0} (bytes : List ℕ) (r : Scan A) (place : ℕ) (kind : BadKind) → place_in bytes r ≡ Some (place, kind) → found_by bytes r ≡ founds.Bad place kind
placed bytes (whole a rest) place kind e = absurd (cc)
placed bytes begun place kind e = absurd (cc)
placed bytes (bad rest k) place kind e =
    let one : length bytes - length rest ≡ place = ap (λ (o : Option (ℕ × BadKind)). place_of o) e in
    let two : k ≡ kind = ap (λ (o : Option (ℕ × BadKind)). kind_of k o) e in
    ap (λ (n : ℕ). founds.Bad n k) one ∙ ap (λ (l : BadKind). founds.Bad place l) two
  where
    place_of : Option (ℕ × BadKind) → ℕ
    place_of None = 0
    place_of (Some p) = p.0

    kind_of : BadKind → Option (ℕ × BadKind) → BadKind
    kind_of other None = other
    kind_of other (Some p) = p.1

-- ---- the length

pub short_begun : (bytes : List ℕ) → length bytes < 4 → found_in bytes ≡ founds.Begun
unfolding framed
short_begun bytes lt = ap (λ (r : Scan ℕ). found_by bytes (and_then r (framed_behind (scanned frame_form) bytes))) (number_scan-short w32 bytes lt)

pub length_bad : (bytes : List ℕ) (count : ℕ) → length bytes ≡ 4 → count ≡ from_be_bytes w32 bytes → is_out_of_range count ≡ true → found_in bytes ≡ founds.Bad 3 kinds.Length
length_bad bytes count four worth out =
    let nil = append-nil bytes in
    placed bytes (frame_scan bytes) 3 kinds.Length
    (ap first_bad (sym nil) ∙ length_rule bytes [] four (ap is_out_of_range (sym worth) ∙ out))

pub at_tag : (bytes : List ℕ) (count : ℕ) (fields : FieldsReader) → length bytes ≡ 4 → count ≡ from_be_bytes w32 bytes → is_out_of_range count ≡ false → IsAtTag fields → IsWithin (4 + count) fields bytes
unfolding tasks_rest
at_tag bytes count fields four worth within at = record {
  head = bytes;
  body = [];
  count = count;
  split = sym (append-nil bytes);
  is_length = record { four = four; worth = sym worth; in_range = within };
  ends = refl;
  before = let least = (range_is (scanned frame_form) count within).0 in omega (arith, four, least);
  means = subst (λ (g : Option Gather). Stands g fields.list fields.stack fields.earlier fields.last bytes (fields_behind [])) (sym at.gather)
      (subst (λ (l : Option TextList). Stands None l fields.stack fields.earlier fields.last bytes (fields_behind [])) (sym at.list)
      (subst (λ (ts : List Task). Stands None None ts fields.earlier fields.last bytes (fields_behind [])) (sym at.stack)
      (record { before = []; keeps = tt; gathering = tt; same = λ later. refl })));
}

-- ---- the fields

within_scan : (head body : List ℕ) (count : ℕ) → IsLength head count → length body ≤ count → frame_scan (head ++ body) ≡ closed count body [] (scanned frame_form body)
within_scan head body count is le =
    framed-closed (scanned frame_form) head body count (record { four = is.four; worth = is.worth }) is.in_range
    ∙ ap (λ (t : List ℕ). closed count t (drop count body) (scanned frame_form t)) (take_short count body le)
    ∙ ap (λ (t : List ℕ). closed count body t (scanned frame_form body)) (drop_short count body le)

-- fewer bytes than the length says
within_begun : (head body : List ℕ) (count : ℕ) → IsLength head count → length body < count → (done : Bool) → forgotten (scanned frame_form body) ≡ ended done → found_in (head ++ body) ≡ founds.Begun
within_begun head body count is lt done e = ap (found_by (head ++ body)) (within_scan head body count is (omega (arith, lt)) ∙ go done e)
  where
    short_of : eqb (length body) count ≡ false
    short_of = ne_eqb (length body) count (λ same. absurd (omega (arith, lt, same)))

    go : (d : Bool) → forgotten (scanned frame_form body) ≡ ended d → closed count body [] (scanned frame_form body) ≡ begun
    go true f =
        let w = was_whole (scanned frame_form body) [] f in
        ap (closed count body []) w.1 ∙ ap (λ (x : Bool). cond x (whole w.0 []) begun) short_of
    go false f = ap (closed count body []) (was_begun (scanned frame_form body) f) ∙ ap (λ (x : Bool). cond {A = Scan Fields} x (bad (drop (count - 1) body ++ []) kinds.Field) begun) short_of

pub within_found : (end : ℕ) (fields : FieldsReader) (bytes : List ℕ) (done : Bool) → TellsEnd fields done → IsWithin end fields bytes → found_in bytes ≡ founds.Begun
within_found end fields bytes done tells w =
    let lt : length w.body < w.count = omega (arith, w.before, w.ends, ap length w.split, length-append w.head w.body, w.is_length.four) in
    ap found_in w.split
    ∙ within_begun w.head w.body w.count w.is_length lt done (ap (λ (t : List ℕ). forgotten (scanned frame_form t)) (sym (append-nil w.body)) ∙ tells bytes (fields_behind w.body) w.means)

module _ (end : ℕ) (fields : FieldsReader) (held : List ℕ) (byte : ℕ) (w : IsWithin end fields held) where
  body : List ℕ
  body = w.body ++ byte ∷ []

  splits : held ++ byte ∷ [] ≡ w.head ++ (w.body ++ byte ∷ [])
  splits = ap (λ (t : List ℕ). t ++ byte ∷ []) w.split ∙ append_assoc w.head w.body (byte ∷ [])

  sizes : (length (w.body ++ byte ∷ []) ≤ w.count) × (length (held ++ byte ∷ []) ≡ 4 + length (w.body ++ byte ∷ []))
  sizes = (
    omega (arith, w.before, w.ends, ap length w.split, length-append w.head w.body, w.is_length.four, length-append w.body (byte ∷ [])),
    omega (arith, ap length splits, length-append w.head (w.body ++ byte ∷ []), w.is_length.four),
  )

  less_one : (n : ℕ) → n + 1 ≡ length (held ++ byte ∷ []) → 4 + (length (w.body ++ byte ∷ []) - 1) ≡ n
  less_one n e = omega (arith, e, sizes.1, length-append w.body (byte ∷ []))

  on : Reading
  on later = fields_behind w.body (byte ∷ later)

  on_same : (later : List ℕ) → on later ≡ fields_behind (w.body ++ byte ∷ []) later
  unfolding on
  on_same later = ap (λ (t : List ℕ). forgotten (scanned frame_form t)) (sym (append_assoc w.body (byte ∷ []) later))

  pub bad_byte : (kind : BadKind) (place : ℕ) → place + 1 ≡ length (held ++ byte ∷ []) → ((later : List ℕ) → fields_behind w.body (byte ∷ later) ≡ bad (byte ∷ later) kind) → found_in (held ++ byte ∷ []) ≡ founds.Bad place kind
  bad_byte kind place at e =
      ap found_in splits
      ∙ placed (w.head ++ (w.body ++ byte ∷ [])) (frame_scan (w.head ++ (w.body ++ byte ∷ []))) place kind
      (fields_rule w.head (w.body ++ byte ∷ []) (byte ∷ []) w.count kind w.is_length sizes.0 (was_bad (scanned frame_form (w.body ++ byte ∷ [])) (byte ∷ []) kind (e []))
      ∙ ap (λ (n : ℕ). Some (n, kind)) (less_one place at))

  pub byte_behind : (place : ℕ) → place + 1 ≡ length (held ++ byte ∷ []) → ((later : List ℕ) → fields_behind w.body (byte ∷ later) ≡ whole tt (byte ∷ later)) → found_in (held ++ byte ∷ []) ≡ founds.Bad place kinds.Rest
  byte_behind place at e =
      let f = was_whole (scanned frame_form (w.body ++ byte ∷ [])) (byte ∷ []) (e []) in
      ap found_in splits
      ∙ placed (w.head ++ (w.body ++ byte ∷ [])) (frame_scan (w.head ++ (w.body ++ byte ∷ []))) place kinds.Rest
      (rest_rule w.head (w.body ++ byte ∷ []) w.count f.0 byte [] w.is_length sizes.0 f.1 ∙ ap (λ (n : ℕ). Some (n, kinds.Rest)) (less_one place at))

  module _ (new : FieldsReader) (means : Means new (held ++ byte ∷ []) (λ later. fields_behind w.body (byte ∷ later))) where
    pub goes_on : length (held ++ byte ∷ []) < end → IsWithin end new (held ++ byte ∷ [])
    goes_on lt = record {
      head = w.head;
      body = w.body ++ byte ∷ [];
      count = w.count;
      split = splits;
      is_length = w.is_length;
      ends = w.ends;
      before = lt;
      means = record { before = means.before; keeps = means.keeps; gathering = means.gathering; same = λ later. ap (λ (t : List ℕ). forgotten (scanned frame_form t)) (append_assoc w.body (byte ∷ []) later) ∙ means.same later };
    }

    full : end ≤ length (held ++ byte ∷ []) → length (w.body ++ byte ∷ []) ≡ w.count
    full le = omega (arith, le, sizes.0, sizes.1, w.ends)

    pub ends_whole : end ≤ length (held ++ byte ∷ []) → TellsEnd new true → IsWholeFrame (held ++ byte ∷ [])
    ends_whole le tells =
        let f = was_whole (scanned frame_form (w.body ++ byte ∷ [])) [] (tells (held ++ byte ∷ []) (λ later. fields_behind w.body (byte ∷ later)) means) in (
          f.0,
          ap frame_scan splits
              ∙ within_scan w.head (w.body ++ byte ∷ []) w.count w.is_length sizes.0
              ∙ ap (closed w.count (w.body ++ byte ∷ []) []) f.1
              ∙ ap (λ (x : Bool). cond x (whole f.0 []) begun) (eq-eqb (length (w.body ++ byte ∷ [])) w.count (full le)),
        )

    pub ends_early : (place : ℕ) → place + 1 ≡ length (held ++ byte ∷ []) → end ≤ length (held ++ byte ∷ []) → TellsEnd new false → found_in (held ++ byte ∷ []) ≡ founds.Bad place kinds.Field
    ends_early place at le tells =
        let b = was_begun (scanned frame_form (w.body ++ byte ∷ [])) (tells (held ++ byte ∷ []) (λ later. fields_behind w.body (byte ∷ later)) means) in
        ap found_in splits
        ∙ placed (w.head ++ (w.body ++ byte ∷ [])) (frame_scan (w.head ++ (w.body ++ byte ∷ []))) place kinds.Field
        (ap (λ (t : List ℕ). first_bad (w.head ++ t)) (sym (append-nil (w.body ++ byte ∷ [])))
        ∙ end_rule w.head (w.body ++ byte ∷ []) [] w.count w.is_length (full le) b
        ∙ ap (λ (n : ℕ). Some (n, kinds.Field)) (omega (arith, at, full le, sizes.1)))
