-- A length in front of fields: what holds of the fields' reading holds of the frame's.
use Rattle.std.proofs.Common.{◌≡◌, ◌≢◌, ◌⊎◌, inl, inr, ℕ, zero, suc, ◌-◌, ◌<◌, ◌≤◌, ◌^◌, Bool, true, false, cond, eqb, ltb, ◌||◌, List, [], ◌∷◌, ◌++◌, length, take, drop, refl, sym, ap, ◌∙◌, append_assoc, append-nil, arith}
use Rattle.std.specs.Int.{w32, from_be_bytes, to_be_bytes}
use Rattle.std.proofs.lemmas.Bool.{cases_lt, ltb-false, le-ltb, eqb-true, eq-eqb, ne_eqb, false≢true}
use Rattle.std.proofs.lemmas.List.{take_at, drop_at, take-append-drop, length-append, length-take}
use Rattle.std.proofs.lemmas.Nat.{from_be_bytes-to_be_bytes_4}
use Rattle.apt_base.specs.Fields.{bytes_form}
use Rattle.apt_base.proofs.FieldsLemmas.{IsBytes-front, IsBytes-rest}
use Rattle.frame_forms.specs.declared.bad_kind.BadKind.{BadKind}
use Rattle.frame_forms.specs.declared.bad_kind.BadKind.TheVariants as kinds
use Rattle.frame_forms.specs.Scans.{Scan, whole, begun, bad, and_then}
use Rattle.frame_forms.specs.ScanLaws.{Takes, Stops, Steady, IsBytes, Meets}
use Rattle.frame_forms.specs.Frames.{most_fields, closed, is_out_of_range, framed_behind, framed}
use Rattle.frame_forms.proofs.Steady.{whole_value, whole_rest, number_scan-again, number_scan-short, last_split}
use Rattle.frame_forms.proofs.Meets.{u32_head}

-- ---- lists

pub take_short : (count : ℕ) (bytes : List ℕ) → length bytes ≤ count → take count bytes ≡ bytes
take_short zero [] le = refl
take_short (suc count) [] le = refl
take_short zero (b ∷ bytes) le = absurd (omega (arith, le))
take_short (suc count) (b ∷ bytes) le = ap (λ (t : List ℕ). b ∷ t) (take_short count bytes (omega (arith, le)))

pub drop_short : (count : ℕ) (bytes : List ℕ) → length bytes ≤ count → drop count bytes ≡ []
drop_short zero [] le = refl
drop_short (suc count) [] le = refl
drop_short zero (b ∷ bytes) le = absurd (omega (arith, le))
drop_short (suc count) (b ∷ bytes) le = drop_short count bytes (omega (arith, le))

-- the bytes up to a count that lies behind the byte
pub record IsCut (count : ℕ) (front : List ℕ) (byte : ℕ) (later : List ℕ) : Type 0 where
  within : List ℕ
  taken : take count (front ++ byte ∷ later) ≡ front ++ byte ∷ within
  all : within ++ drop count (front ++ byte ∷ later) ≡ later

pub cut_behind : (count : ℕ) (front : List ℕ) (byte : ℕ) (later : List ℕ) → length front < count → IsCut count front byte later
cut_behind zero front byte later lt = absurd (omega (arith, lt))
cut_behind (suc count) [] byte later lt = record { within = take count later; taken = refl; all = take-append-drop count later }
cut_behind (suc count) (b ∷ front) byte later lt =
    let c = cut_behind count front byte later (omega (arith, lt)) in
    record { within = c.within; taken = ap (λ (t : List ℕ). b ∷ t) c.taken; all = c.all }

-- ---- the beginning of what is begun

begun_not_whole : {A : Type 0} (a : A) (rest : List ℕ) → whole a rest ≡ begun → ⊥
begun_not_whole a rest e = cc

begun_not_bad : {A : Type 0} (scan : List ℕ → Scan A) (bytes rest : List ℕ) (kind : BadKind) → scan bytes ≡ bad rest kind → scan bytes ≡ begun → ⊥
begun_not_bad scan bytes rest kind e h = let both : bad rest kind ≡ begun = sym e ∙ h in cc

pub begun_front : {A : Type 0} (scan : List ℕ → Scan A) → Steady scan → (front back : List ℕ) → scan (front ++ back) ≡ begun → scan front ≡ begun
begun_front {A} scan steady front back e = go (scan front) refl
  where
    go : (r : Scan A) → scan front ≡ r → scan front ≡ begun
    go (whole a rest) f =
        let t = steady.takes front a rest f in
        let longer : scan (front ++ back) ≡ whole a (rest ++ back) = ap (λ (x : List ℕ). scan (x ++ back)) t.split ∙ ap scan (append_assoc t.used rest back) ∙ t.again (rest ++ back) in
        absurd (begun_not_whole a (rest ++ back) (sym longer ∙ e))
    go begun f = f
    go (bad rest kind) f =
        let s = steady.stops front rest kind f in
        let longer : scan (front ++ back) ≡ bad (s.byte ∷ (s.more ++ back)) kind = ap (λ (x : List ℕ). scan (x ++ back)) s.split ∙ ap scan (append_assoc s.front (s.byte ∷ s.more) back) ∙ s.after (s.more ++ back) in
        absurd (begun_not_bad scan (front ++ back) (s.byte ∷ (s.more ++ back)) kind longer e)

-- ---- a length and what is behind it

module _ {A : Type 0} (s : List ℕ → Scan A) where
  framed-short : (bytes : List ℕ) → length bytes < 4 → framed s bytes ≡ begun
  unfolding framed
  framed-short bytes lt = ap (λ (r : Scan ℕ). and_then r (framed_behind s bytes)) (number_scan-short w32 bytes lt)

  -- four bytes of a length
  pub record IsHead (head : List ℕ) (count : ℕ) : Type 0 where
    pub four : length head ≡ 4
    pub worth : from_be_bytes w32 head ≡ count

  framed-behind : (head tail : List ℕ) (count : ℕ) → IsHead head count → framed s (head ++ tail) ≡ framed_behind s (head ++ tail) count tail
  unfolding framed
  framed-behind head tail count is = ap (λ (r : Scan ℕ). and_then r (framed_behind s (head ++ tail))) (number_scan-again w32 head tail count is.four is.worth)

  pub framed-closed : (head tail : List ℕ) (count : ℕ) → IsHead head count → is_out_of_range count ≡ false → framed s (head ++ tail) ≡ closed count (take count tail) (drop count tail) (s (take count tail))
  framed-closed head tail count is within =
      framed-behind head tail count is ∙ ap (λ (b : Bool). cond b (bad (drop 3 (head ++ tail)) kinds.Length) (closed count (take count tail) (drop count tail) (s (take count tail)))) within

  pub framed-out : (head tail : List ℕ) (count : ℕ) → IsHead head count → is_out_of_range count ≡ true → framed s (head ++ tail) ≡ bad (drop 3 (head ++ tail)) kinds.Length
  framed-out head tail count is out =
      framed-behind head tail count is ∙ ap (λ (b : Bool). cond b (bad (drop 3 (head ++ tail)) kinds.Length) (closed count (take count tail) (drop count tail) (s (take count tail)))) out

  -- the length is not there, is out of range, or is that of a frame
  data FrameCase (bytes : List ℕ) : Type 0 where
    no_length : length bytes < 4 → FrameCase bytes
    out_of_range : (head tail : List ℕ) (count : ℕ) → bytes ≡ head ++ tail → IsHead head count → is_out_of_range count ≡ true → FrameCase bytes
    in_range : (head tail : List ℕ) (count : ℕ) → bytes ≡ head ++ tail → IsHead head count → is_out_of_range count ≡ false → FrameCase bytes

  frame_case : (bytes : List ℕ) → FrameCase bytes
  frame_case bytes = by_length (cases_lt (length bytes) 4)
    where
      by_range : (head tail : List ℕ) (count : ℕ) → bytes ≡ head ++ tail → IsHead head count → (b : Bool) → is_out_of_range count ≡ b → FrameCase bytes
      by_range head tail count split is true e = out_of_range head tail count split is e
      by_range head tail count split is false e = in_range head tail count split is e

      by_length : (length bytes < 4) ⊎ (4 ≤ length bytes) → FrameCase bytes
      by_length (inl lt) = no_length lt
      by_length (inr le) =
          let head = take 4 bytes in
          by_range head (drop 4 bytes) (from_be_bytes w32 head) (sym (take-append-drop 4 bytes)) (record { four = omega (arith, length-take 4 bytes, le); worth = refl }) (is_out_of_range (from_be_bytes w32 head)) refl

  -- ---- reading and spelling

  closed_whole : (count : ℕ) (body behind : List ℕ) (r : Scan A) (a : A) (rest : List ℕ) → closed count body behind r ≡ whole a rest → (r ≡ whole a []) × (length body ≡ count) × (behind ≡ rest)
  closed_whole count body behind (whole x []) a rest e = by_length (eqb (length body) count) refl e
    where
      by_length : (b : Bool) → eqb (length body) count ≡ b → cond b (whole x behind) begun ≡ whole a rest → (whole x [] ≡ whole a []) × (length body ≡ count) × (behind ≡ rest)
      by_length true p h = (ap (λ (y : A). whole y []) (whole_value x a behind rest h), eqb-true (length body) count p, whole_rest x a behind rest h)
      by_length false p h = absurd cc
  closed_whole count body behind (whole x (b ∷ more)) a rest e = absurd cc
  closed_whole count body behind begun a rest e = by_length (eqb (length body) count) e
    where
      by_length : (b : Bool) → cond b (bad (drop (count - 1) body ++ behind) kinds.Field) begun ≡ whole a rest → (begun ≡ whole a []) × (length body ≡ count) × (behind ≡ rest)
      by_length true h = absurd cc
      by_length false h = absurd cc
  closed_whole count body behind (bad r k) a rest e = absurd cc

  range_from : (count : ℕ) → 1 ≤ count → count ≤ most_fields → is_out_of_range count ≡ false
  range_from count least most =
      ap (λ (b : Bool). b || ltb most_fields count) (ne_eqb count 0 (λ e. absurd (omega (arith, e, least)))) ∙ le-ltb most_fields count most

  or_false : (a b : Bool) → (a || b) ≡ false → (a ≡ false) × (b ≡ false)
  or_false true b e = absurd cc
  or_false false b e = (refl, e)

  pub range_is : (count : ℕ) → is_out_of_range count ≡ false → (1 ≤ count) × (count ≤ most_fields)
  range_is count e =
      let two = or_false (eqb count 0) (ltb most_fields count) e in
      let some : count ≢ 0 = λ zero_is. absurd (false≢true (sym two.0 ∙ eq-eqb count 0 zero_is)) in
      (omega (arith, some), ltb-false most_fields count two.1)

  -- the first frame takes the length and that many bytes
  framed_takes : (bytes : List ℕ) (a : A) (rest : List ℕ) → Steady s → framed s bytes ≡ whole a rest → FrameCase bytes → Takes (framed s) bytes a rest
  framed_takes bytes a rest steady e (no_length lt) = absurd (begun_not_whole a rest (sym e ∙ framed-short bytes lt))
  framed_takes bytes a rest steady e (out_of_range head tail count split is out) =
      let other : bad (drop 3 (head ++ tail)) kinds.Length ≡ whole a rest = sym (framed-out head tail count is out) ∙ ap (framed s) (sym split) ∙ e in
      absurd (cc)
  framed_takes bytes a rest steady e (in_range head tail count split is within) =
      let body = take count tail in
      let c = closed_whole count body (drop count tail) (s body) a rest (sym (framed-closed head tail count is within) ∙ ap (framed s) (sym split) ∙ e) in
      record {
        used = head ++ body;
        split = split ∙ ap (λ (t : List ℕ). head ++ t) (sym (take-append-drop count tail) ∙ ap (λ (t : List ℕ). body ++ t) c.2) ∙ sym (append_assoc head body rest);
        again = λ later.
            ap (framed s) (append_assoc head body later)
            ∙ framed-closed head (body ++ later) count is within
            ∙ ap (λ (t : List ℕ). closed count t (drop count (body ++ later)) (s t)) (take_at body later count c.1)
            ∙ ap (λ (t : List ℕ). closed count body t (s body)) (drop_at body later count c.1)
            ∙ ap (closed count body later) c.0
            ∙ ap (λ (b : Bool). cond b (whole a later) begun) (eq-eqb (length body) count c.1);
      }

  module _ (fits : A → Type 0) (f : A → List ℕ) (least : (a : A) → 1 ≤ length (f a)) (meets : Meets s fits f) where
    framed_again : (a : A) (rest : List ℕ) → fits a × (length (f a) ≤ most_fields) → framed s (bytes_form (f a) ++ rest) ≡ whole a rest
    framed_again a rest h =
        let body = f a in
        let count = length body in
        let small : count < 2 ^ 32 = omega (arith, h.1) in
        let read : s body ≡ whole a [] = ap s (sym (append-nil body)) ∙ meets.again a [] h.0 in
        ap (framed s) (append_assoc (to_be_bytes w32 count) body rest)
        ∙ framed-closed (to_be_bytes w32 count) (body ++ rest) count (record { four = refl; worth = from_be_bytes-to_be_bytes_4 count small }) (range_from count (least a) h.1)
        ∙ ap (λ (t : List ℕ). closed count t (drop count (body ++ rest)) (s t)) (take_at body rest count refl)
        ∙ ap (λ (t : List ℕ). closed count body t (s body)) (drop_at body rest count refl)
        ∙ ap (closed count body rest) read
        ∙ ap (λ (b : Bool). cond b (whole a rest) begun) (eq-eqb count count refl)

    framed_spelled : (bytes : List ℕ) (a : A) (rest : List ℕ) → IsBytes bytes → framed s bytes ≡ whole a rest → FrameCase bytes → (fits a × (length (f a) ≤ most_fields)) × (bytes ≡ bytes_form (f a) ++ rest)
    framed_spelled bytes a rest are e (no_length lt) = absurd (begun_not_whole a rest (sym e ∙ framed-short bytes lt))
    framed_spelled bytes a rest are e (out_of_range head tail count split is out) =
        let other : bad (drop 3 (head ++ tail)) kinds.Length ≡ whole a rest = sym (framed-out head tail count is out) ∙ ap (framed s) (sym split) ∙ e in
        absurd (cc)
    framed_spelled bytes a rest are e (in_range head tail count split is within) =
        let body = take count tail in
        let behind = drop count tail in
        let c = closed_whole count body behind (s body) a rest (sym (framed-closed head tail count is within) ∙ ap (framed s) (sym split) ∙ e) in
        let tail_split : tail ≡ body ++ behind = sym (take-append-drop count tail) in
        let body_are = IsBytes-front tail body behind tail_split (IsBytes-rest bytes head tail split are) in
        let one = meets.spelled body a [] body_are c.0 in
        let same : body ≡ f a = one.1 ∙ append-nil (f a) in
        let len : length (f a) ≡ count = ap length (sym same) ∙ c.1 in
        let k = u32_head head count (IsBytes-front bytes head tail split are) is.four is.worth in
        let most : length (f a) ≤ most_fields = omega (arith, len, (range_is count within).1) in (
          (one.0, most),
          split ∙ ap (λ (t : List ℕ). t ++ tail) k.1 ∙ ap (λ (n : ℕ). to_be_bytes w32 n ++ tail) (sym len)
              ∙ ap (λ (t : List ℕ). to_be_bytes w32 (length (f a)) ++ t) (tail_split ∙ ap (λ (t : List ℕ). t ++ behind) same ∙ ap (λ (t : List ℕ). f a ++ t) c.2)
              ∙ sym (append_assoc (to_be_bytes w32 (length (f a))) (f a) rest),
        )

    pub Meets-framed : Meets (framed s) (λ a. fits a × (length (f a) ≤ most_fields)) (λ a. bytes_form (f a))
    Meets-framed = record { again = framed_again; spelled = λ bytes a rest are e. framed_spelled bytes a rest are e (frame_case bytes) }

  -- ---- the first bad byte

  module _ (steady : Steady s) where
    -- what is begun before the length is full
    closed_begun : (head front : List ℕ) (count : ℕ) → IsHead head count → is_out_of_range count ≡ false → length front < count → (r : Scan A) → s front ≡ r → ((rest : List ℕ) (kind : BadKind) → r ≡ bad rest kind → ⊥) → ((a : A) (rest : List ℕ) → r ≡ whole a rest → rest ≡ []) → framed s (head ++ front) ≡ begun
    closed_begun head front count is within lt r e not_bad no_rest =
        framed-closed head front count is within ∙ ap (λ (t : List ℕ). closed count t (drop count front) (s t)) (take_short count front (omega (arith, lt))) ∙ ap (closed count front (drop count front)) e ∙ go r not_bad no_rest
      where
        short_of : eqb (length front) count ≡ false
        short_of = ne_eqb (length front) count (λ same. absurd (omega (arith, lt, same)))

        go : (r : Scan A) → ((rest : List ℕ) (kind : BadKind) → r ≡ bad rest kind → ⊥) → ((a : A) (rest : List ℕ) → r ≡ whole a rest → rest ≡ []) → closed count front (drop count front) r ≡ begun
        go (whole a []) never none = ap (λ (b : Bool). cond b (whole a (drop count front)) begun) short_of
        go (whole a (b ∷ rest)) never none = let wrong : b ∷ rest ≡ [] = none a (b ∷ rest) refl in absurd (cc)
        go begun never none = ap (λ (b : Bool). cond b (bad (drop (count - 1) front ++ drop count front) kinds.Field) begun) short_of
        go (bad rest kind) never none = absurd (never rest kind refl)

    -- what the fields come to up to a byte within the length, whatever is behind it
    closed_after : (head front : List ℕ) (byte : ℕ) (count : ℕ) → IsHead head count → is_out_of_range count ≡ false → length front < count → (kind : BadKind)
        → ((later behind : List ℕ) → closed count (front ++ byte ∷ later) behind (s (front ++ byte ∷ later)) ≡ bad (byte ∷ (later ++ behind)) kind)
        → (later : List ℕ) → framed s ((head ++ front) ++ byte ∷ later) ≡ bad (byte ∷ later) kind
    closed_after head front byte count is within lt kind each later =
        let tail = front ++ byte ∷ later in
        let cut = cut_behind count front byte later lt in
        ap (framed s) (append_assoc head front (byte ∷ later))
        ∙ framed-closed head tail count is within
        ∙ ap (λ (t : List ℕ). closed count t (drop count tail) (s t)) cut.taken
        ∙ each cut.within (drop count tail)
        ∙ ap (λ (t : List ℕ). bad (byte ∷ t) kind) cut.all

    closed_stops : (bytes head tail : List ℕ) (count : ℕ) (rest : List ℕ) (kind : BadKind) → bytes ≡ head ++ tail → IsHead head count → is_out_of_range count ≡ false
        → (r : Scan A) → s (take count tail) ≡ r → closed count (take count tail) (drop count tail) r ≡ bad rest kind → Stops (framed s) bytes rest kind
    closed_stops bytes head tail count rest kind split is within (whole a []) e h = absurd (by_length (eqb (length (take count tail)) count) h)
      where
        by_length : (b : Bool) → cond b (whole a (drop count tail)) begun ≡ bad rest kind → ⊥
        by_length true g = cc
        by_length false g = cc
    closed_stops bytes head tail count rest kind split is within (whole a (b ∷ more)) e h =
        let body = take count tail in
        let behind = drop count tail in
        let from : b ∷ (more ++ behind) ≡ rest = cc in
        let same : kinds.Rest ≡ kind = cc in
        let t = steady.takes body a (b ∷ more) e in
        let lt : length t.used < count = omega (arith, ap length t.split, length-append t.used (b ∷ more), length-take count tail) in
        let alone : s t.used ≡ whole a [] = ap s (sym (append-nil t.used)) ∙ t.again [] in
        record {
          front = head ++ t.used;
          byte = b;
          more = more ++ behind;
          split = split ∙ ap (λ (x : List ℕ). head ++ x) (sym (take-append-drop count tail) ∙ ap (λ (x : List ℕ). x ++ behind) t.split ∙ append_assoc t.used (b ∷ more) behind) ∙ sym (append_assoc head t.used (b ∷ (more ++ behind)));
          from = sym from;
          before = closed_begun head t.used count is within lt (whole a []) alone (λ r k wrong. cc) (λ x r wrong. cc);
          after = λ later. closed_after head t.used b count is within lt kinds.Rest (λ inside left. ap (closed count (t.used ++ b ∷ inside) left) (t.again (b ∷ inside))) later ∙ ap (bad (b ∷ later)) same;
        }
    closed_stops bytes head tail count rest kind split is within begun e h = by_length (eqb (length (take count tail)) count) refl h
      where
        by_last : length (take count tail) ≡ count → drop (count - 1) (take count tail) ++ drop count tail ≡ rest → kinds.Field ≡ kind
            → (take count tail ≡ []) ⊎ ((front : List ℕ) × (byte : ℕ) × (take count tail ≡ front ++ byte ∷ [])) → Stops (framed s) bytes rest kind
        by_last len from same (inl none) = absurd (omega (arith, len, ap length none, (range_is count within).0))
        by_last len from same (inr (front, byte, last)) =
            let body = take count tail in
            let behind = drop count tail in
            let lt : length front < count = omega (arith, len, ap length last, length-append front (byte ∷ [])) in
            let at : length front ≡ count - 1 = omega (arith, len, ap length last, length-append front (byte ∷ [])) in
            let dropped : drop (count - 1) body ≡ byte ∷ [] = ap (drop (count - 1)) last ∙ drop_at front (byte ∷ []) (count - 1) at in
            let regrouped : (later : List ℕ) → (head ++ front) ++ byte ∷ later ≡ head ++ (body ++ later) = λ later.
            append_assoc head front (byte ∷ later) ∙ ap (λ (x : List ℕ). head ++ x) (sym (append_assoc front (byte ∷ []) later) ∙ ap (λ (x : List ℕ). x ++ later) (sym last)) in
            record {
              front = head ++ front;
              byte = byte;
              more = behind;
              split = split ∙ ap (λ (x : List ℕ). head ++ x) (sym (take-append-drop count tail)) ∙ sym (regrouped behind);
              from = sym from ∙ ap (λ (x : List ℕ). x ++ behind) dropped;
              before = closed_begun head front count is within lt begun (begun_front s steady front (byte ∷ []) (ap s (sym last) ∙ e)) (λ r k wrong. cc) (λ x r wrong. absurd (cc));
              after = λ later.
                  ap (framed s) (regrouped later)
                  ∙ framed-closed head (body ++ later) count is within
                  ∙ ap (λ (t : List ℕ). closed count t (drop count (body ++ later)) (s t)) (take_at body later count len)
                  ∙ ap (λ (t : List ℕ). closed count body t (s body)) (drop_at body later count len)
                  ∙ ap (closed count body later) e
                  ∙ ap (λ (b : Bool). cond b (bad (drop (count - 1) body ++ later) kinds.Field) begun) (eq-eqb (length body) count len)
                  ∙ ap (λ (t : List ℕ). bad (t ++ later) kinds.Field) dropped
                  ∙ ap (bad (byte ∷ later)) same;
            }

        by_length : (b : Bool) → eqb (length (take count tail)) count ≡ b → cond {A = Scan A} b (bad (drop (count - 1) (take count tail) ++ drop count tail) kinds.Field) begun ≡ bad rest kind → Stops (framed s) bytes rest kind
        by_length true p g = by_last (eqb-true (length (take count tail)) count p) (cc) (cc) (last_split (take count tail))
        by_length false p g = absurd cc
    closed_stops bytes head tail count rest kind split is within (bad r k) e h =
        let body = take count tail in
        let behind = drop count tail in
        let from : r ++ behind ≡ rest = cc in
        let same : k ≡ kind = cc in
        let t = steady.stops body r k e in
        let lt : length t.front < count = omega (arith, ap length t.split, length-append t.front (t.byte ∷ t.more), length-take count tail) in
        record {
          front = head ++ t.front;
          byte = t.byte;
          more = t.more ++ behind;
          split = split ∙ ap (λ (x : List ℕ). head ++ x) (sym (take-append-drop count tail) ∙ ap (λ (x : List ℕ). x ++ behind) t.split ∙ append_assoc t.front (t.byte ∷ t.more) behind) ∙ sym (append_assoc head t.front (t.byte ∷ (t.more ++ behind)));
          from = sym from ∙ ap (λ (x : List ℕ). x ++ behind) t.from;
          before = closed_begun head t.front count is within lt begun t.before (λ r k wrong. cc) (λ x r wrong. absurd (cc));
          after = λ later. closed_after head t.front t.byte count is within lt k (λ inside left. ap (closed count (t.front ++ t.byte ∷ inside) left) (t.after inside)) later ∙ ap (bad (t.byte ∷ later)) same;
        }

    out_stops : (bytes head tail : List ℕ) (count : ℕ) (rest : List ℕ) (kind : BadKind) → bytes ≡ head ++ tail → IsHead head count → is_out_of_range count ≡ true → framed s bytes ≡ bad rest kind
        → (head ≡ []) ⊎ ((front : List ℕ) × (byte : ℕ) × (head ≡ front ++ byte ∷ [])) → Stops (framed s) bytes rest kind
    out_stops bytes head tail count rest kind split is out e (inl none) = absurd (omega (arith, is.four, ap length none))
    out_stops bytes head tail count rest kind split is out e (inr (front, byte, last)) =
        let three : length front ≡ 3 = omega (arith, is.four, ap length last, length-append front (byte ∷ [])) in
        let regrouped : (later : List ℕ) → front ++ byte ∷ later ≡ head ++ later = λ later. sym (append_assoc front (byte ∷ []) later) ∙ ap (λ (x : List ℕ). x ++ later) (sym last) in
        let dropped : (later : List ℕ) → drop 3 (head ++ later) ≡ byte ∷ later = λ later. ap (drop 3) (sym (regrouped later)) ∙ drop_at front (byte ∷ later) 3 three in
        let read : bad (drop 3 (head ++ tail)) kinds.Length ≡ bad rest kind = sym (framed-out head tail count is out) ∙ ap (framed s) (sym split) ∙ e in
        let from : drop 3 (head ++ tail) ≡ rest = cc in
        let same : kinds.Length ≡ kind = cc in
        record {
          front = front;
          byte = byte;
          more = tail;
          split = split ∙ sym (regrouped tail);
          from = sym from ∙ dropped tail;
          before = framed-short front (omega (arith, three));
          after = λ later. ap (framed s) (regrouped later) ∙ framed-out head later count is out ∙ ap (λ (t : List ℕ). bad t kinds.Length) (dropped later) ∙ ap (bad (byte ∷ later)) same;
        }

    framed_stops : (bytes rest : List ℕ) (kind : BadKind) → framed s bytes ≡ bad rest kind → FrameCase bytes → Stops (framed s) bytes rest kind
    framed_stops bytes rest kind e (no_length lt) = absurd (begun_not_bad (framed s) bytes rest kind e (framed-short bytes lt))
    framed_stops bytes rest kind e (out_of_range head tail count split is out) = out_stops bytes head tail count rest kind split is out e (last_split head)
    framed_stops bytes rest kind e (in_range head tail count split is within) =
        closed_stops bytes head tail count rest kind split is within (s (take count tail)) refl (sym (framed-closed head tail count is within) ∙ ap (framed s) (sym split) ∙ e)

    pub Steady-framed : Steady (framed s)
    Steady-framed = record {
      takes = λ bytes a rest e. framed_takes bytes a rest steady e (frame_case bytes);
      stops = λ bytes rest kind e. framed_stops bytes rest kind e (frame_case bytes);
    }
