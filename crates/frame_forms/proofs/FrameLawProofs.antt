-- The laws of frames, from those of the forms.
use Rattle.std.proofs.Common.{◌≡◌, ◌⊎◌, inl, inr, ℕ, ◌+◌, ◌-◌, ◌≤◌, List, [], ◌∷◌, ◌++◌, length, take, drop, Some, refl, sym, ap, ◌∙◌, append_assoc, append-nil, arith}
use Rattle.std.proofs.lemmas.List.{take_at, drop_at, take-append-drop, length-append}
use Rattle.apt_base.proofs.FieldsLemmas.{some_is}
use Rattle.frame_forms.specs.declared.bad_kind.BadKind.{BadKind}
use Rattle.frame_forms.specs.Scans.{Scan, whole, begun, bad}
use Rattle.frame_forms.specs.ScanLaws.{Takes, Stops, Steady, Meets}
use Rattle.frame_forms.specs.FrameTable.{Fields, frame_form}
use Rattle.frame_forms.specs.Frames.{IsFrame, Fits, spelled, scanned, frame_spelling, frame_scan, place_in, first_bad}
use Rattle.frame_forms.specs.FrameLaws.{HasOneSpelling, ReadingMeetsSpelling, FrontsAreBegun, NoFrameGoesOn, IsFirstBad, FirstBadIsFound, OneMore, ends, goes_on, stops, ByteByByte}
use Rattle.frame_forms.proofs.Steady.{whole_value, whole_rest, last_split}
use Rattle.frame_forms.proofs.FormsSteady.{scanned-steady}
use Rattle.frame_forms.proofs.FormsMeet.{scanned-meets}
use Rattle.frame_forms.proofs.Sound.{grammar_sound, frame_sound}
use Rattle.frame_forms.proofs.Framed.{Meets-framed, Steady-framed}

pub frames_steady : Steady frame_scan
frames_steady = Steady-framed (scanned frame_form) (scanned-steady frame_form)

some_bytes : (a : Fields) → 1 ≤ length (spelled frame_form a)
some_bytes a = omega arith

pub frames_meet : Meets frame_scan IsFrame frame_spelling
frames_meet = Meets-framed (scanned frame_form) (Fits frame_form) (spelled frame_form) some_bytes (scanned-meets grammar_sound frame_form frame_sound)

-- ---- laws of everything that is steady and meets its spelling

not_both : {A : Type 0} (r : Scan A) (a : A) (rest rest' : List ℕ) (kind : BadKind) → r ≡ whole a rest → r ≡ bad rest' kind → ⊥
not_both r a rest rest' kind e h = let both : whole a rest ≡ bad rest' kind = sym e ∙ h in cc

longer : (a b : List ℕ) (byte : ℕ) → a ≡ b ++ byte ∷ a → ⊥
longer a b byte e = omega (arith, ap length e, length-append b (byte ∷ a))

module _ {A : Type 0} (scan : List ℕ → Scan A) (steady : Steady scan) where
  -- a bad byte stays bad
  stays_bad : (bytes rest more : List ℕ) (kind : BadKind) → scan bytes ≡ bad rest kind → scan (bytes ++ more) ≡ bad (rest ++ more) kind
  stays_bad bytes rest more kind e =
      let t = steady.stops bytes rest kind e in
      ap (λ (x : List ℕ). scan (x ++ more)) t.split ∙ ap scan (append_assoc t.front (t.byte ∷ t.more) more) ∙ t.after (t.more ++ more) ∙ ap (λ (x : List ℕ). bad (x ++ more) kind) (sym t.from)

  -- a value stays
  stays_whole : (bytes rest more : List ℕ) (a : A) → scan bytes ≡ whole a rest → scan (bytes ++ more) ≡ whole a (rest ++ more)
  stays_whole bytes rest more a e =
      let t = steady.takes bytes a rest e in
      ap (λ (x : List ℕ). scan (x ++ more)) t.split ∙ ap scan (append_assoc t.used rest more) ∙ t.again (rest ++ more)

  front_begun : (bytes front : List ℕ) (byte : ℕ) (back : List ℕ) (a : A) → bytes ≡ front ++ byte ∷ back → scan bytes ≡ whole a [] → scan front ≡ begun
  front_begun bytes front byte back a split e = go (scan front) refl
    where
      go : (r : Scan A) → scan front ≡ r → scan front ≡ begun
      go (whole b rest) h =
          let on : whole b (rest ++ byte ∷ back) ≡ whole a [] = sym (stays_whole front rest (byte ∷ back) b h) ∙ ap scan (sym split) ∙ e in
          let none : rest ++ byte ∷ back ≡ [] = whole_rest b a (rest ++ byte ∷ back) [] on in
          absurd (omega (arith, ap length none, length-append rest (byte ∷ back)))
      go begun h = h
      go (bad rest kind) h = absurd (not_both (scan bytes) a [] (rest ++ byte ∷ back) kind e (ap scan split ∙ stays_bad front rest (byte ∷ back) kind h))

  -- one byte more than what is begun
  whole_once : (front : List ℕ) (byte : ℕ) (a : A) (rest : List ℕ) → scan front ≡ begun → scan (front ++ byte ∷ []) ≡ whole a rest → rest ≡ []
  whole_once front byte a rest b e = go (last_split rest)
    where
      t : Takes scan (front ++ byte ∷ []) a rest
      t = steady.takes (front ++ byte ∷ []) a rest e

      go : (rest ≡ []) ⊎ ((init : List ℕ) × (last : ℕ) × (rest ≡ init ++ last ∷ [])) → rest ≡ []
      go (inl none) = none
      go (inr (init, last, f)) =
          let all : front ++ byte ∷ [] ≡ (t.used ++ init) ++ last ∷ [] = t.split ∙ ap (λ (x : List ℕ). t.used ++ x) f ∙ sym (append_assoc t.used init (last ∷ [])) in
          let len : length front ≡ length (t.used ++ init) = omega (arith, ap length all, length-append front (byte ∷ []), length-append (t.used ++ init) (last ∷ [])) in
          let same : front ≡ t.used ++ init = sym (take_at front (byte ∷ []) (length front) refl) ∙ ap (take (length front)) all ∙ take_at (t.used ++ init) (last ∷ []) (length front) (sym len) in
          let wrong : begun ≡ whole a init = sym b ∙ ap scan same ∙ t.again init in
          absurd (cc)

  bad_once : (front : List ℕ) (byte : ℕ) (rest : List ℕ) (kind : BadKind) → scan front ≡ begun → scan (front ++ byte ∷ []) ≡ bad rest kind → scan (front ++ byte ∷ []) ≡ bad (byte ∷ []) kind
  bad_once front byte rest kind b e = go (last_split t.more)
    where
      t : Stops scan (front ++ byte ∷ []) rest kind
      t = steady.stops (front ++ byte ∷ []) rest kind e

      go : (t.more ≡ []) ⊎ ((init : List ℕ) × (last : ℕ) × (t.more ≡ init ++ last ∷ [])) → scan (front ++ byte ∷ []) ≡ bad (byte ∷ []) kind
      go (inl none) =
          let all : front ++ byte ∷ [] ≡ t.front ++ t.byte ∷ [] = t.split ∙ ap (λ (x : List ℕ). t.front ++ t.byte ∷ x) none in
          let len : length front ≡ length t.front = omega (arith, ap length all, length-append front (byte ∷ []), length-append t.front (t.byte ∷ [])) in
          let last : byte ∷ [] ≡ t.byte ∷ [] = sym (drop_at front (byte ∷ []) (length front) refl) ∙ ap (drop (length front)) all ∙ drop_at t.front (t.byte ∷ []) (length front) (sym len) in
          e ∙ ap (λ (x : List ℕ). bad x kind) (t.from ∙ ap (λ (x : List ℕ). t.byte ∷ x) none ∙ sym last)
      go (inr (init, last, f)) =
          let all : front ++ byte ∷ [] ≡ (t.front ++ t.byte ∷ init) ++ last ∷ [] = t.split ∙ ap (λ (x : List ℕ). t.front ++ t.byte ∷ x) f ∙ sym (append_assoc t.front (t.byte ∷ init) (last ∷ [])) in
          let len : length front ≡ length (t.front ++ t.byte ∷ init) = omega (arith, ap length all, length-append front (byte ∷ []), length-append (t.front ++ t.byte ∷ init) (last ∷ [])) in
          let same : front ≡ t.front ++ t.byte ∷ init = sym (take_at front (byte ∷ []) (length front) refl) ∙ ap (take (length front)) all ∙ take_at (t.front ++ t.byte ∷ init) (last ∷ []) (length front) (sym len) in
          let wrong : begun ≡ bad (t.byte ∷ init) kind = sym b ∙ ap scan same ∙ t.after init in
          absurd (cc)

-- ---- the laws

pub has_one_spelling : HasOneSpelling
has_one_spelling a b fa fb more e =
    let one : frame_scan (frame_spelling b) ≡ whole a more = ap frame_scan (sym e) ∙ frames_meet.again a more fa in
    let other : frame_scan (frame_spelling b) ≡ whole b [] = ap frame_scan (sym (append-nil (frame_spelling b))) ∙ frames_meet.again b [] fb in
    (whole_value a b more [] (sym one ∙ other), whole_rest a b more [] (sym one ∙ other))

pub reading_meets_spelling : ReadingMeetsSpelling
reading_meets_spelling bytes a rest are = (λ e. frames_meet.spelled bytes a rest are e, λ h. ap frame_scan h.1 ∙ frames_meet.again a rest h.0)

pub fronts_are_begun : FrontsAreBegun
fronts_are_begun a fits front byte back split =
    front_begun frame_scan frames_steady (frame_spelling a) front byte back a split (ap frame_scan (sym (append-nil (frame_spelling a))) ∙ frames_meet.again a [] fits)

pub no_frame_goes_on : NoFrameGoesOn
no_frame_goes_on bytes rest kind e more a behind fits split =
    not_both (frame_scan (bytes ++ more)) a behind (rest ++ more) kind (ap frame_scan split ∙ frames_meet.again a behind fits) (stays_bad frame_scan frames_steady bytes rest more kind e)

place_from : (front : List ℕ) (byte : ℕ) (later : List ℕ) → length (front ++ byte ∷ later) - length (byte ∷ later) ≡ length front
place_from front byte later = omega (arith, length-append front (byte ∷ later))

place_some : (bytes : List ℕ) (r : Scan Fields) (place : ℕ) (kind : BadKind) → place_in bytes r ≡ Some (place, kind) → (rest : List ℕ) × (r ≡ bad rest kind) × (length bytes - length rest ≡ place)
place_some bytes (whole a rest) place kind e = absurd cc
place_some bytes begun place kind e = absurd cc
place_some bytes (bad rest k) place kind e =
    let both = some_is (length bytes - length rest, k) (place, kind) e in
    (rest, ap (λ (p : ℕ × BadKind). bad rest p.1) both, ap (λ (p : ℕ × BadKind). p.0) both)

first_bad-is : (bytes : List ℕ) (place : ℕ) (kind : BadKind) → first_bad bytes ≡ Some (place, kind) → IsFirstBad bytes place kind
first_bad-is bytes place kind e =
    let p = place_some bytes (frame_scan bytes) place kind e in
    let t = frames_steady.stops bytes p.0 kind p.1 in
    let at : length t.front ≡ place =
    sym (place_from t.front t.byte t.more) ∙ ap (λ (x : List ℕ). length x - length (t.byte ∷ t.more)) (sym t.split) ∙ ap (λ (x : List ℕ). length bytes - length x) (sym t.from) ∙ p.2 in
    let one : bytes ≡ (t.front ++ t.byte ∷ []) ++ t.more = t.split ∙ sym (append_assoc t.front (t.byte ∷ []) t.more) in
    let up_to : take (place + 1) bytes ≡ t.front ++ t.byte ∷ [] = ap (take (place + 1)) one ∙ take_at (t.front ++ t.byte ∷ []) t.more (place + 1) (omega (arith, at, length-append t.front (t.byte ∷ []))) in
    record {
      within = omega (arith, at, ap length t.split, length-append t.front (t.byte ∷ t.more));
      before = ap frame_scan (ap (take place) t.split ∙ take_at t.front (t.byte ∷ t.more) place at) ∙ t.before;
      after = λ later.
          ap (λ (x : List ℕ). first_bad (x ++ later)) up_to ∙ ap first_bad (append_assoc t.front (t.byte ∷ []) later)
          ∙ ap (place_in (t.front ++ t.byte ∷ later)) (t.after later) ∙ ap (λ (n : ℕ). Some (n, kind)) (place_from t.front t.byte later ∙ at);
    }

pub first_bad_is_found : FirstBadIsFound
first_bad_is_found bytes place kind = (first_bad-is bytes place kind, λ is. ap first_bad (sym (take-append-drop (place + 1) bytes)) ∙ is.after (drop (place + 1) bytes))

pub byte_by_byte : ByteByByte
byte_by_byte front byte b = go (frame_scan (front ++ byte ∷ [])) refl
  where
    go : (r : Scan Fields) → frame_scan (front ++ byte ∷ []) ≡ r → OneMore front byte
    go (whole a rest) e = ends a (e ∙ ap (whole a) (whole_once frame_scan frames_steady front byte a rest b e))
    go begun e = goes_on e
    go (bad rest kind) e = stops kind (bad_once frame_scan frames_steady front byte rest kind b e)
