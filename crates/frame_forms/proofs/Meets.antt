-- Of each form: what was spelled is read again, and what is read is spelled so.
use Rattle.std.proofs.Common.{◌≡◌, ℕ, zero, suc, ◌+◌, ◌<◌, ◌^◌, ℤ, List, [], ◌∷◌, ◌++◌, length, drop, Option, Some, None, refl, sym, ap, subst, ◌∙◌, append_assoc, arith}
use Rattle.std.specs.Int.{w16, w32, w64, from_be_bytes, to_be_bytes, cast_signed, cast_unsigned}
use Rattle.std.specs.Int.RustNames.{FitsSigned}
use Rattle.std.proofs.lemmas.Int.{to_z-of_z, of_z-to_z}
use Rattle.std.proofs.lemmas.Nat.{be_bytes_2, be_bytes_4, be_bytes_8, from_be_bytes-to_be_bytes_2, from_be_bytes-to_be_bytes_4, from_be_bytes-to_be_bytes_8}
use Rattle.std.proofs.Math.Facts.{Fits-of_z, sfits_to_z}
use Rattle.apt_base.specs.Fields.{i64_form, bytes_form}
use Rattle.apt_base.proofs.FieldsLemmas.{IsBytes-front, IsBytes-rest}
use Rattle.frame_forms.specs.declared.bad_kind.BadKind.{BadKind}
use Rattle.frame_forms.specs.declared.bad_kind.BadKind.TheVariants as kinds
use Rattle.frame_forms.specs.Scans.{Scan, whole, begun, bad, and_then, mapped, number_scan, named, byte_scan, judged, run_scan, opt_scan, items_scan}
use Rattle.frame_forms.specs.Forms.{Numbering, OptFits, EachFits, opt_spelling, items_spelling, bool_at}
use Rattle.frame_forms.specs.ScanLaws.{IsBytes, Spells, Meets}
use Rattle.frame_forms.proofs.Steady.{whole_value, whole_rest, number_scan-takes, number_scan-again, named_whole, run_scan-is, RunCase, short, there, run_case, judged_whole}

-- ---- one thing after another

module _ {A : Type 0} {B : A → Type 0} (s : List ℕ → Scan A) (next : (a : A) → List ℕ → Scan (B a)) (fits : A → Type 0) (fits_next : (a : A) → B a → Type 0) (f : A → List ℕ) (g : (a : A) → B a → List ℕ) where
  abbrev pub Pair : Type 0
  Pair = (a : A) × B a

  abbrev pub with_first : (a : A) → B a → Pair
  with_first a b = (a, b)

  abbrev pub pairs : List ℕ → Scan Pair
  pairs bytes = and_then (s bytes) (λ a rest. mapped (with_first a) (next a rest))

  abbrev pub PairFits : Pair → Type 0
  PairFits v = fits v.0 × fits_next v.0 v.1

  abbrev pub pair_spelled : Pair → List ℕ
  pair_spelled v = f v.0 ++ g v.0 v.1

  module _ (first : Spells s fits f) (second : (a : A) → Spells (next a) (fits_next a) (g a)) where
    pairs-behind : (bytes behind : List ℕ) (a : A) (v : Pair) (rest : List ℕ) → IsBytes behind → fits a → bytes ≡ f a ++ behind → (q : Scan (B a)) → next a behind ≡ q → mapped (with_first a) q ≡ whole v rest → PairFits v × (bytes ≡ pair_spelled v ++ rest)
    pairs-behind bytes behind a v rest is fit split (whole b left) e h =
        let two = second a behind b left is e in
        subst (λ (w : Pair). PairFits w × (bytes ≡ pair_spelled w ++ rest)) (whole_value (with_first a b) v left rest h)
        ((fit, two.0), split ∙ ap (λ (t : List ℕ). f a ++ t) (two.1 ∙ ap (λ (t : List ℕ). g a b ++ t) (whole_rest (with_first a b) v left rest h)) ∙ sym (append_assoc (f a) (g a b) rest))
    pairs-behind bytes behind a v rest is fit split begun e h = absurd cc
    pairs-behind bytes behind a v rest is fit split (bad r k) e h = absurd cc

    pairs-spelled : (bytes : List ℕ) (v : Pair) (rest : List ℕ) → IsBytes bytes → (r : Scan A) → s bytes ≡ r → and_then r (λ a rest. mapped (with_first a) (next a rest)) ≡ whole v rest → PairFits v × (bytes ≡ pair_spelled v ++ rest)
    pairs-spelled bytes v rest is (whole a behind) e h =
        let one = first bytes a behind is e in
        pairs-behind bytes behind a v rest (IsBytes-rest bytes (f a) behind one.1 is) one.0 one.1 (next a behind) refl h
    pairs-spelled bytes v rest is begun e h = absurd cc
    pairs-spelled bytes v rest is (bad r k) e h = absurd cc

    pub Spells-pairs : Spells pairs PairFits pair_spelled
    Spells-pairs bytes v rest is h = pairs-spelled bytes v rest is (s bytes) refl h

  pub Meets-pairs : Meets s fits f → ((a : A) → Meets (next a) (fits_next a) (g a)) → Meets pairs PairFits pair_spelled
  Meets-pairs first second = record {
    again = λ v rest h.
        ap pairs (append_assoc (f v.0) (g v.0 v.1) rest)
        ∙ ap (λ (r : Scan A). and_then r (λ a rest. mapped (with_first a) (next a rest))) (first.again v.0 (g v.0 v.1 ++ rest) h.0)
        ∙ ap (mapped (with_first v.0)) ((second v.0).again v.1 rest h.1);
    spelled = Spells-pairs first.spelled (λ a. (second a).spelled);
  }

-- ---- the same bytes for another value

module _ {A B : Type 0} (make : A → B) (show : B → A) (s : List ℕ → Scan A) (fits : A → Type 0) (f : A → List ℕ) (shown : (a : A) → show (make a) ≡ a) where
  made-spelled : Spells s fits f → (bytes : List ℕ) (b : B) (rest : List ℕ) → IsBytes bytes → (r : Scan A) → s bytes ≡ r → mapped make r ≡ whole b rest → fits (show b) × (bytes ≡ f (show b) ++ rest)
  made-spelled first bytes b rest is (whole a left) e h =
      let one = first bytes a left is e in
      let same : a ≡ show b = sym (shown a) ∙ ap show (whole_value (make a) b left rest h) in
      subst (λ (x : A). fits x × (bytes ≡ f x ++ rest)) same (one.0, one.1 ∙ ap (λ (t : List ℕ). f a ++ t) (whole_rest (make a) b left rest h))
  made-spelled first bytes b rest is begun e h = absurd cc
  made-spelled first bytes b rest is (bad r k) e h = absurd cc

  pub Spells-made : Spells s fits f → Spells (λ bytes. mapped make (s bytes)) (λ b. fits (show b)) (λ b. f (show b))
  Spells-made first bytes b rest is h = made-spelled first bytes b rest is (s bytes) refl h

  pub Meets-made : ((b : B) → make (show b) ≡ b) → Meets s fits f → Meets (λ bytes. mapped make (s bytes)) (λ b. fits (show b)) (λ b. f (show b))
  Meets-made made first = record {
    again = λ b rest h. ap (mapped make) (first.again (show b) rest h) ∙ ap (λ (c : B). whole c rest) (made b);
    spelled = Spells-made first.spelled;
  }

-- ---- nothing, a byte, and numbers

pub Meets-nothing : Meets (λ bytes. whole tt bytes) (λ (u : Unit {0}). Unit {0}) (λ u. [])
Meets-nothing = record { again = λ a rest h. refl; spelled = λ bytes a rest is e. (tt, whole_rest tt a bytes rest e) }

module _ {A : Type 0} (kind : BadKind) (numbers : Numbering A) (sound : (n : ℕ) (a : A) → numbers.at n ≡ Some a → numbers.number_of a ≡ n) where
  byte-spelled : (bytes : List ℕ) (a : A) (rest : List ℕ) → byte_scan kind numbers.at bytes ≡ whole a rest → (numbers.at (numbers.number_of a) ≡ Some a) × (bytes ≡ (numbers.number_of a ∷ []) ++ rest)
  unfolding byte_scan
  byte-spelled [] a rest e = absurd cc
  byte-spelled (b ∷ behind) a rest e =
      let n = named_whole kind (numbers.at b) b behind a rest e in
      let same : numbers.number_of a ≡ b = sound b a n.0 in
      (ap numbers.at same ∙ n.0, ap (λ (m : ℕ). m ∷ behind) (sym same) ∙ ap (λ (t : List ℕ). numbers.number_of a ∷ t) n.1)

  byte-again : (a : A) (rest : List ℕ) → numbers.at (numbers.number_of a) ≡ Some a → byte_scan kind numbers.at ((numbers.number_of a ∷ []) ++ rest) ≡ whole a rest
  unfolding byte_scan
  byte-again a rest h = ap (λ (o : Option A). named kind o (numbers.number_of a) rest) h

  pub Meets-byte : Meets (byte_scan kind numbers.at) (λ a. numbers.at (numbers.number_of a) ≡ Some a) (λ a. numbers.number_of a ∷ [])
  Meets-byte = record { again = byte-again; spelled = λ bytes a rest is e. byte-spelled bytes a rest e }

pub Meets-u16 : Meets (number_scan w16) (λ n. n < 2 ^ 16) (λ n. to_be_bytes w16 n)
Meets-u16 = record {
  again = λ n rest h. number_scan-again w16 (to_be_bytes w16 n) rest n refl (from_be_bytes-to_be_bytes_2 n h);
  spelled = λ bytes n rest is e.
      let t = number_scan-takes w16 bytes n rest e in
      let fits = IsBytes-front bytes t.0 rest t.1 is in
      (omega (arith, t.3, fits 0, fits 1), t.1 ∙ ap (λ (front : List ℕ). front ++ rest) (sym (be_bytes_2 t.0 n t.2 fits (sym t.3))));
}

pub u32_head : (head : List ℕ) (n : ℕ) → IsBytes head → length head ≡ 4 → from_be_bytes w32 head ≡ n → (n < 2 ^ 32) × (head ≡ to_be_bytes w32 n)
u32_head head n fits len worth = (omega (arith, worth, fits 0, fits 1, fits 2, fits 3), sym (be_bytes_4 head n len fits (sym worth)))

pub Meets-u32 : Meets (number_scan w32) (λ n. n < 2 ^ 32) (λ n. to_be_bytes w32 n)
Meets-u32 = record {
  again = λ n rest h. number_scan-again w32 (to_be_bytes w32 n) rest n refl (from_be_bytes-to_be_bytes_4 n h);
  spelled = λ bytes n rest is e.
      let t = number_scan-takes w32 bytes n rest e in
      let k = u32_head t.0 n (IsBytes-front bytes t.0 rest t.1 is) t.2 t.3 in
      (k.0, t.1 ∙ ap (λ (front : List ℕ). front ++ rest) k.1);
}

unsigned_fits : (z : ℤ) → FitsSigned w64 z → cast_unsigned w64 z < 2 ^ 64
unsigned_fits z fits = (Fits-of_z fits).fits

-- the bytes of a number that was read are its bytes in two's complement
pub i64_head : (front : List ℕ) (n : ℕ) → IsBytes front → length front ≡ 8 → from_be_bytes w64 front ≡ n → FitsSigned w64 (cast_signed w64 n) × (front ≡ i64_form (cast_signed w64 n))
i64_head front n fits len worth =
    let small : n < 2 ^ 64 = omega (arith, worth, fits 0, fits 1, fits 2, fits 3, fits 4, fits 5, fits 6, fits 7) in
    let same : cast_unsigned w64 (cast_signed w64 n) ≡ n = of_z-to_z w64 n small in
    (sfits_to_z (record { fits = small }), sym (be_bytes_8 front (cast_unsigned w64 (cast_signed w64 n)) len fits (same ∙ sym worth)))

i64_spelled : (bytes : List ℕ) (z : ℤ) (rest : List ℕ) → IsBytes bytes → (r : Scan ℕ) → number_scan w64 bytes ≡ r → mapped (cast_signed w64) r ≡ whole z rest → FitsSigned w64 z × (bytes ≡ i64_form z ++ rest)
i64_spelled bytes z rest is (whole n left) e h =
    let t = number_scan-takes w64 bytes n left e in
    let k = i64_head t.0 n (IsBytes-front bytes t.0 left t.1 is) t.2 t.3 in
    subst (λ (y : ℤ). FitsSigned w64 y × (bytes ≡ i64_form y ++ rest)) (whole_value (cast_signed w64 n) z left rest h)
    (k.0, t.1 ∙ ap (λ (front : List ℕ). front ++ left) k.1 ∙ ap (λ (t : List ℕ). i64_form (cast_signed w64 n) ++ t) (whole_rest (cast_signed w64 n) z left rest h))
i64_spelled bytes z rest is begun e h = absurd cc
i64_spelled bytes z rest is (bad r k) e h = absurd cc

pub Meets-i64 : Meets (λ bytes. mapped (cast_signed w64) (number_scan w64 bytes)) (λ z. FitsSigned w64 z) i64_form
Meets-i64 = record {
  again = λ z rest h.
      ap (mapped (cast_signed w64)) (number_scan-again w64 (i64_form z) rest (cast_unsigned w64 z) refl (from_be_bytes-to_be_bytes_8 (cast_unsigned w64 z) (unsigned_fits z h)))
      ∙ ap (λ (y : ℤ). whole y rest) (to_z-of_z w64 z h);
  spelled = λ bytes z rest is h. i64_spelled bytes z rest is (number_scan w64 bytes) refl h;
}

-- ---- runs of bytes

module _ (fault : List ℕ → Option BadKind) where
  run-again : (run rest : List ℕ) → (fault run ≡ None) × (length run < 2 ^ 32) → run_scan fault (bytes_form run ++ rest) ≡ whole run rest
  run-again run rest h =
      run_scan-is fault (bytes_form run ++ rest) run rest (record {
        head = to_be_bytes w32 (length run);
        four = refl;
        worth = from_be_bytes-to_be_bytes_4 (length run) h.1;
        split = append_assoc (to_be_bytes w32 (length run)) run rest;
      })
      ∙ ap (λ (o : Option BadKind). judged o run rest (drop (length run + 3) (bytes_form run ++ rest))) h.0

  run-spelled : (bytes a rest : List ℕ) → IsBytes bytes → run_scan fault bytes ≡ whole a rest → RunCase fault bytes → ((fault a ≡ None) × (length a < 2 ^ 32)) × (bytes ≡ bytes_form a ++ rest)
  run-spelled bytes a rest is e (short f) = absurd (cc)
  run-spelled bytes a rest is e (there run behind r) =
      let j = judged_whole (fault run) run behind (drop (length run + 3) bytes) a rest (sym (run_scan-is fault bytes run behind r) ∙ e) in
      let k = u32_head r.head (length run) (IsBytes-front bytes r.head (run ++ behind) r.split is) r.four r.worth in
      subst (λ (x : List ℕ). ((fault x ≡ None) × (length x < 2 ^ 32)) × (bytes ≡ bytes_form x ++ rest)) j.1
      ((j.0, k.0), r.split ∙ ap (λ (t : List ℕ). t ++ (run ++ behind)) k.1 ∙ sym (append_assoc (to_be_bytes w32 (length run)) run behind) ∙ ap (λ (t : List ℕ). bytes_form run ++ t) j.2)

  pub Meets-run : Meets (run_scan fault) (λ run. (fault run ≡ None) × (length run < 2 ^ 32)) bytes_form
  Meets-run = record { again = run-again; spelled = λ bytes a rest is e. run-spelled bytes a rest is e (run_case fault bytes) }

-- ---- none or one

module _ {A : Type 0} (item : List ℕ → Scan A) (fits : A → Type 0) (f : A → List ℕ) where
  abbrev pub opts : List ℕ → Scan (Option A)
  opts bytes = and_then (byte_scan kinds.Field bool_at bytes) (λ is_there rest. opt_scan item is_there rest)

  opt-again : Meets item fits f → (v : Option A) (rest : List ℕ) → OptFits fits v → opts (opt_spelling f v ++ rest) ≡ whole v rest
  unfolding byte_scan
  opt-again one None rest h = refl
  opt-again one (Some a) rest h = ap (mapped Some) (one.again a rest h)

  opt-some : Spells item fits f → (behind : List ℕ) (v : Option A) (rest : List ℕ) → IsBytes behind → (r : Scan A) → item behind ≡ r → mapped Some r ≡ whole v rest → OptFits fits v × (1 ∷ behind ≡ opt_spelling f v ++ rest)
  opt-some one behind v rest is (whole a left) e h =
      let k = one behind a left is e in
      subst (λ (w : Option A). OptFits fits w × (1 ∷ behind ≡ opt_spelling f w ++ rest)) (whole_value (Some a) v left rest h)
      (k.0, ap (λ (t : List ℕ). 1 ∷ t) (k.1 ∙ ap (λ (t : List ℕ). f a ++ t) (whole_rest (Some a) v left rest h)))
  opt-some one behind v rest is begun e h = absurd cc
  opt-some one behind v rest is (bad r k) e h = absurd cc

  pub Spells-opt : Spells item fits f → Spells opts (OptFits fits) (opt_spelling f)
  unfolding byte_scan
  Spells-opt one [] v rest is e = absurd cc
  Spells-opt one (zero ∷ behind) v rest is e =
      subst (λ (w : Option A). OptFits fits w × (0 ∷ behind ≡ opt_spelling f w ++ rest)) (whole_value None v behind rest e) (tt, ap (λ (t : List ℕ). 0 ∷ t) (whole_rest None v behind rest e))
  Spells-opt one (suc zero ∷ behind) v rest is e = opt-some one behind v rest (IsBytes-rest (1 ∷ behind) (1 ∷ []) behind refl is) (item behind) refl e
  Spells-opt one (suc (suc b) ∷ behind) v rest is e = absurd cc

  pub Meets-opt : Meets item fits f → Meets opts (OptFits fits) (opt_spelling f)
  Meets-opt one = record { again = opt-again one; spelled = Spells-opt one.spelled }

-- ---- any number

module _ {A : Type 0} (item : List A → List ℕ → Scan A) (fits : List A → A → Type 0) (f : List A → A → List ℕ) where
  items-again : ((before : List A) → Meets (item before) (fits before) (f before)) → (before v : List A) (rest : List ℕ) → EachFits fits before v → items_scan item before (length v) (items_spelling f before v ++ rest) ≡ whole v rest
  unfolding items_scan
  items-again each before [] rest h = refl
  items-again each before (a ∷ v) rest h =
      let behind : A → List ℕ → Scan (List A) = λ first left. mapped (λ (others : List A). first ∷ others) (items_scan item (first ∷ before) (length v) left) in
      ap (λ (t : List ℕ). and_then (item before t) behind) (append_assoc (f before a) (items_spelling f (a ∷ before) v) rest)
      ∙ ap (λ (r : Scan A). and_then r behind) ((each before).again a (items_spelling f (a ∷ before) v ++ rest) h.0)
      ∙ ap (mapped (λ (others : List A). a ∷ others)) (items-again each (a ∷ before) v rest h.1)

  abbrev pub Items : List A → ℕ → List ℕ → List ℕ → List A → Type 0
  Items before count bytes rest v = EachFits fits before v × (bytes ≡ items_spelling f before v ++ rest) × (length v ≡ count)

  items-others : (before : List A) (count : ℕ) (a : A) (bytes behind rest : List ℕ) (v : List A) → fits before a → bytes ≡ f before a ++ behind
      → (r : Scan (List A)) → ((w : List A) (left : List ℕ) → r ≡ whole w left → Items (a ∷ before) count behind left w) → mapped (λ (others : List A). a ∷ others) r ≡ whole v rest → Items before (suc count) bytes rest v
  items-others before count a bytes behind rest v fit split (whole w left) later h =
      let k = later w left refl in
      subst (Items before (suc count) bytes rest) (whole_value (a ∷ w) v left rest h)
      ((fit, k.0), split ∙ ap (λ (t : List ℕ). f before a ++ t) (k.1 ∙ ap (λ (t : List ℕ). items_spelling f (a ∷ before) w ++ t) (whole_rest (a ∷ w) v left rest h)) ∙ sym (append_assoc (f before a) (items_spelling f (a ∷ before) w) rest), ap suc k.2)
  items-others before count a bytes behind rest v fit split begun later h = absurd cc
  items-others before count a bytes behind rest v fit split (bad r k) later h = absurd cc

  items-spelled : ((before : List A) → Spells (item before) (fits before) (f before)) → (count : ℕ) (before : List A) (bytes : List ℕ) (v : List A) (rest : List ℕ) → IsBytes bytes → items_scan item before count bytes ≡ whole v rest → Items before count bytes rest v
  unfolding items_scan
  items-spelled each zero before bytes v rest is e = subst (Items before 0 bytes rest) (whole_value [] v bytes rest e) (tt, whole_rest [] v bytes rest e, refl)
  items-spelled each (suc count) before bytes v rest is e = go (λ a behind. items-spelled each count (a ∷ before) behind) (item before bytes) refl e
    where
      go : ((a : A) (behind : List ℕ) (w : List A) (left : List ℕ) → IsBytes behind → items_scan item (a ∷ before) count behind ≡ whole w left → Items (a ∷ before) count behind left w)
          → (r : Scan A) → item before bytes ≡ r → and_then r (λ first behind. mapped (λ (others : List A). first ∷ others) (items_scan item (first ∷ before) count behind)) ≡ whole v rest → Items before (suc count) bytes rest v
      go later (whole a behind) f₁ h =
          let one = each before bytes a behind is f₁ in
          let rest_is = IsBytes-rest bytes (f before a) behind one.1 is in
          items-others before count a bytes behind rest v one.0 one.1 (items_scan item (a ∷ before) count behind) (λ w left g. later a behind w left rest_is g) h
      go later begun f₁ h = absurd cc
      go later (bad r k) f₁ h = absurd cc

  abbrev pub lists : List ℕ → Scan (List A)
  lists bytes = and_then (number_scan w32 bytes) (λ count rest. items_scan item [] count rest)

  abbrev pub list_spelled : List A → List ℕ
  list_spelled v = to_be_bytes w32 (length v) ++ items_spelling f [] v

  abbrev pub ListFits : List A → Type 0
  ListFits v = (length v < 2 ^ 32) × EachFits fits [] v

  list-again : ((before : List A) → Meets (item before) (fits before) (f before)) → (v : List A) (rest : List ℕ) → ListFits v → lists (list_spelled v ++ rest) ≡ whole v rest
  list-again each v rest h =
      ap lists (append_assoc (to_be_bytes w32 (length v)) (items_spelling f [] v) rest)
      ∙ ap (λ (r : Scan ℕ). and_then r (λ count left. items_scan item [] count left)) (Meets-u32.again (length v) (items_spelling f [] v ++ rest) h.0)
      ∙ items-again each [] v rest h.1

  list-spelled : ((before : List A) → Spells (item before) (fits before) (f before)) → (bytes : List ℕ) (v : List A) (rest : List ℕ) → IsBytes bytes → (r : Scan ℕ) → number_scan w32 bytes ≡ r → and_then r (λ count left. items_scan item [] count left) ≡ whole v rest → ListFits v × (bytes ≡ list_spelled v ++ rest)
  list-spelled each bytes v rest is (whole count behind) e h =
      let one = Meets-u32.spelled bytes count behind is e in
      let two = items-spelled each count [] behind v rest (IsBytes-rest bytes (to_be_bytes w32 count) behind one.1 is) h in
      let short_list : length v < 2 ^ 32 = omega (arith, two.2, one.0) in
      ((short_list, two.0), one.1 ∙ ap (λ (t : List ℕ). to_be_bytes w32 count ++ t) two.1 ∙ ap (λ (n : ℕ). to_be_bytes w32 n ++ (items_spelling f [] v ++ rest)) (sym two.2) ∙ sym (append_assoc (to_be_bytes w32 (length v)) (items_spelling f [] v) rest))
  list-spelled each bytes v rest is begun e h = absurd cc
  list-spelled each bytes v rest is (bad r k) e h = absurd cc

  pub Spells-list : ((before : List A) → Spells (item before) (fits before) (f before)) → Spells lists ListFits list_spelled
  Spells-list each bytes v rest is h = list-spelled each bytes v rest is (number_scan w32 bytes) refl h

  pub Meets-list : ((before : List A) → Meets (item before) (fits before) (f before)) → Meets lists ListFits list_spelled
  Meets-list each = record { again = list-again each; spelled = Spells-list (λ before. (each before).spelled) }
