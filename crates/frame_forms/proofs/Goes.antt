-- Of each form: what is begun goes on, but for what is asked of texts and of the nesting.
use Rattle.std.proofs.Common.{◌≡◌, ◌⊎◌, inl, inr, ℕ, zero, suc, ◌+◌, ◌-◌, ◌<◌, ◌≤◌, ◌^◌, Bool, cond, List, [], ◌∷◌, ◌++◌, length, get_or, take, drop, Option, Some, None, refl, sym, ap, subst, ◌∙◌, append_assoc, arith}
use Rattle.std.specs.Int.{Width, w16, w32, w64, byte_len, from_be_bytes, to_be_bytes, cast_signed}
use Rattle.std.specs.Int.RustNames.{FitsSigned}
use Rattle.std.proofs.lemmas.Bool.{cases_lt, le-ltb}
use Rattle.std.proofs.lemmas.List.{take-append-drop, length-append, length-take, get_or_append_left, get_or-append-add}
use Rattle.std.proofs.lemmas.Nat.{be_bytes_2}
use Rattle.apt_base.specs.Fields.{i64_form, bytes_form}
use Rattle.apt_base.proofs.FieldsLemmas.{IsBytes-front, IsBytes-rest}
use Rattle.frame_forms.specs.declared.bad_kind.BadKind.{BadKind}
use Rattle.frame_forms.specs.declared.bad_kind.BadKind.TheVariants as kinds
use Rattle.frame_forms.specs.Scans.{Scan, whole, begun, bad, and_then, mapped, front_scan, number_scan, named, byte_scan, judged, run_scan, opt_scan, items_scan}
use Rattle.frame_forms.specs.Forms.{Numbering, OptFits, EachFits, opt_spelling, items_spelling, bool_at}
use Rattle.frame_forms.specs.ScanLaws.{IsBytes, Spells}
use Rattle.frame_forms.specs.Loosened.{GoesOn}
use Rattle.frame_forms.proofs.Steady.{number_scan-takes, number_scan-again, number_scan-short}
use Rattle.frame_forms.proofs.Meets.{Spells-pairs, Spells-made, Spells-opt, Spells-list, Meets-nothing, Meets-byte, Meets-u16, Meets-u32, Meets-i64, Meets-run, u32_head, i64_head}

-- what is read fits loosely; what is begun goes on; and there is a value
pub record Loosely {A : Type 0} (scan : List ℕ → Scan A) (fits : A → Type 0) (f : A → List ℕ) : Type 0 where
  pub reads : Spells scan fits f
  pub goes : (bytes : List ℕ) → IsBytes bytes → scan bytes ≡ begun → GoesOn fits f bytes
  pub some : (a : A) × fits a

-- ---- zeros

abbrev zeros : ℕ → List ℕ
zeros zero = []
zeros (suc n) = 0 ∷ zeros n

length-zeros : (n : ℕ) → length (zeros n) ≡ n
length-zeros zero = refl
length-zeros (suc n) = ap suc (length-zeros n)

zeros_at : (n i : ℕ) → get_or (zeros n) i 0 ≡ 0
zeros_at zero i = refl
zeros_at (suc n) zero = refl
zeros_at (suc n) (suc i) = zeros_at n i

with_zeros : (bytes : List ℕ) (n : ℕ) → IsBytes bytes → IsBytes (bytes ++ zeros n)
with_zeros bytes n are i = go (cases_lt i (length bytes))
  where
    go : (i < length bytes) ⊎ (length bytes ≤ i) → get_or (bytes ++ zeros n) i 0 < 256
    go (inl lt) = rw (get_or_append_left bytes (zeros n) 0 i lt) (are i)
    go (inr le) =
        let at : i ≡ length bytes + (i - length bytes) = omega (arith, le) in
        let same : get_or (bytes ++ zeros n) i 0 ≡ 0 = ap (λ (k : ℕ). get_or (bytes ++ zeros n) k 0) at ∙ get_or-append-add bytes (zeros n) (i - length bytes) 0 ∙ zeros_at n (i - length bytes) in
        omega (arith, same)

padded_length : (bytes : List ℕ) (n : ℕ) → length bytes < n → length (bytes ++ zeros (n - length bytes)) ≡ n
padded_length bytes n lt = omega (arith, length-append bytes (zeros (n - length bytes)), length-zeros (n - length bytes), lt)

-- ---- numbers

front_is_begun : (count : ℕ) (bytes : List ℕ) → front_scan count bytes ≡ begun → length bytes < count
front_is_begun count bytes e = go (cases_lt (length bytes) count)
  where
    go : (length bytes < count) ⊎ (count ≤ length bytes) → length bytes < count
    go (inl lt) = lt
    go (inr le) =
        let wrong : whole (take count bytes) (drop count bytes) ≡ begun = ap (λ (b : Bool). cond b begun (whole (take count bytes) (drop count bytes))) (sym (le-ltb (length bytes) count le)) ∙ e in
        absurd (cc)

number_is_begun : (w : Width) (bytes : List ℕ) → number_scan w bytes ≡ begun → length bytes < byte_len w
number_is_begun w bytes e = go (cases_lt (length bytes) (byte_len w))
  where
    go : (length bytes < byte_len w) ⊎ (byte_len w ≤ length bytes) → length bytes < byte_len w
    go (inl lt) = lt
    go (inr le) =
        let head = take (byte_len w) bytes in
        let read = number_scan-again w head (drop (byte_len w) bytes) (from_be_bytes w head) (omega (arith, length-take (byte_len w) bytes, le)) refl in
        let wrong : whole (from_be_bytes w head) (drop (byte_len w) bytes) ≡ begun = sym read ∙ ap (number_scan w) (take-append-drop (byte_len w) bytes) ∙ e in
        absurd (cc)

u16_goes : (bytes : List ℕ) → IsBytes bytes → number_scan w16 bytes ≡ begun → GoesOn (λ n. n < 2 ^ 16) (λ n. to_be_bytes w16 n) bytes
u16_goes bytes are e =
    let lt : length bytes < 2 = number_is_begun w16 bytes e in
    let more = zeros (2 - length bytes) in
    let fits = with_zeros bytes (2 - length bytes) are in
    let head = bytes ++ more in
    record {
      value = from_be_bytes w16 head;
      more = more;
      fit = omega (arith, fits 0, fits 1);
      split = sym (be_bytes_2 head (from_be_bytes w16 head) (padded_length bytes 2 lt) fits refl);
    }

u32_goes : (bytes : List ℕ) → IsBytes bytes → number_scan w32 bytes ≡ begun → GoesOn (λ n. n < 2 ^ 32) (λ n. to_be_bytes w32 n) bytes
u32_goes bytes are e =
    let lt : length bytes < 4 = number_is_begun w32 bytes e in
    let more = zeros (4 - length bytes) in
    let head = bytes ++ more in
    let k = u32_head head (from_be_bytes w32 head) (with_zeros bytes (4 - length bytes) are) (padded_length bytes 4 lt) refl in
    record { value = from_be_bytes w32 head; more = more; fit = k.0; split = k.1 }

mapped_begun : {A B : Type 0} (make : A → B) (r : Scan A) → mapped make r ≡ begun → r ≡ begun
mapped_begun make (whole a rest) e = absurd cc
mapped_begun make begun e = refl
mapped_begun make (bad rest kind) e = absurd cc

pub Loosely-u16 : Loosely (number_scan w16) (λ n. n < 2 ^ 16) (λ n. to_be_bytes w16 n)
Loosely-u16 = record { reads = Meets-u16.spelled; goes = u16_goes; some = (0, omega arith) }

pub Loosely-u32 : Loosely (number_scan w32) (λ n. n < 2 ^ 32) (λ n. to_be_bytes w32 n)
Loosely-u32 = record { reads = Meets-u32.spelled; goes = u32_goes; some = (0, omega arith) }

i64_goes : (bytes : List ℕ) → IsBytes bytes → mapped (cast_signed w64) (number_scan w64 bytes) ≡ begun → GoesOn (λ z. FitsSigned w64 z) i64_form bytes
i64_goes bytes are e =
    let lt : length bytes < 8 = number_is_begun w64 bytes (mapped_begun (cast_signed w64) (number_scan w64 bytes) e) in
    let more = zeros (8 - length bytes) in
    let head = bytes ++ more in
    let k = i64_head head (from_be_bytes w64 head) (with_zeros bytes (8 - length bytes) are) (padded_length bytes 8 lt) refl in
    record { value = cast_signed w64 (from_be_bytes w64 head); more = more; fit = k.0; split = k.1 }

pub Loosely-i64 : Loosely (λ bytes. mapped (cast_signed w64) (number_scan w64 bytes)) (λ z. FitsSigned w64 z) i64_form
Loosely-i64 =
    let some = i64_goes [] (λ i. omega arith) refl_begun in
    record { reads = Meets-i64.spelled; goes = i64_goes; some = (some.value, some.fit) }
  where
    refl_begun : mapped (cast_signed w64) (number_scan w64 []) ≡ begun
    refl_begun = ap (mapped (cast_signed w64)) (number_scan-short w64 [] (omega arith))

-- ---- nothing, and a byte

pub Loosely-nothing : Loosely (λ bytes. whole tt bytes) (λ (u : Unit {0}). Unit {0}) (λ u. [])
Loosely-nothing = record { reads = Meets-nothing.spelled; goes = λ bytes are e. absurd cc; some = (tt, tt) }

module _ {A : Type 0} (kind : BadKind) (numbers : Numbering A) (sound : (n : ℕ) (a : A) → numbers.at n ≡ Some a → numbers.number_of a ≡ n) (a : A) (there : numbers.at (numbers.number_of a) ≡ Some a) where
  named_begun : (of : Option A) (b : ℕ) (rest : List ℕ) → named kind of b rest ≡ begun → ⊥
  named_begun (Some x) b rest e = cc
  named_begun None b rest e = cc

  byte_goes : (bytes : List ℕ) → IsBytes bytes → byte_scan kind numbers.at bytes ≡ begun → GoesOn (λ x. numbers.at (numbers.number_of x) ≡ Some x) (λ x. numbers.number_of x ∷ []) bytes
  unfolding byte_scan
  byte_goes [] are e = record { value = a; more = numbers.number_of a ∷ []; fit = there; split = refl }
  byte_goes (b ∷ rest) are e = absurd (named_begun (numbers.at b) b rest e)

  pub Loosely-byte : Loosely (byte_scan kind numbers.at) (λ x. numbers.at (numbers.number_of x) ≡ Some x) (λ x. numbers.number_of x ∷ [])
  Loosely-byte = record { reads = (Meets-byte kind numbers sound).spelled; goes = byte_goes; some = (a, there) }

-- ---- runs of bytes

module _ (fault : List ℕ → Option BadKind) where
  abbrev no_fault : List ℕ → Option BadKind
  no_fault bytes = None

  abbrev RunFits : List ℕ → Type 0
  RunFits run = (no_fault run ≡ None) × (length run < 2 ^ 32)

  judged_begun : (of : Option BadKind) (run rest last : List ℕ) → judged of run rest last ≡ begun → ⊥
  judged_begun None run rest last e = cc
  judged_begun (Some k) run rest last e = cc

  -- the count is there, and the run is begun
  run_behind : (bytes head rest : List ℕ) (count : ℕ) → IsBytes bytes → bytes ≡ head ++ rest → length head ≡ 4 → from_be_bytes w32 head ≡ count → length rest < count → GoesOn RunFits bytes_form bytes
  run_behind bytes head rest count are split four worth lt =
      let more = zeros (count - length rest) in
      let all = rest ++ more in
      let len : length all ≡ count = padded_length rest count lt in
      let k = u32_head head count (IsBytes-front bytes head rest split are) four worth in
      record {
        value = all;
        more = more;
        fit = (refl, omega (arith, len, k.0));
        split = ap (λ (t : List ℕ). t ++ more) split ∙ append_assoc head rest more ∙ ap (λ (t : List ℕ). t ++ all) (k.1 ∙ ap (λ (n : ℕ). to_be_bytes w32 n) (sym len));
      }

  -- the count is begun
  run_before : (bytes : List ℕ) → IsBytes bytes → number_scan w32 bytes ≡ begun → GoesOn RunFits bytes_form bytes
  run_before bytes are e =
      let g = u32_goes bytes are e in
      let len : length (zeros g.value) ≡ g.value = length-zeros g.value in
      record {
        value = zeros g.value;
        more = g.more ++ zeros g.value;
        fit = (refl, omega (arith, len, g.fit));
        split = sym (append_assoc bytes g.more (zeros g.value)) ∙ ap (λ (t : List ℕ). t ++ zeros g.value) (g.split ∙ ap (λ (n : ℕ). to_be_bytes w32 n) (sym len));
      }

  run_goes : (bytes : List ℕ) → IsBytes bytes → run_scan fault bytes ≡ begun → GoesOn RunFits bytes_form bytes
  unfolding run_scan
  run_goes bytes are e = go (number_scan w32 bytes) refl e
    where
      within : (count : ℕ) (head rest : List ℕ) → bytes ≡ head ++ rest → length head ≡ 4 → from_be_bytes w32 head ≡ count → (r : Scan (List ℕ)) → front_scan count rest ≡ r → and_then r (λ run behind. judged (fault run) run behind (drop (count + 3) bytes)) ≡ begun → GoesOn RunFits bytes_form bytes
      within count head rest split four worth (whole run behind) f h = absurd (judged_begun (fault run) run behind (drop (count + 3) bytes) h)
      within count head rest split four worth begun f h = run_behind bytes head rest count are split four worth (front_is_begun count rest f)
      within count head rest split four worth (bad r k) f h = absurd cc

      go : (r : Scan ℕ) → number_scan w32 bytes ≡ r → and_then r (λ count rest. and_then (front_scan count rest) (λ run behind. judged (fault run) run behind (drop (count + 3) bytes))) ≡ begun → GoesOn RunFits bytes_form bytes
      go (whole count rest) f h = let t = number_scan-takes w32 bytes count rest f in within count t.0 rest t.1 t.2 t.3 (front_scan count rest) refl h
      go begun f h = run_before bytes are f
      go (bad r k) f h = absurd cc

  pub Loosely-run : Loosely (run_scan fault) RunFits bytes_form
  Loosely-run = record {
    reads = λ bytes a rest are e. (let m = (Meets-run fault).spelled bytes a rest are e in ((refl, m.0.1), m.1));
    goes = run_goes;
    some = ([], (refl, omega arith));
  }

-- ---- one thing after another, and the same bytes for another value

and_then_begun : {A B : Type 0} (r : Scan A) (next : A → List ℕ → Scan B) → and_then r next ≡ begun → (r ≡ begun) ⊎ ((a : A) × (rest : List ℕ) × (r ≡ whole a rest) × (next a rest ≡ begun))
and_then_begun (whole a rest) next e = inr (a, rest, refl, e)
and_then_begun begun next e = inl refl
and_then_begun (bad rest kind) next e = absurd cc

module _ {A : Type 0} {B : A → Type 0} (s : List ℕ → Scan A) (next : (a : A) → List ℕ → Scan (B a)) (fits : A → Type 0) (fits_next : (a : A) → B a → Type 0) (f : A → List ℕ) (g : (a : A) → B a → List ℕ)
    (first : Loosely s fits f) (second : (a : A) → Loosely (next a) (fits_next a) (g a)) where
  abbrev PairFit : (a : A) × B a → Type 0
  PairFit v = fits v.0 × fits_next v.0 v.1

  abbrev pair_form : (a : A) × B a → List ℕ
  pair_form v = f v.0 ++ g v.0 v.1

  pair_goes : (bytes : List ℕ) → IsBytes bytes → (s bytes ≡ begun) ⊎ ((a : A) × (rest : List ℕ) × (s bytes ≡ whole a rest) × (next a rest ≡ begun)) → GoesOn PairFit pair_form bytes
  pair_goes bytes are (inl e) =
      let one = first.goes bytes are e in
      let two = (second one.value).some in
      record {
        value = (one.value, two.0);
        more = one.more ++ g one.value two.0;
        fit = (one.fit, two.1);
        split = sym (append_assoc bytes one.more (g one.value two.0)) ∙ ap (λ (t : List ℕ). t ++ g one.value two.0) one.split;
      }
  pair_goes bytes are (inr (a, rest, e, h)) =
      let one = first.reads bytes a rest are e in
      let two = (second a).goes rest (IsBytes-rest bytes (f a) rest one.1 are) h in
      record {
        value = (a, two.value);
        more = two.more;
        fit = (one.0, two.fit);
        split = ap (λ (t : List ℕ). t ++ two.more) one.1 ∙ append_assoc (f a) rest two.more ∙ ap (λ (t : List ℕ). f a ++ t) two.split;
      }

  pair_begun : (bytes : List ℕ) → and_then {B = (a : A) × B a} (s bytes) (λ a rest. mapped (λ b. (a, b)) (next a rest)) ≡ begun → (s bytes ≡ begun) ⊎ ((a : A) × (rest : List ℕ) × (s bytes ≡ whole a rest) × (next a rest ≡ begun))
  pair_begun bytes e = go (and_then_begun {B = (a : A) × B a} (s bytes) (λ a rest. mapped (λ b. (a, b)) (next a rest)) e)
    where
      go : (s bytes ≡ begun) ⊎ ((a : A) × (rest : List ℕ) × (s bytes ≡ whole a rest) × (mapped {B = (x : A) × B x} (λ b. (a, b)) (next a rest) ≡ begun)) → (s bytes ≡ begun) ⊎ ((a : A) × (rest : List ℕ) × (s bytes ≡ whole a rest) × (next a rest ≡ begun))
      go (inl e) = inl e
      go (inr (a, rest, e, h)) = inr (a, rest, e, mapped_begun {B = (x : A) × B x} (λ b. (a, b)) (next a rest) h)

  pub Loosely-pairs : Loosely (λ bytes. and_then {B = (a : A) × B a} (s bytes) (λ a rest. mapped (λ b. (a, b)) (next a rest))) PairFit pair_form
  Loosely-pairs = record {
    reads = Spells-pairs s next fits fits_next f g first.reads (λ a. (second a).reads);
    goes = λ bytes are e. pair_goes bytes are (pair_begun bytes e);
    some = ((first.some.0, (second first.some.0).some.0), (first.some.1, (second first.some.0).some.1));
  }

module _ {A B : Type 0} (make : A → B) (show : B → A) (s : List ℕ → Scan A) (fits : A → Type 0) (f : A → List ℕ) (shown : (a : A) → show (make a) ≡ a) (first : Loosely s fits f) where
  pub Loosely-made : Loosely (λ bytes. mapped make (s bytes)) (λ b. fits (show b)) (λ b. f (show b))
  Loosely-made = record {
    reads = Spells-made make show s fits f shown first.reads;
    goes = λ bytes are e.
        (let one = first.goes bytes are (mapped_begun make (s bytes) e) in
        record { value = make one.value; more = one.more; fit = subst fits (sym (shown one.value)) one.fit; split = one.split ∙ ap f (sym (shown one.value)) });
    some = (make first.some.0, subst fits (sym (shown first.some.0)) first.some.1);
  }

-- ---- none or one, and any number

module _ {A : Type 0} (item : List ℕ → Scan A) (fits : A → Type 0) (f : A → List ℕ) (one : Loosely item fits f) where
  opt_goes : (bytes : List ℕ) → IsBytes bytes → and_then (byte_scan kinds.Field bool_at bytes) (λ is_there rest. opt_scan item is_there rest) ≡ begun → GoesOn (OptFits fits) (opt_spelling f) bytes
  unfolding byte_scan
  opt_goes [] are e = record { value = None; more = 0 ∷ []; fit = tt; split = refl }
  opt_goes (zero ∷ rest) are e = absurd cc
  opt_goes (suc zero ∷ rest) are e =
      let g = one.goes rest (IsBytes-rest (1 ∷ rest) (1 ∷ []) rest refl are) (mapped_begun Some (item rest) e) in
      record { value = Some g.value; more = g.more; fit = g.fit; split = ap (λ (t : List ℕ). 1 ∷ t) g.split }
  opt_goes (suc (suc b) ∷ rest) are e = absurd cc

  pub Loosely-opt : Loosely (λ bytes. and_then (byte_scan kinds.Field bool_at bytes) (λ is_there rest. opt_scan item is_there rest)) (OptFits fits) (opt_spelling f)
  Loosely-opt = record { reads = Spells-opt item fits f one.reads; goes = opt_goes; some = (None, tt) }

module _ {A : Type 0} (item : List A → List ℕ → Scan A) (fits : List A → A → Type 0) (f : List A → A → List ℕ) (each : (before : List A) → Loosely (item before) (fits before) (f before)) where
  -- this many items that fit
  record Filled (before : List A) (count : ℕ) : Type 0 where
    items : List A
    fit : EachFits fits before items
    len : length items ≡ count

  filled : (count : ℕ) (before : List A) → Filled before count
  filled zero before = record { items = []; fit = tt; len = refl }
  filled (suc count) before =
      let first = (each before).some in
      let others = filled count (first.0 ∷ before) in
      record { items = first.0 ∷ others.items; fit = (first.1, others.fit); len = ap suc others.len }

  -- items that bytes go on to
  record ItemsGo (before : List A) (count : ℕ) (bytes : List ℕ) : Type 0 where
    items : List A
    more : List ℕ
    fit : EachFits fits before items
    len : length items ≡ count
    split : bytes ++ more ≡ items_spelling f before items

  items_go : (count : ℕ) (before : List A) (bytes : List ℕ) → IsBytes bytes → items_scan item before count bytes ≡ begun → ItemsGo before count bytes
  unfolding items_scan
  items_go zero before bytes are e = absurd cc
  items_go (suc count) before bytes are e =
      go (λ a rest. items_go count (a ∷ before) rest) (and_then_begun (item before bytes) (λ first rest. mapped (λ (others : List A). first ∷ others) (items_scan item (first ∷ before) count rest)) e)
    where
      go : ((a : A) (rest : List ℕ) → IsBytes rest → items_scan item (a ∷ before) count rest ≡ begun → ItemsGo (a ∷ before) count rest)
          → (item before bytes ≡ begun) ⊎ ((a : A) × (rest : List ℕ) × (item before bytes ≡ whole a rest) × (mapped (λ (others : List A). a ∷ others) (items_scan item (a ∷ before) count rest) ≡ begun))
          → ItemsGo before (suc count) bytes
      go later (inl h) =
          let one = (each before).goes bytes are h in
          let others = filled count (one.value ∷ before) in
          let tail = items_spelling f (one.value ∷ before) others.items in
          record {
            items = one.value ∷ others.items;
            more = one.more ++ tail;
            fit = (one.fit, others.fit);
            len = ap suc others.len;
            split = sym (append_assoc bytes one.more tail) ∙ ap (λ (t : List ℕ). t ++ tail) one.split;
          }
      go later (inr (a, rest, h, g)) =
          let one = (each before).reads bytes a rest are h in
          let others = later a rest (IsBytes-rest bytes (f before a) rest one.1 are) (mapped_begun (λ (o : List A). a ∷ o) (items_scan item (a ∷ before) count rest) g) in
          record {
            items = a ∷ others.items;
            more = others.more;
            fit = (one.0, others.fit);
            len = ap suc others.len;
            split = ap (λ (t : List ℕ). t ++ others.more) one.1 ∙ append_assoc (f before a) rest others.more ∙ ap (λ (t : List ℕ). f before a ++ t) others.split;
          }

  abbrev ListFit : List A → Type 0
  ListFit v = (length v < 2 ^ 32) × EachFits fits [] v

  abbrev list_form : List A → List ℕ
  list_form v = to_be_bytes w32 (length v) ++ items_spelling f [] v

  list_goes : (bytes : List ℕ) → IsBytes bytes → (number_scan w32 bytes ≡ begun) ⊎ ((count : ℕ) × (rest : List ℕ) × (number_scan w32 bytes ≡ whole count rest) × (items_scan item [] count rest ≡ begun)) → GoesOn ListFit list_form bytes
  list_goes bytes are (inl e) =
      let n = u32_goes bytes are e in
      let others = filled n.value [] in
      let tail = items_spelling f [] others.items in
      record {
        value = others.items;
        more = n.more ++ tail;
        fit = (omega (arith, others.len, n.fit), others.fit);
        split = sym (append_assoc bytes n.more tail) ∙ ap (λ (t : List ℕ). t ++ tail) (n.split ∙ ap (λ (k : ℕ). to_be_bytes w32 k) (sym others.len));
      }
  list_goes bytes are (inr (count, rest, e, h)) =
      let one = Meets-u32.spelled bytes count rest are e in
      let others = items_go count [] rest (IsBytes-rest bytes (to_be_bytes w32 count) rest one.1 are) h in
      record {
        value = others.items;
        more = others.more;
        fit = (omega (arith, others.len, one.0), others.fit);
        split = ap (λ (t : List ℕ). t ++ others.more) one.1 ∙ append_assoc (to_be_bytes w32 count) rest others.more ∙ ap (λ (t : List ℕ). to_be_bytes w32 count ++ t) others.split
            ∙ ap (λ (k : ℕ). to_be_bytes w32 k ++ items_spelling f [] others.items) (sym others.len);
      }

  pub Loosely-list : Loosely (λ bytes. and_then (number_scan w32 bytes) (λ count rest. items_scan item [] count rest)) ListFit list_form
  Loosely-list = record {
    reads = Spells-list item fits f (λ before. (each before).reads);
    goes = λ bytes are e. list_goes bytes are (and_then_begun (number_scan w32 bytes) (λ count rest. items_scan item [] count rest) e);
    some = ([], (omega arith, tt));
  }
