-- Bytes that belong together, taken one by one.
use Rattle.std.proofs.Common.{◌≡◌, ◌⊎◌, inl, inr, ℕ, zero, suc, ◌+◌, ◌<◌, ◌≤◌, false, ltb, List, [], ◌∷◌, ◌++◌, length, drop, Option, Some, None, refl, sym, ap, ◌∙◌, append_assoc, append-nil, arith}
use Rattle.std.specs.Int.{Width, w32, byte_len, from_be_bytes}
use Rattle.std.proofs.lemmas.Bool.{le-ltb, cases_lt}
use Rattle.frame_forms.specs.declared.bad_kind.BadKind.{BadKind}
use Rattle.frame_forms.specs.Scans.{Scan, whole, begun, and_then, mapped, front_scan, number_scan, judged, run_scan}
use Rattle.frame_forms.proofs.Steady.{front_scan-again, front_scan-short, number_scan-again, number_scan-short}
use Rattle.frame_reader.specs.Rests.{Reading, then_read, gathered, number_of, judged_rest}
use Rattle.frame_reader.proofs.Forgetting.{and_then-same, and_then-and_then, and_then-mapped}

pub gathered-same : (front : List ℕ) (more : ℕ) (k l : List ℕ → ℕ → Reading) → ((f : List ℕ) (b : ℕ) (rest : List ℕ) → k f b rest ≡ l f b rest) → (bytes : List ℕ) → gathered front more k bytes ≡ gathered front more l bytes
unfolding gathered
gathered-same front more k l e [] = refl
gathered-same front zero k l e (byte ∷ rest) = e front byte rest
gathered-same front (suc more) k l e (byte ∷ rest) = gathered-same (front ++ byte ∷ []) more k l e rest

pub then_read-gathered : (front : List ℕ) (more : ℕ) (k : List ℕ → ℕ → Reading) (next : Reading) (bytes : List ℕ) → then_read (gathered front more k bytes) next ≡ gathered front more (λ f b rest. then_read (k f b rest) next) bytes
unfolding gathered
then_read-gathered front more k next [] = refl
then_read-gathered front zero k next (byte ∷ rest) = refl
then_read-gathered front (suc more) k next (byte ∷ rest) = then_read-gathered (front ++ byte ∷ []) more k next rest

-- this many of them at once
pub gathered-slice : (front chunk : List ℕ) (more : ℕ) (next : List ℕ → ℕ → Reading) (rest : List ℕ) → gathered front (length chunk + more) next (chunk ++ rest) ≡ gathered (front ++ chunk) more next rest
unfolding gathered
gathered-slice front [] more next rest =
    let same : 0 + more ≡ more = omega arith in
    ap (λ (n : ℕ). gathered front n next rest) same ∙ ap (λ (f : List ℕ). gathered f more next rest) (sym (append-nil front))
gathered-slice front (byte ∷ chunk) more next rest =
    let same : length (byte ∷ chunk) + more ≡ suc (length chunk + more) = omega arith in
    ap (λ (n : ℕ). gathered front n next (byte ∷ (chunk ++ rest))) same
    ∙ gathered-slice (front ++ byte ∷ []) chunk more next rest
    ∙ ap (λ (f : List ℕ). gathered f more next rest) (append_assoc front (byte ∷ []) chunk)

front_scan-cons : (count : ℕ) (byte : ℕ) (rest : List ℕ) → front_scan (suc count) (byte ∷ rest) ≡ mapped (λ (t : List ℕ). byte ∷ t) (front_scan count rest)
front_scan-cons count byte rest = go (cases_lt (length rest) count)
  where
    go : (length rest < count) ⊎ (count ≤ length rest) → front_scan (suc count) (byte ∷ rest) ≡ mapped (λ (t : List ℕ). byte ∷ t) (front_scan count rest)
    go (inl lt) = front_scan-short (suc count) (byte ∷ rest) (omega (arith, lt)) ∙ ap (mapped (λ (t : List ℕ). byte ∷ t)) (sym (front_scan-short count rest lt))
    go (inr le) =
        let here : ltb (length rest) count ≡ false = le-ltb _ _ (omega (arith, le)) in
        let there : ltb (length (byte ∷ rest)) (suc count) ≡ false = le-ltb _ _ (omega (arith, le)) in
        rw (here, there) refl

-- What depends on gathered bytes, and on the bytes from the last one of them on.
pub front_gathered : (front : List ℕ) (more : ℕ) (g : List ℕ → List ℕ → Reading) (bytes : List ℕ)
    → and_then (front_scan (suc more) bytes) (λ run behind. g (front ++ run) (drop more bytes) behind) ≡ gathered front more (λ f last behind. g (f ++ last ∷ []) (last ∷ behind) behind) bytes
unfolding gathered
front_gathered front more g [] = ap (λ (s : Scan (List ℕ)). and_then s (λ run behind. g (front ++ run) (drop more []) behind)) (front_scan-short (suc more) [] (omega arith))
front_gathered front zero g (byte ∷ rest) = ap (λ (s : Scan (List ℕ)). and_then s (λ run behind. g (front ++ run) (byte ∷ rest) behind)) (front_scan-again 1 (byte ∷ []) rest refl)
front_gathered front (suc more) g (byte ∷ rest) =
    ap (λ (s : Scan (List ℕ)). and_then s (λ run behind. g (front ++ run) (drop more rest) behind)) (front_scan-cons (suc more) byte rest)
    ∙ and_then-mapped (λ (t : List ℕ). byte ∷ t) (front_scan (suc more) rest) (λ run behind. g (front ++ run) (drop more rest) behind)
    ∙ and_then-same (front_scan (suc more) rest) (λ run behind. g (front ++ byte ∷ run) (drop more rest) behind) (λ run behind. g ((front ++ byte ∷ []) ++ run) (drop more rest) behind)
    (λ run behind. ap (λ (t : List ℕ). g t (drop more rest) behind) (sym (append_assoc front (byte ∷ []) run)))
    ∙ front_gathered (front ++ byte ∷ []) more g rest

pub number_gathered : (w : Width) (more : ℕ) (k : ℕ → Reading) (bytes : List ℕ) → byte_len w ≡ suc more → and_then (number_scan w bytes) k ≡ gathered [] more (λ f b rest. k (from_be_bytes w (f ++ b ∷ [])) rest) bytes
unfolding number_scan
number_gathered w more k bytes len =
    and_then-and_then (front_scan (byte_len w) bytes) (λ front rest. whole (from_be_bytes w front) rest) k
    ∙ ap (λ (n : ℕ). and_then (front_scan n bytes) (λ front rest. k (from_be_bytes w front) rest)) len
    ∙ front_gathered [] more (λ all last rest. k (from_be_bytes w all) rest) bytes

-- ---- runs

-- a run that is judged at its last byte, and what comes next
abbrev pub run_done : (List ℕ → Option BadKind) → (List ℕ → Reading) → List ℕ → ℕ → Reading
run_done fault k text byte rest = judged_rest (fault text) byte (k text) rest

abbrev pub run_behind : (List ℕ → Option BadKind) → (List ℕ → Reading) → ℕ → ℕ → Reading
run_behind fault k zero byte rest = run_done fault k [] byte rest
run_behind fault k (suc more) byte rest = gathered [] more (λ front last behind. run_done fault k (front ++ last ∷ []) last behind) rest

module _ (fault : List ℕ → Option BadKind) (k : List ℕ → Reading) where
  judged-then : (o : Option BadKind) (text : List ℕ) (byte : ℕ) (rest : List ℕ) → and_then (judged o text rest (byte ∷ rest)) k ≡ judged_rest o byte (k text) rest
  judged-then None text byte rest = refl
  judged-then (Some kind) text byte rest = refl

  judges : List ℕ → List ℕ → List ℕ → Scan (Unit {0})
  judges text last behind = and_then (judged (fault text) text behind last) k

  behind_length : (a b c d count : ℕ) (rest : List ℕ) → and_then (and_then (front_scan count rest) (λ run behind. judged (fault run) run behind (drop (count + 3) (a ∷ b ∷ c ∷ d ∷ rest)))) k ≡ run_behind fault k count d rest
  unfolding judges
  behind_length a b c d zero rest =
      ap (λ (s : Scan (List ℕ)). and_then (and_then s (λ run behind. judged (fault run) run behind (d ∷ rest))) k) (front_scan-again 0 [] rest refl)
      ∙ judged-then (fault []) [] d rest
  behind_length a b c d (suc more) rest =
      let same : suc more + 3 ≡ suc (suc (suc (suc more))) = omega arith in
      ap (λ (n : ℕ). and_then (and_then (front_scan (suc more) rest) (λ run behind. judged (fault run) run behind (drop n (a ∷ b ∷ c ∷ d ∷ rest)))) k) same
      ∙ and_then-and_then (front_scan (suc more) rest) (λ run behind. judged (fault run) run behind (drop more rest)) k
      ∙ front_gathered [] more judges rest
      ∙ gathered-same [] more (λ f last behind. judges (f ++ last ∷ []) (last ∷ behind) behind) (λ f last behind. run_done fault k (f ++ last ∷ []) last behind)
      (λ f last behind. judged-then (fault (f ++ last ∷ [])) (f ++ last ∷ []) last behind) rest

  counted_run : List ℕ → ℕ → List ℕ → Scan (List ℕ)
  counted_run bytes count rest = and_then (front_scan count rest) (λ run behind. judged (fault run) run behind (drop (count + 3) bytes))

  run_short : (bytes : List ℕ) → length bytes < 4 → and_then (run_scan fault bytes) k ≡ begun
  unfolding run_scan
  run_short bytes lt = ap (λ (s : Scan ℕ). and_then (and_then s (λ count rest. and_then (front_scan count rest) (λ run behind. judged (fault run) run behind (drop (count + 3) bytes)))) k) (number_scan-short w32 bytes lt)

  pub run_gathered : (bytes : List ℕ) → and_then (run_scan fault bytes) k ≡ gathered [] 3 (λ front byte rest. run_behind fault k (number_of front byte) byte rest) bytes
  unfolding run_scan gathered
  run_gathered [] = run_short [] (omega arith)
  run_gathered (a ∷ []) = run_short (a ∷ []) (omega arith)
  run_gathered (a ∷ b ∷ []) = run_short (a ∷ b ∷ []) (omega arith)
  run_gathered (a ∷ b ∷ c ∷ []) = run_short (a ∷ b ∷ c ∷ []) (omega arith)
  run_gathered (a ∷ b ∷ c ∷ d ∷ rest) =
      let all = a ∷ b ∷ c ∷ d ∷ rest in
      ap (λ (s : Scan ℕ). and_then (and_then s (λ count behind. and_then (front_scan count behind) (λ run after. judged (fault run) run after (drop (count + 3) all)))) k)
      (number_scan-again w32 (a ∷ b ∷ c ∷ d ∷ []) rest (number_of (a ∷ b ∷ c ∷ []) d) refl refl)
      ∙ behind_length a b c d (number_of (a ∷ b ∷ c ∷ []) d) rest
