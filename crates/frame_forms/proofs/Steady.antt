-- Each form is read so that what stands behind a value does not matter, and that the first bad byte is found as soon as it is there.
use Rattle.std.proofs.Common.{◌≡◌, ◌⊎◌, inl, inr, ℕ, zero, suc, ◌+◌, ◌<◌, ◌≤◌, Bool, true, false, cond, ltb, List, [], ◌∷◌, ◌++◌, length, take, drop, Option, Some, None, refl, sym, ap, ◌∙◌, append_assoc, append-nil, arith}
use Rattle.std.specs.Int.{Width, w32, byte_len, from_be_bytes}
use Rattle.std.proofs.lemmas.Bool.{ltb-false, le-ltb, lt-ltb}
use Rattle.std.proofs.lemmas.List.{take_at, drop_at, take-append-drop, length-append, length-take}
use Rattle.frame_forms.specs.declared.bad_kind.BadKind.{BadKind}
use Rattle.frame_forms.specs.Scans.{Scan, whole, begun, bad, and_then, mapped, front_scan, number_scan, named, byte_scan, judged, run_scan, opt_scan, items_scan}
use Rattle.frame_forms.specs.ScanLaws.{Takes, Stops, Steady}

pub whole_value : {A : Type 0} (a b : A) (r s : List ℕ) → whole a r ≡ whole b s → a ≡ b
whole_value a b r s e = cc

pub whole_rest : {A : Type 0} (a b : A) (r s : List ℕ) → whole a r ≡ whole b s → r ≡ s
whole_rest a b r s e = cc

same_bad : {A : Type 0} (r s : List ℕ) (k l : BadKind) → r ≡ s → k ≡ l → (let a : Scan A = bad r k in a) ≡ bad s l
same_bad {A} r s k l p q = ap (λ (t : List ℕ). let b : Scan A = bad t k in b) p ∙ ap (λ (m : BadKind). let b : Scan A = bad s m in b) q

-- ---- nothing, and one thing after another

pub Steady-whole : {A : Type 0} (a : A) → Steady (λ bytes. whole a bytes)
Steady-whole a = record {
  takes = λ bytes b rest e. record { used = []; split = whole_rest a b bytes rest e; again = λ later. ap (λ c. whole c later) (whole_value a b bytes rest e) };
  stops = λ bytes rest kind e. absurd cc;
}

module _ {A B : Type 0} (s : List ℕ → Scan A) (next : A → List ℕ → Scan B) (first : Steady s) (second : (a : A) → Steady (next a)) where
  abbrev joined : List ℕ → Scan B
  joined bytes = and_then (s bytes) next

  taken_then : (used rest : List ℕ) (a : A) (all later : List ℕ) → s (used ++ later) ≡ whole a later → joined (used ++ later) ≡ next a later
  taken_then used rest a all later e = ap (λ (r : Scan A). and_then r next) e

  joined-takes : (bytes : List ℕ) (r : Scan A) → s bytes ≡ r → (b : B) (rest : List ℕ) → and_then r next ≡ whole b rest → Takes joined bytes b rest
  joined-takes bytes (whole a behind) e b rest h =
      let one = first.takes bytes a behind e in
      let two = (second a).takes behind b rest h in
      record {
        used = one.used ++ two.used;
        split = one.split ∙ ap (λ (t : List ℕ). one.used ++ t) two.split ∙ sym (append_assoc one.used two.used rest);
        again = λ later. ap joined (append_assoc one.used two.used later) ∙ ap (λ (r : Scan A). and_then r next) (one.again (two.used ++ later)) ∙ two.again later;
      }
  joined-takes bytes begun e b rest h = absurd cc
  joined-takes bytes (bad r k) e b rest h = absurd cc

  joined-stops : (bytes : List ℕ) (r : Scan A) → s bytes ≡ r → (rest : List ℕ) (kind : BadKind) → and_then r next ≡ bad rest kind → Stops joined bytes rest kind
  joined-stops bytes (whole a behind) e rest kind h =
      let one = first.takes bytes a behind e in
      let two = (second a).stops behind rest kind h in
      record {
        front = one.used ++ two.front;
        byte = two.byte;
        more = two.more;
        split = one.split ∙ ap (λ (t : List ℕ). one.used ++ t) two.split ∙ sym (append_assoc one.used two.front (two.byte ∷ two.more));
        from = two.from;
        before = ap (λ (r : Scan A). and_then r next) (one.again two.front) ∙ two.before;
        after = λ later. ap joined (append_assoc one.used two.front (two.byte ∷ later)) ∙ ap (λ (r : Scan A). and_then r next) (one.again (two.front ++ two.byte ∷ later)) ∙ two.after later;
      }
  joined-stops bytes begun e rest kind h = absurd cc
  joined-stops bytes (bad r k) e rest kind h =
      let same : bad r k ≡ bad rest kind = h in
      let one = first.stops bytes rest kind (e ∙ cc) in
      record {
        front = one.front;
        byte = one.byte;
        more = one.more;
        split = one.split;
        from = one.from;
        before = ap (λ (r : Scan A). and_then r next) one.before;
        after = λ later. ap (λ (r : Scan A). and_then r next) (one.after later);
      }

  pub Steady-and_then : Steady (λ bytes. and_then (s bytes) next)
  Steady-and_then = record {
    takes = λ bytes b rest h. joined-takes bytes (s bytes) refl b rest h;
    stops = λ bytes rest kind h. joined-stops bytes (s bytes) refl rest kind h;
  }

module _ {A B : Type 0} (make : A → B) (s : List ℕ → Scan A) (first : Steady s) where
  made-takes : (bytes : List ℕ) (r : Scan A) → s bytes ≡ r → (b : B) (rest : List ℕ) → mapped make r ≡ whole b rest → Takes (λ bytes. mapped make (s bytes)) bytes b rest
  made-takes bytes (whole a behind) e b rest h =
      let one = first.takes bytes a behind e in
      record {
        used = one.used;
        split = one.split ∙ ap (λ (t : List ℕ). one.used ++ t) (whole_rest (make a) b behind rest h);
        again = λ later. ap (mapped make) (one.again later) ∙ ap (λ (c : B). whole c later) (whole_value (make a) b behind rest h);
      }
  made-takes bytes begun e b rest h = absurd cc
  made-takes bytes (bad r k) e b rest h = absurd cc

  made-stops : (bytes : List ℕ) (r : Scan A) → s bytes ≡ r → (rest : List ℕ) (kind : BadKind) → mapped make r ≡ bad rest kind → Stops (λ bytes. mapped make (s bytes)) bytes rest kind
  made-stops bytes (whole a behind) e rest kind h = absurd cc
  made-stops bytes begun e rest kind h = absurd cc
  made-stops bytes (bad r k) e rest kind h =
      let same_rest : r ≡ rest = cc in
      let same_kind : k ≡ kind = cc in
      let one = first.stops bytes rest kind (e ∙ same_bad r rest k kind same_rest same_kind) in
      record {
        front = one.front;
        byte = one.byte;
        more = one.more;
        split = one.split;
        from = one.from;
        before = ap (mapped make) one.before;
        after = λ later. ap (mapped make) (one.after later);
      }

  pub Steady-mapped : Steady (λ bytes. mapped make (s bytes))
  Steady-mapped = record {
    takes = λ bytes b rest h. made-takes bytes (s bytes) refl b rest h;
    stops = λ bytes rest kind h. made-stops bytes (s bytes) refl rest kind h;
  }

-- ---- this many bytes, and numbers

pub front_scan-again : (count : ℕ) (front rest : List ℕ) → length front ≡ count → front_scan count (front ++ rest) ≡ whole front rest
front_scan-again count front rest len =
    let long : ltb (length (front ++ rest)) count ≡ false = le-ltb _ _ (omega (arith, length-append front rest)) in
    rw (long, take_at front rest count len, drop_at front rest count len) refl

pub front_scan-short : (count : ℕ) (bytes : List ℕ) → length bytes < count → front_scan count bytes ≡ begun
front_scan-short count bytes lt = rw (lt-ltb _ _ lt) refl

cut_whole : (b : Bool) (f r front rest : List ℕ) → cond b begun (whole f r) ≡ whole front rest → (b ≡ false) × (f ≡ front) × (r ≡ rest)
cut_whole true f r front rest e = absurd cc
cut_whole false f r front rest e = (refl, cc, cc)

cut_not_bad : (b : Bool) (f r rest : List ℕ) (kind : BadKind) → cond b begun (whole f r) ≡ bad rest kind → ⊥
cut_not_bad true f r rest kind e = cc
cut_not_bad false f r rest kind e = cc

pub front_scan-takes : (count : ℕ) (bytes front rest : List ℕ) → front_scan count bytes ≡ whole front rest → (bytes ≡ front ++ rest) × (length front ≡ count)
front_scan-takes count bytes front rest e =
    let g = cut_whole (ltb (length bytes) count) (take count bytes) (drop count bytes) front rest e in
    let long : count ≤ length bytes = ltb-false _ _ g.0 in
    (rw (← g.1, ← g.2) (sym (take-append-drop count bytes)), rw (← g.1) (omega (arith, length-take count bytes)))

pub Steady-front : (count : ℕ) → Steady (front_scan count)
Steady-front count = record {
  takes = λ bytes front rest e.
      let t = front_scan-takes count bytes front rest e in
      record { used = front; split = t.0; again = λ later. front_scan-again count front later t.1 };
  stops = λ bytes rest kind e. absurd (cut_not_bad (ltb (length bytes) count) (take count bytes) (drop count bytes) rest kind e);
}

pub Steady-number : (w : Width) → Steady (number_scan w)
unfolding number_scan
Steady-number w = Steady-and_then (front_scan (byte_len w)) (λ front rest. whole (from_be_bytes w front) rest) (Steady-front (byte_len w)) (λ front. Steady-whole (from_be_bytes w front))

-- ---- one byte

pub named_whole : {A : Type 0} (kind : BadKind) (of : Option A) (byte : ℕ) (behind : List ℕ) (a : A) (rest : List ℕ) → named kind of byte behind ≡ whole a rest → (of ≡ Some a) × (behind ≡ rest)
named_whole kind (Some x) byte behind a rest e = (cc, cc)
named_whole kind None byte behind a rest e = absurd cc

named_bad : {A : Type 0} (kind : BadKind) (of : Option A) (byte : ℕ) (behind rest : List ℕ) (k : BadKind) → named kind of byte behind ≡ bad rest k → (of ≡ None) × (byte ∷ behind ≡ rest) × (kind ≡ k)
named_bad kind (Some x) byte behind rest k e = absurd cc
named_bad kind None byte behind rest k e = (refl, cc, cc)

module _ {A : Type 0} (kind : BadKind) (at : ℕ → Option A) where
  byte-takes : (bytes : List ℕ) (a : A) (rest : List ℕ) → byte_scan kind at bytes ≡ whole a rest → Takes (byte_scan kind at) bytes a rest
  unfolding byte_scan
  byte-takes [] a rest e = absurd cc
  byte-takes (byte ∷ behind) a rest e =
      let n = named_whole kind (at byte) byte behind a rest e in
      record { used = byte ∷ []; split = ap (λ (t : List ℕ). byte ∷ t) n.1; again = λ later. ap (λ (o : Option A). named kind o byte later) n.0 }

  byte-stops : (bytes rest : List ℕ) (k : BadKind) → byte_scan kind at bytes ≡ bad rest k → Stops (byte_scan kind at) bytes rest k
  unfolding byte_scan
  byte-stops [] rest k e = absurd cc
  byte-stops (byte ∷ behind) rest k e =
      let n = named_bad kind (at byte) byte behind rest k e in
      record {
        front = [];
        byte = byte;
        more = behind;
        split = refl;
        from = sym n.1;
        before = refl;
        after = λ later. ap (λ (o : Option A). named kind o byte later) n.0 ∙ ap (bad (byte ∷ later)) n.2;
      }

  pub Steady-byte : Steady (byte_scan kind at)
  Steady-byte = record { takes = byte-takes; stops = byte-stops }

-- ---- runs of bytes

-- the last one of bytes
pub last_split : (bytes : List ℕ) → (bytes ≡ []) ⊎ ((front : List ℕ) × (byte : ℕ) × (bytes ≡ front ++ byte ∷ []))
last_split [] = inl refl
last_split (b ∷ bs) = inr (behind (last_split bs))
  where
    behind : (bs ≡ []) ⊎ ((front : List ℕ) × (byte : ℕ) × (bs ≡ front ++ byte ∷ [])) → (front : List ℕ) × (byte : ℕ) × (b ∷ bs ≡ front ++ byte ∷ [])
    behind (inl none) = ([], b, ap (λ (t : List ℕ). b ∷ t) none)
    behind (inr (front, byte, e)) = (b ∷ front, byte, ap (λ (t : List ℕ). b ∷ t) e)

pub judged_whole : (fault : Option BadKind) (run behind last a rest : List ℕ) → judged fault run behind last ≡ whole a rest → (fault ≡ None) × (run ≡ a) × (behind ≡ rest)
judged_whole None run behind last a rest e = (refl, cc, cc)
judged_whole (Some k) run behind last a rest e = absurd cc

judged_bad : (fault : Option BadKind) (run behind last rest : List ℕ) (kind : BadKind) → judged fault run behind last ≡ bad rest kind → (fault ≡ Some kind) × (last ≡ rest)
judged_bad None run behind last rest kind e = absurd cc
judged_bad (Some k) run behind last rest kind e = (cc, cc)

pub number_scan-takes : (w : Width) (bytes : List ℕ) (n : ℕ) (rest : List ℕ) → number_scan w bytes ≡ whole n rest → (head : List ℕ) × (bytes ≡ head ++ rest) × (length head ≡ byte_len w) × (from_be_bytes w head ≡ n)
unfolding number_scan
number_scan-takes w bytes n rest e = go (front_scan (byte_len w) bytes) refl e
  where
    go : (r : Scan (List ℕ)) → front_scan (byte_len w) bytes ≡ r → and_then r (λ front behind. whole (from_be_bytes w front) behind) ≡ whole n rest → (head : List ℕ) × (bytes ≡ head ++ rest) × (length head ≡ byte_len w) × (from_be_bytes w head ≡ n)
    go (whole head behind) f h =
        let t = front_scan-takes (byte_len w) bytes head behind f in
        (head, t.0 ∙ ap (λ (r : List ℕ). head ++ r) (whole_rest (from_be_bytes w head) n behind rest h), t.1, whole_value (from_be_bytes w head) n behind rest h)
    go begun f h = absurd cc
    go (bad r k) f h = absurd cc

pub number_scan-again : (w : Width) (head rest : List ℕ) (n : ℕ) → length head ≡ byte_len w → from_be_bytes w head ≡ n → number_scan w (head ++ rest) ≡ whole n rest
unfolding number_scan
number_scan-again w head rest n len worth = ap (λ (r : Scan (List ℕ)). and_then r (λ front behind. whole (from_be_bytes w front) behind)) (front_scan-again (byte_len w) head rest len) ∙ ap (λ (m : ℕ). whole m rest) worth

pub number_scan-short : (w : Width) (bytes : List ℕ) → length bytes < byte_len w → number_scan w bytes ≡ begun
unfolding number_scan
number_scan-short w bytes lt = ap (λ (r : Scan (List ℕ)). and_then r (λ front behind. whole (from_be_bytes w front) behind)) (front_scan-short (byte_len w) bytes lt)

pub number_scan-not_bad : (w : Width) (bytes rest : List ℕ) (kind : BadKind) → number_scan w bytes ≡ bad rest kind → ⊥
unfolding number_scan
number_scan-not_bad w bytes rest kind e = go (front_scan (byte_len w) bytes) refl e
  where
    go : (r : Scan (List ℕ)) → front_scan (byte_len w) bytes ≡ r → and_then r (λ front behind. whole (from_be_bytes w front) behind) ≡ bad rest kind → ⊥
    go (whole head behind) f h = cc
    go begun f h = cc
    go (bad r k) f h = cut_not_bad (ltb (length bytes) (byte_len w)) (take (byte_len w) bytes) (drop (byte_len w) bytes) r k f

module _ (fault : List ℕ → Option BadKind) where
  -- what is behind a count
  abbrev counted : List ℕ → ℕ → List ℕ → Scan (List ℕ)
  counted bytes count rest = and_then (front_scan count rest) (λ run behind. judged (fault run) run behind (drop (count + 3) bytes))

  -- bytes with a count and a run
  pub record IsRun (bytes run behind : List ℕ) : Type 0 where
    pub head : List ℕ
    pub four : length head ≡ 4
    pub worth : from_be_bytes w32 head ≡ length run
    pub split : bytes ≡ head ++ (run ++ behind)

  pub run_scan-is : (bytes run behind : List ℕ) → IsRun bytes run behind → run_scan fault bytes ≡ judged (fault run) run behind (drop (length run + 3) bytes)
  unfolding run_scan
  run_scan-is bytes run behind is =
      let at : number_scan w32 bytes ≡ whole (length run) (run ++ behind) = ap (number_scan w32) is.split ∙ number_scan-again w32 is.head (run ++ behind) (length run) is.four is.worth in
      ap (λ (r : Scan ℕ). and_then r (counted bytes)) at
      ∙ ap (λ (r : Scan (List ℕ)). and_then r (λ front rest. judged (fault front) front rest (drop (length run + 3) bytes))) (front_scan-again (length run) run behind refl)

  -- either the count or the run is not there yet, or both are
  pub data RunCase (bytes : List ℕ) : Type 0 where
    short : run_scan fault bytes ≡ begun → RunCase bytes
    there : (run behind : List ℕ) → IsRun bytes run behind → RunCase bytes

  pub run_case : (bytes : List ℕ) → RunCase bytes
  unfolding run_scan
  run_case bytes = go (number_scan w32 bytes) refl
    where
      within : (count : ℕ) (rest head : List ℕ) → number_scan w32 bytes ≡ whole count rest → bytes ≡ head ++ rest → length head ≡ 4 → from_be_bytes w32 head ≡ count → (r : Scan (List ℕ)) → front_scan count rest ≡ r → RunCase bytes
      within count rest head e split four worth (whole run behind) f =
          let t = front_scan-takes count rest run behind f in
          there run behind (record { head = head; four = four; worth = worth ∙ sym t.1; split = split ∙ ap (λ (x : List ℕ). head ++ x) t.0 })
      within count rest head e split four worth begun f =
          short (ap (λ (r : Scan ℕ). and_then r (counted bytes)) e ∙ ap (λ (r : Scan (List ℕ)). and_then r (λ run behind. judged (fault run) run behind (drop (count + 3) bytes))) f)
      within count rest head e split four worth (bad r k) f = absurd (cut_not_bad (ltb (length rest) count) (take count rest) (drop count rest) r k f)

      go : (r : Scan ℕ) → number_scan w32 bytes ≡ r → RunCase bytes
      go (whole count rest) e = let t = number_scan-takes w32 bytes count rest e in within count rest t.0 e t.1 t.2 t.3 (front_scan count rest) refl
      go begun e = short (ap (λ (r : Scan ℕ). and_then r (counted bytes)) e)
      go (bad r k) e = absurd (number_scan-not_bad w32 bytes r k e)

  run-takes : (bytes a rest : List ℕ) → run_scan fault bytes ≡ whole a rest → RunCase bytes → Takes (run_scan fault) bytes a rest
  run-takes bytes a rest e (short f) = absurd (cc)
  run-takes bytes a rest e (there run behind is) =
      let j = judged_whole (fault run) run behind (drop (length run + 3) bytes) a rest (sym (run_scan-is bytes run behind is) ∙ e) in
      record {
        used = is.head ++ run;
        split = is.split ∙ sym (append_assoc is.head run behind) ∙ ap (λ (t : List ℕ). (is.head ++ run) ++ t) j.2;
        again = λ later.
            let all = (is.head ++ run) ++ later in
            run_scan-is all run later (record { head = is.head; four = is.four; worth = is.worth; split = append_assoc is.head run later })
            ∙ ap (λ (o : Option BadKind). judged o run later (drop (length run + 3) all)) j.0 ∙ ap (λ (t : List ℕ). whole t later) j.1;
      }

  -- the count and the run, without their last byte
  record IsLast (head run : List ℕ) : Type 0 where
    front : List ℕ
    byte : ℕ
    split : head ++ run ≡ front ++ byte ∷ []
    before : run_scan fault front ≡ begun

  run_last : (head run : List ℕ) → length head ≡ 4 → from_be_bytes w32 head ≡ length run → IsLast head run
  unfolding run_scan
  run_last head run four worth = go (last_split run)
    where
      no_run : run ≡ [] → (head ≡ []) ⊎ ((front : List ℕ) × (byte : ℕ) × (head ≡ front ++ byte ∷ [])) → IsLast head run
      no_run none (inl nothing) = absurd (omega (arith, four, ap length nothing))
      no_run none (inr (front, byte, e)) =
          let len : length front < 4 = omega (arith, four, ap length e, length-append front (byte ∷ [])) in
          record {
            front = front;
            byte = byte;
            split = ap (λ (t : List ℕ). head ++ t) none ∙ append-nil head ∙ e;
            before = ap (λ (r : Scan ℕ). and_then r (counted front)) (number_scan-short w32 front len);
          }

      go : (run ≡ []) ⊎ ((front : List ℕ) × (byte : ℕ) × (run ≡ front ++ byte ∷ [])) → IsLast head run
      go (inl none) = no_run none (last_split head)
      go (inr (front, byte, e)) =
          let less : length front < length run = omega (arith, ap length e, length-append front (byte ∷ [])) in
          record {
            front = head ++ front;
            byte = byte;
            split = ap (λ (t : List ℕ). head ++ t) e ∙ sym (append_assoc head front (byte ∷ []));
            before = ap (λ (r : Scan ℕ). and_then r (counted (head ++ front))) (number_scan-again w32 head front (length run) four worth)
                ∙ ap (λ (r : Scan (List ℕ)). and_then r (λ done behind. judged (fault done) done behind (drop (length run + 3) (head ++ front)))) (front_scan-short (length run) front less);
          }

  run-stops : (bytes rest : List ℕ) (kind : BadKind) → run_scan fault bytes ≡ bad rest kind → RunCase bytes → Stops (run_scan fault) bytes rest kind
  run-stops bytes rest kind e (short f) = absurd (cc)
  run-stops bytes rest kind e (there run behind is) =
      let j = judged_bad (fault run) run behind (drop (length run + 3) bytes) rest kind (sym (run_scan-is bytes run behind is) ∙ e) in
      let l = run_last is.head run is.four is.worth in
      let regrouped : (later : List ℕ) → l.front ++ l.byte ∷ later ≡ is.head ++ (run ++ later) = λ later.
      sym (append_assoc l.front (l.byte ∷ []) later) ∙ ap (λ (t : List ℕ). t ++ later) (sym l.split) ∙ append_assoc is.head run later in
      let len : length l.front ≡ length run + 3 = omega (arith, is.four, ap length l.split, length-append is.head run, length-append l.front (l.byte ∷ [])) in
      let split : bytes ≡ l.front ++ l.byte ∷ behind = is.split ∙ sym (regrouped behind) in
      record {
        front = l.front;
        byte = l.byte;
        more = behind;
        split = split;
        from = sym j.1 ∙ ap (drop (length run + 3)) split ∙ drop_at l.front (l.byte ∷ behind) (length run + 3) len;
        before = l.before;
        after = λ later.
            let all = l.front ++ l.byte ∷ later in
            run_scan-is all run later (record { head = is.head; four = is.four; worth = is.worth; split = regrouped later })
            ∙ ap (λ (o : Option BadKind). judged o run later (drop (length run + 3) all)) j.0
            ∙ ap (λ (t : List ℕ). bad t kind) (drop_at l.front (l.byte ∷ later) (length run + 3) len);
      }

  pub Steady-run : Steady (run_scan fault)
  Steady-run = record {
    takes = λ bytes a rest e. run-takes bytes a rest e (run_case bytes);
    stops = λ bytes rest kind e. run-stops bytes rest kind e (run_case bytes);
  }

-- ---- none or one, and any number

pub Steady-opt : {A : Type 0} (item : List ℕ → Scan A) → Steady item → (is_there : Bool) → Steady (opt_scan item is_there)
Steady-opt item s false = Steady-whole None
Steady-opt item s true = Steady-mapped Some item s

pub Steady-items : {A : Type 0} (item : List A → List ℕ → Scan A) → ((before : List A) → Steady (item before)) → (before : List A) (count : ℕ) → Steady (items_scan item before count)
unfolding items_scan
Steady-items item s before zero = Steady-whole []
Steady-items {A} item s before (suc count) =
    Steady-and_then (item before) (λ first rest. mapped (λ (others : List A). first ∷ others) (items_scan item (first ∷ before) count rest)) (s before)
    (λ first. Steady-mapped (λ (others : List A). first ∷ others) (items_scan item (first ∷ before) count) (Steady-items item s (first ∷ before) count))
