-- The notes that were found, one processor after another: they ascend, and are those that were found.
use Rattle.std.proofs.Common.{◌≡◌, ◌⊎◌, inl, inr, ℕ, zero, suc, ◌+◌, ◌<◌, ◌≤◌, Bool, true, false, cond, ◌&&◌, ◌||◌, ◌==◌, List, [], ◌∷◌, ◌++◌, Option, None, Some, if◌then◌else◌, refl, sym, ap, ◌∙◌, arith}
use Rattle.std.specs.Prelude.{nat_lt, filter}
use Rattle.std.specs.List.{list_any, flat_map, range_with_len, AllByRecursion}
use Rattle.std.proofs.lemmas.Bool.{lt-ltb, eq-eqb, ne_eqb, ltb-true, ltb-false}
use Rattle.std.proofs.lemmas.List.Folds.{list_any-append}
use Rattle.record_forms.specs.Forms.{is_above, ascends_after}
use Rattle.record_forms.specs.RecordTable.{note_number}
use Rattle.record_forms.specs.declared.record.Note.{Note}
use Rattle.record_forms.specs.declared.record.NoteKind.{NoteKind}
use Rattle.record_forms.specs.declared.record.NoteKind.TheVariants.{Beyond, Unattributed, Refused}
use Rattle.run_entries.specs.declared.processed.Processed.{Processed}
use Rattle.run_entries.specs.Notes.{note_of, note_where, noted, is_note, is_unattributed, notes_found, notes_on}
use Rattle.run_entries.specs.Stands.{note_on, note_less, has_note}

both_true : (a b : Bool) → a ≡ true → b ≡ true → (a && b) ≡ true
both_true a b e f = λ i. e i && f i

itself : (n : ℕ) → (n == n) ≡ true
itself n = eq-eqb n n refl

-- ---- they ascend

-- each note on this processor or a later one is greater
abbrev Below : Option Note → ℕ → Type 0
Below last n = (note : Note) → n ≤ note.processor → is_above note_less last note ≡ true

-- of one processor: by the kind
by_kind : (n : ℕ) (one other : NoteKind) → nat_lt (note_number one) (note_number other) ≡ true → note_less (note_on n one) (note_on n other) ≡ true
by_kind n one other e = (λ i. nat_lt n n || (itself n i && e i)) ∙ always (nat_lt n n)
  where
    always : (b : Bool) → (b || true) ≡ true
    always true = refl
    always false = refl

-- of two: by the processor
later_is_above : (n : ℕ) (kind : NoteKind) → Below (Some (note_on n kind)) (n + 1)
later_is_above n kind note le = ap (λ (b : Bool). b || ((n == note.processor) && nat_lt (note_number kind) (note_number note.kind))) (lt-ltb n note.processor (omega (arith, le)))

-- a note that may be there
one : (b : Bool) (x : Note) (last : Option Note) (xs rest : List Note) → is_above note_less last x ≡ true → ascends_after note_less (Some x) (xs ++ rest) ≡ true → ascends_after note_less last (xs ++ rest) ≡ true
    → ascends_after note_less last (cond b (x ∷ xs) xs ++ rest) ≡ true
one true x last xs rest above with_it without = both_true (is_above note_less last x) (ascends_after note_less (Some x) (xs ++ rest)) above with_it
one false x last xs rest above with_it without = without

module _ (found : List Note) where
  abbrev test : Note → Bool
  test note = list_any (is_note note) found

  abbrev three_of : ℕ → List Note
  three_of n = cond (test (note_on n Refused)) (note_on n Refused ∷ []) []

  abbrev two_of : ℕ → List Note
  two_of n = cond (test (note_on n Unattributed)) (note_on n Unattributed ∷ three_of n) (three_of n)

  -- what comes behind goes on from any note on this processor
  abbrev GoesOn : ℕ → List Note → Type 0
  GoesOn n rest = (other : Option Note) → Below other (n + 1) → ascends_after note_less other rest ≡ true

  from_three : (n : ℕ) (rest : List Note) → GoesOn n rest → (l : Option Note) → is_above note_less l (note_on n Refused) ≡ true → Below l (n + 1) → ascends_after note_less l (three_of n ++ rest) ≡ true
  from_three n rest up l above later = one (test (note_on n Refused)) (note_on n Refused) l [] rest above (up (Some (note_on n Refused)) (later_is_above n Refused)) (up l later)

  from_two : (n : ℕ) (rest : List Note) → GoesOn n rest → (l : Option Note) → is_above note_less l (note_on n Unattributed) ≡ true → is_above note_less l (note_on n Refused) ≡ true → Below l (n + 1)
      → ascends_after note_less l (two_of n ++ rest) ≡ true
  from_two n rest up l above above' later =
      one (test (note_on n Unattributed)) (note_on n Unattributed) l (three_of n) rest above
      (from_three n rest up (Some (note_on n Unattributed)) (by_kind n Unattributed Refused refl) (later_is_above n Unattributed))
      (from_three n rest up l above' later)

  on_one : (n : ℕ) (last : Option Note) (rest : List Note) → Below last n → GoesOn n rest → ascends_after note_less last (notes_on found n ++ rest) ≡ true
  on_one n last rest below up =
      one (test (note_on n Beyond)) (note_on n Beyond) last (two_of n) rest (below (note_on n Beyond) (omega arith))
      (from_two n rest up (Some (note_on n Beyond)) (by_kind n Beyond Unattributed refl) (by_kind n Beyond Refused refl) (later_is_above n Beyond))
      (from_two n rest up last (below (note_on n Unattributed) (omega arith)) (below (note_on n Refused) (omega arith)) (λ note le. below note (omega (arith, le))))

  up_from : (count n : ℕ) (last : Option Note) → Below last n → ascends_after note_less last (flat_map (notes_on found) (range_with_len n count)) ≡ true
  up_from zero n last below = refl
  up_from (suc count) n last below = on_one n last (flat_map (notes_on found) (range_with_len (n + 1) count)) below (λ other more. up_from count (n + 1) other more)

  pub found_ascend : (count : ℕ) → ascends_after note_less None (flat_map (notes_on found) (range_with_len 0 count)) ≡ true
  found_ascend count = up_from count 0 None (λ note le. refl)

  -- ---- they are those that were found

  or_false : (a : Bool) → (a || false) ≡ a
  or_false true = refl
  or_false false = refl

  -- whether one of those that pass is this one
  any_found : (q : Note → Bool) (xs : List Note) → list_any q (filter test xs) ≡ list_any (λ x. test x && q x) xs
  any_found q [] = refl
  any_found q (x ∷ xs) = go (test x) (any_found q xs)
    where
      go : (b : Bool) → list_any q (filter test xs) ≡ list_any (λ y. test y && q y) xs → list_any q (cond b (x ∷ filter test xs) (filter test xs)) ≡ ((b && q x) || list_any (λ y. test y && q y) xs)
      go true ih = ap (λ (r : Bool). q x || r) ih
      go false ih = ih

  and_false : (a b : Bool) → ((a && false) || b) ≡ b
  and_false true b = refl
  and_false false b = refl

  and_true : (a : Bool) → (a && true) ≡ a
  and_true true = refl
  and_true false = refl

  -- the three tests of one processor, by whether the numbers of processors are the same
  abbrev among : NoteKind → Bool → Bool → Bool → Bool → Bool
  among kind x y z s =
      (x && (s && (note_number kind == 0))) || ((y && (s && (note_number kind == 1))) || ((z && (s && (note_number kind == 2))) || false))

  none_other : (kind : NoteKind) (x y z : Bool) → among kind x y z false ≡ false
  none_other kind x y z = and_false x ((y && false) || ((z && false) || false)) ∙ and_false y ((z && false) || false) ∙ and_false z false

  has_on : (m p : ℕ) (kind : NoteKind) → has_note (notes_on found m) (note_on p kind) ≡ among kind (test (note_on m Beyond)) (test (note_on m Unattributed)) (test (note_on m Refused)) (p == m)
  has_on m p kind = any_found (is_note (note_on p kind)) (note_on m Beyond ∷ note_on m Unattributed ∷ note_on m Refused ∷ [])

  first : (x y z : Bool) → ((x && true) || ((y && false) || ((z && false) || false))) ≡ x
  first true y z = refl
  first false true true = refl
  first false true false = refl
  first false false true = refl
  first false false false = refl

  second : (x y z : Bool) → ((x && false) || ((y && true) || ((z && false) || false))) ≡ y
  second true true z = refl
  second false true z = refl
  second true false true = refl
  second true false false = refl
  second false false true = refl
  second false false false = refl

  third : (x y z : Bool) → ((x && false) || ((y && false) || ((z && true) || false))) ≡ z
  third true true true = refl
  third true true false = refl
  third true false true = refl
  third true false false = refl
  third false true true = refl
  third false true false = refl
  third false false true = refl
  third false false false = refl

  of_kind : (kind : NoteKind) (m : ℕ) → among kind (test (note_on m Beyond)) (test (note_on m Unattributed)) (test (note_on m Refused)) true ≡ test (note_on m kind)
  of_kind Beyond m = first (test (note_on m Beyond)) (test (note_on m Unattributed)) (test (note_on m Refused))
  of_kind Unattributed m = second (test (note_on m Beyond)) (test (note_on m Unattributed)) (test (note_on m Refused))
  of_kind Refused m = third (test (note_on m Beyond)) (test (note_on m Unattributed)) (test (note_on m Refused))

  here : (m : ℕ) (kind : NoteKind) → has_note (notes_on found m) (note_on m kind) ≡ has_note found (note_on m kind)
  here m kind =
      has_on m m kind ∙ ap (among kind (test (note_on m Beyond)) (test (note_on m Unattributed)) (test (note_on m Refused))) (itself m) ∙ of_kind kind m

  elsewhere : (m p : ℕ) (kind : NoteKind) → (p == m) ≡ false → has_note (notes_on found m) (note_on p kind) ≡ false
  elsewhere m p kind other =
      has_on m p kind ∙ ap (among kind (test (note_on m Beyond)) (test (note_on m Unattributed)) (test (note_on m Refused))) other
      ∙ none_other kind (test (note_on m Beyond)) (test (note_on m Unattributed)) (test (note_on m Refused))

  differ : (m p : ℕ) → ((p < m) ⊎ (m < p)) → (p == m) ≡ false
  differ m p (inl lt) = ne_eqb p m (λ e. omega (arith, lt, e))
  differ m p (inr lt) = ne_eqb p m (λ e. omega (arith, lt, e))

  outside : (count n p : ℕ) (kind : NoteKind) → ((p < n) ⊎ (n + count ≤ p)) → has_note (flat_map (notes_on found) (range_with_len n count)) (note_on p kind) ≡ false
  outside zero n p kind out = refl
  outside (suc count) n p kind out =
      list_any-append (is_note (note_on p kind)) (notes_on found n) (flat_map (notes_on found) (range_with_len (n + 1) count))
      ∙ (λ i. elsewhere n p kind (away out) i || outside count (n + 1) p kind (further out) i)
    where
      away : ((p < n) ⊎ (n + suc count ≤ p)) → (p == n) ≡ false
      away (inl lt) = differ n p (inl lt)
      away (inr le) = differ n p (inr (omega (arith, le)))

      further : ((p < n) ⊎ (n + suc count ≤ p)) → (p < n + 1) ⊎ (n + 1 + count ≤ p)
      further (inl lt) = inl (omega (arith, lt))
      further (inr le) = inr (omega (arith, le))

  inside : (count n p : ℕ) (kind : NoteKind) → n ≤ p → p < n + count → has_note (flat_map (notes_on found) (range_with_len n count)) (note_on p kind) ≡ has_note found (note_on p kind)
  inside zero n p kind le lt = absurd (omega (arith, le, lt))
  inside (suc count) n p kind le lt =
      list_any-append (is_note (note_on p kind)) (notes_on found n) (flat_map (notes_on found) (range_with_len (n + 1) count)) ∙ go (nat_lt n p) refl (inside count (n + 1) p kind)
    where
      go : (b : Bool) → nat_lt n p ≡ b → (n + 1 ≤ p → p < n + 1 + count → has_note (flat_map (notes_on found) (range_with_len (n + 1) count)) (note_on p kind) ≡ has_note found (note_on p kind))
          → (has_note (notes_on found n) (note_on p kind) || has_note (flat_map (notes_on found) (range_with_len (n + 1) count)) (note_on p kind)) ≡ has_note found (note_on p kind)
      go true e more =
          let less = ltb-true n p e in
          λ i. elsewhere n p kind (differ n p (inr less)) i || more (omega (arith, less)) (omega (arith, lt)) i
      go false e more =
          let most = ltb-false n p e in
          let is : n ≡ p = omega (arith, le, most) in
          (λ i. (ap (λ m. has_note (notes_on found m) (note_on p kind)) is ∙ here p kind) i || outside count (n + 1) p kind (inl (omega (arith, most))) i)
          ∙ or_false (has_note found (note_on p kind))

-- ---- no other processor did anything

no_note : (holds : Bool) (done : Processed) (kind other : NoteKind) (p : ℕ) → (p == done.processor) ≡ false → has_note (note_where holds (note_of done other)) (note_on p kind) ≡ false
no_note true done kind other p e = ap (λ (b : Bool). (b && (note_number kind == note_number other)) || false) e
no_note false done kind other p e = refl

none_of : (done : Processed) (kind : NoteKind) (p : ℕ) → (p == done.processor) ≡ false → has_note (noted done) (note_on p kind) ≡ false
unfolding noted
none_of done kind p e =
    list_any-append (is_note (note_on p kind)) (note_where done.beyond (note_of done Beyond) ++ note_where (is_unattributed done) (note_of done Unattributed)) (note_where done.refused (note_of done Refused))
    ∙ (λ i. list_any-append (is_note (note_on p kind)) (note_where done.beyond (note_of done Beyond)) (note_where (is_unattributed done) (note_of done Unattributed)) i || no_note done.refused done kind Refused p e i)
    ∙ (λ i. (no_note done.beyond done kind Beyond p e i || no_note (is_unattributed done) done kind Unattributed p e i) || false)

none_found : (processed : List Processed) (count p : ℕ) (kind : NoteKind) → AllByRecursion (λ (done : Processed). done.processor < count) processed → count ≤ p → has_note (flat_map noted processed) (note_on p kind) ≡ false
none_found [] count p kind few le = refl
none_found (done ∷ processed) count p kind few le =
    let lt = few.0 in
    list_any-append (is_note (note_on p kind)) (noted done) (flat_map noted processed)
    ∙ (λ i. none_of done kind p (ne_eqb p done.processor (λ e. omega (arith, lt, le, e))) i || none_found processed count p kind few.1 le i)

pub found_are : (processed : List Processed) (count p : ℕ) (kind : NoteKind) → AllByRecursion (λ (done : Processed). done.processor < count) processed
    → has_note (flat_map (notes_on (flat_map noted processed)) (range_with_len 0 count)) (note_on p kind) ≡ has_note (flat_map noted processed) (note_on p kind)
found_are processed count p kind few = go (nat_lt p count) refl
  where
    go : (b : Bool) → nat_lt p count ≡ b → has_note (flat_map (notes_on (flat_map noted processed)) (range_with_len 0 count)) (note_on p kind) ≡ has_note (flat_map noted processed) (note_on p kind)
    go true e = let lt = ltb-true p count e in inside (flat_map noted processed) count 0 p kind (omega arith) (omega (arith, lt))
    go false e =
        let le = ltb-false p count e in
        outside (flat_map noted processed) count 0 p kind (inr (omega (arith, le))) ∙ sym (none_found processed count p kind few le)
