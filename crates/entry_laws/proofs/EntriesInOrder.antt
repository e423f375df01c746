-- The entries of a run ascend by round, processor and origin.
use Rattle.std.proofs.Common.{◌≡◌, ◌⊎◌, inl, inr, ℕ, ◌<◌, Bool, true, false, ◌&&◌, ◌||◌, ◌==◌, List, [], ◌∷◌, ◌++◌, map, Option, None, Some, if◌then◌else◌, refl, ◌∙◌, arith}
use Rattle.std.specs.Prelude.{nat_lt}
use Rattle.std.specs.List.{AllByRecursion}
use Rattle.std.proofs.lemmas.Bool.{and_parts, and_from, or_cases, or_left, or_right, lt-ltb, ltb-true, eq-eqb, eqb-true}
use Rattle.wire_frames.specs.declared.frame.Message.{Message}
use Rattle.record_forms.specs.Forms.{is_above, ascends_after, text_less}
use Rattle.record_forms.specs.RecordTable.{origin_less, entry_less}
use Rattle.record_forms.specs.declared.record.Entry.{Entry}
use Rattle.run_entries.specs.declared.processed.GeneratedFile.{GeneratedFile}
use Rattle.run_entries.specs.declared.processed.Processed.{Processed}
use Rattle.run_entries.specs.Entries.{Head, entry_with, head_at, head_left, head_of, entry_at, entry_left, whole_entry, isolating_entries, entries_by, entries_of}
use Rattle.run_entries.specs.Kinds.{is_isolating}
use Rattle.run_entries.specs.Maps.{Stores}
use Rattle.run_entries.specs.Outputs.{Root, root_name, files_from, messages_from, files_left, messages_left, leaves_some}
use Rattle.entry_laws.specs.Asked.{done_less, IsInOrder}
use Rattle.entry_laws.specs.EntryLaws.{EntriesAscend}
use Rattle.entry_laws.proofs.Ascending.{all_to, all_always, ascends-append, AreBelow, are_below}
use Rattle.entry_laws.proofs.EachEntry.{each_by}

-- ---- two numbers, one after the other

abbrev pair_less : ℕ → ℕ → ℕ → ℕ → Bool
pair_less m p n q = nat_lt m n || (m == n && nat_lt p q)

by_pair : (m p n q : ℕ) → pair_less m p n q ≡ true → (m < n) ⊎ ((m ≡ n) × (p < q))
by_pair m p n q e = go (or_cases (nat_lt m n) (m == n && nat_lt p q) e)
  where
    go : (nat_lt m n ≡ true) ⊎ ((m == n && nat_lt p q) ≡ true) → (m < n) ⊎ ((m ≡ n) × (p < q))
    go (inl l) = inl (ltb-true m n l)
    go (inr r) = let both = and_parts (m == n) (nat_lt p q) r in inr (eqb-true m n both.0, ltb-true p q both.1)

to_pair : (m p n q : ℕ) → (m < n) ⊎ ((m ≡ n) × (p < q)) → pair_less m p n q ≡ true
to_pair m p n q (inl l) = or_left (nat_lt m n) (m == n && nat_lt p q) (lt-ltb m n l)
to_pair m p n q (inr r) = or_right (nat_lt m n) (m == n && nat_lt p q) (and_from (m == n) (nat_lt p q) (eq-eqb m n r.0) (lt-ltb p q r.1))

through_pair : (l p m q n r : ℕ) → (l < m) ⊎ ((l ≡ m) × (p < q)) → (m < n) ⊎ ((m ≡ n) × (q < r)) → (l < n) ⊎ ((l ≡ n) × (p < r))
through_pair l p m q n r (inl a) (inl b) = inl (omega (arith, a, b))
through_pair l p m q n r (inl a) (inr b) = let e = b.0 in inl (omega (arith, a, e))
through_pair l p m q n r (inr a) (inl b) = let e = a.0 in inl (omega (arith, e, b))
through_pair l p m q n r (inr a) (inr b) =
    let e = a.0 in let f = b.0 in let s = a.1 in let t = b.1 in
    inr (omega (arith, e, f), omega (arith, s, t))

done_through : (a b c : Processed) → done_less a b ≡ true → done_less b c ≡ true → done_less a c ≡ true
done_through a b c e f =
    to_pair a.round a.processor c.round c.processor
    (through_pair a.round a.processor b.round b.processor c.round c.processor (by_pair a.round a.processor b.round b.processor e) (by_pair b.round b.processor c.round c.processor f))

-- a test by more than the two numbers passes where that by the numbers does, and by the rest where they are the same
by_numbers : (m p n q : ℕ) (rest : Bool) → pair_less m p n q ≡ true → (nat_lt m n || (m == n && (nat_lt p q || (p == q && rest)))) ≡ true
by_numbers m p n q rest e = go (or_cases (nat_lt m n) (m == n && nat_lt p q) e)
  where
    go : (nat_lt m n ≡ true) ⊎ ((m == n && nat_lt p q) ≡ true) → (nat_lt m n || (m == n && (nat_lt p q || (p == q && rest)))) ≡ true
    go (inl l) = or_left (nat_lt m n) (m == n && (nat_lt p q || (p == q && rest))) l
    go (inr r) =
        let both = and_parts (m == n) (nat_lt p q) r in
        or_right (nat_lt m n) (m == n && (nat_lt p q || (p == q && rest))) (and_from (m == n) (nat_lt p q || (p == q && rest)) both.0 (or_left (nat_lt p q) (p == q && rest) both.1))

by_rest : (m p : ℕ) (rest : Bool) → rest ≡ true → (nat_lt m m || (m == m && (nat_lt p p || (p == p && rest)))) ≡ true
by_rest m p rest e =
    or_right (nat_lt m m) (m == m && (nat_lt p p || (p == p && rest)))
    (and_from (m == m) (nat_lt p p || (p == p && rest)) (eq-eqb m m refl) (or_right (nat_lt p p) (p == p && rest) (and_from (p == p) rest (eq-eqb p p refl) e)))

-- ---- entries

-- an entry of an earlier turn
abbrev IsBefore : Option Entry → Processed → Type 0
IsBefore None done = Unit {0}
IsBefore (Some entry) done = pair_less entry.round entry.processor done.round done.processor ≡ true

-- the entry has the numbers of what was done
abbrev HasNumbers : Processed → Entry → Type 0
HasNumbers done entry = (entry.round ≡ done.round) × (entry.processor ≡ done.processor)

before_later : (entry : Entry) (done later : Processed) → HasNumbers done entry → done_less done later ≡ true → IsBefore (Some entry) later
before_later entry done later is less = (λ i. pair_less (is.0 i) (is.1 i) later.round later.processor) ∙ less

module _ (stores : Stores) where
  has_numbers : (done : Processed) → AllByRecursion (HasNumbers done) (entries_by stores done)
  has_numbers done =
      each_by stores (HasNumbers done) done
      (record { roots = all_always (λ (root : Root). (refl, refl)) done.annotated; left = (refl, refl); whole = (refl, refl) })

  above_last : (last : Option Entry) (done : Processed) (head : Head) (files : List GeneratedFile) (messages : List Message) → IsBefore last done → is_above entry_less last (entry_with stores done head files messages) ≡ true
  unfolding entry_less
  above_last None done head files messages before = refl
  above_last (Some entry) done head files messages before = by_numbers entry.round entry.processor done.round done.processor (origin_less entry.origin head.origin) before

  less_by_origin : (done : Processed) (one other : Head) (files files' : List GeneratedFile) (messages messages' : List Message) → origin_less one.origin other.origin ≡ true
      → entry_less (entry_with stores done one files messages) (entry_with stores done other files' messages') ≡ true
  unfolding entry_less
  less_by_origin done one other files files' messages messages' less = by_rest done.round done.processor (origin_less one.origin other.origin) less

  -- ---- of one processor in one round

  module _ (done : Processed) where
    after_root : (root : Root) (roots : List Root) → ascends_after text_less (Some root.0) (map root_name roots) ≡ true → ascends_after entry_less (Some (entry_at stores done root)) (map (entry_at stores done) roots) ≡ true
    after_root root [] up = refl
    after_root root (r ∷ roots) up =
        let both = and_parts (text_less root.0 r.0) (ascends_after text_less (Some r.0) (map root_name roots)) up in
        and_from (entry_less (entry_at stores done root) (entry_at stores done r)) (ascends_after entry_less (Some (entry_at stores done r)) (map (entry_at stores done) roots))
        (less_by_origin done (head_at root) (head_at r) (files_from root.0 done) (files_from r.0 done) (messages_from root.0 done) (messages_from r.0 done) both.0)
        (after_root r roots both.1)

    from_first : (last : Option Entry) (roots : List Root) → ((root : Root) → is_above entry_less last (entry_at stores done root) ≡ true) → ascends_after text_less None (map root_name roots) ≡ true
        → ascends_after entry_less last (map (entry_at stores done) roots) ≡ true
    from_first last [] above up = refl
    from_first last (r ∷ roots) above up =
        and_from (is_above entry_less last (entry_at stores done r)) (ascends_after entry_less (Some (entry_at stores done r)) (map (entry_at stores done) roots)) (above r) (after_root r roots up)

    isolating-ascends : (last : Option Entry) → IsBefore last done → IsInOrder done → ascends_after entry_less last (isolating_entries stores done) ≡ true
    unfolding isolating_entries
    isolating-ascends last before order = go (leaves_some done)
      where
        go : (b : Bool) → ascends_after entry_less last ((if b then entry_left stores done ∷ [] else []) ++ map (entry_at stores done) done.annotated) ≡ true
        go true =
            and_from (is_above entry_less last (entry_left stores done)) (ascends_after entry_less (Some (entry_left stores done)) (map (entry_at stores done) done.annotated))
            (above_last last done head_left (files_left done) (messages_left done) before)
            (from_first (Some (entry_left stores done)) done.annotated
            (λ root. less_by_origin done head_left (head_at root) (files_left done) (files_from root.0 done) (messages_left done) (messages_from root.0 done) refl) order.roots)
        go false = from_first last done.annotated (λ root. above_last last done (head_at root) (files_from root.0 done) (messages_from root.0 done) before) order.roots

    by-ascends : (last : Option Entry) → IsBefore last done → IsInOrder done → ascends_after entry_less last (entries_by stores done) ≡ true
    unfolding entries_by
    by-ascends last before order = go (is_isolating done.kind)
      where
        go : (b : Bool) → ascends_after entry_less last (if b then isolating_entries stores done else whole_entry stores done ∷ []) ≡ true
        go true = isolating-ascends last before order
        go false = and_from (is_above entry_less last (whole_entry stores done)) true (above_last last done (head_of done) done.files done.messages before) refl

  -- ---- of all

  go_on : (processed : List Processed) → AreBelow done_less processed → AllByRecursion IsInOrder processed → (last : Option Entry) → AllByRecursion (IsBefore last) processed
      → ascends_after entry_less last (entries_of stores processed) ≡ true
  go_on [] below each last before = refl
  go_on (done ∷ processed) below each last before =
      ascends-append entry_less (λ o. AllByRecursion (IsBefore o) processed) (entries_by stores done) (entries_of stores processed) (go_on processed below.1 each.1) last before.1
      (all_to (λ entry is. all_to (λ later less. before_later entry done later is less) processed below.0) (entries_by stores done) (has_numbers done))
      (by-ascends done last before.0 each.0)

pub entries_ascend : EntriesAscend
entries_ascend stores processed order =
    go_on stores processed (are_below done_less done_through processed None order.ascending) order.each None (all_always (λ done. tt) processed)
