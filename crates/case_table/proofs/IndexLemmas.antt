-- How an index of rows is built and followed.
use Rattle.std.proofs.Common.{◌≡◌, ◌≢◌, ◌⊎◌, ℕ, ◌+◌, ◌-◌, ◌<◌, ◌≤◌, eqb, true, false, List, length, slice_index, slice_set, replicate, sym, ap, ◌∙◌, subst, inl, inr, arith, length-set}
use Rattle.std.proofs.lemmas.List.{get_or-set_same, get_or-set_other, get_or-replicate, length-replicate}
use Rattle.std.proofs.lemmas.Bool.{cases_lt}
use Rattle.std.proofs.lemmas.Bool.Decides.{eqb_tells}
use Rattle.case_table.specs.Rows.{Row, text_at, number_at, key_of, LacksText}
use Rattle.case_table.specs.Index.{key_at, next_of, IsLast, IsIndexed, IsPlaced}

-- the search for a word has come down to an end
pub record IsReached (rows : List Row) (count : ℕ) (word : List ℕ) (end : ℕ) : Type 0 where
  pub within : end ≤ count
  pub has : 0 < end → key_at rows (end - 1) ≡ key_of word
  pub past : (k : ℕ) → end ≤ k → k < count → text_at rows k ≢ word

-- the first rows are a table, and stand in the index
pub record IsBegun (rows : List Row) (count : ℕ) (heads nexts places : List ℕ) : Type 0 where
  pub heads_size : length heads ≡ 256
  pub nexts_size : length nexts ≡ 256
  pub places_size : length places ≡ 256
  pub texts : (i j : ℕ) → i < j → j < count → text_at rows i ≢ text_at rows j
  pub numbers : (i j : ℕ) → i < j → j < count → number_at rows i ≢ number_at rows j
  pub indexed : IsIndexed rows count heads nexts
  pub placed : IsPlaced rows count places

-- below a place there is one place more
either : (k n : ℕ) → k < n + 1 → (k < n) ⊎ (k ≡ n)
either k n h = cases (cases_lt k n)
  where
    cases : (k < n) ⊎ (n ≤ k) → (k < n) ⊎ (k ≡ n)
    cases (inl less) = inl less
    cases (inr more) = inr (omega (arith, more, h))

-- the search goes on at the row before with the same key
pub reached_step : (rows : List Row) (count : ℕ) (heads nexts word : List ℕ) (end : ℕ) → IsIndexed rows count heads nexts → IsReached rows count word end → 0 < end → text_at rows (end - 1) ≢ word → IsReached rows count word (next_of rows nexts (end - 1))
reached_step rows count heads nexts word end indexed reached some other =
    let last = indexed.nexts_last (end - 1) (omega (arith, some, reached.within)) in
    record {
      within = omega (arith, last.within, reached.within);
      has = λ more. last.has more ∙ reached.has some;
      past = λ k from below. cases k from below (cases_lt k (end - 1)) (cases_lt k end);
    }
  where
    cases : (k : ℕ) → next_of rows nexts (end - 1) ≤ k → k < count → (k < end - 1) ⊎ (end - 1 ≤ k) → (k < end) ⊎ (end ≤ k) → text_at rows k ≢ word
    cases k from below (inl less) _ = λ e. (indexed.nexts_last (end - 1) (omega (arith, some, reached.within))).past k from less (ap key_of e ∙ sym (reached.has some))
    cases k from below (inr _) (inr past) = reached.past k past below
    cases k from below (inr more) (inl less) =
        let is : k ≡ end - 1 = omega (arith, more, less) in
        λ e. other (ap (text_at rows) (sym is) ∙ e)

-- no row yet
pub begun_none : (rows : List Row) → IsBegun rows 0 (replicate 256 0) (replicate 256 0) (replicate 256 0)
begun_none rows = record {
  heads_size = length-replicate {A = ℕ} 256 0;
  nexts_size = length-replicate {A = ℕ} 256 0;
  places_size = length-replicate {A = ℕ} 256 0;
  texts = λ i j less within. absurd (omega (arith, within));
  numbers = λ i j less within. absurd (omega (arith, within));
  indexed = record {
    heads_last = λ key fits. let none : slice_index (replicate 256 0) key ≡ 0 = get_or-replicate {A = ℕ} 256 key 0 0 fits in
        record { within = omega (arith, none); has = λ some. absurd (omega (arith, none, some)); past = λ k from below. absurd (omega (arith, below)) };
    nexts_last = λ k within. absurd (omega (arith, within));
  };
  placed = record {
    within = λ n fits. let none : slice_index (replicate 256 0) n ≡ 0 = get_or-replicate {A = ℕ} 256 n 0 0 fits in omega (arith, none);
    found = λ n fits some. let none : slice_index (replicate 256 0) n ≡ 0 = get_or-replicate {A = ℕ} 256 n 0 0 fits in absurd (omega (arith, none, some));
    absent = λ n fits none k within. absurd (omega (arith, within));
  };
}

module _ (rows : List Row) (count : ℕ) (heads nexts places : List ℕ) (begun : IsBegun rows count heads nexts places)
    (key number : ℕ) (key_is : key_at rows count ≡ key) (number_is : number_at rows count ≡ number) (key_fits : key < 256) (number_fits : number < 256)
    (no_place : slice_index places number ≡ 0) (lacks : LacksText rows count (text_at rows count)) where
  heads' : List ℕ
  heads' = slice_set heads key (count + 1)

  nexts' : List ℕ
  nexts' = slice_set nexts number (slice_index heads key)

  places' : List ℕ
  places' = slice_set places number (count + 1)

  other_number : (k : ℕ) → k < count → number_at rows k ≢ number
  other_number k within = begun.placed.absent number number_fits no_place k within

  -- an end that stays the last of a key that the new row doesn't have
  still_last : (k end : ℕ) → k ≢ key → IsLast rows k count end → IsLast rows k (count + 1) end
  still_last k end ne last = record {
    within = omega (arith, last.within);
    has = last.has;
    past = λ j from below. cases j from (either j count below);
  }
    where
      cases : (j : ℕ) → end ≤ j → (j < count) ⊎ (j ≡ count) → key_at rows j ≢ k
      cases j from (inl less) = last.past j from less
      cases j from (inr is) = λ e. ne (sym e ∙ ap (key_at rows) is ∙ key_is)

  new_last : IsLast rows key (count + 1) (count + 1)
  new_last = record {
    within = omega arith;
    has = λ _. ap (key_at rows) (the_place count) ∙ key_is;
    past = λ j from below. absurd (omega (arith, from, below));
  }
    where
      the_place : (n : ℕ) → n + 1 - 1 ≡ n
      the_place n = omega arith

  heads_step : (k : ℕ) → k < 256 → IsLast rows k (count + 1) (slice_index heads' k)
  unfolding heads'
  heads_step k fits = cases (eqb_tells k key)
    where
      cases : ((eqb k key ≡ true) × (k ≡ key)) ⊎ ((eqb k key ≡ false) × (k ≢ key)) → IsLast rows k (count + 1) (slice_index (slice_set heads key (count + 1)) k)
      cases (inl same) =
          let at : slice_index (slice_set heads key (count + 1)) k ≡ count + 1 = ap (slice_index (slice_set heads key (count + 1))) same.1 ∙ get_or-set_same heads key (count + 1) 0 (omega (arith, begun.heads_size, key_fits)) in
          subst (λ e. IsLast rows k (count + 1) e) (sym at) (subst (λ j. IsLast rows j (count + 1) (count + 1)) (sym same.1) new_last)
      cases (inr differs) = subst (λ e. IsLast rows k (count + 1) e) (sym (get_or-set_other heads key k (count + 1) 0 differs.1)) (still_last k (slice_index heads k) differs.1 (begun.indexed.heads_last k fits))

  nexts_step : (k : ℕ) → k < count + 1 → IsLast rows (key_at rows k) k (next_of rows nexts' k)
  unfolding nexts'
  nexts_step k within = cases (either k count within)
    where
      cases : (k < count) ⊎ (k ≡ count) → IsLast rows (key_at rows k) k (next_of rows (slice_set nexts number (slice_index heads key)) k)
      cases (inl less) = subst (λ e. IsLast rows (key_at rows k) k e) (sym (get_or-set_other nexts number (number_at rows k) (slice_index heads key) 0 (other_number k less))) (begun.indexed.nexts_last k less)
      cases (inr is) =
          let at : next_of rows (slice_set nexts number (slice_index heads key)) count ≡ slice_index heads key = ap (slice_index (slice_set nexts number (slice_index heads key))) number_is ∙ get_or-set_same nexts number (slice_index heads key) 0 (omega (arith, begun.nexts_size, number_fits)) in
          let here : IsLast rows (key_at rows count) count (next_of rows (slice_set nexts number (slice_index heads key)) count) = subst (λ e. IsLast rows (key_at rows count) count e) (sym at) (subst (λ j. IsLast rows j count (slice_index heads key)) (sym key_is) (begun.indexed.heads_last key key_fits)) in
          subst (λ j. IsLast rows (key_at rows j) j (next_of rows (slice_set nexts number (slice_index heads key)) j)) (sym is) here

  placed_step : IsPlaced rows (count + 1) places'
  unfolding places'
  placed_step = record {
    within = λ n fits. inside n fits (eqb_tells n number);
    found = λ n fits some. has n fits some (eqb_tells n number);
    absent = λ n fits none k within. lacks_it n fits none k (either k count within) (eqb_tells n number);
  }
    where
      same_at : (n : ℕ) → n ≡ number → slice_index (slice_set places number (count + 1)) n ≡ count + 1
      same_at n is = ap (slice_index (slice_set places number (count + 1))) is ∙ get_or-set_same places number (count + 1) 0 (omega (arith, begun.places_size, number_fits))

      other_at : (n : ℕ) → n ≢ number → slice_index (slice_set places number (count + 1)) n ≡ slice_index places n
      other_at n ne = get_or-set_other places number n (count + 1) 0 ne

      inside : (n : ℕ) → n < 256 → ((eqb n number ≡ true) × (n ≡ number)) ⊎ ((eqb n number ≡ false) × (n ≢ number)) → slice_index (slice_set places number (count + 1)) n ≤ count + 1
      inside n fits (inl same) = omega (arith, same_at n same.1)
      inside n fits (inr differs) = omega (arith, other_at n differs.1, begun.placed.within n fits)

      the_place : (e : ℕ) → e ≡ count + 1 → e - 1 ≡ count
      the_place e is = omega (arith, is)

      has : (n : ℕ) → n < 256 → 0 < slice_index (slice_set places number (count + 1)) n → ((eqb n number ≡ true) × (n ≡ number)) ⊎ ((eqb n number ≡ false) × (n ≢ number)) → number_at rows (slice_index (slice_set places number (count + 1)) n - 1) ≡ n
      has n fits some (inl same) = ap (number_at rows) (the_place _ (same_at n same.1)) ∙ number_is ∙ sym same.1
      has n fits some (inr differs) =
          ap (λ e. number_at rows (e - 1)) (other_at n differs.1) ∙ begun.placed.found n fits (subst (λ e. 0 < e) (other_at n differs.1) some)

      lacks_it : (n : ℕ) → n < 256 → slice_index (slice_set places number (count + 1)) n ≡ 0 → (k : ℕ) → (k < count) ⊎ (k ≡ count) → ((eqb n number ≡ true) × (n ≡ number)) ⊎ ((eqb n number ≡ false) × (n ≢ number)) → number_at rows k ≢ n
      lacks_it n fits none k where_it_is (inl same) = absurd (omega (arith, none, same_at n same.1))
      lacks_it n fits none k (inl less) (inr differs) = begun.placed.absent n fits (sym (other_at n differs.1) ∙ none) k less
      lacks_it n fits none k (inr is) (inr differs) = λ e. differs.1 (sym e ∙ ap (number_at rows) is ∙ number_is)

  -- one row more
  pub begun_step : IsBegun rows (count + 1) (slice_set heads key (count + 1)) (slice_set nexts number (slice_index heads key)) (slice_set places number (count + 1))
  unfolding heads' nexts' places'
  begun_step = record {
    heads_size = length-set heads key (count + 1) ∙ begun.heads_size;
    nexts_size = length-set nexts number (slice_index heads key) ∙ begun.nexts_size;
    places_size = length-set places number (count + 1) ∙ begun.places_size;
    texts = λ i j less within. apart i j less (either j count within);
    numbers = λ i j less within. different i j less (either j count within);
    indexed = record { heads_last = heads_step; nexts_last = nexts_step };
    placed = placed_step;
  }
    where
      apart : (i j : ℕ) → i < j → (j < count) ⊎ (j ≡ count) → text_at rows i ≢ text_at rows j
      apart i j less (inl within) = begun.texts i j less within
      apart i j less (inr is) = λ e. lacks i (omega (arith, less, is)) (e ∙ ap (text_at rows) is)

      different : (i j : ℕ) → i < j → (j < count) ⊎ (j ≡ count) → number_at rows i ≢ number_at rows j
      different i j less (inl within) = begun.numbers i j less within
      different i j less (inr is) = λ e. other_number i (omega (arith, less, is)) (e ∙ ap (number_at rows) is ∙ number_is)
