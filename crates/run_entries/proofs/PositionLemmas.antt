-- Items by their places.
use Rattle.std.proofs.Common.{◌≡◌, ℕ, suc, ◌+◌, ◌-◌, ◌<◌, ◌≤◌, Bool, true, false, cond, List, [], ◌∷◌, ◌++◌, length, map, filter, get_or, drop, Option, None, Some, if◌then◌else◌, refl, sym, ap, ◌∙◌, arith, length-append, append_assoc, drop_of_length-le}
use Rattle.std.specs.Prelude.{slice_get}
use Rattle.std.specs.List.{cons_option, range_with_len}
use Rattle.std.proofs.lemmas.List.{drop_more}
use Rattle.std.proofs.lemmas.Option.{slice_get-get_or}
use Rattle.std.proofs.Math.Seq.{get_or-append_seam}
use Rattle.run_entries.specs.Positions.{positions, items_at}

module _ {A : Type 0} where
  at_seam : (before : List A) (x : A) (xs : List A) → slice_get (before ++ x ∷ xs) (length before) ≡ Some x
  at_seam before x xs =
      let l = length-append before (x ∷ xs) in
      let within : length before < length (before ++ x ∷ xs) = omega (arith, l) in
      slice_get-get_or (before ++ x ∷ xs) (length before) x within ∙ ap Some (get_or-append_seam before x xs x)

  one_longer : (before : List A) (x : A) → length before + 1 ≡ length (before ++ x ∷ [])
  one_longer before x = let l = length-append before (x ∷ []) in sym l

  -- ---- the items that pass are those at their places

  passed : (test : A → Bool) (before : List A) (x : A) (xs : List A) → items_at ((before ++ x ∷ []) ++ xs) (positions test (length (before ++ x ∷ [])) xs) ≡ filter test xs
      → items_at (before ++ x ∷ xs) (positions test (length before) (x ∷ xs)) ≡ filter test (x ∷ xs)
  passed test before x xs so = go (test x)
    where
      rest : items_at (before ++ x ∷ xs) (positions test (length before + 1) xs) ≡ filter test xs
      rest =
          ap (λ n. items_at (before ++ x ∷ xs) (positions test n xs)) (one_longer before x)
          ∙ ap (λ all. items_at all (positions test (length (before ++ x ∷ [])) xs)) (sym (append_assoc before (x ∷ []) xs))
          ∙ so

      go : (b : Bool) → items_at (before ++ x ∷ xs) (if b then length before ∷ positions test (length before + 1) xs else positions test (length before + 1) xs) ≡ cond b (x ∷ filter test xs) (filter test xs)
      go true = λ i. cons_option (at_seam before x xs i) (rest i)
      go false = rest

  behind : (test : A → Bool) (before items : List A) → items_at (before ++ items) (positions test (length before) items) ≡ filter test items
  behind test before [] = refl
  behind test before (x ∷ xs) = passed test before x xs (behind test (before ++ x ∷ []) xs)

  pub items-positions : (test : A → Bool) (items : List A) → items_at items (positions test 0 items) ≡ filter test items
  items-positions test items = behind test [] items

  -- ---- all places

  one_more : (before : List A) (x : A) (xs : List A) → items_at ((before ++ x ∷ []) ++ xs) (range_with_len (length (before ++ x ∷ [])) (length xs)) ≡ xs
      → items_at (before ++ x ∷ xs) (range_with_len (length before) (length (x ∷ xs))) ≡ x ∷ xs
  one_more before x xs so =
      let rest : items_at (before ++ x ∷ xs) (range_with_len (length before + 1) (length xs)) ≡ xs =
      ap (λ n. items_at (before ++ x ∷ xs) (range_with_len n (length xs))) (one_longer before x)
      ∙ ap (λ all. items_at all (range_with_len (length (before ++ x ∷ [])) (length xs))) (sym (append_assoc before (x ∷ []) xs))
      ∙ so in
      λ i. cons_option (at_seam before x xs i) (rest i)

  all_behind : (before items : List A) → items_at (before ++ items) (range_with_len (length before) (length items)) ≡ items
  all_behind before [] = refl
  all_behind before (x ∷ xs) = one_more before x xs (all_behind (before ++ x ∷ []) xs)

  pub items-all : (items : List A) → items_at items (range_with_len 0 (length items)) ≡ items
  items-all items = all_behind [] items

  -- ---- places that are found one after another

  -- what is left, one step on
  abbrev pub rest_at : (A → Bool) → List A → ℕ → List ℕ
  rest_at test items i = positions test i (drop i items)

  pub next : (test : A → Bool) (items : List A) (i : ℕ) (x : A) → i < length items → x ≡ get_or items i x → rest_at test items i ≡ (if test x then i ∷ rest_at test items (i + 1) else rest_at test items (i + 1))
  next test items i x lt is = ap (positions test i) (drop_more items i x lt ∙ ap (λ y. y ∷ drop (i + 1) items) (sym is))

  pub end : (test : A → Bool) (items : List A) (i : ℕ) → length items ≤ i → rest_at test items i ≡ []
  end test items i le = ap (positions test i) (drop_of_length-le items le)

  -- one that passes, and one that does not
  pub found : (test : A → Bool) (items : List A) (list : List ℕ) (i : ℕ) (x : A) → i < length items → x ≡ get_or items i x → test x ≡ true
      → (list ++ i ∷ []) ++ rest_at test items (i + 1) ≡ list ++ rest_at test items i
  found test items list i x lt is e =
      append_assoc list (i ∷ []) (rest_at test items (i + 1))
      ∙ ap (λ rest. list ++ rest) (sym (next test items i x lt is ∙ ap (λ (b : Bool). if b then i ∷ rest_at test items (i + 1) else rest_at test items (i + 1)) e))

  pub passed_over : (test : A → Bool) (items : List A) (list : List ℕ) (i : ℕ) (x : A) → i < length items → x ≡ get_or items i x → test x ≡ false
      → list ++ rest_at test items (i + 1) ≡ list ++ rest_at test items i
  passed_over test items list i x lt is e =
      ap (λ rest. list ++ rest) (sym (next test items i x lt is ∙ ap (λ (b : Bool). if b then i ∷ rest_at test items (i + 1) else rest_at test items (i + 1)) e))

  -- ---- how many pass, and by which test

  same_length : (test : A → Bool) (i : ℕ) (x : A) (xs : List A) → length (positions test (i + 1) xs) ≡ length (filter test xs) → length (positions test i (x ∷ xs)) ≡ length (filter test (x ∷ xs))
  same_length test i x xs so = go (test x)
    where
      go : (b : Bool) → length (if b then i ∷ positions test (i + 1) xs else positions test (i + 1) xs) ≡ length (cond b (x ∷ filter test xs) (filter test xs))
      go true = ap suc so
      go false = so

  length-from : (test : A → Bool) (i : ℕ) (items : List A) → length (positions test i items) ≡ length (filter test items)
  length-from test i [] = refl
  length-from test i (x ∷ xs) = same_length test i x xs (length-from test (i + 1) xs)

  pub length-positions : (test : A → Bool) (items : List A) → length (positions test 0 items) ≡ length (filter test items)
  length-positions test items = length-from test 0 items

  same_from : (one other : A → Bool) → ((x : A) → one x ≡ other x) → (i : ℕ) (items : List A) → positions one i items ≡ positions other i items
  same_from one other same i [] = refl
  same_from one other same i (x ∷ xs) = λ k. if same x k then i ∷ same_from one other same (i + 1) xs k else same_from one other same (i + 1) xs k

  pub positions_same : (one other : A → Bool) → ((x : A) → one x ≡ other x) → (items : List A) → positions one 0 items ≡ positions other 0 items
  positions_same one other same items = same_from one other same 0 items

-- ---- a range of numbers, one after another

pub range-next : (i n : ℕ) → i < n → range_with_len i (n - i) ≡ i ∷ range_with_len (i + 1) (n - (i + 1))
range-next i n lt =
    let e : n - i ≡ suc (n - (i + 1)) = omega (arith, lt) in
    ap (range_with_len i) e

pub range_step : (list new : List ℕ) (i n : ℕ) → i < n → new ≡ list ++ i ∷ [] → new ++ range_with_len (i + 1) (n - (i + 1)) ≡ list ++ range_with_len i (n - i)
range_step list new i n lt is =
    ap (λ (l : List ℕ). l ++ range_with_len (i + 1) (n - (i + 1))) is
    ∙ append_assoc list (i ∷ []) (range_with_len (i + 1) (n - (i + 1)))
    ∙ ap (λ (l : List ℕ). list ++ l) (sym (range-next i n lt))
