-- Of numbers that are given in turn: none of them is taken, and no two are the same.
use Rattle.std.proofs.Common.{◌≡◌, ◌≢◌, ◌⊎◌, ℕ, suc, ◌+◌, ◌<◌, ◌≤◌, ◌↔◌, List, [], ◌∷◌, ◌++◌, length, get_or, drop, All, Contains, refl, sym, subst, add-one, append-nil, append_assoc, arith, inl, inr}
use Rattle.std.specs.List.{AllPairs}
use Rattle.std.specs.List.Sorted.{IsStrictlyIncreasing}
use Rattle.std.proofs.lemmas.Bool.{cases_lt}
use Rattle.std.proofs.lemmas.List.Elements.{All-nil, All-cons, All-push, All-weaker, All-contains, Contains-append_left, Contains-append_right, Contains-append_cases, Contains-push, Contains-get_or}
use Rattle.std.proofs.lemmas.List.Kept.{AllPairs-cons, AllPairs-from_increasing}
use Rattle.round_engine.specs.Numbering.{IsLeastFree, AreLeast, AreAhead, IsNextFree, SameFrom}

-- ---- what the numbers are

-- none of the numbers is taken
pub All-from_AreLeast : (taken given ns : List ℕ) → AreLeast taken given ns → All (λ n. ¬ Contains taken n) ns
All-from_AreLeast taken given [] least = All-nil (λ n. ¬ Contains taken n)
All-from_AreLeast taken given (n ∷ ns) least = All-cons (λ n. ¬ Contains taken n) n ns least.0.untaken (All-from_AreLeast taken (given ++ n ∷ []) ns least.1)

-- none of the numbers was given before
pub All-new_from_AreLeast : (taken given ns : List ℕ) → AreLeast taken given ns → All (λ n. ¬ Contains given n) ns
All-new_from_AreLeast taken given [] least = All-nil (λ n. ¬ Contains given n)
All-new_from_AreLeast taken given (n ∷ ns) least =
    All-cons (λ n. ¬ Contains given n) n ns least.0.new (All-weaker (λ m. ¬ Contains (given ++ n ∷ []) m) (λ m. ¬ Contains given m) (λ m new here. new (Contains-append_left given (n ∷ []) m here)) ns (All-new_from_AreLeast taken (given ++ n ∷ []) ns least.1))

-- no two of the numbers are the same
pub AllPairs-from_AreLeast : (taken given ns : List ℕ) → AreLeast taken given ns → AllPairs (λ a b. a ≢ b) ns
AllPairs-from_AreLeast taken given [] least = λ i j d lt within. absurd (omega arith)
AllPairs-from_AreLeast taken given (n ∷ ns) least =
    AllPairs-cons (λ a b. a ≢ b) n ns
    (All-weaker (λ m. ¬ Contains (given ++ n ∷ []) m) (λ m. n ≢ m) (λ m new same. new (subst (Contains (given ++ n ∷ [])) same (Contains-push given n))) ns (All-new_from_AreLeast taken (given ++ n ∷ []) ns least.1))
    (AllPairs-from_AreLeast taken (given ++ n ∷ []) ns least.1)

-- one more number
pub AreLeast-push : (taken given ns : List ℕ) (n : ℕ) → AreLeast taken given ns → IsLeastFree taken (given ++ ns) n → AreLeast taken given (ns ++ n ∷ [])
AreLeast-push taken given [] n least free = (rw append-nil at free, tt)
AreLeast-push taken given (m ∷ ns) n least free = (least.0, AreLeast-push taken (given ++ m ∷ []) ns n least.1 (rw append_assoc free))

-- ---- the taken numbers that are left

here_or_later : (first : ℕ) (rest : List ℕ) (m : ℕ) → Contains (first ∷ rest) m → (m ≡ first) ⊎ Contains rest m
here_or_later first rest m has = elim (Contains-append_cases (first ∷ []) rest m has) [
  | inl here ↦ inl (All-contains (λ y. y ≡ first) (first ∷ []) m (All-cons (λ y. y ≡ first) first [] refl (All-nil (λ y. y ≡ first))) here)
  | inr later ↦ inr later
]

increasing-rest : (first : ℕ) (rest : List ℕ) → IsStrictlyIncreasing (first ∷ rest) → IsStrictlyIncreasing rest
increasing-rest first rest up = λ k within. rw (add-one k) (rw (add-one (suc k)) at (up (suc k) (omega arith)))

above-first : (first : ℕ) (rest : List ℕ) → IsStrictlyIncreasing (first ∷ rest) → All (λ n. first < n) rest
above-first first rest up = λ j d within. AllPairs-from_increasing (first ∷ rest) up 0 (suc j) d (omega arith) (omega arith)

first-next : (first : ℕ) (rest : List ℕ) (next : ℕ) → AreAhead (first ∷ rest) next → Contains (first ∷ rest) next → first ≡ next
first-next first rest next ready has = elim (here_or_later first rest next has) [
  | inl here ↦ sym here
  | inr later ↦
      let ahead : next ≤ first = All-contains (λ n. next ≤ n) (first ∷ rest) first ready.ahead (Contains-append_left (first ∷ []) rest first (Contains-push [] first)) in
      let above : first < next = All-contains (λ n. first < n) rest next (above-first first rest ready.ascending) later in
      omega arith
]

-- the first of the rest is `next` where `next` is among them
pub Contains-next : (left : List ℕ) (next : ℕ) → 0 < length left → AreAhead left next → (get_or left 0 0 ≡ next) ↔ Contains left next
Contains-next [] next some ready = absurd (omega arith)
Contains-next (first ∷ rest) next some ready = (
  (λ same. subst (Contains (first ∷ rest)) same (Contains-append_left (first ∷ []) rest first (Contains-push [] first))),
  (λ has. first-next first rest next ready has),
)

-- since `next` is not left, all that are left are above it
pub AreAhead-more : (left : List ℕ) (next : ℕ) → AreAhead left next → ¬ Contains left next → AreAhead left (next + 1)
AreAhead-more left next ready untaken = record {
  ascending = ready.ascending;
  ahead = λ k d within.
      let at : next ≤ get_or left k d = ready.ahead k d within in
      elim (cases_lt next (get_or left k d)) [
        | inl lt ↦ omega arith
        | inr le ↦ let same : get_or left k d ≡ next = omega arith in absurd (untaken (subst (Contains left) same (Contains-get_or left k d within)))
      ];
}

-- from `start` on each number up to `next` was passed, and the others of the old ones are left
pub record Passes (old : List ℕ) (start : ℕ) (left : List ℕ) (next : ℕ) : Type 0 where
  pub ready : AreAhead left next
  pub since : start ≤ next
  pub passed : (m : ℕ) → start ≤ m → m < next → Contains old m
  pub same : SameFrom next old left

Passes-first : (old : List ℕ) (start first : ℕ) (rest : List ℕ) → Passes old start (first ∷ rest) first → Passes old start rest (first + 1)
Passes-first old start first rest p = record {
  ready = record {
    ascending = increasing-rest first rest p.ready.ascending;
    ahead = All-weaker (λ n. first < n) (λ n. first + 1 ≤ n) (λ n lt. omega arith) rest (above-first first rest p.ready.ascending);
  };
  since = omega arith;
  passed = λ m le lt. elim (cases_lt m first) [
    | inl below ↦ p.passed m le below
    | inr above ↦
        let is : first ≡ m = omega arith in
        subst (Contains old) is ((p.same.same first (omega arith)).0 (Contains-append_left (first ∷ []) rest first (Contains-push [] first)))
  ];
  same = record {
    same = λ m le. (
      (λ later. (p.same.same m (omega arith)).0 (Contains-append_right (first ∷ []) rest m later)),
      (λ has. elim (here_or_later first rest m ((p.same.same m (omega arith)).1 has)) [
        | inl here ↦ absurd (omega arith)
        | inr later ↦ later
      ]),
    );
  };
}

-- since `next` is taken, it is passed
pub Passes-taken : (old : List ℕ) (start : ℕ) (left : List ℕ) (next : ℕ) → Passes old start left next → Contains left next → Passes old start (drop 1 left) (next + 1)
Passes-taken old start [] next p has = let h : has.0 < length {A = ℕ} [] = has.1 in absurd (omega arith)
Passes-taken old start (first ∷ rest) next p has =
    let same : first ≡ next = first-next first rest next p.ready has in
    subst (λ n. Passes old start rest (n + 1)) same (Passes-first old start first rest (subst (Passes old start (first ∷ rest)) (sym same) p))

-- where `next` is not left, it is free
pub IsNextFree-from_Passes : (old : List ℕ) (start : ℕ) (left : List ℕ) (next : ℕ) → Passes old start left next → ¬ Contains left next → IsNextFree old start next
IsNextFree-from_Passes old start left next p untaken = record {
  from = p.since;
  untaken = λ has. untaken ((p.same.same next (omega arith)).1 has);
  passed = p.passed;
}

pub SameFrom-more : (next : ℕ) (old new : List ℕ) → SameFrom next old new → SameFrom (next + 1) old new
SameFrom-more next old new s = record { same = λ m le. s.same m (omega arith) }

-- there is one next free number
pub IsNextFree-least : (left : List ℕ) (next a b : ℕ) → IsNextFree left next a → IsNextFree left next b → a ≤ b
IsNextFree-least left next a b first second = elim (cases_lt b a) [
  | inl lt ↦ absurd (second.untaken (first.passed b second.from lt))
  | inr le ↦ le
]

-- ---- the numbers that were given so far

-- each number below `next` is taken or given, and of the others the taken ones are left
pub record Stands (taken given left : List ℕ) (next : ℕ) : Type 0 where
  pub ready : AreAhead left next
  pub same : SameFrom next taken left
  pub below : All (λ n. n < next) given
  pub covered : (m : ℕ) → m < next → Contains taken m ⊎ Contains given m
  pub least : AreLeast taken [] given

pub Stands-nil : (taken : List ℕ) → AreAhead taken 0 → Stands taken [] taken 0
Stands-nil taken ready = record {
  ready = ready;
  same = record { same = λ m le. ((λ has. has), (λ has. has)) };
  below = All-nil (λ n. n < 0);
  covered = λ m lt. absurd (omega arith);
  least = tt;
}

module _ (taken given left : List ℕ) (next n : ℕ) (s : Stands taken given left next) (free : IsNextFree left next n) where
  -- each number below the next free one is taken or given
  covered-free : (m : ℕ) → m < n → Contains taken m ⊎ Contains given m
  covered-free m lt = elim (cases_lt m next) [
    | inl below ↦ s.covered m below
    | inr above ↦ inl ((s.same.same m above).0 (free.passed m above lt))
  ]

  -- the next free number is the least that is left
  least-free : IsLeastFree taken given n
  least-free = record {
    untaken = λ has. free.untaken ((s.same.same n free.from).1 has);
    new = λ has. let lt : n < next = All-contains (λ m. m < next) given n s.below has in let le = free.from in omega arith;
    least = covered-free;
  }

  pub Stands-push : (new : List ℕ) → AreAhead new (n + 1) → SameFrom (n + 1) left new → Stands taken (given ++ n ∷ []) new (n + 1)
  Stands-push new ready same = record {
    ready = ready;
    same = record {
      same = λ m le.
          let from : next ≤ n = free.from in
          let old = s.same.same m (omega arith) in
          let kept = same.same m le in
          ((λ has. old.0 (kept.0 has)), (λ has. kept.1 (old.1 has)));
    };
    below = All-push (λ m. m < n + 1) given n (All-weaker (λ m. m < next) (λ m. m < n + 1) (λ m lt. let le : next ≤ n = free.from in omega arith) given s.below) (omega arith);
    covered = λ m lt. elim (cases_lt m n) [
      | inl before ↦ elim (covered-free m before) [
        | inl has ↦ inl has
        | inr has ↦ inr (Contains-append_left given (n ∷ []) m has)
      ]
      | inr le ↦ let is : n ≡ m = omega arith in inr (subst (Contains (given ++ n ∷ [])) is (Contains-push given n))
    ];
    least = AreLeast-push taken [] given n s.least least-free;
  }
