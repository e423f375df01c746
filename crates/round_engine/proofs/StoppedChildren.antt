-- Children of a run that are stopped one after another.
use Rattle.std.proofs.Common.{◌≡◌, ◌≢◌, ◌==◌, ℕ, zero, suc, not, Bool, true, false, List, [], ◌∷◌, ◌++◌, Contains, ◌⊎◌, inl, inr, Option, None, Some, IfSome, IsSomeAnd, refl, sym, ap, subst, ◌∙◌, append-nil, append_assoc, arith}
use Rattle.std.proofs.lemmas.Bool.{eqb-true, eq-eqb, false≢true}
use Rattle.std.specs.List.{AllByRecursion}
use Rattle.std.proofs.lemmas.List.Elements.{filter-append, Contains-append_left, Contains-append_right, Contains-append_cases}
use Rattle.apt_outside.proofs.Live.{without_last}
use Rattle.apt_outside.specs.Child.{Child, State, Attends, StaysSent, without}
use Rattle.round_engine.specs.Shown.{AreFresh, IsSame, AllSame, StopsAll, LiveInTurn, without_each}

-- ---- what they were sent

same_refl : (o : Option Child) → IfSome o (λ before. IsSomeAnd o (IsSame before))
same_refl None = tt
same_refl (Some c) = record { name = refl; command = refl; sent = refl }

same_then : (x y z : Option Child) → IfSome x (λ a. IsSomeAnd y (IsSame a)) → IfSome y (λ b. IsSomeAnd z (IsSame b)) → IfSome x (λ a. IsSomeAnd z (IsSame a))
same_then None y z first second = tt
same_then (Some a) None z first second = absurd first
same_then (Some a) (Some b) None first second = absurd second
same_then (Some a) (Some b) (Some c) first second = record { name = second.name ∙ first.name; command = second.command ∙ first.command; sent = second.sent ∙ first.sent }

module _ (child : ℕ) (k0 k1 : State) (attends : Attends child k0 k1) (stays : StaysSent child k0 k1) where
  stopped : (x : Option Child) → k0.known child ≡ x → IfSome x (λ a. IsSomeAnd (k1.known child) (IsSame a))
  stopped None is = tt
  stopped (Some a) is =
      let b = attends.change.same_child a is in
      let sent : b.0.sent ≡ a.sent = subst (λ o. IsSomeAnd o (λ c. c.sent ≡ a.sent)) b.1 (subst (λ o. IfSome o (λ c. IsSomeAnd (k1.known child) (λ d. d.sent ≡ c.sent))) is stays.same_sent) in
      subst (λ o. IsSomeAnd o (IsSame a)) (sym b.1) (record { name = b.2; command = b.3; sent = sent })

  same_by : (k : ℕ) (b : Bool) → (k == child) ≡ b → IfSome (k0.known k) (λ a. IsSomeAnd (k1.known k) (IsSame a))
  same_by k true is = subst (λ n. IfSome (k0.known n) (λ a. IsSomeAnd (k1.known n) (IsSame a))) (sym (eqb-true k child is)) (stopped (k0.known child) refl)
  same_by k false is =
      let other : k ≢ child = λ e. false≢true (sym is ∙ eq-eqb k child e) in
      subst (λ o. IfSome (k0.known k) (λ a. IsSomeAnd o (IsSame a))) (sym (attends.change.others k other)) (same_refl (k0.known k))

  pub same_one : AllSame k0.known k1.known
  same_one k = same_by k (k == child) refl

  -- one more was stopped, and then the others
  pub stops_one : (group : List ℕ) (k2 : State) → StopsAll group k1 k2 → StopsAll (child ∷ group) k0 k2
  stops_one group k2 later = record {
    attends = record {
      same_says = later.attends.same_says ∙ attends.same_says;
      same_tried = later.attends.same_tried ∙ attends.same_tried;
      others = λ k out. later.attends.others k out.1 ∙ attends.change.others k (λ e. out.0 (sym e));
    };
    same = λ k. same_then (k0.known k) (k1.known k) (k2.known k) (same_one k) (later.same k);
  }

-- nothing was called
pub stays_still : (child : ℕ) (k : State) → StaysSent child k k
stays_still child k = record { same_sent = same (k.known child) }
  where
    same : (o : Option Child) → IfSome o (λ before. IsSomeAnd o (λ after. after.sent ≡ before.sent))
    same None = tt
    same (Some c) = refl

pub stops_none : (k : State) → StopsAll [] k k
stops_none k = record { attends = record { same_says = refl; same_tried = refl; others = λ child out. refl }; same = λ child. same_refl (k.known child) }

-- ---- which live

pub all_contained : (P : ℕ → Type 0) (group : List ℕ) → ((c : ℕ) → Contains group c → P c) → AllByRecursion P group
all_contained P [] each = tt
all_contained P (c ∷ group) each = (each c (0, omega arith, refl), all_contained P group (λ d found. each d (suc found.0, omega (arith, found.1), found.2)))

-- a list without a number that it does not have
kept : (c : ℕ) (xs : List ℕ) → ¬ Contains xs c → without c xs ≡ xs
kept c xs absent = sym (append-nil (without c xs)) ∙ ap (λ ys. without c xs ++ ys) (sym last) ∙ sym (filter-append (λ k. not (k == c)) xs (c ∷ [])) ∙ without_last c xs absent
  where
    last : without c (c ∷ []) ≡ []
    last = rw (eq-eqb c c refl) refl

-- none of a fresh group was there before
fresh_absent : (c : ℕ) (live group : List ℕ) → AreFresh live group → Contains live c → ¬ Contains group c
fresh_absent c live [] fresh there found = absurd (omega (arith, found.1))
fresh_absent c live (d ∷ group) fresh there (zero, lt, is) = fresh.0 (subst (Contains live) (sym is) there)
fresh_absent c live (d ∷ group) fresh there (suc at, lt, is) = fresh_absent c (live ++ d ∷ []) group fresh.1 (Contains-append_left live (d ∷ []) c there) (at, omega (arith, lt), is)

fresh_weaker : (xs ys group : List ℕ) → ((c : ℕ) → Contains xs c → Contains ys c) → AreFresh ys group → AreFresh xs group
fresh_weaker xs ys [] within fresh = tt
fresh_weaker xs ys (d ∷ group) within fresh =
    (λ found. fresh.0 (within d found), fresh_weaker (xs ++ d ∷ []) (ys ++ d ∷ []) group (λ c found. more c (Contains-append_cases xs (d ∷ []) c found)) fresh.1)
  where
    more : (c : ℕ) → Contains xs c ⊎ Contains (d ∷ []) c → Contains (ys ++ d ∷ []) c
    more c (inl found) = Contains-append_left ys (d ∷ []) c (within c found)
    more c (inr found) = Contains-append_right ys (d ∷ []) c found

without_first : (c : ℕ) (live group : List ℕ) → AreFresh live (c ∷ group) → without c (live ++ c ∷ group) ≡ live ++ group
without_first c live group fresh =
    let here : Contains (live ++ c ∷ []) c = Contains-append_right live (c ∷ []) c (0, omega arith, refl) in
    ap (without c) (sym (append_assoc live (c ∷ []) group)) ∙ filter-append (λ k. not (k == c)) (live ++ c ∷ []) group
    ∙ ap (λ xs. xs ++ without c group) (without_last c live fresh.0) ∙ ap (λ ys. live ++ ys) (kept c group (fresh_absent c (live ++ c ∷ []) group fresh.1 here))

later_fresh : (c : ℕ) (live group : List ℕ) → AreFresh live (c ∷ group) → AreFresh live group
later_fresh c live group fresh = fresh_weaker live (live ++ c ∷ []) group (λ d found. Contains-append_left live (c ∷ []) d found) fresh.1

-- a fresh group that lives behind others can be stopped, and then the others live
pub fresh_ends : (live group : List ℕ) → AreFresh live group → without_each group (live ++ group) ≡ live
fresh_ends live [] fresh = append-nil live
fresh_ends live (c ∷ group) fresh = ap (without_each group) (without_first c live group fresh) ∙ fresh_ends live group (later_fresh c live group fresh)

pub fresh_live : (live group : List ℕ) → AreFresh live group → LiveInTurn group (live ++ group)
fresh_live live [] fresh = tt
fresh_live live (c ∷ group) fresh =
    (Contains-append_right live (c ∷ group) c (0, omega arith, refl), subst (LiveInTurn group) (sym (without_first c live group fresh)) (fresh_live live group (later_fresh c live group fresh)))

-- each of a group that lives behind others lives
pub all_live : (live group now : List ℕ) → now ≡ live ++ group → AllByRecursion (Contains now) group
all_live live group now is = all_contained (Contains now) group (λ c found. subst (λ xs. Contains xs c) (sym is) (Contains-append_right live group c found))

-- one more joins
pub fresh_more : (live group : List ℕ) (c : ℕ) → AreFresh live group → ¬ Contains (live ++ group) c → AreFresh live (group ++ c ∷ [])
fresh_more live [] c fresh absent = (λ found. absent (subst (λ xs. Contains xs c) (sym (append-nil live)) found), tt)
fresh_more live (d ∷ group) c fresh absent = (fresh.0, fresh_more (live ++ d ∷ []) group c fresh.1 (λ found. absent (subst (λ xs. Contains xs c) (append_assoc live (d ∷ []) group) found)))
