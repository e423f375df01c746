-- Which names lie outside of what some units lead to, decided by the reach of the units; and what that decides of the questions of a round.
use Rattle.std.proofs.Common.{◌≡◌, ℕ, Bool, true, false, not, ◌&&◌, ◌||◌, T, List, [], ◌∷◌, refl, sym, ap, subst, ◌∙◌}
use Rattle.std.specs.List.{list_any}
use Rattle.std.specs.FinMap as fin
use Rattle.apt_base.specs.Names.{NameSet, with_names}
use Rattle.apt_base.specs.declared.kinds.Kind.{Kind}
use Rattle.apt_base.specs.declared.kinds.Kind.TheVariants.{Isolating, Aggregating, Dynamic, Undeclared}
use Rattle.element_table.specs.TypeTable.{TypeTable}
use Rattle.reach_map.specs.Reach.{IsReachOfAll}
use Rattle.reach_map.specs.Reaching.{holds}
use Rattle.reach_map.proofs.NamesLemmas.{or_cases, or_left, or_right, from_each, to_each}
use Rattle.beyond_reach.specs.Reached.{reached_from, is_outside, some_outside, is_beyond_by}
use Rattle.beyond_reach.proofs.ReachedLemmas.{not_both, not_is, both_of, both_to, no_more, reached-is_closed, found_is_reached, units_are_found}

-- ---- tests

same_test : (a b : Bool) → (T a → T b) → (T b → T a) → a ≡ b
same_test true true f g = refl
same_test true false f g = absurd (f tt)
same_test false true f g = absurd (g tt)
same_test false false f g = refl

any_more : (f g : List ℕ → Bool) → ((name : List ℕ) → T (f name) → T (g name)) → (names : List (List ℕ)) → T (list_any f names) → T (list_any g names)
any_more f g more [] t = t
any_more f g more (name ∷ names) t =
    or_cases (f name) (list_any f names) t (λ h. or_left (g name) (list_any g names) (more name h)) (λ r. or_right (g name) (list_any g names) (any_more f g more names r))

-- ---- names

not_less : (a b : Bool) → (T b → T a) → T (not a) → T (not b)
not_less a b f n = not_is b (λ t. not_both a n (f t))

and_more : (s a b : Bool) → (T a → T b) → T (s && a) → T (s && b)
and_more s a b f t = let both = both_of s a t in both_to s b both.0 (f both.1)

none_of : (a b : Bool) → (T b → T a) → a ≡ false → false ≡ b
none_of a true f e = absurd (subst T e (f tt))
none_of a false f e = refl

module _ (table : TypeTable) (units : List (List ℕ)) where
  -- the reach of the units is the set that is found step by step
  same_reach : (reached : NameSet) → IsReachOfAll table units (holds reached) → (q : List ℕ) → holds reached q ≡ holds (reached_from table units) q
  same_reach reached so q =
      same_test (holds reached q) (holds (reached_from table units) q)
      (so.least (holds (reached_from table units)) (to_each (holds (reached_from table units)) units (units_are_found table units)) (reached-is_closed table units) q)
      (λ t. let is = found_is_reached table units q t in is.1.1 (holds reached) (from_each (holds reached) units so.themselves is.0 is.1.0) so.closed)

  -- what is outside is no unit
  less_outside : (own : NameSet) → own ≡ with_names fin.empty units → (q : List ℕ) → T (is_outside table (reached_from table units) q) → T (is_outside table own q)
  less_outside own e q =
      and_more (not (fin.contains_key table.stub q)) (not (holds (reached_from table units) q)) (not (holds own q))
      (not_less (holds (reached_from table units) q) (holds own q)
      (λ t. units_are_found table units q (no_more q units (subst (λ (set : NameSet). T (holds set q)) e t))))

  -- where each name is that of a stub or of a unit, none is outside
  pub none_outside : (own : NameSet) (names : List (List ℕ)) → own ≡ with_names fin.empty units → list_any (is_outside table own) names ≡ false → false ≡ some_outside table units names
  none_outside own names e none =
      none_of (list_any (is_outside table own) names) (some_outside table units names)
      (any_more (is_outside table (reached_from table units)) (is_outside table own) (less_outside own e) names) none

  -- and otherwise the reach decides
  pub outside_by_reach : (reached : NameSet) (names : List (List ℕ)) → IsReachOfAll table units (holds reached) → list_any (is_outside table reached) names ≡ some_outside table units names
  outside_by_reach reached [] so = refl
  outside_by_reach reached (name ∷ names) so =
      ap (λ (b : Bool). (not (fin.contains_key table.stub name) && not b) || list_any (is_outside table reached) names) (same_reach reached so name)
      ∙ ap (λ (b : Bool). is_outside table (reached_from table units) name || b) (outside_by_reach reached names so)

-- ---- the questions of a round

pub beyond_for_all : (kind : Kind) (outside wide gathered : Bool) → is_beyond_by kind false wide gathered ≡ true → true ≡ is_beyond_by kind outside wide gathered
beyond_for_all Isolating true wide gathered e = refl
beyond_for_all Isolating false wide gathered e = sym e
beyond_for_all Aggregating true wide gathered e = refl
beyond_for_all Aggregating false wide gathered e = sym e
beyond_for_all Dynamic outside wide gathered e = cc
beyond_for_all Undeclared outside wide gathered e = cc

pub beyond_for_none : (kind : Kind) (outside wide gathered : Bool) → is_beyond_by kind true false false ≡ false → false ≡ is_beyond_by kind outside wide gathered
beyond_for_none Isolating outside wide gathered e = cc
beyond_for_none Aggregating outside wide gathered e = cc
beyond_for_none Dynamic outside wide gathered e = refl
beyond_for_none Undeclared outside wide gathered e = refl

-- where nothing else counts, the names decide
pub beyond_for_names : (kind : Kind) (outside wide gathered : Bool) → is_beyond_by kind false wide gathered ≡ false → is_beyond_by kind true false false ≡ true → outside ≡ is_beyond_by kind outside wide gathered
beyond_for_names Isolating true wide gathered e h = refl
beyond_for_names Isolating false wide gathered e h = sym e
beyond_for_names Aggregating true wide gathered e h = refl
beyond_for_names Aggregating false wide gathered e h = sym e
beyond_for_names Dynamic outside wide gathered e h = cc
beyond_for_names Undeclared outside wide gathered e h = cc
