-- The set that is found step by step is the least closed one.
use Rattle.std.proofs.Common.{◌≡◌, ◌↔◌, ◌⊎◌, inl, inr, ℕ, zero, suc, ◌+◌, ◌≤◌, ◌<◌, Bool, true, false, not, ◌&&◌, ◌||◌, T, List, [], ◌∷◌, ◌++◌, length, Option, None, Some, is_some, if◌then◌else◌, refl, sym, ap, subst, ◌∙◌, arith}
use Rattle.std.specs.List.{list_any, flat_map}
use Rattle.std.specs.Str.{bytes_eq}
use Rattle.std.specs.FinMap as fin
use Rattle.std.proofs.lemmas.List.Folds.{list_any-append}
use Rattle.decl_tree.specs.declared.compilation.UnitText.{UnitText}
use Rattle.apt_base.specs.Names.{NameSet, with_names, names_in}
use Rattle.apt_base.specs.declared.kinds.Kind.{Kind}
use Rattle.apt_base.specs.declared.kinds.Kind.TheVariants.{Isolating, Aggregating, Dynamic, Undeclared}
use Rattle.apt_base.proofs.NameSets.{contains-empty}
use Rattle.element_table.specs.TypeTable.{TypeTable}
use Rattle.reach_map.specs.Candidates.{candidates}
use Rattle.reach_map.specs.CandidateSets.{candidate_set, candidate_list}
use Rattle.reach_map.specs.ClosedCuts.{among, HoldsAll, IsClosedSet}
use Rattle.reach_map.specs.Reaching.{candidates_of, candidates_behind, holds, missing}
use Rattle.reach_map.proofs.NamesLemmas.{or_cases, or_left, or_right, same_as, is_itself, from_each, to_each, holds-with_names, among-keys, all_grow, has_new}
use Rattle.beyond_reach.specs.Beyond.{LeadsTo, IsReached, IsOutside, SomeOutside, Noted, AskedBeyond}
use Rattle.beyond_reach.specs.Reached.{behind_all, with_candidates, after_steps, reached_from, is_outside, some_outside, asked_beyond}
use Rattle.beyond_reach.specs.Decided.{BeyondLaws, BeyondIsDecided}

-- ---- tests

pub not_both : (b : Bool) → T (not b) → T b → ⊥
not_both true n t = n
not_both false n t = t

pub not_is : (b : Bool) → (T b → ⊥) → T (not b)
not_is true f = absurd (f tt)
not_is false f = tt

false_of : (b : Bool) → T (not b) → b ≡ false
false_of true n = absurd n
false_of false n = refl

pub both_of : (a b : Bool) → T (a && b) → T a × T b
both_of true b t = (tt, t)
both_of false b t = absurd t

pub both_to : (a b : Bool) → T a → T b → T (a && b)
both_to true b s t = t
both_to false b s t = s

pub true_of : (b : Bool) → T b → b ≡ true
true_of true t = refl
true_of false t = absurd t

pub of_true : (b : Bool) → b ≡ true → T b
of_true b e = subst T (sym e) tt

-- ---- lists of names

-- what stands in one of the lists
in_flat : (f : List ℕ → List (List ℕ)) (names : List (List ℕ)) (name q : List ℕ) → T (among names name) → T (among (f name) q) → T (among (flat_map f names) q)
in_flat f [] name q m h = absurd m
in_flat f (n ∷ names) name q m h =
    subst T (sym (list_any-append (bytes_eq q) (f n) (flat_map f names)))
    (or_cases (bytes_eq name n) (among names name) m
    (λ e. or_left (among (f n) q) (among (flat_map f names) q) (subst (λ x. T (among (f x) q)) (same_as name n e) h))
    (λ r. or_right (among (f n) q) (among (flat_map f names) q) (in_flat f names name q r h)))

pub record StandsIn (f : List ℕ → List (List ℕ)) (names : List (List ℕ)) (q : List ℕ) : Type 0 where
  pub name : List ℕ
  pub there : T (among names name)
  pub holds : T (among (f name) q)

from_flat : (f : List ℕ → List (List ℕ)) (names : List (List ℕ)) (q : List ℕ) → T (among (flat_map f names) q) → StandsIn f names q
from_flat f [] q m = absurd m
from_flat f (n ∷ names) q m =
    or_cases (among (f n) q) (among (flat_map f names) q) (subst T (list_any-append (bytes_eq q) (f n) (flat_map f names)) m)
    (λ h. record { name = n; there = or_left (bytes_eq n n) (among names n) (is_itself n); holds = h })
    (λ r. let rest = from_flat f names q r in record { name = rest.name; there = or_right (bytes_eq rest.name n) (among names rest.name) rest.there; holds = rest.holds })

-- ---- candidates as a list

pub no_more : (q : List ℕ) (list : List (List ℕ)) → T (holds (with_names fin.empty list) q) → T (among list q)
no_more q list t =
    or_cases (among list q) (holds fin.empty q) (subst T (holds-with_names fin.empty list q) t) (λ m. m) (λ h. absurd (subst T (contains-empty q) h))

from_list : (u : UnitText) (q : List ℕ) → T (among (candidate_list u) q) → T (among (candidates u) q)
unfolding candidate_set
from_list u q t = no_more q (candidates u) (subst T (sym (among-keys (candidate_set u) q)) t)

to_list : (u : UnitText) (q : List ℕ) → T (among (candidates u) q) → T (among (candidate_list u) q)
unfolding candidate_set
to_list u q t = subst T (among-keys (candidate_set u) q) (has_new fin.empty (candidates u) q t)

module _ (table : TypeTable) where
  in_closed : (other : List ℕ → Bool) → IsClosedSet table other → (name : List ℕ) → T (other name) → (q : List ℕ) → T (among (candidates_behind table name) q) → T (other q)
  in_closed other closed name o q m = at (fin.get table.source name) refl m
    where
      at : (found : Option UnitText) → fin.get table.source name ≡ found → T (among (candidates_of found) q) → T (other q)
      at None e m = absurd m
      at (Some u) e m = from_each other (candidates u) (closed name u o e) q (from_list u q m)

  -- ---- one step

  grown : (names : NameSet) (q : List ℕ) → T (holds names q) → T (holds (with_candidates table names) q)
  grown names q h = all_grow names (behind_all table names) q h

  -- a name that is there after a step was there, or a name that was there has it behind it
  before : {P : Type 0} (names : NameSet) (q : List ℕ) → T (holds (with_candidates table names) q) → (StandsIn (candidates_behind table) (names_in names) q → P) → (T (holds names q) → P) → P
  before names q t new old =
      or_cases (among (behind_all table names) q) (holds names q) (subst T (holds-with_names names (behind_all table names) q) t)
      (λ m. new (from_flat (candidates_behind table) (names_in names) q m)) old

  was_there : (names : NameSet) → IsClosedSet table (holds names) → (q : List ℕ) → T (holds (with_candidates table names) q) → T (holds names q)
  was_there names closed q t =
      before names q t (λ m. in_closed (holds names) closed m.name (subst T (sym (among-keys names m.name)) m.there) q m.holds) (λ h. h)

  stays_closed : (names : NameSet) → IsClosedSet table (holds names) → IsClosedSet table (holds (with_candidates table names))
  stays_closed names closed q u t e = to_each (holds (with_candidates table names)) (candidates u) (λ p m.
      grown names p (from_each (holds names) (candidates u) (closed q u (was_there names closed q t) e) p m))

  -- where no source is new all is found
  abbrev NoNew : NameSet → Type 0
  NoNew names = (q : List ℕ) → T (among (fin.keys table.source) q) → T (holds (with_candidates table names) q) → T (holds names q)

  is_closed : (names : NameSet) → NoNew names → IsClosedSet table (holds (with_candidates table names))
  is_closed names none q u t e = to_each (holds (with_candidates table names)) (candidates u) (λ p m.
      has_new names (behind_all table names) p
      (in_flat (candidates_behind table) (names_in names) q p (subst T (among-keys names q) (none q source t)) (subst (λ (found : Option UnitText). T (among (candidates_of found) p)) (sym e) (to_list u p m))))
    where
      source : T (among (fin.keys table.source) q)
      source = subst T (among-keys table.source q) (subst T (sym (ap is_some e)) tt)

  -- ---- as many steps as there are sources that are missing, and one

  no_more_missing : (some more : NameSet) → ((q : List ℕ) → T (holds some q) → T (holds more q)) → (keys : List (List ℕ)) → missing more keys ≤ missing some keys
  unfolding missing
  no_more_missing some more grow [] = omega arith
  no_more_missing some more grow (k ∷ keys) = go (holds some k) (holds more k) (grow k) (no_more_missing some more grow keys)
    where
      go : (a b : Bool) → (T a → T b) → missing more keys ≤ missing some keys → (if b then missing more keys else suc (missing more keys)) ≤ (if a then missing some keys else suc (missing some keys))
      go true true f h = h
      go true false f h = absurd (f tt)
      go false true f h = omega (arith, h)
      go false false f h = omega (arith, h)

  abbrev AllOld : NameSet → NameSet → List (List ℕ) → Type 0
  AllOld some more keys = (q : List ℕ) → T (among keys q) → T (holds more q) → T (holds some q)

  new_or_less : (some more : NameSet) → ((q : List ℕ) → T (holds some q) → T (holds more q)) → (keys : List (List ℕ)) → AllOld some more keys ⊎ (missing more keys < missing some keys)
  unfolding missing
  new_or_less some more grow [] = inl (λ q m h. absurd m)
  new_or_less some more grow (k ∷ keys) = go (holds some k) (holds more k) refl refl (no_more_missing some more grow keys) (new_or_less some more grow keys)
    where
      first : (q : List ℕ) → T (holds some k) → T (bytes_eq q k) → T (holds some q)
      first q h e = subst (λ x. T (holds some x)) (sym (same_as q k e)) h

      go : (a b : Bool) → holds some k ≡ a → holds more k ≡ b → missing more keys ≤ missing some keys → AllOld some more keys ⊎ (missing more keys < missing some keys)
          → AllOld some more (k ∷ keys) ⊎ ((if b then missing more keys else suc (missing more keys)) < (if a then missing some keys else suc (missing some keys)))
      go true true ea eb le (inl f) = inl (λ q m h. or_cases (bytes_eq q k) (among keys q) m (first q (subst T (sym ea) tt)) (λ r. f q r h))
      go true true ea eb le (inr lt) = inr lt
      go true false ea eb le r = absurd (subst T eb (grow k (subst T (sym ea) tt)))
      go false true ea eb le r = inr (omega (arith, le))
      go false false ea eb le (inl f) = inl (λ q m h. or_cases (bytes_eq q k) (among keys q) m (λ e. absurd (subst T eb (subst (λ x. T (holds more x)) (same_as q k e) h))) (λ r. f q r h))
      go false false ea eb le (inr lt) = inr (omega (arith, lt))

  stay_closed : (n : ℕ) (names : NameSet) → IsClosedSet table (holds names) → IsClosedSet table (holds (after_steps table n names))
  unfolding after_steps
  stay_closed zero names closed = closed
  stay_closed (suc n) names closed = stay_closed n (with_candidates table names) (stays_closed names closed)

  closes : (n : ℕ) (names : NameSet) → missing names (fin.keys table.source) < n → IsClosedSet table (holds (after_steps table n names))
  unfolding after_steps
  closes zero names lt = absurd (omega (arith, lt))
  closes (suc n) names lt = by (new_or_less names (with_candidates table names) (grown names) (fin.keys table.source)) (closes n (with_candidates table names))
    where
      by : AllOld names (with_candidates table names) (fin.keys table.source) ⊎ (missing (with_candidates table names) (fin.keys table.source) < missing names (fin.keys table.source))
          → (missing (with_candidates table names) (fin.keys table.source) < n → IsClosedSet table (holds (after_steps table n (with_candidates table names))))
          → IsClosedSet table (holds (after_steps table n (with_candidates table names)))
      by (inl old) more = stay_closed n (with_candidates table names) (is_closed names old)
      by (inr less) more = more (omega (arith, less, lt))

  most_missing : (names : NameSet) (keys : List (List ℕ)) → missing names keys ≤ length keys
  unfolding missing
  most_missing names [] = omega arith
  most_missing names (k ∷ keys) = go (holds names k) (most_missing names keys)
    where
      go : (b : Bool) → missing names keys ≤ length keys → (if b then missing names keys else suc (missing names keys)) ≤ suc (length keys)
      go true h = omega (arith, h)
      go false h = omega (arith, h)

  all_there : (n : ℕ) (names : NameSet) (q : List ℕ) → T (holds names q) → T (holds (after_steps table n names) q)
  unfolding after_steps
  all_there zero names q h = h
  all_there (suc n) names q h = all_there n (with_candidates table names) q (grown names q h)

  -- ---- nothing else is found

  module _ (units : List (List ℕ)) where
    abbrev AllReached : NameSet → Type 0
    AllReached names = (q : List ℕ) → T (holds names q) → IsReached table units q

    further : (name q : List ℕ) → IsReached table units name → T (among (candidates_behind table name) q) → IsReached table units q
    further name q reached m = (reached.0, (reached.1.0, λ names here closed. in_closed names closed name (reached.1.1 names here closed) q m))

    one_step : (names : NameSet) → AllReached names → AllReached (with_candidates table names)
    one_step names all q t =
        before names q t (λ m. further m.name q (all m.name (subst T (sym (among-keys names m.name)) m.there)) m.holds) (all q)

    all_steps : (n : ℕ) (names : NameSet) → AllReached names → AllReached (after_steps table n names)
    unfolding after_steps
    all_steps zero names all = all
    all_steps (suc n) names all = all_steps n (with_candidates table names) (one_step names all)

    at_first : AllReached (with_names fin.empty units)
    at_first q t = (q, (no_more q units t, λ names here closed. here))

    -- ---- the law

    pub found_is_reached : (name : List ℕ) → T (fin.contains_key (reached_from table units) name) → IsReached table units name
    unfolding reached_from
    found_is_reached name t = all_steps (suc (length (fin.keys table.source))) (with_names fin.empty units) at_first name t

    pub reached-is_closed : IsClosedSet table (holds (reached_from table units))
    unfolding reached_from
    reached-is_closed =
        let most = most_missing (with_names fin.empty units) (fin.keys table.source) in
        closes (suc (length (fin.keys table.source))) (with_names fin.empty units) (omega (arith, most))

    pub units_are_found : (unit : List ℕ) → T (among units unit) → T (holds (reached_from table units) unit)
    unfolding reached_from
    units_are_found unit m = all_there (suc (length (fin.keys table.source))) (with_names fin.empty units) unit (has_new fin.empty units unit m)

    pub reached_is_found : (name : List ℕ) → IsReached table units name → T (fin.contains_key (reached_from table units) name)
    reached_is_found name (unit, (m, leads)) = leads (holds (reached_from table units)) (units_are_found unit m) reached-is_closed

    -- ---- names outside

    outside_is : (name : List ℕ) → T (is_outside table (reached_from table units) name) → IsOutside table units name
    outside_is name t =
        let both = both_of (not (fin.contains_key table.stub name)) (not (fin.contains_key (reached_from table units) name)) t in
        record {
          no_stub = false_of (fin.contains_key table.stub name) both.0;
          unreached = λ reached. not_both (fin.contains_key (reached_from table units) name) both.1 (reached_is_found name reached);
        }

    is_outside-of : (name : List ℕ) → IsOutside table units name → T (is_outside table (reached_from table units) name)
    is_outside-of name out =
        both_to (not (fin.contains_key table.stub name)) (not (fin.contains_key (reached_from table units) name))
        (subst (λ (b : Bool). T (not b)) (sym out.no_stub) tt)
        (not_is (fin.contains_key (reached_from table units) name) (λ t. out.unreached (found_is_reached name t)))

    some_is : (names : List (List ℕ)) → T (some_outside table units names) → SomeOutside table units names
    some_is [] t = absurd t
    some_is (n ∷ names) t =
        or_cases (is_outside table (reached_from table units) n) (some_outside table units names) t
        (λ h. (n, (or_left (bytes_eq n n) (among names n) (is_itself n), outside_is n h)))
        (λ r. let rest = some_is names r in (rest.0, (or_right (bytes_eq rest.0 n) (among names rest.0) rest.1.0, rest.1.1)))

    is_some_of : (names : List (List ℕ)) → SomeOutside table units names → T (some_outside table units names)
    is_some_of [] (name, (m, out)) = absurd m
    is_some_of (n ∷ names) (name, (m, out)) =
        or_cases (bytes_eq name n) (among names name) m
        (λ e. or_left (is_outside table (reached_from table units) n) (some_outside table units names) (subst (λ x. T (is_outside table (reached_from table units) x)) (same_as name n e) (is_outside-of name out)))
        (λ r. or_right (is_outside table (reached_from table units) n) (some_outside table units names) (is_some_of names (name, (r, out))))

    beyond_is : (kind : Kind) (noted : Noted) → T (asked_beyond kind table units noted) → AskedBeyond kind table units noted
    beyond_is Isolating noted t = or_cases (some_outside table units noted.asked) noted.wide t (λ o. inl (some_is noted.asked o)) (λ w. inr (true_of noted.wide w))
    beyond_is Aggregating noted t =
        or_cases (some_outside table units noted.asked) (noted.wide || noted.gathered) t (λ o. inl (some_is noted.asked o))
        (λ r. inr (or_cases noted.wide noted.gathered r (λ w. inl (true_of noted.wide w)) (λ g. inr (true_of noted.gathered g))))
    beyond_is Dynamic noted t = t
    beyond_is Undeclared noted t = t

    is_beyond-of : (kind : Kind) (noted : Noted) → AskedBeyond kind table units noted → T (asked_beyond kind table units noted)
    is_beyond-of Isolating noted (inl o) = or_left (some_outside table units noted.asked) noted.wide (is_some_of noted.asked o)
    is_beyond-of Isolating noted (inr w) = or_right (some_outside table units noted.asked) noted.wide (of_true noted.wide w)
    is_beyond-of Aggregating noted (inl o) = or_left (some_outside table units noted.asked) (noted.wide || noted.gathered) (is_some_of noted.asked o)
    is_beyond-of Aggregating noted (inr (inl w)) = or_right (some_outside table units noted.asked) (noted.wide || noted.gathered) (or_left noted.wide noted.gathered (of_true noted.wide w))
    is_beyond-of Aggregating noted (inr (inr g)) = or_right (some_outside table units noted.asked) (noted.wide || noted.gathered) (or_right noted.wide noted.gathered (of_true noted.gathered g))
    is_beyond-of Dynamic noted o = o
    is_beyond-of Undeclared noted o = o

pub beyond_is_decided : BeyondIsDecided
beyond_is_decided table units = record {
  reached = λ name. (found_is_reached table units name, reached_is_found table units name);
  decided = λ kind noted. (beyond_is table units kind noted, is_beyond-of table units kind noted);
}
