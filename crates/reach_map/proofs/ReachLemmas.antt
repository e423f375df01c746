-- Gathering a reach: each step keeps what the gathering stands for, and makes less of what is to do.
use Rattle.std.proofs.Common.{◌≡◌, ℕ, suc, ◌+◌, ◌≤◌, ◌<◌, Bool, true, false, not, ◌&&◌, ◌||◌, T, List, [], ◌∷◌, ◌++◌, length, take, drop, get_or, ◌-◌, Option, None, Some, Result, Ok, Err, IfOk, is_some, if◌then◌else◌, refl, sym, ap, subst, ◌∙◌, arith, length-append, drop_of_length-le}
use Rattle.std.specs.Str.{bytes_eq}
use Rattle.std.specs.FinMap as fin
use Rattle.decl_tree.specs.declared.compilation.UnitText.{UnitText}
use Rattle.apt_base.specs.Names.{NameSet, with_name, with_names, names_in}
use Rattle.apt_base.proofs.NameSets.{same_names, contains-with_name, contains-empty}
use Rattle.element_table.specs.TypeTable.{TypeTable}
use Rattle.reach_map.specs.Candidates.{candidates}
use Rattle.reach_map.specs.CandidateSets.{candidate_set, candidate_list}
use Rattle.reach_map.specs.ClosedCuts.{among, HoldsAll, IsClosedSet}
use Rattle.reach_map.specs.Reach.{IsReachList, IsReachOfAll}
use Rattle.reach_map.specs.Reaching.{is_new_source, left_with, left_after, candidates_of, candidates_behind, holds, IsReaching, missing, to_do}
use Rattle.reach_map.proofs.CandidateSetsLemmas.{drop_next}
use Rattle.decl_elements.proofs.Everywhere.{each_append, each_left, each_right, each_to}
use Rattle.reach_map.proofs.NamesLemmas.{is_false, or_cases, or_left, same_as, is_itself, among_left, among_last, among-append, from_each, to_each, holds-with_names, among-keys, grows, all_grow, has_new, ascends}

-- ---- the candidates as a list have the candidates

none_more : (q : List ℕ) (list : List (List ℕ)) → T (holds (with_names fin.empty list) q) → T (among list q)
none_more q list t =
    or_cases (among list q) (holds fin.empty q) (subst T (holds-with_names fin.empty list q) t) (λ m. m) (λ h. absurd (subst T (contains-empty q) h))

from_list : (u : UnitText) (q : List ℕ) → T (among (candidate_list u) q) → T (among (candidates u) q)
unfolding candidate_set
from_list u q t = none_more q (candidates u) (subst T (sym (among-keys (candidate_set u) q)) t)

to_list : (u : UnitText) (q : List ℕ) → T (among (candidates u) q) → T (among (candidate_list u) q)
unfolding candidate_set
to_list u q t = subst T (among-keys (candidate_set u) q) (has_new fin.empty (candidates u) q t)

module _ (table : TypeTable) where
  -- ---- what is left

  with_stays : (b : Bool) (left : List (List ℕ)) (c q : List ℕ) → T (among left q) → T (among (if b then left ++ c ∷ [] else left) q)
  with_stays true left c q t = among_left left (c ∷ []) q t
  with_stays false left c q t = t

  stays : (reached : NameSet) (left names : List (List ℕ)) (q : List ℕ) → T (among left q) → T (among (left_after table reached left names) q)
  unfolding left_after
  stays reached left [] q t = t
  stays reached left (c ∷ names) q t = stays (with_name reached c) (left_with table reached left c) names q (with_stays (is_new_source table reached c) left c q t)

  -- a new source is left
  new_is_left : (reached : NameSet) (left : List (List ℕ)) (c : List ℕ) (names : List (List ℕ)) (q : List ℕ) → q ≡ c → fin.contains_key table.source q ≡ true → holds reached q ≡ false
      → T (among (left_after table reached left (c ∷ names)) q)
  unfolding left_after
  new_is_left reached left c names q e s n =
      let new : is_new_source table reached c ≡ true = ap (is_new_source table reached) (sym e) ∙ ap (λ (b : Bool). not b && fin.contains_key table.source q) n ∙ s in
      let last : T (among (left ++ c ∷ []) q) = subst (λ x. T (among (left ++ c ∷ []) x)) (sym e) (among_last left c) in
      stays (with_name reached c) (left_with table reached left c) names q
      (subst (λ (b : Bool). T (among (if b then left ++ c ∷ [] else left) q)) (sym new) last)

  -- a source that is reached and not left was reached before
  was_reached : (reached : NameSet) (left names : List (List ℕ)) (q : List ℕ) → T (holds (with_names reached names) q) → fin.contains_key table.source q ≡ true
      → among (left_after table reached left names) q ≡ false → T (holds reached q)
  unfolding left_after
  was_reached reached left [] q t s out = t
  was_reached reached left (c ∷ names) q t s out =
      or_cases (bytes_eq q c) (holds reached q)
      (subst T (contains-with_name reached c q) (was_reached (with_name reached c) (left_with table reached left c) names q t s out))
      (λ e. known (holds reached q) refl (same_as q c e)) (λ h. h)
    where
      known : (b : Bool) → holds reached q ≡ b → q ≡ c → T (holds reached q)
      known true h e = subst T (sym h) tt
      known false h e = absurd (subst T out (new_is_left reached left c names q e s h))

  -- what is left is reached
  one_more : (reached : NameSet) (c : List ℕ) (left : List (List ℕ)) → HoldsAll (holds reached) left → HoldsAll (holds (with_name reached c)) left
  one_more reached c left all = each_to (λ q. T (holds reached q)) (λ q. T (holds (with_name reached c) q)) (grows reached c) left all

  with_there : (b : Bool) (reached : NameSet) (left : List (List ℕ)) (c : List ℕ) → HoldsAll (holds reached) left → HoldsAll (holds (with_name reached c)) (if b then left ++ c ∷ [] else left)
  with_there false reached left c all = one_more reached c left all
  with_there true reached left c all =
      each_append (λ q. T (holds (with_name reached c) q)) left (c ∷ []) (one_more reached c left all)
      (subst T (sym (contains-with_name reached c c)) (or_left (bytes_eq c c) (holds reached c) (is_itself c)), tt)

  all_there : (reached : NameSet) (left names : List (List ℕ)) → HoldsAll (holds reached) left → HoldsAll (holds (with_names reached names)) (left_after table reached left names)
  unfolding left_after
  all_there reached left [] all = all
  all_there reached left (c ∷ names) all = all_there (with_name reached c) (left_with table reached left c) names (with_there (is_new_source table reached c) reached left c all)

  -- ---- one step

  -- the candidates behind a name of a closed set are in the set
  in_closed : (other : List ℕ → Bool) → IsClosedSet table other → (name : List ℕ) → T (other name) → (q : List ℕ) → T (among (candidates_behind table name) q) → T (other q)
  in_closed other closed name o q m = at (fin.get table.source name) refl m
    where
      at : (found : Option UnitText) → fin.get table.source name ≡ found → T (among (candidates_of found) q) → T (other q)
      at None e m = absurd m
      at (Some u) e m = from_each other (candidates u) (closed name u o e) q (from_list u q m)

  -- those of a source that was followed
  followed : (reached : NameSet) (name : List ℕ) (u : UnitText) → fin.get table.source name ≡ Some u → HoldsAll (holds (with_names reached (candidates_behind table name))) (candidates u)
  followed reached name u e =
      to_each (holds (with_names reached (candidates_behind table name))) (candidates u) (λ q m.
      has_new reached (candidates_behind table name) q (subst (λ (found : Option UnitText). T (among (candidates_of found) q)) (sym e) (to_list u q m)))

  module _ (roots : List (List ℕ)) (reached : NameSet) (left : List (List ℕ)) (name : List ℕ) (so : IsReaching table roots reached (left ++ name ∷ [])) where
    abbrev more : List (List ℕ)
    more = candidates_behind table name

    name_there : T (holds reached name)
    name_there = (each_right (λ q. T (holds reached q)) left (name ∷ []) so.there).0

    not_left : (q : List ℕ) → among (left_after table reached left more) q ≡ false → bytes_eq q name ≡ false → among (left ++ name ∷ []) q ≡ false
    not_left q out other =
        is_false (among (left ++ name ∷ []) q) (λ m.
        or_cases (among left q) (bytes_eq q name) (among-append left name q m) (λ l. subst T out (stays reached left more q l)) (λ e. subst T other e))

    by_name : (q : List ℕ) (u : UnitText) (b : Bool) → bytes_eq q name ≡ b → fin.get table.source q ≡ Some u → T (holds reached q) → among (left_after table reached left more) q ≡ false
        → HoldsAll (holds (with_names reached more)) (candidates u)
    by_name q u true same e before out = followed reached name u (ap (fin.get table.source) (sym (same_as q name (subst T (sym same) tt))) ∙ e)
    by_name q u false same e before out =
        each_to (λ p. T (holds reached p)) (λ p. T (holds (with_names reached more) p)) (all_grow reached more) (candidates u) (so.done q u before e (not_left q out same))

    pub follows : IsReaching table roots (with_names reached more) (left_after table reached left more)
    follows = record {
      themselves = each_to (λ q. T (holds reached q)) (λ q. T (holds (with_names reached more) q)) (all_grow reached more) roots so.themselves;
      least = λ other o closed q t.
          or_cases (among more q) (holds reached q) (subst T (holds-with_names reached more q) t) (in_closed other closed name (so.least other o closed name name_there) q)
          (so.least other o closed q);
      done = λ q u t e out. by_name q u (bytes_eq q name) refl e (was_reached reached left more q t (ap is_some e) out) out;
      there = all_there reached left more (each_left (λ q. T (holds reached q)) left (name ∷ []) so.there);
    }

  -- ---- the first step, and the end

  pub begins : (roots : List (List ℕ)) → IsReaching table roots (with_names fin.empty roots) (left_after table fin.empty [] roots)
  begins roots = record {
    themselves = to_each (holds (with_names fin.empty roots)) roots (has_new fin.empty roots);
    least = λ other o closed q t. from_each other roots o q (none_more q roots t);
    done = λ q u t e out. absurd (subst T (contains-empty q) (was_reached fin.empty [] roots q t (ap is_some e) out));
    there = all_there fin.empty [] roots tt;
  }

  pub ends : (roots : List (List ℕ)) (reached : NameSet) → IsReaching table roots reached [] → IsReachOfAll table roots (holds reached)
  ends roots reached so = record { themselves = so.themselves; closed = λ q u t e. so.done q u t e refl; least = so.least }

  -- that of one unit as a list
  listed : (root : List ℕ) (reached : NameSet) → IsReachOfAll table (root ∷ []) (holds reached) → IsReachList table root (names_in reached)
  listed root reached so =
      let in_list : (q : List ℕ) → T (holds reached q) → T (among (names_in reached) q) = λ q t. subst T (among-keys reached q) t in
      let of_list : (q : List ℕ) → T (among (names_in reached) q) → T (holds reached q) = λ q t. subst T (sym (among-keys reached q)) t in
      record {
        reach = record {
          itself = in_list root so.themselves.0;
          closed = λ q u t e. each_to (λ p. T (holds reached p)) (λ p. T (among (names_in reached) p)) in_list (candidates u) (so.closed q u (of_list q t) e);
          least = λ other o closed q t. so.least other (o, tt) closed q (of_list q t);
        };
        ascending = ascends (fin.entries reached) (fin.entries_sorted reached);
      }

  -- ---- less is to do

  counted_less : (a b : Bool) (m n : ℕ) → (T a → T b) → m ≤ n → (if b then m else suc m) ≤ (if a then n else suc n)
  counted_less true true m n f h = h
  counted_less true false m n f h = absurd (f tt)
  counted_less false true m n f h = omega (arith, h)
  counted_less false false m n f h = omega (arith, h)

  counted_new : (a b : Bool) (m n : ℕ) → a ≡ false → T b → m ≤ n → suc (if b then m else suc m) ≤ (if a then n else suc n)
  counted_new true b m n e t h = absurd (subst T e tt)
  counted_new false true m n e t h = omega (arith, h)
  counted_new false false m n e t h = absurd t

  counted_later : (a b : Bool) (m n : ℕ) → (T a → T b) → suc m ≤ n → suc (if b then m else suc m) ≤ (if a then n else suc n)
  counted_later true true m n f h = h
  counted_later true false m n f h = absurd (f tt)
  counted_later false true m n f h = omega (arith, h)
  counted_later false false m n f h = omega (arith, h)

  missing-grows : (reached : NameSet) (c : List ℕ) (names : List (List ℕ)) → missing (with_name reached c) names ≤ missing reached names
  unfolding missing
  missing-grows reached c [] = omega arith
  missing-grows reached c (name ∷ names) =
      counted_less (holds reached name) (holds (with_name reached c) name) (missing (with_name reached c) names) (missing reached names) (grows reached c name) (missing-grows reached c names)

  missing-new : (reached : NameSet) (c : List ℕ) (names : List (List ℕ)) → T (among names c) → holds reached c ≡ false → suc (missing (with_name reached c) names) ≤ missing reached names
  unfolding missing
  missing-new reached c [] m n = absurd m
  missing-new reached c (name ∷ names) m n =
      or_cases (bytes_eq c name) (among names c) m
      (λ e. counted_new (holds reached name) (holds (with_name reached c) name) (missing (with_name reached c) names) (missing reached names)
      (ap (holds reached) (sym (same_as c name e)) ∙ n)
      (subst T (sym (contains-with_name reached c name)) (or_left (bytes_eq name c) (holds reached name) (subst (λ x. T (bytes_eq name x)) (sym (same_as c name e)) (is_itself name))))
      (missing-grows reached c names))
      (λ r. counted_later (holds reached name) (holds (with_name reached c) name) (missing (with_name reached c) names) (missing reached names) (grows reached c name) (missing-new reached c names r n))

  both_false : (a b : Bool) → (not a && b) ≡ true → (a ≡ false) × (b ≡ true)
  both_false true b e = absurd (subst T (sym e) tt)
  both_false false b e = (refl, e)

  less_by : (reached : NameSet) (left : List (List ℕ)) (c : List ℕ) (b : Bool) → is_new_source table reached c ≡ b
      → missing (with_name reached c) (fin.keys table.source) + length (if b then left ++ c ∷ [] else left) ≤ to_do table reached left
  less_by reached left c false e = let m = missing-grows reached c (fin.keys table.source) in omega (arith, m)
  less_by reached left c true e =
      let new = both_false (holds reached c) (fin.contains_key table.source c) e in
      let m = missing-new reached c (fin.keys table.source) (subst T (among-keys table.source c) (subst T (sym new.1) tt)) new.0 in
      let l = length-append left (c ∷ []) in
      omega (arith, m, l)

  less_after : (reached : NameSet) (left names : List (List ℕ)) → to_do table (with_names reached names) (left_after table reached left names) ≤ to_do table reached left
  unfolding left_after
  less_after reached left [] = omega arith
  less_after reached left (c ∷ names) =
      let one = less_by reached left c (is_new_source table reached c) refl in
      let rest = less_after (with_name reached c) (left_with table reached left c) names in
      omega (arith, one, rest)

  pub smaller : (reached : NameSet) (left : List (List ℕ)) (name : List ℕ) (names : List (List ℕ))
      → to_do table (with_names reached names) (left_after table reached left names) < to_do table reached (left ++ name ∷ [])
  smaller reached left name names =
      let rest = less_after reached left names in
      let l = length-append left (name ∷ []) in
      omega (arith, rest, l)

  -- ---- a list of names, one after another

  pub left_next : (old new : NameSet) (left after names : List (List ℕ)) (i : ℕ) (name d : List ℕ) → i < length names → name ≡ get_or names i d → new ≡ with_name old name
      → after ≡ left_with table old left name → left_after table new after (drop (i + 1) names) ≡ left_after table old left (drop i names)
  unfolding left_after
  left_next old new left after names i name d lt is e l =
      ap (λ (s : NameSet). left_after table s after (drop (i + 1) names)) e ∙ ap (λ (t : List (List ℕ)). left_after table (with_name old name) t (drop (i + 1) names)) l
      ∙ ap (left_after table old left) (sym (drop_next names i name d lt is))

  pub left_end : (reached : NameSet) (left names : List (List ℕ)) (i : ℕ) → length names ≤ i → left ≡ left_after table reached left (drop i names)
  unfolding left_after
  left_end reached left names i le = ap (left_after table reached left) (sym (drop_of_length-le names le))

  pub follows_none : (reached : NameSet) (left : List (List ℕ)) (name : List ℕ) → None ≡ fin.get table.source name → left ≡ left_after table reached left (candidates_behind table name)
  unfolding left_after
  follows_none reached left name e = ap (λ (found : Option UnitText). left_after table reached left (candidates_of found)) e

  -- ---- the same by equations

  pub begins_by : (roots : List (List ℕ)) (reached start : NameSet) (left first : List (List ℕ)) → start ≡ fin.empty → first ≡ [] → reached ≡ with_names start roots → left ≡ left_after table start first roots
      → IsReaching table roots reached left
  begins_by roots reached start left first s f r l =
      let set : reached ≡ with_names fin.empty roots = r ∙ ap (λ (n : NameSet). with_names n roots) s in
      let list : left ≡ left_after table fin.empty [] roots = l ∙ ap (λ (n : NameSet). left_after table n first roots) s ∙ ap (λ (t : List (List ℕ)). left_after table fin.empty t roots) f in
      subst (λ (n : NameSet). IsReaching table roots n left) (sym set) (subst (IsReaching table roots (with_names fin.empty roots)) (sym list) (begins roots))

  pub follows_by : (roots : List (List ℕ)) (before after : NameSet) (held rest left : List (List ℕ)) (name : List ℕ) → held ≡ rest ++ name ∷ []
      → after ≡ with_names before (candidates_behind table name) → left ≡ left_after table before rest (candidates_behind table name) → IsReaching table roots before held
      → IsReaching table roots after left
  follows_by roots before after held rest left name h a l so =
      let next = follows roots before rest name (subst (IsReaching table roots before) h so) in
      subst (λ (n : NameSet). IsReaching table roots n left) (sym a) (subst (IsReaching table roots (with_names before (candidates_behind table name))) (sym l) next)

  pub smaller_by : (before after : NameSet) (held rest left : List (List ℕ)) (name : List ℕ) → held ≡ rest ++ name ∷ []
      → after ≡ with_names before (candidates_behind table name) → left ≡ left_after table before rest (candidates_behind table name)
      → to_do table after left < to_do table before held
  smaller_by before after held rest left name h a l =
      subst (λ (t : List (List ℕ)). to_do table after left < to_do table before t) (sym h)
      (subst (λ (n : NameSet). to_do table n left < to_do table before (rest ++ name ∷ [])) (sym a)
      (subst (λ (t : List (List ℕ)). to_do table (with_names before (candidates_behind table name)) t < to_do table before (rest ++ name ∷ [])) (sym l)
      (smaller before rest name (candidates_behind table name))))

  pub ends_by : (roots : List (List ℕ)) (reached : NameSet) (left : List (List ℕ)) → length left ≡ 0 → IsReaching table roots reached left → IsReachOfAll table roots (holds reached)
  ends_by roots reached [] e so = ends roots reached so
  ends_by roots reached (name ∷ left) e so = absurd (omega arith)

  pub listed_by : {E : Type 0} (root : List ℕ) (units : List (List ℕ)) (reached : NameSet) (list : Result (List (List ℕ)) E) → units ≡ root ∷ [] → IfOk list (λ names. names ≡ names_in reached)
      → IsReachOfAll table units (holds reached) → IfOk list (λ names. IsReachList table root names)
  listed_by root units reached (Ok names) one is so = subst (IsReachList table root) (sym is) (listed root reached (subst (λ (roots : List (List ℕ)). IsReachOfAll table roots (holds reached)) one so))
  listed_by root units reached (Err fault) one is so = tt

-- nothing is left where nothing was taken off
pub nothing_left : (held rest : List (List ℕ)) (n : ℕ) → held ≡ rest ++ [] → rest ≡ take (n - 1) held → n ≡ 0 → length held ≡ 0
nothing_left held rest n h r z =
    let none : rest ≡ [] = r ∙ ap (λ (k : ℕ). take (k - 1) held) z in
    ap length (h ∙ ap (λ (t : List (List ℕ)). t ++ []) none)

-- ---- a name that is there already

pub with_same_name : (reached : NameSet) (name : List ℕ) → holds reached name ≡ true → with_name reached name ≡ reached
with_same_name reached name there = same_names _ _ (λ q. contains-with_name reached name q ∙ at q (bytes_eq q name) refl)
  where
    at : (q : List ℕ) (b : Bool) → bytes_eq q name ≡ b → (b || holds reached q) ≡ holds reached q
    at q true e = sym (ap (holds reached) (same_as q name (subst T (sym e) tt)) ∙ there)
    at q false e = refl
