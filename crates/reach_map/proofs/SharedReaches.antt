-- Tables with the same sources under the names of a unit's reach give it the same reach, with the same sources in it.
use Rattle.std.proofs.Common.{◌≡◌, ℕ, Bool, true, false, cond, ◌&&◌, T, List, [], ◌∷◌, None, refl, sym, subst, ◌∙◌}
use Rattle.std.specs.Cmp.Lexicographic.{nat_list_cmp_total}
use Rattle.std.specs.FinMap as fin
use Rattle.std.specs.Str.{bytes_eq}
use Rattle.element_table.specs.TypeTable.{TypeTable}
use Rattle.apt_base.proofs.NameSets.{exact_names}
use Rattle.reach_map.specs.Agree.{HaveSameSources, IsWithin, ShareReach, ShareReaches}
use Rattle.reach_map.specs.Candidates.{candidates}
use Rattle.reach_map.specs.ClosedCuts.{NameSet, among, cut, IsClosedSet}
use Rattle.reach_map.specs.Reach.{IsReach}
use Rattle.reach_map.proofs.Cuts.{get_cut}
use Rattle.decl_elements.proofs.Everywhere.{each_both}
use Rattle.reach_map.proofs.NamesLemmas.{or_cases, same_as, front, back}

both : (a b : Bool) → T a → T b → T (a && b)
both true b t u = u
both false b t u = absurd t

module _ (one other : TypeTable) where
  abbrev SameAt : List ℕ → Type 0
  SameAt name = fin.get one.source name ≡ fin.get other.source name

  same_at : (names : List (List ℕ)) → HaveSameSources one other names → (q : List ℕ) → T (among names q) → SameAt q
  same_at [] all q t = absurd t
  same_at (c ∷ names) all q t = or_cases (bytes_eq q c) (among names q) t (λ e. subst SameAt (sym (same_as q c e)) all.0) (same_at names all.1 q)

  module _ (root : List ℕ) (reach : NameSet) (so : IsReach one root reach) (same : (q : List ℕ) → T (reach q) → SameAt q) where
    closed : IsClosedSet other reach
    closed q u t e = so.closed q u t (same q t ∙ e)

    -- a closed set over the other table, with the reach alone in it, is closed over this one
    within_closed : (set : NameSet) → IsClosedSet other set → IsClosedSet one (λ q. reach q && set q)
    within_closed set is q u t e =
        each_both (λ c. T (reach c)) (λ c. T (set c)) (λ c. T (reach c && set c)) (λ c. both (reach c) (set c)) (candidates u)
        (so.closed q u (front (reach q) (set q) t) e)
        (is q u (back (reach q) (set q) t) (sym (same q (front (reach q) (set q) t)) ∙ e))

    least : (set : NameSet) → T (set root) → IsClosedSet other set → IsWithin reach set
    least set r is q t = back (reach q) (set q) (so.least (λ c. reach c && set c) (both (reach root) (set root) so.itself r) (within_closed set is) q t)

    kept_at : (q : List ℕ) (b : Bool) → reach q ≡ b → cond b (fin.get one.source q) None ≡ cond b (fin.get other.source q) None
    kept_at q true e = same q (subst T (sym e) tt)
    kept_at q false e = refl

    sources : (cut one reach).source ≡ (cut other reach).source
    unfolding cut
    sources = fin.same_map nat_list_cmp_total exact_names _ _ (λ q. get_cut one reach q ∙ kept_at q (reach q) refl ∙ sym (get_cut other reach q))

    shared : ShareReach one other root reach
    shared = record { reach = record { itself = so.itself; closed = closed; least = least }; sources = sources }

  pub share : (names : List (List ℕ)) → HaveSameSources one other names → ShareReaches one other names
  share names all root reach so within = shared root reach so (λ q t. same_at names all q (within q t))
