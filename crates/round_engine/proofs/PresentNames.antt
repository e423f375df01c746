-- The names that are present in a round, by those on each of its roots.
use Rattle.std.proofs.Common.{◌≡◌, ℕ, Bool, true, false, List, [], ◌∷◌, refl, sym, ap, ◌∙◌}
use Rattle.std.specs.Prelude.{◌||◌}
use Rattle.std.specs.List.{list_any}
use Rattle.std.specs.Ordering.{nat_cmp, eq_by_cmp}
use Rattle.std.specs.Cmp.Lexicographic.{slice_cmp}
use Rattle.std.specs.FinMap as fin
use Rattle.apt_base.specs.Names.{NameSet, with_names, names_in}
use Rattle.apt_base.proofs.NameSets.{contains-empty, contains-with_names, with_names-same}
use Rattle.element_table.specs.TypeTable.{TypeTable}
use Rattle.round_env.specs.Presence.{names_in_unit, with_names_at, names_present_on, present_names}
use Rattle.round_engine.specs.Remembering.{roots_with, with_present}

or_false : (b : Bool) → (b || false) ≡ b
or_false true = refl
or_false false = refl

-- names that were put in order add the same
in_order_adds : (names : NameSet) (more : List (List ℕ)) → with_names names (names_in (with_names fin.empty more)) ≡ with_names names more
in_order_adds names more = with_names-same names (names_in (with_names fin.empty more)) more (λ q.
    sym (fin.contains_key-keys (with_names fin.empty more) q) ∙ contains-with_names fin.empty more q
    ∙ ap (λ b. list_any (eq_by_cmp (slice_cmp nat_cmp) q) more || b) (contains-empty q) ∙ or_false (list_any (eq_by_cmp (slice_cmp nat_cmp) q) more))

adds_present : (table : TypeTable) (names : NameSet) (roots : List (List ℕ)) → with_present names (roots_with table roots) ≡ with_names_at table names roots
unfolding names_present_on
adds_present table names [] = refl
adds_present table names (root ∷ roots) =
    ap (λ set. with_present set (roots_with table roots)) (in_order_adds names (names_in_unit table root)) ∙ adds_present table (with_names names (names_in_unit table root)) roots

pub present_is : (table : TypeTable) (roots : List (List ℕ)) → names_in (with_present fin.empty (roots_with table roots)) ≡ present_names table roots
unfolding present_names
present_is table roots = ap names_in (adds_present table fin.empty roots)
