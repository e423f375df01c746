-- The names to which some units lead, as a set that is found step by step: the units themselves, and again and again the candidates of the sources among what was found.
use Rattle.std.specs.Prelude.{ℕ, zero, suc, Bool, not, ◌&&◌, ◌||◌, false, List, length}
use Rattle.std.specs.List.{flat_map, list_any}
use Rattle.std.specs.FinMap as fin
use Rattle.apt_base.specs.Names.{NameSet, with_names, names_in}
use Rattle.apt_base.specs.declared.kinds.Kind.{Kind}
use Rattle.apt_base.specs.declared.kinds.Kind.TheVariants.{Isolating, Aggregating, Dynamic, Undeclared}
use Rattle.element_table.specs.TypeTable.{TypeTable}
use Rattle.reach_map.specs.Reaching.{candidates_behind}
use Rattle.beyond_reach.specs.Beyond.{Noted}

-- ---- reach

abbrev pub behind_all : TypeTable → NameSet → List (List ℕ)
behind_all table names = flat_map (candidates_behind table) (names_in names)

-- one step
abbrev pub with_candidates : TypeTable → NameSet → NameSet
with_candidates table names = with_names names (behind_all table names)

unfoldable pub after_steps : TypeTable → ℕ → NameSet → NameSet
after_steps table zero names = names
after_steps table (suc n) names = after_steps table n (with_candidates table names)

-- Each step finds a source that was not there, or else all is found with it. So there are no more steps than one for each source, and one.
unfoldable pub reached_from : TypeTable → List (List ℕ) → NameSet
reached_from table units = after_steps table (suc (length (fin.keys table.source))) (with_names fin.empty units)

-- ---- whether a question of a round was beyond reach

abbrev pub is_outside : TypeTable → NameSet → List ℕ → Bool
is_outside table reached name = not (fin.contains_key table.stub name) && not (fin.contains_key reached name)

abbrev pub some_outside : TypeTable → List (List ℕ) → List (List ℕ) → Bool
some_outside table units names = list_any (is_outside table (reached_from table units)) names

abbrev pub is_beyond_by : Kind → Bool → Bool → Bool → Bool
is_beyond_by Isolating outside wide gathered = outside || wide
is_beyond_by Aggregating outside wide gathered = outside || (wide || gathered)
is_beyond_by Dynamic outside wide gathered = false
is_beyond_by Undeclared outside wide gathered = false

abbrev pub asked_beyond : Kind → TypeTable → List (List ℕ) → Noted → Bool
asked_beyond kind table units noted = is_beyond_by kind (some_outside table units noted.asked) noted.wide noted.gathered

-- by what is noted, part for part
abbrev pub round_beyond : Kind → TypeTable → List (List ℕ) → List (List ℕ) → Bool → Bool → Bool
round_beyond kind table units asked wide gathered = asked_beyond kind table units (record { asked = asked; wide = wide; gathered = gathered })
