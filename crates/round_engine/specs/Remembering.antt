-- What a run remembers, from which the record of a build is made: of each round that came to its end, and of each processor in each round in which it was asked.
use Rattle.std.specs.Prelude.{ℕ, Bool, ◌==◌, List, [], ◌∷◌, ◌++◌, map, filter}
use Rattle.std.specs.List.{flat_map}
use Rattle.apt_base.specs.Names.{NameSet, with_names}
use Rattle.apt_base.specs.declared.kinds.Kind.{Kind}
use Rattle.apt_base.specs.declared.kinds.Kind.TheVariants.{Isolating, Aggregating, Dynamic, Undeclared}
use Rattle.element_table.specs.TypeTable.{TypeTable}
use Rattle.round_env.specs.declared.environment.RoundEnv.{RoundEnv}
use Rattle.round_env.specs.Presence.{present_names, names_present_on}
use Rattle.wire_frames.specs.declared.frame.Creation.{Creation}
use Rattle.child_session.specs.declared.round.Answer.{Answer}
use Rattle.run_entries.specs.declared.processed.Processed.{Processed}
use Rattle.run_entries.specs.Annotated.{annotated_roots}
use Rattle.run_entries.specs.Outputs.{Root, root_name, roots_of, file_of}
use Rattle.beyond_reach.specs.Beyond.{Noted}
use Rattle.beyond_reach.specs.Reached.{asked_beyond}
use Rattle.round_engine.specs.declared.rounds.PastRound.{PastRound}
use Rattle.round_engine.specs.declared.rounds.Round.{Round}

-- ---- rounds

-- its roots, which are the units that entered before it, and the names of the annotations that are present on them
abbrev pub past_round : Round → PastRound
past_round r = record { roots = r.roots; present = present_names r.table.table r.roots }

-- ---- roots of a round

-- a root with the names that are present on it
abbrev pub root_with : TypeTable → List ℕ → Root
root_with table name = (name, names_present_on table name)

abbrev pub roots_with : TypeTable → List (List ℕ) → List Root
roots_with table roots = map (root_with table) roots

-- the set with the names that are present on these roots
abbrev pub with_present : NameSet → List Root → NameSet
with_present names [] = names
with_present names (root ∷ roots) = with_present (with_names names root.1) roots

-- those that carry an offered name, each with the offered names on it
abbrev pub annotated_in : TypeTable → RoundEnv → List Root
annotated_in table env = annotated_roots env.offered (roots_with table env.roots)

-- ---- what a processor may ask about

-- it was done by the processor of this number
abbrev pub is_by : ℕ → Processed → Bool
is_by number done = done.processor == number

-- the roots that were annotated for it in earlier rounds
abbrev pub annotated_before : ℕ → List Processed → List (List ℕ)
annotated_before number before = flat_map roots_of (filter (is_by number) before)

-- The units on which the replies to a processor may hang: of an isolating one each root that it is shown, and of an aggregating one each unit that was annotated for it up to now.
abbrev pub units_by : Kind → (shown annotated : List (List ℕ)) → List (List ℕ)
units_by Isolating shown annotated = shown
units_by Aggregating shown annotated = annotated
units_by Dynamic shown annotated = []
units_by Undeclared shown annotated = []

-- those of the processor of this number in a round, where these roots are annotated for it and this was done before
abbrev pub units_for : Kind → RoundEnv → ℕ → List Processed → List Root → List (List ℕ)
units_for kind env number before annotated = units_by kind env.roots (annotated_before number before ++ map root_name annotated)

-- ---- what a processor did

-- what its questions named
abbrev pub noted_of : Answer → Noted
noted_of answer = record { asked = answer.asked; wide = answer.wide; gathered = answer.gathered }

-- one of its questions was beyond reach
abbrev pub is_beyond : Kind → TypeTable → RoundEnv → ℕ → List Processed → List Root → Answer → Bool
is_beyond kind table env number before annotated answer = asked_beyond kind table (units_for kind env number before annotated) (noted_of answer)

-- a processor of this kind, with these roots annotated for it, gave these files and this answer in a round; this was done before
abbrev pub processed_with : Kind → TypeTable → RoundEnv → ℕ → List Processed → List Root → List Creation → Answer → Processed
processed_with kind table env number before annotated files answer = record {
  round = env.number;
  processor = number;
  kind = kind;
  offered = env.offered;
  annotated = annotated;
  files = map file_of files;
  messages = answer.messages;
  refused = answer.refused;
  beyond = is_beyond kind table env number before annotated answer;
}

-- the same, with the roots that are annotated for it
abbrev pub processed_by : Kind → TypeTable → RoundEnv → ℕ → List Processed → List Creation → Answer → Processed
processed_by kind table env number before files answer = processed_with kind table env number before (annotated_in table env) files answer
