-- That a note of a question beyond reach is one of a question that was.
use Rattle.std.specs.Prelude.{◌↔◌, ℕ, T, List, ◌++◌, map}
use Rattle.element_table.specs.TypeTable.{TypeTable}
use Rattle.round_env.specs.declared.environment.RoundEnv.{RoundEnv}
use Rattle.child_session.specs.Replies.{Exchange}
use Rattle.child_session.specs.Acts.{questions}
use Rattle.beyond_reach.specs.Beyond.{SomeBeyond}
use Rattle.round_engine.specs.Remembering.{annotated_in, units_for}
use Rattle.round_engine.specs.Run.{Discovered, Progress, kind_at, processed_in}

-- What is remembered of a processor in a round says that a question was beyond reach exactly where one of those that it asked there was, by the units that hold it then.
abbrev pub BeyondIsAsked : Type 0
BeyondIsAsked =
    (d : Discovered) (table : TypeTable) (env : RoundEnv) (p : Progress) (number : ℕ) (exchanges : List Exchange)
    → T (processed_in d table env p number exchanges).beyond
    ↔ SomeBeyond (kind_at d number) table (units_for (kind_at d number) env number p.processed (annotated_in table env)) env.offered (questions exchanges)
