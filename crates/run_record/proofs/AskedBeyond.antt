-- What is remembered of the questions of a processor in a round is what is noted of them.
use Rattle.std.proofs.Common.{◌↔◌, ℕ, T, List}
use Rattle.element_table.specs.TypeTable.{TypeTable}
use Rattle.round_env.specs.declared.environment.RoundEnv.{RoundEnv}
use Rattle.child_session.specs.Replies.{Exchange}
use Rattle.child_session.specs.Acts.{questions, asked}
use Rattle.beyond_reach.specs.Beyond.{AskedBeyond, noted_by}
use Rattle.beyond_reach.specs.Decided.{BeyondIsDecided, NotedIsBeyond}
use Rattle.round_engine.specs.Remembering.{annotated_in, units_for}
use Rattle.round_engine.specs.Run.{Discovered, Progress, kind_at}
use Rattle.run_record.specs.Asked.{BeyondIsAsked}

pub beyond_is_asked : BeyondIsDecided → NotedIsBeyond → BeyondIsAsked
unfolding asked
beyond_is_asked decided noted d table env p number exchanges =
    let kind = kind_at d number in
    let units = units_for kind env number p.processed (annotated_in table env) in
    let found = (decided table units).decided kind (noted_by table env.offered (questions exchanges)) in
    let one = noted kind table units env.offered (questions exchanges) in
    (λ t. one.0 (found.0 t), λ some. found.1 (one.1 some))
