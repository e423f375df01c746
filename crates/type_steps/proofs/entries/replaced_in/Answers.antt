use Rattle.type_steps.proofs.HeadersOfNumbers.{class-stands}
use Rattle.type_steps.proofs.entries.replaced_in.Goals as goal

pub returns-clause-stands : goal.returns-clause-stands
returns-clause-stands c =
    class-stands c.substitute.result c.args.table.now c.args.types.now c.substitute.new.types c.in_ok-by.by c.as_slice.result.now c.args.owner c.args.number c.in_ok-by.ensures.exact
    c.as_slice.ensures c.substitute.ensures.stands
