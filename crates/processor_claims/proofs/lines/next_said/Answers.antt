use Rattle.std.proofs.Common.{arith}
use Rattle.processor_claims.specs.Lines.{lines, said}
use Rattle.processor_claims.proofs.LineLaws.{said-over, said-found, said-passed}
use Rattle.processor_claims.proofs.lines.next_said.Goals as goal

pub returns-then-not-is_empty-clause-some : goal.returns-then-not-is_empty-clause-some
returns-then-not-is_empty-clause-some c =
    said-found c.loop-rest.at c.loop-rest.rest.now (said c.args.number (lines c.args.text.now)) c.loop-rest.invariant.same
    c.content-said.result.now c.split_line.result.0.now c.split_line.result.1.now c.split_line.ensures.lines c.content-said.ensures c.if-not-is_empty.ensures

pub loop-rest-preserved : goal.loop-rest-preserved
loop-rest-preserved c = record {
  same = said-passed c.loop-rest.at c.loop-rest.rest.now (said c.args.number (lines c.args.text.now)) c.loop-rest.invariant.same
      c.content-said.result.now c.split_line.result.0.now c.split_line.result.1.now c.split_line.ensures.lines c.content-said.ensures c.if-not-is_empty.ensures;
  counted = omega (arith, c.split_line.ensures.shorter, c.loop-rest.invariant.counted);
  behind = omega (arith, c.split_line.ensures.shorter, c.loop-rest.invariant.behind);
}

pub returns-clause-none : goal.returns-clause-none
returns-clause-none c = said-over c.loop-rest.at c.loop-rest.rest.now (said c.args.number (lines c.args.text.now)) c.loop-rest.invariant.same c.loop-rest-test.ensures
