use Rattle.std.proofs.Common.{◌∙◌, refl, arith}
use Rattle.vector_tables.proofs.FrameCasesLemmas.{none_taken, bad_found, same_place}
use Rattle.vector_tables.proofs.verdict.verdict_on.Goals as goal

pub loop-at-init : goal.loop-at-init
loop-at-init c = none_taken c.args.bytes.now c.new-reader.result c.new-reader.ensures

pub returns-in-Err-Bad : goal.returns-in-Err-Bad
returns-in-Err-Bad c =
    bad_found c.args.bytes.now c.loop-at.reader c.loop-at.at _ c.in-Err-Bad.field-0 c.in-Err-Bad.place c.in-Err-Bad.kind c.feed.new.self c.loop-at.invariant (omega (arith, c.loop-at-test.true)) refl c.in-Err-Bad.field-0-is c.in-Err-Bad.ensures
    ∙ same_place c.in-Err-Bad.place-is c.in-Err-Bad.kind-is
