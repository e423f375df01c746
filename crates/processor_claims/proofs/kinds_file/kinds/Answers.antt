use Rattle.std.proofs.Common.{◌+◌, refl, sym, ap, ◌∙◌, arith}
use Rattle.processor_claims.specs.Lines.{lines, said, said_in, first_bad, readings}
use Rattle.processor_claims.specs.Kinds.{kind_in}
use Rattle.processor_claims.proofs.LineLaws.{first_bad-goes, readings-goes}
use Rattle.processor_claims.proofs.KindLaws.{gathered, gathered-none, gathered-all, gathered-more, differ, differ-none, differ-more}
use Rattle.processor_claims.proofs.kinds_file.kinds.Goals as goal

pub loop-line-init : goal.loop-line-init
loop-line-init c = record {
  bad = refl;
  all = ap (λ kinds. gathered kinds (readings kind_in (said_in c.args.bytes.now))) c.new-kinds.ensures ∙ gathered-all (readings kind_in (said_in c.args.bytes.now));
  once = ap differ c.new-kinds.ensures ∙ differ-none;
  counted = omega arith;
}

pub loop-line-preserved : goal.loop-line-preserved
loop-line-preserved c =
    let later = said (c.in-Some.line.number + 1) (lines c.in-Some.line.rest.now) in
    let here = said c.loop-line.number (lines c.loop-line.rest.now) in
    record {
      bad = sym (first_bad-goes kind_in here later c.in-Some.line.number c.in-Some.line.text.now c.in-Some.ensures.some (c.in-Some-kind_in.name.now, c.in-Some-kind_in.kind) c.in-Some-kind_in.ensures) ∙ c.loop-line.invariant.bad;
      all =
          ap (λ kinds. gathered kinds (readings kind_in later)) c.in_ok-put-in-Some-kind_in.ensures
          ∙ gathered-more c.loop-line.kinds c.in-Some-kind_in.name.now c.in-Some-kind_in.kind (readings kind_in later) c.loop-line.invariant.once
          ∙ ap (gathered c.loop-line.kinds) (sym (readings-goes kind_in here later c.in-Some.line.number c.in-Some.line.text.now c.in-Some.ensures.some (c.in-Some-kind_in.name.now, c.in-Some-kind_in.kind) c.in-Some-kind_in.ensures))
          ∙ c.loop-line.invariant.all;
      once = ap differ c.in_ok-put-in-Some-kind_in.ensures ∙ differ-more c.in-Some-kind_in.name.now c.in-Some-kind_in.kind c.loop-line.kinds c.loop-line.invariant.once;
      counted = omega (arith, c.in-Some.ensures.numbers, c.loop-line.invariant.counted);
    }

pub returns : goal.returns
returns c = (
  sym c.loop-line.invariant.bad ∙ ap (first_bad kind_in) c.in_default.ensures.none,
  c.in_ok-into_list.ensures ∙ sym (gathered-none c.loop-line.kinds) ∙ ap (λ said. gathered c.loop-line.kinds (readings kind_in said)) (sym c.in_default.ensures.none) ∙ c.loop-line.invariant.all,
)
