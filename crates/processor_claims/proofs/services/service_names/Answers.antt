use Rattle.std.proofs.Common.{◌+◌, refl, sym, ap, ◌∙◌, arith}
use Rattle.processor_claims.specs.Lines.{lines, said, said_in, first_bad, readings, name_in}
use Rattle.processor_claims.proofs.LineLaws.{first_bad-goes, readings-goes}
use Rattle.processor_claims.proofs.NameLaws.{gathered, gathered-none, gathered-all, gathered-more}
use Rattle.processor_claims.proofs.services.service_names.Goals as goal

pub loop-line-init : goal.loop-line-init
loop-line-init c = record {
  bad = refl;
  all = ap (λ names. gathered names (readings name_in (said_in c.args.bytes.now))) c.new-names.ensures ∙ gathered-all (readings name_in (said_in c.args.bytes.now));
  counted = omega arith;
}

pub loop-line-preserved : goal.loop-line-preserved
loop-line-preserved c =
    let later = said (c.in-Some.line.number + 1) (lines c.in-Some.line.rest.now) in
    let here = said c.loop-line.number (lines c.loop-line.rest.now) in
    record {
      bad = sym (first_bad-goes name_in here later c.in-Some.line.number c.in-Some.line.text.now c.in-Some.ensures.some c.in-Some-name_in.name.now c.in-Some-name_in.ensures) ∙ c.loop-line.invariant.bad;
      all =
          ap (λ names. gathered names (readings name_in later)) c.in_ok-add-in-Some-name_in.ensures.added
          ∙ gathered-more c.loop-line.names c.in-Some-name_in.name.now (readings name_in later)
          ∙ ap (gathered c.loop-line.names) (sym (readings-goes name_in here later c.in-Some.line.number c.in-Some.line.text.now c.in-Some.ensures.some c.in-Some-name_in.name.now c.in-Some-name_in.ensures))
          ∙ c.loop-line.invariant.all;
      counted = omega (arith, c.in-Some.ensures.numbers, c.loop-line.invariant.counted);
    }

pub returns : goal.returns
returns c = (
  sym c.loop-line.invariant.bad ∙ ap (first_bad name_in) c.in_default.ensures.none,
  c.in_ok-into_list.ensures ∙ sym (gathered-none c.loop-line.names) ∙ ap (λ said. gathered c.loop-line.names (readings name_in said)) (sym c.in_default.ensures.none) ∙ c.loop-line.invariant.all,
)
