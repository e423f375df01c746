use Rattle.std.proofs.Common.{length, refl, arith}
use Rattle.std.proofs.lemmas.Iterator.{YieldsList-from_chars}
use Rattle.std.proofs.lemmas.Iterator.Consumers.{YieldsList-turn, YieldsList-end}
use Rattle.std.proofs.lemmas.List.{length_push}
use Rattle.std.specs.Str.{chars}
use Rattle.literal_values.specs.QuotedParts.{shown}
use Rattle.literal_values.proofs.QuotedLemmas.{read-nothing, read-step, read-closed, read-open}
use Rattle.literal_values.proofs.quoted.unquoted.Goals as goal

pub returns-in-None-read_step : goal.returns-in-None-read_step
returns-in-None-read_step c =
    let t = YieldsList-turn (YieldsList-from_chars c.args.text.now c.utf8.text cc) c.loop-c.yielded _ c.loop-c.yielded_by _ _ c.in-Some.c c.in-Some.is c.next.ensures.steps in
    read-nothing c.args.quote _ (chars c.args.text.now) (length c.loop-c.yielded) c.loop-c.found c.loop-c.reading c.in-Some.c c.loop-c.invariant.0 t.0 t.1 c.in-None-read_step.ensures.value

pub loop-c-preserved : goal.loop-c-preserved
loop-c-preserved c =
    let t = YieldsList-turn (YieldsList-from_chars c.args.text.now c.utf8.text cc) c.loop-c.yielded _ c.loop-c.yielded_by _ _ c.in-Some.c c.in-Some.is c.next.ensures.steps in
    let step = c.in-Some-read_step.step in (
      read-step c.args.quote _ (chars c.args.text.now) (length c.loop-c.yielded) _ c.loop-c.found c.loop-c.reading c.in-Some.c (shown step) step.ended step.read _ _
          c.loop-c.invariant.0 t.0 t.1 c.in-Some-read_step.ensures.value refl c.in_ok-add.ensures c.in_ok-add-2.ensures (length_push c.loop-c.yielded c.in-Some.c),
      c.in-Some-read_step.ensures.fits,
    )

pub returns-in-Closed : goal.returns-in-Closed
returns-in-Closed c =
    let t = YieldsList-end (YieldsList-from_chars c.args.text.now c.utf8.text cc) c.loop-c.yielded _ c.loop-c.yielded_by _ _ c.in-None.is c.next.ensures.steps in
    read-closed c.args.quote _ (chars c.args.text.now) (length c.loop-c.yielded) c.loop-c.found c.loop-c.reading c.loop-c.invariant.0 (omega (arith, t.1)) c.in-Closed.is

pub returns-in_default : goal.returns-in_default
returns-in_default c =
    let t = YieldsList-end (YieldsList-from_chars c.args.text.now c.utf8.text cc) c.loop-c.yielded _ c.loop-c.yielded_by _ _ c.in-None.is c.next.ensures.steps in
    read-open c.args.quote _ (chars c.args.text.now) (length c.loop-c.yielded) c.loop-c.found c.loop-c.reading c.loop-c.invariant.0 (omega (arith, t.1)) c.in_default.not-Closed
