use Rattle.std.proofs.Common.{◌≡◌, ◌-◌, suc, Option, subst, arith}
use Rattle.frame_reader.specs.declared.task.Gather.{Gather}
use Rattle.frame_reader.specs.Stands.{Stands}
use Rattle.frame_reader.proofs.Following.{gather_goes_on}
use Rattle.frame_reader.proofs.fields.FieldsReader.take.Goals as goal

pub returns-else-gather-eq0-clause-ok : goal.returns-else-gather-eq0-clause-ok
returns-else-gather-eq0-clause-ok c held split reading s =
    let old = c.args.self.now in
    let more : c.in-Some.gather.more ≡ suc (c.in-Some.gather.more - 1) = omega arith in
    gather_goes_on c.in-Some.gather (c.in-Some.gather.more - 1) old c.args.bytes.now c.args.byte more held split reading
    (subst (λ (g : Option Gather). Stands g old.list old.stack old.earlier old.last held reading) c.in-Some.is s)
