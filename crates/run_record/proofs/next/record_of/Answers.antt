use Rattle.std.proofs.Common.{◌<◌, length, sym, subst}
use Rattle.record_forms.specs.RecordTable.{spelling}
use Rattle.origin_record.specs.Conditions.{most_bytes}
use Rattle.run_record.specs.Next.{record_of}
use Rattle.run_record.specs.Stands.{StandsAs}
use Rattle.run_record.proofs.NextLaws.{record_stands}
use Rattle.run_record.proofs.SpelledShapes.{too_large}
use Rattle.run_record.proofs.next.record_of.Goals as goal

pub returns-then-not-branch-clause-large : goal.returns-then-not-branch-clause-large
returns-then-not-branch-clause-large c = λ is.
    let key = c.args.project.now.key in
    let run = c.args.run.now in
    subst (λ table. most_bytes < length (spelling (record_of key table run))) c.table-initial.ensures
    (too_large key c.table-initial.result.now run c.in_ok-has_room.field-0 c.in_ok-has_room.ensures c.if-not-branch.true)

pub returns-clause-stands : goal.returns-clause-stands
returns-clause-stands c =
    subst (StandsAs c.args.project.now c.args.run.now) (sym c.in_ok-made_of.ensures) (record_stands c.args.project.now c.args.run.now)
