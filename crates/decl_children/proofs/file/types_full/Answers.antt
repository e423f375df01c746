use Rattle.std.proofs.Common.{arith}
use Rattle.decl_children.proofs.FileWalks.{same-begins, same-full, same-ended, same-falls, same-goes}
use Rattle.decl_children.proofs.file.types_full.Goals as goal

pub row-init : goal.row-init
row-init c = same-begins c.args.symbols.now c.all-rest.result.now c.all-rest.ensures

pub walk_top-requires : goal.walk_top-requires
walk_top-requires c = record { room = omega (arith, c.requires.room, c.row.invariant.0) }

pub returns-in-Full : goal.returns-in-Full
returns-in-Full c = same-full c.args.symbols.now c.row.rest.now c.row.invariant (rw c.in-Full.is at c.in_ok-walk_top.ensures)

pub returns-in-Ended : goal.returns-in-Ended
returns-in-Ended c = same-ended c.args.symbols.now c.row.rest.now c.row.invariant (rw c.in-Ended.is at c.in_ok-walk_top.ensures)

pub row-smaller : goal.row-smaller
row-smaller c = same-falls c.row.rest.now c.in-Behind.after.now c.all-rest-in-Behind.result.now c.all-rest-in-Behind.ensures (rw c.in-Behind.is at c.in_ok-walk_top.ensures)

pub row-preserved : goal.row-preserved
row-preserved c =
    same-goes c.args.symbols.now c.row.rest.now c.in-Behind.after.now c.all-rest-in-Behind.result.now c.row.invariant c.all-rest-in-Behind.ensures (rw c.in-Behind.is at c.in_ok-walk_top.ensures)
