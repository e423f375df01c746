use Rattle.wire_frames.proofs.Added.{same_bytes, more_bytes}
use Rattle.wire_frames.proofs.Rows.{fields-Round}
use Rattle.wire_frames.proofs.writing.put_round.Goals as goal

pub returns : goal.returns
returns c = same_bytes _ _ _ _ _ (more_bytes _ _ _ _ _ _ c.put_two_lists.ensures c.in_ok-put_heading.ensures) (fields-Round c.args.number c.args.over c.args.error c.args.offered.now c.args.roots.now)
