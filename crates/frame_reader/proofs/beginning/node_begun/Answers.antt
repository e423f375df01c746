use Rattle.frame_reader.specs.Steps.{tagged_choice, node_left}
use Rattle.frame_reader.proofs.beginning.node_begun.Goals as goal

pub returns-in-Tagged : goal.returns-in-Tagged
unfolding node_left
returns-in-Tagged c = rw c.in-Tagged.is (c.chooses-in-Tagged.ensures (tagged_choice c.args.byte) c.tagged_fields.ensures)
