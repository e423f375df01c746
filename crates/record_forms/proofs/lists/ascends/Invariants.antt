use Rattle.std.proofs.Common.{◌≡◌, None, drop}
use Rattle.std.specs.Option.{option_copied}
use Rattle.record_forms.specs.Forms.{ascends_after}
use Rattle.record_forms.proofs.lists.ascends.Given as goal

-- what is left to compare says what all say
abbrev pub invariant-loop-item : goal.invariant-loop-item
invariant-loop-item g l = ascends_after g.T.InOrder.less (option_copied l.last) (drop l.item-index l.items) ≡ ascends_after g.T.InOrder.less None l.items
