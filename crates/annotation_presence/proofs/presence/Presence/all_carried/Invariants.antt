use Rattle.std.proofs.Common.{◌≡◌, map, take}
use Rattle.name_resolve.specs.Shown.{find_of}
use Rattle.annotation_presence.specs.Carried.{carried}
use Rattle.annotation_presence.specs.Shown.{carried_in}
use Rattle.annotation_presence.proofs.presence.Presence.all_carried.Given as goal

-- the annotations so far, over the same table
abbrev pub invariant-loop-text : goal.invariant-loop-text
invariant-loop-text l = (l.self ≡ l.fn.self) × (carried_in l.list.items ≡ map (carried l.fn.self (find_of l.at)) (take l.text-index l.texts))
