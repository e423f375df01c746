use Rattle.apt_filer.specs.Origins.{message_origin}
use Rattle.run_entries.proofs.PlaceLemmas.{begins, goes_on}
use Rattle.run_entries.proofs.parts.message_places.Goals as goal

pub loop-at-init : goal.loop-at-init
loop-at-init c = begins message_origin _ _ c.new-places.ensures

pub loop-at-preserved : goal.loop-at-preserved
loop-at-preserved c = goes_on message_origin _ _ _ _ c.index-messages-at.result _ c.loop-at-test.true c.index-messages-at.is c.message_origin.ensures c.in_ok-add_place.ensures c.loop-at.invariant
