use Rattle.std.proofs.Common.{sym, ap, ◌∙◌}
use Rattle.run_entries.specs.Outputs.{file_origin}
use Rattle.run_entries.proofs.PlaceLemmas.{begins, goes_on}
use Rattle.run_entries.proofs.parts.file_places.Goals as goal

pub loop-at-init : goal.loop-at-init
loop-at-init c = begins file_origin _ _ c.new-places.ensures

pub loop-at-preserved : goal.loop-at-preserved
loop-at-preserved c = goes_on file_origin _ _ _ _ c.index-files-at.result _ c.loop-at-test.true c.index-files-at.is (c.attribute.ensures ∙ sym (ap file_origin c.index-files-at.is)) c.in_ok-add_place.ensures c.loop-at.invariant
