use Rattle.std.proofs.Common.{◌≡◌, drop}
use Rattle.serde_json.specs.View.{items_view}
use Rattle.project_config.specs.Items.{texts_of}
use Rattle.project_config.proofs.AnswerLaws.{put_on}
use Rattle.project_config.proofs.texts.texts_of.Given as goal

-- the texts so far, and those of the items that are left
abbrev pub invariant-loop-item : goal.invariant-loop-item
invariant-loop-item l = put_on l.texts (texts_of (items_view (drop l.item-index l.items.items))) ≡ texts_of (items_view l.items.items)
