use Rattle.std.proofs.Common.{◌≡◌}
use Rattle.serde_json.specs.View.{members_view}
use Rattle.project_config.specs.Items.{options_of}
use Rattle.project_config.proofs.AnswerLaws.{put_on}
use Rattle.project_config.proofs.texts.options_of.Given as goal

-- the options so far, and those of the members that are left
abbrev pub invariant-loop-key : goal.invariant-loop-key
invariant-loop-key l = put_on l.options (options_of (members_view l.key-iterator)) ≡ options_of (members_view l.members.entries)
