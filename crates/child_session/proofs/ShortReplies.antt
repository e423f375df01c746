-- The replies to creations and messages are never too large to be sent.
use Rattle.std.proofs.Common.{◌≡◌, false, refl}
use Rattle.wire_frames.specs.declared.frame.Frame.TheVariants as frames
use Rattle.wire_frames.specs.declared.reply.Refused.{Refused}
use Rattle.wire_frames.specs.declared.reply.Reply.TheVariants as replies
use Rattle.wire_frames.specs.Limits.{is_too_large, nesting}
use Rattle.wire_frames.specs.Spellings.{fields_spelled}
use Rattle.wire_frames.proofs.LimitsLemmas.{created_is_sent, noted_is_sent}

pub refused_is_sent : (refused : Refused) → is_too_large (frames.Reply (replies.Refused refused)) ≡ false
unfolding is_too_large nesting fields_spelled
refused_is_sent refused = refl

pub ruleset short = (created_is_sent, noted_is_sent, refused_is_sent)
