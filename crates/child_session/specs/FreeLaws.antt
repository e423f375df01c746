-- How a round hangs together with the free one, in which each creation whose elements are there is accepted, whatever it is.
use Rattle.std.specs.Prelude.{◌≡◌, ℕ, Bool, true, false, ◌&&◌, List, [], ◌∷◌}
use Rattle.std.specs.List.{list_any}
use Rattle.apt_base.specs.declared.kinds.Claim.{Claim}
use Rattle.wire_frames.specs.declared.frame.Creation.{Creation}
use Rattle.wire_frames.specs.declared.reply.Created.{Created}
use Rattle.wire_frames.specs.declared.reply.Created.TheVariants as created
use Rattle.apt_filer.specs.Filing.{Taken, answer_to, item_of, with_item}
use Rattle.child_session.specs.Talk.{Stream}
use Rattle.child_session.specs.Replies.{Shown, by_tests, is_refused}
use Rattle.child_session.specs.Acts.{Act, act_of, files}
use Rattle.child_session.specs.Sessions.{Limits, free_act}

abbrev pub is_accepted : Created → Bool
is_accepted created.Accepted = true
is_accepted answer = false

-- each of these files is accepted, one after another, where this is taken
unfoldable pub all_accepted : Taken → List Creation → Bool
all_accepted taken [] = true
all_accepted taken (creation ∷ others) =
    is_accepted (answer_to taken creation) && all_accepted (with_item taken (item_of creation)) others

-- the round as it is, where this is taken
abbrev pub act_where : Stream → Limits → Claim → Shown → List (List ℕ) → Taken → Act
act_where stream limits declared shown sent taken = act_of stream by_tests shown declared (limits shown) sent taken

pub record FreeActLaws (stream : Stream) (limits : Limits) (declared : Claim) (shown : Shown) (sent : List (List ℕ))
    (taken : Taken) : Type 0 where
  -- where each of its files is accepted, the round is the free one
  pub follows : all_accepted taken (files (free_act stream limits declared shown sent).exchanges) ≡ true
      → act_where stream limits declared shown sent taken ≡ free_act stream limits declared shown sent
  -- and it was, where no file was refused
  pub was_free : list_any is_refused (act_where stream limits declared shown sent taken).exchanges ≡ false
      → act_where stream limits declared shown sent taken ≡ free_act stream limits declared shown sent
  -- in the free one none is
  pub quiet : list_any is_refused (free_act stream limits declared shown sent).exchanges ≡ false

-- whatever the child says, and whatever it is shown
abbrev pub FreeActs : Type 0
FreeActs = (stream : Stream) (limits : Limits) (declared : Claim) (shown : Shown) (sent : List (List ℕ)) (taken : Taken)
    → FreeActLaws stream limits declared shown sent taken
