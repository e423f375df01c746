-- What is accepted.
use Rattle.std.proofs.Common.{◌≡◌, ◌+◌, ◌≤◌, Bool, true, false, not, if◌then◌else◌, refl}
use Rattle.std.specs.FinMap.{contains_key}
use Rattle.std.proofs.lemmas.Bool.{or_parts, ltb-false}
use Rattle.wire_frames.specs.declared.frame.Creation.{Creation}
use Rattle.wire_frames.specs.declared.reply.Created.{Created}
use Rattle.wire_frames.specs.declared.reply.Created.TheVariants.{Accepted, Exists, Unsupported, BadName, TooLarge}
use Rattle.apt_filer.specs.Names.{is_well_named}
use Rattle.apt_filer.specs.Filing.{Taken, path_of, item_of, size_of, is_class, is_there, is_too_large, item_answer, answer_to}

-- its path is new, and it fits
pub record IsNew (taken : Taken) (creation : Creation) : Type 0 where
  pub absent : contains_key taken.paths (path_of creation) ≡ false
  pub room : taken.total + size_of (item_of creation) ≤ 67108864

-- the answers, by the tests
abbrev answer_by : Bool → Bool → Bool → Bool → Created
answer_by class named there large =
    if class then Unsupported else if not named then BadName else if there then Exists else if large then TooLarge else Accepted

accepted_by : (class named there large : Bool) → answer_by class named there large ≡ Accepted → (there ≡ false) × (large ≡ false)
accepted_by true named there large accepted = absurd cc
accepted_by false false there large accepted = absurd cc
accepted_by false true true large accepted = absurd cc
accepted_by false true false true accepted = absurd cc
accepted_by false true false false accepted = (refl, refl)

pub is_new : (taken : Taken) (creation : Creation) → answer_to taken creation ≡ Accepted → IsNew taken creation
unfolding answer_to item_answer is_there is_too_large
is_new taken creation accepted =
    let tests = accepted_by (is_class creation) (is_well_named creation) _ _ accepted in
    record {
      absent = (or_parts _ _ tests.0).0;
      room = ltb-false _ _ (or_parts _ _ tests.1).1;
    }
