use Rattle.frame_forms.proofs.laws.frame_laws_hold.Goals as goal
use Rattle.frame_forms.proofs.FormsGo.{begun_goes_on}
use Rattle.frame_forms.proofs.DepthLaws.{nesting_decides}
use Rattle.frame_forms.proofs.FrameLawProofs.{has_one_spelling, reading_meets_spelling, fronts_are_begun, no_frame_goes_on, first_bad_is_found, byte_by_byte}

pub returns : goal.returns
returns c = record { one_spelling = has_one_spelling; meets = reading_meets_spelling; begun = fronts_are_begun; nowhere = no_frame_goes_on; first = first_bad_is_found; one_more = byte_by_byte; goes_on = begun_goes_on; nested = nesting_decides }
