-- The frames that were worked out by hand are what they are said to be, by computation.
use Rattle.std.proofs.Common.{◌≡◌, ℕ, zero, suc, Bool, true, false, ◌&&◌, ltb, List, [], ◌∷◌, refl, sym, ◌∙◌, append-nil, arith}
use Rattle.std.proofs.lemmas.Bool.{ltb-true}
use Rattle.std.specs.Str.{is_utf8, chars}
use lib.Utf8.{encode}
use Rattle.apt_base.specs.Identifiers.{is_pattern, is_identifier, is_reserved}
use Rattle.unicode_ident.specs.Ident.{is_xid_start, is_xid_continue}
use Rattle.ucd_table.specs.Rows.{in_ranges}
use Rattle.ucd_derived.specs.XidStartRanges.{xid_start_ranges}
use Rattle.ucd_derived.specs.XidContinueRanges.{xid_continue_ranges}
use Rattle.apt_base.specs.declared.around.Around.TheVariants.{Array, Extends}
use Rattle.type_mirror.specs.declared.mirror.PrimitiveKind.TheVariants.{Int}
use Rattle.type_mirror.specs.declared.mirror.BaseMirror.TheVariants as base
use Rattle.type_mirror.specs.Parts.{plain, wrapped}
use Rattle.frame_forms.specs.Scans.{whole, number_scan, byte_scan, run_scan, items_scan}
use Rattle.frame_forms.specs.QuestionTable.{question_at}
use Rattle.frame_forms.specs.Forms.{plain_frame}
use Rattle.frame_forms.specs.Frames.{framed, part_scan, frame_scan, frame_spelling}
use Rattle.frame_forms.specs.Examples.{IsExample, ExamplesHold, hex, chain_annotation}
use Rattle.frame_forms.specs.FrameTable.{Fields}
use Rattle.frame_forms.specs.ScanLaws.{IsBytes}
use Rattle.frame_forms.proofs.FrameLawProofs.{frames_meet}

all_bytes : List ℕ → Bool
all_bytes [] = true
all_bytes (b ∷ bytes) = ltb b 256 && all_bytes bytes

both_true : (a b : Bool) → (a && b) ≡ true → (a ≡ true) × (b ≡ true)
both_true true b e = (refl, e)
both_true false b e = absurd cc

are_bytes : (bytes : List ℕ) → all_bytes bytes ≡ true → IsBytes bytes
unfolding all_bytes
are_bytes [] e i = omega arith
are_bytes (b ∷ bytes) e zero = ltb-true b 256 (both_true (ltb b 256) (all_bytes bytes) e).0
are_bytes (b ∷ bytes) e (suc i) = are_bytes bytes (both_true (ltb b 256) (all_bytes bytes) e).1 i

-- what is read as a frame is the spelling of it
example : (bytes : List ℕ) (fields : Fields) → all_bytes bytes ≡ true → frame_scan bytes ≡ whole fields [] → IsExample bytes fields
example bytes fields e read = record { spelled = sym (append-nil (frame_spelling fields)) ∙ sym (frames_meet.spelled bytes fields [] (are_bytes bytes e) read).1; read = read }

mirror_read : frame_scan (hex "0000000b1500000001050101040003") ≡ whole (plain_frame 21, wrapped (Extends ∷ []) (wrapped (Array ∷ []) (plain (base.Primitive Int))) ∷ []) []
unfolding framed question_at number_scan byte_scan run_scan items_scan part_scan is_utf8 chars encode in_ranges xid_start_ranges xid_continue_ranges is_pattern is_identifier is_reserved is_xid_start is_xid_continue
mirror_read = refl

annotation_read : frame_scan (hex "000000381300000001010000000e6170742e64656d6f2e436861696e000000000000000000000000010000000576616c756501030000000000000002") ≡ whole chain_annotation []
unfolding framed question_at number_scan byte_scan run_scan items_scan part_scan is_utf8 chars encode in_ranges xid_start_ranges xid_continue_ranges is_pattern is_identifier is_reserved is_xid_start is_xid_continue
annotation_read = refl

pub examples : ExamplesHold
unfolding framed question_at all_bytes number_scan byte_scan run_scan items_scan part_scan is_utf8 chars encode in_ranges xid_start_ranges xid_continue_ranges is_pattern is_identifier is_reserved is_xid_start is_xid_continue
examples = record {
  init = record { spelled = refl; read = refl };
  first_round = record { spelled = refl; read = refl };
  claimed = record { spelled = refl; read = refl };
  builder_hello = record { spelled = refl; read = refl };
  star_hello = record { spelled = refl; read = refl };
  last_round = record { spelled = refl; read = refl };
  type_question = record { spelled = refl; read = refl };
  no_pattern = refl;
  byte_behind_done = refl;
  unknown_tag = refl;
  no_length = refl;
  length_past_the_limit = refl;
  tag_alone = refl;
  truth_of_two = refl;
  answer_of_five = refl;
  text_of_no_characters = refl;
  empty_pattern = refl;
  repeated_pattern = refl;
  pattern_at_the_end = refl;
  repeated_root = refl;
  keys_in_disorder = refl;
  variant_of_eleven = refl;
  ninth_primitive = refl;
  fourth_bound = refl;
  mirror_without_a_bound = refl;
  bound_without_a_mirror = refl;
  whole_of_two = refl;
  longest_length = refl;
  text_to_come = refl;
  nothing_yet = refl;
  deepest_array = refl;
  array_too_deep = refl;
  one_mirror = example (hex "0000000b1500000001050101040003") (plain_frame 21, wrapped (Extends ∷ []) (wrapped (Array ∷ []) (plain (base.Primitive Int))) ∷ []) refl mirror_read;
  one_annotation = example (hex "000000381300000001010000000e6170742e64656d6f2e436861696e000000000000000000000000010000000576616c756501030000000000000002") chain_annotation refl annotation_read;
  one_message = record { spelled = refl; read = refl };
}
