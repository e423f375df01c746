-- Frames that were worked out by hand, and bytes that are none: the bytes of each, and what they are.
use Prim.Native.String.{String}
use Rattle.std.specs.Prelude.{◌≡◌, ℕ, ◌+◌, ◌-◌, ◌*◌, nat_lt, if◌then◌else◌, true, false, List, [], ◌∷◌, ◌++◌, replicate, Option, Some, None, codes, pos}
use Rattle.apt_base.specs.declared.kinds.Claim.TheVariants.{Always, Never}
use Rattle.apt_base.specs.declared.around.Around.TheVariants.{Array, Extends}
use Rattle.type_mirror.specs.declared.mirror.PrimitiveKind.TheVariants.{Int}
use Rattle.type_mirror.specs.declared.mirror.BaseMirror.TheVariants as base
use Rattle.type_mirror.specs.declared.mirror.DeclaredMirror.{roll-DeclaredMirror}
use Rattle.type_mirror.specs.declared.value.WholeKind.TheVariants as wholes
use Rattle.type_mirror.specs.declared.value.Value.TheVariants as values
use Rattle.type_mirror.specs.declared.value.NamedValue.{roll-NamedValue}
use Rattle.type_mirror.specs.declared.value.Annotation.{roll-Annotation}
use Rattle.type_mirror.specs.Parts.{plain, wrapped}
use Rattle.frame_forms.specs.declared.bad_kind.BadKind.TheVariants as kinds
use Rattle.frame_forms.specs.declared.question_row.NameQuestion.TheVariants.{TypeElement}
use Rattle.frame_forms.specs.declared.question_row.QuestionRow.TheVariants as rows
use Rattle.frame_forms.specs.Scans.{Scan, whole, begun, bad}
use Rattle.frame_forms.specs.Forms.{plain_frame, question_frame}
use Rattle.frame_forms.specs.FrameTable.{Fields}
use Rattle.frame_forms.specs.Frames.{frame_spelling, frame_scan, first_bad}

-- the number of a digit `0` to `9`, or `a` to `f`
abbrev pub digit : ℕ → ℕ
digit c = if nat_lt c 58 then c - 48 else (c - 87)

-- the bytes of two digits each
abbrev pub bytes_of : List ℕ → List ℕ
bytes_of [] = []
bytes_of (one ∷ []) = []
bytes_of (high ∷ low ∷ digits) = (16 * digit high + digit low) ∷ bytes_of digits

abbrev pub hex : String → List ℕ
hex text = bytes_of (codes text)

-- the bytes are the spelling of these fields, and are read as them
pub record IsExample (bytes : List ℕ) (fields : Fields) : Type 0 where
  pub spelled : frame_spelling fields ≡ bytes
  pub read : frame_scan bytes ≡ whole fields []

-- the bytes behind the first frame, where there is one
abbrev pub rest_of : Scan Fields → Option (List ℕ)
rest_of (whole fields rest) = Some rest
rest_of begun = None
rest_of (bad rest kind) = None

-- the erasure of an array of int of this many dimensions: the question 6a, and 04 for each dimension
abbrev pub array_of_int : ℕ → List ℕ
array_of_int dimensions = 0x6a ∷ (replicate dimensions 0x04 ++ 0x00 ∷ 0x03 ∷ [])

abbrev pub deepest_array : List ℕ
deepest_array = 0x00 ∷ 0x00 ∷ 0x01 ∷ 0x02 ∷ array_of_int 255

abbrev pub array_too_deep : List ℕ
array_too_deep = 0x00 ∷ 0x00 ∷ 0x01 ∷ 0x03 ∷ array_of_int 256

-- the fields of Annotations with `@apt.demo.Chain(2)`
abbrev pub chain_annotation : Fields
chain_annotation = (
  plain_frame 19,
  roll-Annotation (record {
    annotation_type = plain (base.Declared (roll-DeclaredMirror (record { element = record { unit = codes "apt.demo.Chain"; path = [] }; enclosing = None; arguments = [] })));
    values = roll-NamedValue (record { name = codes "value"; value = values.Whole wholes.Int (pos 2) }) ∷ [];
  }) ∷ [],
)

pub record ExamplesHold : Type 0 where
  -- Init for `builder`, level 11, no options
  pub init : IsExample (hex "0000001201000000076275696c646572000b00000000") (plain_frame 1, (codes "builder", (11, [])))
  -- a first round
  pub first_round : IsExample (hex "000000370200000001000000000001000000106170742e64656d6f2e4275696c6465720000000200000006612e5465616d00000006612e55736572") (plain_frame 2, (1, (false, (false, (codes "apt.demo.Builder" ∷ [], codes "a.Team" ∷ codes "a.User" ∷ [])))))
  -- Done, claimed
  pub claimed : IsExample (hex "000000024101") (plain_frame 65, true)
  -- Hello with a pattern and an option
  pub builder_hello : IsExample (hex "0000004c4000000001000000106170742e64656d6f2e4275696c646572000000010000002a6f72672e677261646c652e616e6e6f746174696f6e2e70726f63657373696e672e69736f6c6174696e6700") (plain_frame 64, (codes "apt.demo.Builder" ∷ [], (codes "org.gradle.annotation.processing.isolating" ∷ [], Always)))
  -- Hello with `*`
  pub star_hello : IsExample (hex "0000000f4000000001000000012a0000000001") (plain_frame 64, (codes "*" ∷ [], ([], Never)))
  -- a last round without anything
  pub last_round : IsExample (hex "0000000f020000000201000000000000000000") (plain_frame 2, (2, (true, (false, ([], [])))))
  -- TypeElement of `x.Y`
  pub type_question : IsExample (hex "000000085000000003782e59") (question_frame (rows.Name TypeElement), codes "x.Y")
  -- Hello with `a.*.b`
  pub no_pattern : first_bad (hex "00000013400000000100000005612e2a2e620000000000") ≡ Some (17, kinds.Pattern)
  -- Done with one byte more
  pub byte_behind_done : first_bad (hex "00000003410100") ≡ Some (6, kinds.Rest)
  -- a tag without a row
  pub unknown_tag : first_bad (hex "0000000177") ≡ Some (4, kinds.Tag)
  -- the length 0
  pub no_length : first_bad (hex "00000000") ≡ Some (3, kinds.Length)
  -- a length of one more than the most
  pub length_past_the_limit : first_bad (hex "07fffffd") ≡ Some (3, kinds.Length)
  -- a frame that ends before its fields do
  pub tag_alone : first_bad (hex "0000000141") ≡ Some (4, kinds.Field)
  -- a bool of 2
  pub truth_of_two : first_bad (hex "000000024102") ≡ Some (5, kinds.Field)
  -- Created of 5
  pub answer_of_five : first_bad (hex "000000021705") ≡ Some (5, kinds.Field)
  -- a text that is not UTF-8
  pub text_of_no_characters : first_bad (hex "000000075000000002c328") ≡ Some (10, kinds.Field)
  -- Hello with an empty name
  pub empty_pattern : first_bad (hex "0000000e4000000001000000000000000000") ≡ Some (12, kinds.Pattern)
  -- Hello with `*` twice
  pub repeated_pattern : first_bad (hex "000000144000000002000000012a000000012a0000000000") ≡ Some (18, kinds.Field)
  -- a name that is no pattern at the end of a frame that is too short
  pub pattern_at_the_end : first_bad (hex "0000000a4000000001000000012d") ≡ Some (13, kinds.Pattern)
  -- a round with a root twice
  pub repeated_root : first_bad (hex "0000001d02000000010000000000000000000200000003612e4200000003612e42") ≡ Some (32, kinds.Field)
  -- options with the keys `b` and `a`
  pub keys_in_disorder : first_bad (hex "00000020010000000178000b000000020000000162000000013100000001610000000131") ≡ Some (30, kinds.Field)
  -- a mirror of 11
  pub variant_of_eleven : first_bad (hex "000000026a0b") ≡ Some (5, kinds.Field)
  -- a primitive type of 8
  pub ninth_primitive : first_bad (hex "000000036a0008") ≡ Some (6, kinds.Field)
  -- a wildcard of 3
  pub fourth_bound : first_bad (hex "000000036a0503") ≡ Some (6, kinds.Field)
  -- `?` with a mirror
  pub mirror_without_a_bound : first_bad (hex "000000066a0500010003") ≡ Some (7, kinds.Field)
  -- `? extends` without one
  pub bound_without_a_mirror : first_bad (hex "000000046a050100") ≡ Some (7, kinds.Field)
  -- an integer of kind 2
  pub whole_of_two : first_bad (hex "0000000c140000000100000001760102") ≡ Some (15, kinds.Field)
  -- the greatest length
  pub longest_length : frame_scan (hex "07fffffc") ≡ begun
  -- a text without its last byte
  pub text_to_come : frame_scan (hex "000000085000000003782e") ≡ begun
  -- no byte
  pub nothing_yet : frame_scan [] ≡ begun
  -- 255 dimensions around int are 256 mirrors
  pub deepest_array : rest_of (frame_scan deepest_array) ≡ Some []
  -- and one more
  pub array_too_deep : first_bad array_too_deep ≡ Some (261, kinds.Field)
  -- Mirrors: `? extends int[]`
  pub one_mirror : IsExample (hex "0000000b1500000001050101040003") (plain_frame 21, wrapped (Extends ∷ []) (wrapped (Array ∷ []) (plain (base.Primitive Int))) ∷ [])
  -- Annotations: `@apt.demo.Chain(2)`
  pub one_annotation : IsExample (hex "000000381300000001010000000e6170742e64656d6f2e436861696e000000000000000000000000010000000576616c756501030000000000000002") chain_annotation
  -- a warning on the first child of `a.User`
  pub one_message : IsExample (hex "0000001845010100000006612e557365720000000100000000000178") (plain_frame 69, (1, (Some (record { unit = codes "a.User"; path = 0 ∷ [] }), codes "x")))
