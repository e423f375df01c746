-- The table of frames: each tag with the form of its fields. A new frame is one line; the questions are those of `QuestionTable`.
use Rattle.std.specs.Prelude.{ℕ, List, [], ◌∷◌, ◌==◌, Option, Some, None, option_map, if◌then◌else◌}
use Rattle.std.specs.Option.{option_or}
use Rattle.apt_base.specs.declared.kinds.Claim.{Claim}
use Rattle.apt_base.specs.declared.kinds.Claim.TheVariants.{Always, Never, Varies}
use Rattle.frame_forms.specs.declared.bad_kind.BadKind.TheVariants as kinds
use Rattle.frame_forms.specs.Forms as forms
use Rattle.frame_forms.specs.declared.question_row.QuestionRow.{QuestionRow}
use Rattle.frame_forms.specs.declared.question_row.QuestionRow.TheVariants as questions
use Rattle.frame_forms.specs.QuestionTable.{question_tag, question_at}
use Rattle.frame_forms.specs.Forms.{Code, El, Form, Numbering, FrameKind, plain_frame, question_frame, pair, many, chosen, one, frame_kind, octets, number, nothing, empty, byte, u16, u32, both, choice, opt}
use Rattle.frame_forms.specs.TextForms.{any_bytes, text, list_of, distinct_texts, distinct_patterns, ascending_texts, ascending_by_key}
use Rattle.frame_forms.specs.MirrorForms.{in_order, bool, u8_below, element, mirror, value, annotation}

infixr 30 ◌then◌
abbrev pub ◌then◌ : {c d : Code} → Form c → Form d → Form (pair c d)
f then g = both f g

abbrev pub claim_number : Claim → ℕ
claim_number Always = 0
claim_number Never = 1
claim_number Varies = 2

abbrev pub claim : Form (one forms.claim)
claim = byte forms.claim kinds.Field (in_order claim_number (Always ∷ Never ∷ Varies ∷ []))

-- a frame's tag, and the form of its fields
pub record Row : Type 0 where
  pub tag : ℕ
  pub code : Code
  pub form : Form code

abbrev pub row : ℕ → {c : Code} → Form c → Row
row tag {c} form = record { tag = tag; code = c; form = form }

abbrev pub table : List Row
table =
    -- what the host sends first: its name for the processor, the source level, and the options
    row 1 (text then u16 then ascending_by_key text) ∷
    -- a round: its number, whether it is the last, whether there was an error in the round before, the names that are offered, and the roots
    row 2 (u32 then bool then bool then ascending_texts then ascending_texts) ∷
    -- the host's replies
    -- Elements
    row 16 (list_of element) ∷
    -- Info: kind, modifiers, simple and canonical name, varargs
    row 17 (u8_below 11 then u16 then text then text then bool) ∷
    -- Texts
    row 18 (list_of text) ∷
    -- Annotations
    row 19 (list_of annotation) ∷
    -- Values, with a name each
    row 20 (list_of (text then value)) ∷
    -- Mirrors
    row 21 (list_of mirror) ∷
    -- Truth
    row 22 bool ∷
    -- Created: Accepted, Exists, Unsupported, BadName, TooLarge
    row 23 (u8_below 5) ∷
    -- Noted
    row 24 empty ∷
    -- Refused: NoSuch, WrongKind, TooDeep, TooLarge
    row 25 (u8_below 4) ∷
    -- what a child sends
    -- Hello: the patterns that it supports, its options, and its claim
    row 64 (distinct_patterns then distinct_texts then claim) ∷
    -- Done: whether it claims
    row 65 bool ∷
    -- CreateSource: name, content, originating elements
    row 66 (text then any_bytes then list_of element) ∷
    -- CreateResource: location, package, relative name, content, originating elements
    row 67 (u8_below 3 then text then text then any_bytes then list_of element) ∷
    -- CreateClass: name, content, originating elements
    row 68 (text then any_bytes then list_of element) ∷
    -- Message: kind, element, text
    row 69 (u8_below 5 then opt element then text) ∷ []

-- ---- the questions, by the forms of their arguments

abbrev pub question_code : QuestionRow → Code
question_code (questions.Name of) = octets
question_code (questions.Element of) = forms.element
question_code (questions.Mirror of) = forms.mirror
question_code (questions.Mirrors of) = pair forms.mirror forms.mirror
-- an element, and the number of one of its annotations
question_code questions.ValuesWithDefaults = pair forms.element number
-- a method, another one, and the type in which
question_code questions.Overrides = pair forms.element (pair forms.element forms.element)
-- a type, and a member
question_code questions.MemberType = pair forms.mirror forms.element
-- a type, and arguments
question_code questions.DeclaredType = pair forms.element (many forms.mirror)
question_code questions.Roots = nothing

abbrev pub question_form : (row : QuestionRow) → Form (question_code row)
question_form (questions.Name of) = text
question_form (questions.Element of) = element
question_form (questions.Mirror of) = mirror
question_form (questions.Mirrors of) = mirror then mirror
question_form questions.ValuesWithDefaults = element then u16
question_form questions.Overrides = element then element then element
question_form questions.MemberType = mirror then element
question_form questions.DeclaredType = element then list_of mirror
question_form questions.Roots = empty

-- ---- the row of a tag, where there is one
abbrev pub row_with : ℕ → List Row → Option Row
row_with tag [] = None
row_with tag (first ∷ others) = if first.tag == tag then Some first else row_with tag others

-- a tag without a row has no fields, and is bad
abbrev pub code_in : Option Row → Code
code_in None = forms.nothing
code_in (Some of) = of.code

abbrev pub form_in : (of : Option Row) → Form (code_in of)
form_in None = empty
form_in (Some of) = of.form

abbrev pub row_of : ℕ → Option Row
row_of tag = row_with tag table

-- ---- frames

abbrev pub kind_in : ℕ → Option Row → Option FrameKind
kind_in tag None = None
kind_in tag (Some of) = Some (plain_frame tag)

-- the frame with this tag
abbrev pub kind_at : ℕ → Option FrameKind
kind_at tag = option_or (kind_in tag (row_of tag)) (option_map (λ row. question_frame row) (question_at tag))

abbrev pub tag_of : FrameKind → ℕ
tag_of (plain_frame tag) = tag
tag_of (question_frame row) = question_tag row

abbrev pub tags : Numbering FrameKind
tags = record { number_of = tag_of; at = kind_at }

abbrev pub code_of : FrameKind → Code
code_of (plain_frame tag) = code_in (row_of tag)
code_of (question_frame row) = question_code row

abbrev pub form_of : (kind : FrameKind) → Form (code_of kind)
form_of (plain_frame tag) = form_in (row_of tag)
form_of (question_frame row) = question_form row

-- a tag and its fields
abbrev pub frame_code : Code
frame_code = chosen frame_kind code_of

abbrev pub frame_form : Form frame_code
frame_form = choice frame_kind kinds.Tag tags code_of form_of

abbrev pub Fields : Type 0
Fields = El frame_code
