-- What is read of the fields of a child's frames is what the table says, row by row.
use Rattle.std.proofs.Common.{ℕ}
use Rattle.apt_base.specs.Fields.{bool_next, bytes_next, text_next}
use Rattle.apt_base.specs.Forms.{Reader, ◌>>◌, opt_next, list_next}
use Rattle.apt_base.specs.Forms as readers
use Rattle.frame_forms.specs.Scans as scans
use Rattle.frame_forms.specs.Forms.{El, plain_frame, opt}
use Rattle.frame_forms.specs.TextForms.{any_bytes, text, distinct_texts, distinct_patterns, list_of}
use Rattle.frame_forms.specs.MirrorForms.{bool, u8_below, element}
use Rattle.frame_forms.specs.FrameTable.{◌then◌, claim, code_of, form_of}
use Rattle.frame_forms.specs.Frames.{scanned}
use Rattle.wire_frames.specs.declared.frame.Frame.{Frame}
use Rattle.wire_frames.specs.Readings.{distinct_next, patterns_next, below_next, claim_next, element_next, hello_of, hello_next, done_of, done_next, file_next, source_of, class_of, resource_of, resource_next, message_of, message_next}
use Rattle.wire_frames.proofs.Scanned.{Same, pair-same, made-same, list-same, opt-same, text-same, bytes-same, distinct-same, patterns-same, bool_form-same, below-same, claim-same, element-same}

-- ---- the rows

-- what is read behind a tag is what the table has there
abbrev pub Row : (tag : ℕ) → (El (code_of (plain_frame tag)) → Frame) → Reader Frame → Type 0
Row tag make next = Same next (λ bytes. scans.mapped make (scanned (form_of (plain_frame tag)) bytes))

pub hello_row : Row 64 hello_of hello_next
unfolding hello_next
hello_row =
    made-same hello_of (patterns_next >> (distinct_next >> claim_next)) (scanned (distinct_patterns then distinct_texts then claim))
    (pair-same patterns_next (scanned distinct_patterns) (distinct_next >> claim_next) (scanned (distinct_texts then claim)) patterns-same (pair-same distinct_next (scanned distinct_texts) claim_next (scanned claim) distinct-same claim-same))

pub done_row : Row 65 done_of done_next
unfolding done_next
done_row = made-same done_of bool_next (scanned bool) bool_form-same

pub elements-same : Same (list_next element_next) (scanned (list_of element))
elements-same = list-same element_next (scanned element) element-same

file-same : Same file_next (scanned (text then any_bytes then list_of element))
unfolding file_next
file-same = pair-same text_next (scanned text) (bytes_next >> list_next element_next) (scanned (any_bytes then list_of element)) text-same (pair-same bytes_next (scanned any_bytes) (list_next element_next) (scanned (list_of element)) bytes-same elements-same)

pub source_row : Row 66 source_of (readers.mapped source_of file_next)
source_row = made-same source_of file_next (scanned (text then any_bytes then list_of element)) file-same

pub class_row : Row 68 class_of (readers.mapped class_of file_next)
class_row = made-same class_of file_next (scanned (text then any_bytes then list_of element)) file-same

pub resource_row : Row 67 resource_of resource_next
unfolding resource_next
resource_row =
    made-same resource_of (below_next 3 >> (text_next >> file_next)) (scanned (u8_below 3 then text then text then any_bytes then list_of element))
    (pair-same (below_next 3) (scanned (u8_below 3)) (text_next >> file_next) (scanned (text then text then any_bytes then list_of element)) (below-same 3) (pair-same text_next (scanned text) file_next (scanned (text then any_bytes then list_of element)) text-same file-same))

pub message_row : Row 69 message_of message_next
unfolding message_next
message_row =
    made-same message_of (below_next 5 >> (opt_next element_next >> text_next)) (scanned (u8_below 5 then opt element then text))
    (pair-same (below_next 5) (scanned (u8_below 5)) (opt_next element_next >> text_next) (scanned (opt element then text)) (below-same 5) (pair-same (opt_next element_next) (scanned (opt element)) text_next (scanned text) (opt-same element_next (scanned element) element-same) text-same))
