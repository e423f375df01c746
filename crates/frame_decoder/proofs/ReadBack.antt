-- What is spelled of a frame that the table has is decoded as that frame, row by row.
use Rattle.std.proofs.Common.{◌≡◌, ℕ, List, [], ◌++◌, Option, None, Some, refl, sym, ap, ◌∙◌, append-nil}
use Rattle.std.specs.Prelude.{option_map}
use Rattle.std.specs.Option.{option_or}
use Rattle.apt_base.specs.Fields.{◌>>=◌, u8_next, u16_next, bool_next, text_next}
use Rattle.apt_base.specs.Forms.{Reader, ◌>>◌, list_next}
use Rattle.apt_base.specs.Forms as readers
use Rattle.apt_base.specs.declared.element.ElementRef.{ElementRef}
use Rattle.type_mirror.specs.declared.mirror.Mirror.{Mirror}
use Rattle.frame_forms.specs.Scans as scans
use Rattle.frame_forms.specs.Scans.{Scan, whole, begun, bad}
use Rattle.frame_forms.specs.Forms.{El, plain_frame, question_frame, u16}
use Rattle.frame_forms.specs.TextForms.{text, list_of}
use Rattle.frame_forms.specs.MirrorForms.{bool, u8_below, element, mirror, value, annotation}
use Rattle.frame_forms.specs.declared.question_row.QuestionRow.{QuestionRow}
use Rattle.frame_forms.specs.declared.question_row.QuestionRow.TheVariants as rows
use Rattle.frame_forms.specs.QuestionTable.{question_tag, question_at}
use Rattle.frame_forms.specs.FrameTable.{◌then◌, Row, row_of, kind_in, kind_at, question_code, question_form, code_of, form_of, tag_of, frame_form}
use Rattle.frame_forms.specs.Frames.{Fits, spelled, scanned}
use Rattle.frame_forms.proofs.FormsMeet.{scanned-meets}
use Rattle.frame_forms.proofs.Sound.{grammar_sound, frame_sound}
use Rattle.wire_frames.specs.declared.reply.Created.TheVariants as created
use Rattle.wire_frames.specs.declared.reply.Refused.TheVariants as refused
use Rattle.wire_frames.specs.declared.reply.Reply.{Reply}
use Rattle.wire_frames.specs.declared.reply.Reply.TheVariants as replies
use Rattle.wire_frames.specs.declared.question.Question.{Question}
use Rattle.wire_frames.specs.declared.question.Question.TheVariants as questions
use Rattle.wire_frames.specs.declared.frame.Creation.{Creation}
use Rattle.wire_frames.specs.declared.frame.Creation.TheVariants as creations
use Rattle.wire_frames.specs.declared.frame.Frame.{Frame}
use Rattle.wire_frames.specs.declared.frame.Frame.TheVariants as frames
use Rattle.wire_frames.specs.Frames.{shown, IsInTable}
use Rattle.wire_frames.specs.Readings.{found, alone, element_next, hello_of, done_of, source_of, class_of, resource_of, message_of}
use Rattle.wire_frames.proofs.Scanned.{Same, pair-same, made-same, u16-same, text-same, bool_form-same, element-same}
use Rattle.wire_frames.proofs.ChildFrames.{hello_row, done_row, source_row, resource_row, class_row, message_row, elements-same}
use Rattle.frame_decoder.specs.PartReadings.{nothing_next, mirror_next}
use Rattle.frame_decoder.specs.QuestionReadings.{arguments_next}
use Rattle.frame_decoder.specs.HostReadings as host
use Rattle.frame_decoder.specs.HostReadings.{init_of, round_of, elements_of, info_of, info_next, texts_of, annotations_of, annotation_next, entry_next, mirrors_of, truth_of, noted_of}
use Rattle.frame_decoder.specs.Decodings.{reply_of, ask_of, tagged_next, frame_next, decoded}
use Rattle.frame_decoder.proofs.PartsScanned.{mirror-same}
use Rattle.frame_decoder.proofs.TableRows.{init-same, round-same, info-same, texts-same, annotation_list-same, values-same, mirrors-same, nothing-same, made_of, arguments-same, tagged_question}

-- behind its tag the frame is read from the spelling of its fields
unfoldable IsBack : Frame → Type 0
IsBack frame =
    Fits frame_form (shown frame) → (behind : List ℕ)
    → tagged_next (tag_of (shown frame).0) (spelled (form_of (shown frame).0) (shown frame).1 ++ behind) ≡ Some (frame, behind)

-- what is made of fields that were spelled
spelled_back : (tag : ℕ) (make : El (code_of (plain_frame tag)) → Frame) → Same (tagged_next tag) (λ bytes. scans.mapped make (scanned (form_of (plain_frame tag)) bytes)) → (v : El (code_of (plain_frame tag))) → Fits frame_form (plain_frame tag, v) → (behind : List ℕ)
    → tagged_next tag (spelled (form_of (plain_frame tag)) v ++ behind) ≡ Some (make v, behind)
spelled_back tag make same v fits behind =
    same (spelled (form_of (plain_frame tag)) v ++ behind)
    ∙ ap (λ (s : Scan (El (code_of (plain_frame tag)))). found (scans.mapped make s)) ((scanned-meets grammar_sound (form_of (plain_frame tag)) (frame_sound.1 (plain_frame tag))).again v behind fits.1)

-- ---- replies and questions

-- what is made of a value that was made
wrapped-same : {A B : Type 0} (wrap : B → Frame) (make : A → B) (next : Reader B) (scan : List ℕ → Scan A) → Same next (λ bytes. scans.mapped make (scan bytes)) → Same (readers.mapped wrap next) (λ bytes. scans.mapped (λ a. wrap (make a)) (scan bytes))
wrapped-same {A} {B} wrap make next scan same bytes = made-same wrap next (λ b. scans.mapped make (scan b)) same bytes ∙ ap found (cases (scan bytes))
  where
    cases : (s : Scan A) → scans.mapped wrap (scans.mapped make s) ≡ scans.mapped (λ a. wrap (make a)) s
    cases (whole a rest) = refl
    cases begun = refl
    cases (bad rest kind) = refl

plain-same : {A B : Type 0} (wrap : B → Frame) (make : A → B) (next : Reader A) (scan : List ℕ → Scan A) → Same next scan → Same (readers.mapped wrap (readers.mapped make next)) (λ bytes. scans.mapped (λ a. wrap (make a)) (scan bytes))
plain-same wrap make next scan same = wrapped-same wrap make (readers.mapped make next) scan (made-same make next scan same)

-- ---- all rows

reply_back : (reply : Reply) → IsBack (reply_of reply)
unfolding IsBack u8_next
reply_back (replies.Elements elements) = spelled_back 16 (λ x. reply_of (elements_of x)) (plain-same reply_of elements_of (list_next element_next) (scanned (list_of element)) elements-same) elements
reply_back (replies.Info info) =
    spelled_back 17 (λ x. reply_of (info_of x)) (wrapped-same reply_of info_of info_next (scanned (u8_below 11 then u16 then text then text then bool)) info-same)
    (info.kind, (info.modifiers, (info.simple, (info.canonical, info.varargs))))
reply_back (replies.Texts texts) = spelled_back 18 (λ x. reply_of (texts_of x)) (plain-same reply_of texts_of (list_next text_next) (scanned (list_of text)) texts-same) texts
reply_back (replies.Annotations annotations) = spelled_back 19 (λ x. reply_of (annotations_of x)) (plain-same reply_of annotations_of (list_next (annotation_next 256)) (scanned (list_of annotation)) annotation_list-same) annotations
reply_back (replies.Values values) = spelled_back 20 (λ x. reply_of (host.values_of x)) (plain-same reply_of host.values_of (list_next (entry_next 256)) (scanned (list_of (text then value))) values-same) values
reply_back (replies.Mirrors mirrors) = spelled_back 21 (λ x. reply_of (mirrors_of x)) (plain-same reply_of mirrors_of (list_next (mirror_next 256)) (scanned (list_of mirror)) mirrors-same) mirrors
reply_back (replies.Truth truth) = spelled_back 22 (λ x. reply_of (truth_of x)) (plain-same reply_of truth_of (bool_next) (scanned bool) bool_form-same) truth
reply_back (replies.Created created.Accepted) = λ fits behind. refl
reply_back (replies.Created created.Exists) = λ fits behind. refl
reply_back (replies.Created created.Unsupported) = λ fits behind. refl
reply_back (replies.Created created.BadName) = λ fits behind. refl
reply_back (replies.Created created.TooLarge) = λ fits behind. refl
reply_back replies.Noted = spelled_back 24 (λ x. reply_of (noted_of x)) (plain-same reply_of noted_of nothing_next (λ bytes. whole tt bytes) nothing-same) tt
reply_back (replies.Refused refused.NoSuch) = λ fits behind. refl
reply_back (replies.Refused refused.WrongKind) = λ fits behind. refl
reply_back (replies.Refused refused.TooDeep) = λ fits behind. refl
reply_back (replies.Refused refused.TooLarge) = λ fits behind. refl

-- the row of which the table has the tag
row_there : (n : ℕ) (row : QuestionRow) → kind_at n ≡ Some (question_frame row) → question_at n ≡ Some row
row_there n row e = cases (row_of n) (question_at n) e
  where
    cases : (of : Option Row) (asked : Option QuestionRow) → option_or (kind_in n of) (option_map (λ each. question_frame each) asked) ≡ Some (question_frame row) → asked ≡ Some row
    cases (Some of) asked h = absurd cc
    cases None None h = absurd cc
    cases None (Some other) h = cc

-- a question of a row is read back from the spelling of its arguments
asked_back : (row : QuestionRow) (v : El (question_code row)) → Fits frame_form (question_frame row, v) → (behind : List ℕ)
    → tagged_next (question_tag row) (spelled (question_form row) v ++ behind) ≡ Some (ask_of (made_of row v), behind)
asked_back row v fits behind =
    let bytes = spelled (question_form row) v ++ behind in
    tagged_question (question_tag row) row (row_there (question_tag row) row fits.0) bytes
    ∙ wrapped-same ask_of (made_of row) (arguments_next row) (scanned (question_form row)) (arguments-same row) bytes
    ∙ ap (λ (s : Scan (El (question_code row))). found (scans.mapped (λ x. ask_of (made_of row x)) s)) ((scanned-meets grammar_sound (question_form row) (frame_sound.1 (question_frame row))).again v behind fits.1)

question_is_back : (question : Question) → IsBack (ask_of question)
unfolding IsBack
question_is_back (questions.Name of name) = asked_back (rows.Name of) name
question_is_back (questions.Element of at) = asked_back (rows.Element of) at
question_is_back (questions.Mirror of m) = asked_back (rows.Mirror of) m
question_is_back (questions.Mirrors of one other) = asked_back (rows.Mirrors of) (one, other)
question_is_back (questions.ValuesWithDefaults at number) = asked_back rows.ValuesWithDefaults (at, number)
question_is_back (questions.Overrides overrider overridden in_type) = asked_back rows.Overrides (overrider, (overridden, in_type))
question_is_back (questions.MemberType container at) = asked_back rows.MemberType (container, at)
question_is_back (questions.DeclaredType at arguments) = asked_back rows.DeclaredType (at, arguments)
question_is_back questions.Roots = asked_back rows.Roots tt

creation_back : (creation : Creation) → IsBack (frames.Create creation)
unfolding IsBack
creation_back (creations.Source name content origins) = spelled_back 66 source_of source_row (name, (content, origins))
creation_back (creations.Resource location folder relative content origins) = spelled_back 67 resource_of resource_row (location, (folder, (relative, (content, origins))))
creation_back (creations.Class name content origins) = spelled_back 68 class_of class_row (name, (content, origins))

row_back : (frame : Frame) → IsBack frame
unfolding IsBack
row_back (frames.Init init) = spelled_back 1 init_of init-same (init.name, (init.level, init.options))
row_back (frames.Round number over error offered roots) = spelled_back 2 round_of round-same (number, (over, (error, (offered, roots))))
row_back (frames.Reply reply) = reply_back reply
row_back (frames.Hello hello) = spelled_back 64 hello_of hello_row (hello.patterns, (hello.options, hello.claim))
row_back (frames.Done claimed) = spelled_back 65 done_of done_row claimed
row_back (frames.Create creation) = creation_back creation
row_back (frames.Message message) = spelled_back 69 message_of message_row (message.kind, (message.element, message.text))
row_back (frames.Ask question) = question_is_back question

-- ---- whole frames

back : (frame : Frame) → IsBack frame → Fits frame_form (shown frame) → alone (frame_next (spelled frame_form (shown frame))) ≡ Some frame
unfolding IsBack frame_next u8_next
back frame is fits =
    let fields = spelled (form_of (shown frame).0) (shown frame).1 in
    ap (λ (rest : List ℕ). alone (tagged_next (tag_of (shown frame).0) rest)) (sym (append-nil fields)) ∙ ap alone (is fits [])

pub decoded_back : (frame : Frame) → IsInTable frame → decoded (spelled frame_form (shown frame)) ≡ Some frame
unfolding IsInTable decoded
decoded_back frame fits = back frame (row_back frame) fits
