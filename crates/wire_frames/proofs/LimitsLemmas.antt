-- How deep frames are nested, by what they hold, and when they are too large.
use Rattle.std.proofs.Common.{◌≡◌, ℕ, ◌+◌, ◌<◌, ◌≤◌, Bool, true, false, ◌||◌, nat_lt, max, List, [], length, map, Option, Some, None, Ok, Err, refl, ap, ◌∙◌, length-append, arith}
use Rattle.std.specs.Int.{w32, to_be_bytes}
use Rattle.std.proofs.lemmas.Bool.Decides.{nat_tests}
use Rattle.apt_base.specs.declared.element.ElementRef.{ElementRef}
use Rattle.type_mirror.specs.declared.mirror.Mirror.{Mirror}
use Rattle.type_mirror.specs.declared.value.Value.{Value}
use Rattle.type_mirror.specs.declared.value.Annotation.{Annotation}
use Rattle.type_mirror.specs.Nesting as mirror
use Rattle.type_mirror.specs.Nesting.{deepest, capped, annotation_nesting}
use Rattle.frame_forms.specs.MirrorForms.{annotation}
use Rattle.frame_forms.specs.Forms.{plain_frame}
use Rattle.frame_forms.specs.FrameTable.{frame_form}
use Rattle.frame_forms.specs.declared.question_row.MirrorQuestion.{MirrorQuestion}
use Rattle.frame_forms.specs.declared.question_row.MirrorsQuestion.{MirrorsQuestion}
use Rattle.frame_forms.specs.Frames.{IsFrame, spelled, frame_spelling}
use Rattle.frame_forms.specs.Depths.{depth_in}
use Rattle.frame_forms.proofs.DepthLaws.{items_depth-map, items_depth-none, items_depth-same, element_depth, elements_depth, annotation_depth, nesting_decides}
use Rattle.wire_frames.specs.declared.reply.Created.{Created}
use Rattle.wire_frames.specs.declared.reply.Reply.{Reply}
use Rattle.wire_frames.specs.declared.reply.Reply.TheVariants as replies
use Rattle.wire_frames.specs.declared.question.Question.{Question}
use Rattle.wire_frames.specs.declared.question.Question.TheVariants as questions
use Rattle.wire_frames.specs.declared.frame.Init.{Init}
use Rattle.wire_frames.specs.declared.frame.Creation.{Creation}
use Rattle.wire_frames.specs.declared.frame.Creation.TheVariants as creations
use Rattle.wire_frames.specs.declared.frame.Frame.{Frame}
use Rattle.wire_frames.specs.declared.frame.Frame.TheVariants as frames
use Rattle.wire_frames.specs.Frames.{shown, init_shown, reply_shown, question_shown, spelling}
use Rattle.wire_frames.specs.Spellings.{fields_spelled}
use Rattle.wire_frames.specs.Limits.{nesting_of_named, nesting, is_too_deep, is_too_long, is_too_large}

-- ---- the host's replies

abbrev pub depth_of_reply : Reply → ℕ
depth_of_reply reply = depth_in frame_form (reply_shown reply)

pub depth-Annotations : (annotations : List Annotation) → depth_of_reply (replies.Annotations annotations) ≡ deepest (map annotation_nesting annotations)
depth-Annotations annotations =
    items_depth-same {A = Annotation} (depth_in annotation) annotation_nesting annotation_depth [] annotations ∙ items_depth-map annotation_nesting [] annotations

pub depth-Values : (values : List (List ℕ × Value)) → depth_of_reply (replies.Values values) ≡ deepest (map nesting_of_named values)
depth-Values values =
    items_depth-same {A = List ℕ × Value} (λ named. max 0 (nesting_of_named named)) nesting_of_named (λ named. omega arith) [] values
    ∙ items_depth-map nesting_of_named [] values

pub depth-Mirrors : (mirrors : List Mirror) → depth_of_reply (replies.Mirrors mirrors) ≡ deepest (map mirror.nesting mirrors)
depth-Mirrors mirrors = items_depth-map mirror.nesting [] mirrors

-- the other replies hold none
pub shallow_reply : (reply : Reply) → ((annotations : List Annotation) → reply ≡ replies.Annotations annotations → ⊥) → ((values : List (List ℕ × Value)) → reply ≡ replies.Values values → ⊥) → ((mirrors : List Mirror) → reply ≡ replies.Mirrors mirrors → ⊥) → depth_of_reply reply ≡ 0
shallow_reply (replies.Elements elements) a v m = elements_depth elements
shallow_reply (replies.Info info) a v m = refl
shallow_reply (replies.Texts texts) a v m = items_depth-none [] texts
shallow_reply (replies.Annotations annotations) a v m = absurd (a annotations refl)
shallow_reply (replies.Values values) a v m = absurd (v values refl)
shallow_reply (replies.Mirrors mirrors) a v m = absurd (m mirrors refl)
shallow_reply (replies.Truth truth) a v m = refl
shallow_reply (replies.Created created) a v m = refl
shallow_reply replies.Noted a v m = refl
shallow_reply (replies.Refused refused) a v m = refl

-- ---- a child's questions

abbrev pub depth_of_question : Question → ℕ
depth_of_question question = depth_in frame_form (question_shown question)

pub depth-DeclaredType : (at : ElementRef) (arguments : List Mirror) → depth_of_question (questions.DeclaredType at arguments) ≡ deepest (map mirror.nesting arguments)
depth-DeclaredType at arguments = omega (arith, element_depth at, items_depth-map mirror.nesting [] arguments)

pub depth-MemberType : (container : Mirror) (at : ElementRef) → depth_of_question (questions.MemberType container at) ≡ mirror.nesting container
depth-MemberType container at = omega (arith, element_depth at)

-- the other questions hold none
pub shallow_question : (question : Question) → ((of : MirrorQuestion) (m : Mirror) → question ≡ questions.Mirror of m → ⊥) → ((of : MirrorsQuestion) (one other : Mirror) → question ≡ questions.Mirrors of one other → ⊥)
    → ((container : Mirror) (at : ElementRef) → question ≡ questions.MemberType container at → ⊥) → ((at : ElementRef) (arguments : List Mirror) → question ≡ questions.DeclaredType at arguments → ⊥) → depth_of_question question ≡ 0
shallow_question (questions.Name of name) a b c d = refl
shallow_question (questions.Element of at) a b c d = element_depth at
shallow_question (questions.Mirror of m) a b c d = absurd (a of m refl)
shallow_question (questions.Mirrors of one other) a b c d = absurd (b of one other refl)
shallow_question (questions.ValuesWithDefaults at number) a b c d = omega (arith, element_depth at)
shallow_question (questions.Overrides overrider overridden in_type) a b c d = omega (arith, element_depth overrider, element_depth overridden, element_depth in_type)
shallow_question (questions.MemberType container at) a b c d = absurd (c container at refl)
shallow_question (questions.DeclaredType at arguments) a b c d = absurd (d at arguments refl)
shallow_question questions.Roots a b c d = refl

-- ---- the other frames

abbrev depth_of : Frame → ℕ
depth_of frame = depth_in frame_form (shown frame)

init_depth : (init : Init) → depth_of (frames.Init init) ≡ 0
init_depth init = omega (arith, items_depth-none {A = List ℕ × List ℕ} [] init.options)

creation_depth : (creation : Creation) → depth_of (frames.Create creation) ≡ 0
creation_depth (creations.Source name content origins) = omega (arith, elements_depth origins)
creation_depth (creations.Resource location folder relative content origins) = omega (arith, elements_depth origins)
creation_depth (creations.Class name content origins) = omega (arith, elements_depth origins)

message_depth : (kind : ℕ) (element : Option ElementRef) (text : List ℕ) → depth_in frame_form (plain_frame 69, (kind, (element, text))) ≡ 0
message_depth kind None text = refl
message_depth kind (Some at) text = omega (arith, element_depth at)

pub shallow_frame : (frame : Frame) → ((reply : Reply) → frame ≡ frames.Reply reply → ⊥) → ((question : Question) → frame ≡ frames.Ask question → ⊥) → nesting frame ≡ 0
unfolding nesting
shallow_frame (frames.Init init) a b = init_depth init
shallow_frame (frames.Round number over error offered roots) a b = omega (arith, items_depth-none {A = List ℕ} [] offered, items_depth-none {A = List ℕ} [] roots)
shallow_frame (frames.Reply reply) a b = absurd (a reply refl)
shallow_frame (frames.Hello hello) a b = omega (arith, items_depth-none {A = List ℕ} [] hello.patterns, items_depth-none {A = List ℕ} [] hello.options)
shallow_frame (frames.Done claimed) a b = refl
shallow_frame (frames.Create creation) a b = creation_depth creation
shallow_frame (frames.Message message) a b = message_depth message.kind message.element message.text
shallow_frame (frames.Ask question) a b = absurd (b question refl)

-- ---- too large

pub too_deep : (frame : Frame) (n : ℕ) → n ≡ capped (nesting frame) → 256 < n → is_too_large frame ≡ true
unfolding is_too_large
too_deep frame n is lt = let deep : is_too_deep frame ≡ true = grind (arith, nat_tests) in ap (λ b. b || is_too_long frame) deep

pub not_too_deep : (frame : Frame) (n : ℕ) → n ≡ capped (nesting frame) → n ≤ 256 → is_too_large frame ≡ is_too_long frame
unfolding is_too_large
not_too_deep frame n is le = let shallow : is_too_deep frame ≡ false = grind (arith, nat_tests) in ap (λ b. b || is_too_long frame) shallow

-- what was spelled is not too large
pub is_sent : {T E : Type 0} (large : Bool) (bytes : T) (fault : E) → (large ≡ true → Ok bytes ≡ Err fault) → large ≡ false
is_sent true bytes fault past = let wrong = past refl in absurd cc
is_sent false bytes fault past = refl

-- a frame of the table that is not too long can be sent
pub frame_is_sent : (frame : Frame) → IsFrame (shown frame) → is_too_large frame ≡ false
unfolding is_too_large nesting fields_spelled
frame_is_sent frame fits = let shallow = ((nesting_decides (shown frame)).0 fits.0).1 in let short = fits.1 in grind (arith, nat_tests)

pub init_is_sent : (init : Init) → is_too_large (frames.Init init) ≡ nat_lt 134217728 (length (spelling (frames.Init init)))
unfolding is_too_large nesting fields_spelled spelling
init_is_sent init =
    let fields = spelled frame_form (init_shown init) in
    let shallow : depth_in frame_form (init_shown init) ≡ 0 = init_depth init in
    let longer : length (frame_spelling (init_shown init)) ≡ 4 + length fields = omega (arith, length-append (to_be_bytes w32 (length fields)) fields) in
    grind (arith, nat_tests)

pub created_is_sent : (created : Created) → is_too_large (frames.Reply (replies.Created created)) ≡ false
unfolding is_too_large nesting fields_spelled
created_is_sent created = refl

pub noted_is_sent : is_too_large (frames.Reply replies.Noted) ≡ false
unfolding is_too_large nesting fields_spelled
noted_is_sent = refl

pub ruleset short_replies = (created_is_sent, noted_is_sent)
