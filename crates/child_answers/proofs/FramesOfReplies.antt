-- Each reply is of the frame that its row names, or a refusal, and a frame holds it.
use Rattle.std.proofs.Common.{◌≡◌, ℕ, Bool, true, false, List, Option, None, Some, refl, if◌then◌else◌}
use Rattle.apt_base.specs.declared.element.ElementRef.{ElementRef}
use Rattle.element_table.specs.TypeTable.{TypeTable}
use Rattle.element_facts.specs.ElementInfo.{info_at}
use Rattle.element_facts.specs.declared.element_info.ElementInfo.{ElementInfo}
use Rattle.type_mirror.specs.declared.mirror.Mirror.{Mirror}
use Rattle.apt_base.specs.Limits.{max_type_steps}
use Rattle.type_relations.specs.Boxed as boxes
use Rattle.type_relations.specs.Direct.{direct}
use Rattle.type_relations.specs.Erasure.{erasure}
use Rattle.type_subtypes.specs.Assignable.{assignable}
use Rattle.type_subtypes.specs.Subsignature.{subsignature}
use Rattle.type_subtypes.specs.Subtypes.{subtype, contained}
use Rattle.type_members.specs.MemberOf.{member_of}
use Rattle.type_overriding.specs.Overrides as overriding
use Rattle.type_listing.specs.Members as listed
use Rattle.annotation_values.specs.ElementValues.{Named, values_with_defaults}
use Rattle.child_questions.specs.Verdicts.{Verdict, NoSuch, WrongKind, TooDeep, Given, value, judged}
use Rattle.child_questions.specs.Verdicts as verdicts
use Rattle.frame_forms.specs.QuestionTable as rows
use Rattle.frame_forms.specs.QuestionTable.{ReplyFrame, question_reply, asked_of_name, asked_of_element, asked_of_mirror, asked_of_mirrors}
use Rattle.frame_forms.specs.declared.question_row.NameQuestion.{NameQuestion}
use Rattle.frame_forms.specs.declared.question_row.NameQuestion.TheVariants as name
use Rattle.frame_forms.specs.declared.question_row.ElementQuestion.{ElementQuestion}
use Rattle.frame_forms.specs.declared.question_row.ElementQuestion.TheVariants as element
use Rattle.frame_forms.specs.declared.question_row.MirrorQuestion.{MirrorQuestion}
use Rattle.frame_forms.specs.declared.question_row.MirrorQuestion.TheVariants as mirror
use Rattle.frame_forms.specs.declared.question_row.MirrorsQuestion.{MirrorsQuestion}
use Rattle.frame_forms.specs.declared.question_row.MirrorsQuestion.TheVariants as two
use Rattle.wire_frames.specs.declared.frame.Frame.TheVariants as frames
use Rattle.wire_frames.specs.declared.question.Question.{Question}
use Rattle.wire_frames.specs.declared.question.Question.TheVariants as questions
use Rattle.wire_frames.specs.declared.reply.Refused.{Refused}
use Rattle.wire_frames.specs.declared.reply.Refused.TheVariants as refused
use Rattle.wire_frames.specs.declared.reply.Reply.{Reply}
use Rattle.wire_frames.specs.declared.reply.Reply.TheVariants as reply
use Rattle.wire_frames.specs.Frames.{question_row}
use Rattle.wire_frames.specs.Limits.{nesting, is_too_large}
use Rattle.wire_frames.specs.Spellings.{fields_spelled}
use Rattle.child_questions.specs.NamedElements.{question_elements, are_all_there}
use Rattle.child_questions.specs.WantedKinds.{is_admitted}
use Rattle.child_answers.specs.Replies.{Answer, answer_to, judged_answer, name_answer, element_answer, mirror_answer}
use Rattle.child_answers.specs.Replies.{mirrors_answer, values_answer, overrides_answer, member_answer, declared_answer}
use Rattle.child_answers.specs.Replies.{roots_answer, in_reply, of_its_kind, with_elements, with_info, with_mirror}
use Rattle.child_answers.specs.Replies.{with_mirrors, with_truth, reply_by, reply_of, unless_too_large}
use Rattle.child_answers.specs.ReplyLaws.{IsOfFrame, AreOfTheirFrames, AllFit}

-- an answer of a row that names this frame
abbrev Answers : Answer → ReplyFrame → Type 0
Answers v frame = IsOfFrame (reply_by v) frame

-- ---- by what was given

info-frame : (o : Option ElementInfo) → Answers (with_info o) rows.info
info-frame None = tt
info-frame (Some i) = tt

module _ {A : Type 0} (to : A → Answer) (frame : ReplyFrame) (each : (x : A) → Answers (to x) frame) where
  in-frame : (v : Verdict A) → Answers (in_reply to v) frame
  in-frame (Given x) = each x
  in-frame NoSuch = tt
  in-frame WrongKind = tt
  in-frame TooDeep = tt

elements-frame : (v : Verdict (List ElementRef)) → Answers (in_reply with_elements v) rows.elements
elements-frame v = in-frame with_elements rows.elements (λ (list : List ElementRef). tt) v

mirror-frame : (v : Verdict Mirror) → Answers (in_reply with_mirror v) rows.mirrors
mirror-frame v = in-frame with_mirror rows.mirrors (λ (m : Mirror). tt) v

mirrors-frame : (v : Verdict (List Mirror)) → Answers (in_reply with_mirrors v) rows.mirrors
mirrors-frame v = in-frame with_mirrors rows.mirrors (λ (list : List Mirror). tt) v

truth-frame : (v : Verdict Bool) → Answers (with_truth v) rows.truth
truth-frame v = in-frame (λ (holds : Bool). Given (reply.Truth holds)) rows.truth (λ (holds : Bool). tt) v

values-frame : (v : Verdict (List Named)) → Answers (in_reply (λ (list : List Named). Given (reply.Values list)) v) rows.values
values-frame v = in-frame (λ (list : List Named). Given (reply.Values list)) rows.values (λ (list : List Named). tt) v

-- ---- by groups of rows

module _ (table : TypeTable) (roots : List (List ℕ)) where
  of-name : (q : NameQuestion) (text : List ℕ) → Answers (name_answer table roots q text) (asked_of_name q).reply
  unfolding name_answer
  of-name name.TypeElement text = tt
  of-name name.PackageElement text = tt
  of-name name.AnnotatedWith text = tt

  of-element : (q : ElementQuestion) (at : ElementRef) → Answers (element_answer table q at) (asked_of_element q).reply
  unfolding element_answer
  of-element element.Info at = info-frame (info_at table at)
  of-element element.Enclosing at = tt
  of-element element.Enclosed at = tt
  of-element element.TypeParameters at = tt
  of-element element.Parameters at = tt
  of-element element.PackageOf at = tt
  of-element element.DocComment at = tt
  of-element element.Annotations at = tt
  of-element element.AllAnnotations at = tt
  of-element element.DefaultValue at = tt
  of-element element.ConstantValue at = tt
  of-element element.AllMembers at = elements-frame (value (listed.members table max_type_steps at))
  of-element element.TypeOf at = tt
  of-element element.Superclass at = tt
  of-element element.Interfaces at = tt
  of-element element.Bounds at = tt

  of-mirror : (q : MirrorQuestion) (m : Mirror) → Answers (mirror_answer table q m) (asked_of_mirror q).reply
  unfolding mirror_answer
  of-mirror mirror.DirectSupertypes m = mirrors-frame (value (direct table m))
  of-mirror mirror.Erasure m = mirror-frame (value (erasure table max_type_steps m))
  of-mirror mirror.Boxed m = mirror-frame (of_its_kind (boxes.boxed table m))
  of-mirror mirror.Unboxed m = mirror-frame (of_its_kind (boxes.unboxed table m))
  of-mirror mirror.AsElement m = tt
  of-mirror mirror.PrintType m = tt
  of-mirror mirror.ArrayType m = tt

  of-mirrors : (q : MirrorsQuestion) (one other : Mirror) → Answers (mirrors_answer table q one other) (asked_of_mirrors q).reply
  unfolding mirrors_answer
  of-mirrors two.SameType one other = tt
  of-mirrors two.Subtype one other = truth-frame (verdicts.truth (subtype table max_type_steps one other))
  of-mirrors two.Assignable one other = truth-frame (verdicts.truth (assignable table max_type_steps one other))
  of-mirrors two.Contains one other = truth-frame (verdicts.truth (contained table max_type_steps one other))
  of-mirrors two.Subsignature one other = truth-frame (verdicts.truth (subsignature table max_type_steps one other))

  of-row : (q : Question) → Answers (answer_to table roots q) (question_reply (question_row q))
  unfolding answer_to values_answer overrides_answer member_answer declared_answer roots_answer
  of-row (questions.Name of text) = of-name of text
  of-row (questions.Element of at) = of-element of at
  of-row (questions.Mirror of m) = of-mirror of m
  of-row (questions.Mirrors of one other) = of-mirrors of one other
  of-row (questions.ValuesWithDefaults at number) = values-frame (of_its_kind (values_with_defaults table at number))
  of-row (questions.Overrides one other within) = truth-frame (verdicts.truth (overriding.overrides table max_type_steps one other within))
  of-row (questions.MemberType container at) = mirror-frame (value (member_of table max_type_steps container at))
  of-row (questions.DeclaredType at arguments) = tt
  of-row questions.Roots = tt

-- ---- the reply

judged-frame : (there kinds : Bool) (v : Answer) (frame : ReplyFrame) → Answers v frame → Answers (judged there kinds v) frame
judged-frame false kinds v frame h = tt
judged-frame true false v frame h = tt
judged-frame true true v frame h = h

unless-frame : (large : Bool) (r : Reply) (frame : ReplyFrame) → IsOfFrame r frame
    → IsOfFrame (if large then reply.Refused refused.TooLarge else r) frame
unless-frame true r frame h = tt
unless-frame false r frame h = h

pub replies-of_frames : AreOfTheirFrames
unfolding reply_of judged_answer
replies-of_frames table roots q =
    unless-frame (is_too_large (frames.Reply (reply_by (judged_answer table roots q)))) (reply_by (judged_answer table roots q)) _
    (judged-frame (are_all_there table (question_elements q)) (is_admitted table q) (answer_to table roots q) _ (of-row table roots q))

-- ---- its size

pub refused_is_sent : (reason : Refused) → is_too_large (frames.Reply (reply.Refused reason)) ≡ false
unfolding is_too_large nesting fields_spelled
refused_is_sent reason = refl

unless-fits : (r : Reply) (large : Bool) → is_too_large (frames.Reply r) ≡ large
    → is_too_large (frames.Reply (if large then reply.Refused refused.TooLarge else r)) ≡ false
unless-fits r true e = refused_is_sent refused.TooLarge
unless-fits r false e = e

pub all-fit : AllFit
unfolding reply_of
all-fit table roots q =
    unless-fits (reply_by (judged_answer table roots q)) (is_too_large (frames.Reply (reply_by (judged_answer table roots q)))) refl
