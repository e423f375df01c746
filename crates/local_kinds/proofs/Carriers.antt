-- A root is given something only where its annotation was found among its annotations.
use Rattle.std.proofs.Common.{◌≡◌, ℕ, Bool, true, false, ◌||◌, List, [], ◌∷◌, Option, None, Some, refl, sym, ap, ◌∙◌, subst, if◌then◌else◌}
use Rattle.std.specs.List.{list_any}
use Rattle.std.specs.Prelude.{filter_map}
use Rattle.apt_base.specs.declared.element.ElementRef.{ElementRef}
use Rattle.type_mirror.specs.declared.value.Annotation.{Annotation}
use Rattle.frame_forms.specs.declared.question_row.ElementQuestion.{ElementQuestion}
use Rattle.frame_forms.specs.declared.question_row.ElementQuestion.TheVariants as asked
use Rattle.wire_frames.specs.declared.frame.Frame.TheVariants as frame
use Rattle.wire_frames.specs.declared.question.Question.{Question}
use Rattle.wire_frames.specs.declared.question.Question.TheVariants as question
use Rattle.wire_frames.specs.declared.reply.Info.{Info}
use Rattle.wire_frames.specs.declared.reply.Reply.{Reply}
use Rattle.wire_frames.specs.declared.reply.Reply.TheVariants as reply
use Rattle.wire_frames.specs.Limits.{is_too_large}
use Rattle.child_answers.specs.Replies.{reply_of}
use Rattle.child_session.specs.Replies.{Shown, reply_to}
use Rattle.local_procs.specs.declared.local.Local.{Local}
use Rattle.local_procs.specs.declared.local.Local.TheVariants.{Builder, Checker, Chain, Registry}
use Rattle.local_procs.specs.Plans.{Plan, Sends, done, nothing}
use Rattle.local_procs.specs.Contents.{first_in, info_in, annotations_in, is_annotation_of, carries, about}
use Rattle.local_procs.specs.ClassText.{is_class}
use Rattle.local_procs.specs.Builder as builder
use Rattle.local_procs.specs.Checker as checker
use Rattle.local_procs.specs.Chain as chain
use Rattle.local_procs.specs.Kinds.{GivesFor}
use Rattle.local_procs.specs.Stages.{plan_for}
use Rattle.local_procs.specs.Says.{annotation_of}
use Rattle.local_procs.proofs.KeptKinds.{all_keep_kinds}
use Rattle.local_kinds.proofs.Exchanges.{exchanges_by, exchanges_large, exchanges_small}
use Rattle.local_kinds.proofs.Origins.{IsAmong, AreFrom, plan_from}

-- the question by which a processor finds its annotation
abbrev pub asks_by : Local → ElementQuestion
asks_by Builder = asked.Annotations
asks_by Checker = asked.AllAnnotations
asks_by Chain = asked.Annotations
-- it looks for none of a root
asks_by Registry = asked.Annotations

-- it was found
abbrev pub Carries : Local → Shown → ElementRef → Type 0
Carries local shown root = carries (annotation_of local) (reply_of shown.table shown.env.roots (question.Element (asks_by local) root)) ≡ true

-- ---- plans that end without it

false_ends : (b : Bool) (plan : Plan) → b ≡ false → (if b then plan else done) ≡ done
false_ends true plan is = absurd cc
false_ends false plan is = refl

builder_ends : (root : ElementRef) (info : Info) (answer : Reply) → carries builder.built answer ≡ false → builder.after_annotations root info answer ≡ done
unfolding builder.after_annotations
builder_ends root info answer is = false_ends (carries builder.built answer) _ is

checker_ends : (root : ElementRef) (simple : List ℕ) (answer : Reply) → carries checker.checked answer ≡ false → checker.after_annotations root simple answer ≡ done
unfolding checker.after_annotations
checker_ends root simple answer is = false_ends (carries checker.checked answer) _ is

no_counts : (annotations : List Annotation) → list_any (is_annotation_of chain.chained) annotations ≡ false → filter_map chain.count_in annotations ≡ []
no_counts [] is = refl
no_counts (annotation ∷ others) is = by (is_annotation_of chain.chained annotation) refl (no_counts others)
  where
    by : (b : Bool) → is_annotation_of chain.chained annotation ≡ b → (list_any (is_annotation_of chain.chained) others ≡ false → filter_map chain.count_in others ≡ [])
        → filter_map chain.count_in (annotation ∷ others) ≡ []
    by true e later = absurd (let wrong : true ≡ false = sym (ap (λ b. b || list_any (is_annotation_of chain.chained) others) e) ∙ is in cc)
    by false e later = rw e (later (sym (ap (λ b. b || list_any (is_annotation_of chain.chained) others) e) ∙ is))

chain_ends : (root : ElementRef) (info : Info) (answer : Reply) → carries chain.chained answer ≡ false → chain.after_annotations root info answer ≡ done
unfolding chain.after_annotations chain.links_in carries
chain_ends root info answer is = ap (λ counts. chain.by_number root info (first_in counts)) (no_counts (annotations_in answer) is)

-- ---- what is given

module _ (units : List (List ℕ)) (shown : Shown) (root : ElementRef) where
  abbrev Gives : Plan → Type 0
  Gives plan = AreFrom units (exchanges_by shown plan)

  none_given : Gives done
  unfolding exchanges_by
  none_given = tt

  behind_reply : (q : Question) (go : Reply → Plan) → Gives (go nothing) → Gives (go (reply_of shown.table shown.env.roots q)) → Gives (Sends (frame.Ask q) go)
  unfolding reply_to
  behind_reply q go large small = by (is_too_large (frame.Ask q)) refl
    where
      by : (b : Bool) → is_too_large (frame.Ask q) ≡ b → Gives (Sends (frame.Ask q) go)
      by true is = subst (AreFrom units) (sym (exchanges_large shown (frame.Ask q) go is)) large
      by false is = subst (AreFrom units) (sym (exchanges_small shown (frame.Ask q) go is)) (tt, small)

  behind_question : (q : Question) (go : Reply → Plan) → ((answer : Reply) → Gives (go answer)) → Gives (Sends (frame.Ask q) go)
  behind_question q go gives = behind_reply q go (gives nothing) (gives (reply_of shown.table shown.env.roots q))

  either : (b : Bool) (plan : Plan) → (b ≡ true → Gives plan) → Gives (if b then plan else done)
  either true plan gives = gives refl
  either false plan gives = none_given

  -- where it ends without the annotation
  if_carried : (name : List ℕ) (plan : Reply → Plan) → ((answer : Reply) → GivesFor root (plan answer)) → ((answer : Reply) → carries name answer ≡ false → plan answer ≡ done)
      → (answer : Reply) → (carries name answer ≡ true → IsAmong units root.unit) → Gives (plan answer)
  if_carried name plan gives ends answer among = by (carries name answer) refl
    where
      by : (b : Bool) → carries name answer ≡ b → Gives (plan answer)
      by true is = plan_from units root (among is) shown (plan answer) (gives answer)
      by false is = subst Gives (sym (ends answer is)) none_given

  none_carried : (name : List ℕ) → carries name nothing ≡ true → IsAmong units root.unit
  unfolding carries
  none_carried name is = absurd cc

  asked_for : (name : List ℕ) (of : ElementQuestion) (plan : Reply → Plan) → ((answer : Reply) → GivesFor root (plan answer)) → ((answer : Reply) → carries name answer ≡ false → plan answer ≡ done)
      → (carries name (reply_of shown.table shown.env.roots (question.Element of root)) ≡ true → IsAmong units root.unit) → Gives (Sends (about of root) plan)
  asked_for name of plan gives ends among =
      behind_reply (question.Element of root) plan (if_carried name plan gives ends nothing (none_carried name))
      (if_carried name plan gives ends (reply_of shown.table shown.env.roots (question.Element of root)) among)

  -- ---- of each processor

  true_gives : (b : Bool) (plan : Plan) → b ≡ true → GivesFor root (if b then plan else done) → GivesFor root plan
  true_gives true plan is gives = gives
  true_gives false plan is gives = absurd cc

  answer_gives : (of : ElementQuestion) (go : Reply → Plan) → GivesFor root (Sends (about of root) go) → (answer : Reply) → GivesFor root (go answer)
  unfolding GivesFor
  answer_gives of go gives = gives.1

  builder_gives : (info : Info) → is_class info.kind ≡ true → (answer : Reply) → GivesFor root (builder.after_annotations root info answer)
  unfolding builder.after_info
  builder_gives info is =
      answer_gives asked.Annotations (builder.after_annotations root info)
      (true_gives (is_class info.kind) (Sends (about asked.Annotations root) (builder.after_annotations root info)) is
      (answer_gives asked.Info (builder.after_info root) ((all_keep_kinds Builder).attributed root) (reply.Info info)))

  chain_gives : (info : Info) → is_class info.kind ≡ true → (answer : Reply) → GivesFor root (chain.after_annotations root info answer)
  unfolding chain.after_info
  chain_gives info is =
      answer_gives asked.Annotations (chain.after_annotations root info)
      (true_gives (is_class info.kind) (Sends (about asked.Annotations root) (chain.after_annotations root info)) is
      (answer_gives asked.Info (chain.after_info root) ((all_keep_kinds Chain).attributed root) (reply.Info info)))

  checker_gives : (info : Info) → checker.is_type info.kind ≡ true → (answer : Reply) → GivesFor root (checker.after_annotations root info.simple answer)
  unfolding checker.after_info
  checker_gives info is =
      answer_gives asked.AllAnnotations (checker.after_annotations root info.simple)
      (true_gives (checker.is_type info.kind) (Sends (about asked.AllAnnotations root) (checker.after_annotations root info.simple)) is
      (answer_gives asked.Info (checker.after_info root) ((all_keep_kinds Checker).attributed root) (reply.Info info)))

  built : (Carries Builder shown root → IsAmong units root.unit) → (info : Option Info) → Gives (builder.by_info root info)
  built among None = none_given
  built among (Some info) =
      either (is_class info.kind) (Sends (about asked.Annotations root) (builder.after_annotations root info))
      (λ is. asked_for builder.built asked.Annotations (builder.after_annotations root info) (builder_gives info is) (builder_ends root info) among)

  chained : (Carries Chain shown root → IsAmong units root.unit) → (info : Option Info) → Gives (chain.by_info root info)
  chained among None = none_given
  chained among (Some info) =
      either (is_class info.kind) (Sends (about asked.Annotations root) (chain.after_annotations root info))
      (λ is. asked_for chain.chained asked.Annotations (chain.after_annotations root info) (chain_gives info is) (chain_ends root info) among)

  checked : (Carries Checker shown root → IsAmong units root.unit) → (info : Option Info) → Gives (checker.by_info root info)
  checked among None = none_given
  checked among (Some info) =
      either (checker.is_type info.kind) (Sends (about asked.AllAnnotations root) (checker.after_annotations root info.simple))
      (λ is. asked_for checker.checked asked.AllAnnotations (checker.after_annotations root info.simple) (checker_gives info is) (checker_ends root info.simple) among)

  pub given_to_carriers : (local : Local) → (Carries local shown root → IsAmong units root.unit) → Gives (plan_for local root)
  unfolding builder.after_info chain.after_info checker.after_info
  given_to_carriers Builder among = behind_question (question.Element asked.Info root) (builder.after_info root) (λ answer. built among (info_in answer))
  given_to_carriers Registry among = none_given
  given_to_carriers Chain among = behind_question (question.Element asked.Info root) (chain.after_info root) (λ answer. chained among (info_in answer))
  given_to_carriers Checker among = behind_question (question.Element asked.Info root) (checker.after_info root) (λ answer. checked among (info_in answer))
