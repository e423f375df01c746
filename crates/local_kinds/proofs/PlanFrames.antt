-- What the processors send for a root are frames, as long as the replies are.
use Rattle.std.proofs.Common.{◌≡◌, ℕ, zero, suc, ◌≤◌, ◌<◌, ◌^◌, Bool, true, false, not, ◌&&◌, nat_lt, List, [], ◌∷◌, ◌++◌, codes, take, length, Option, None, Some, IfSome, is_some, refl, length-append, if◌then◌else◌, arith}
use Rattle.std.specs.Int.{w32, to_be_bytes}
use Rattle.std.specs.List.{AllByRecursion}
use Rattle.std.specs.Str.{is_utf8, chars}
use lib.Utf8.{encode}
use Rattle.std.proofs.lemmas.Str.{IsUtf8-append}
use Rattle.apt_base.specs.declared.element.ElementRef.{ElementRef}
use Rattle.apt_base.specs.Fields.{is_text, bytes_form}
use Rattle.apt_base.specs.Names.{NameSet, with_names, names_in}
use Rattle.apt_base.proofs.FieldsLemmas.{is_text-of_utf8, is_text-only}
use Rattle.type_mirror.specs.declared.mirror.Mirror.{Mirror}
use Rattle.frame_forms.specs.declared.bad_kind.BadKind.TheVariants as kinds
use Rattle.frame_forms.specs.declared.question_row.ElementQuestion.TheVariants as asked
use Rattle.frame_forms.specs.declared.question_row.MirrorQuestion.TheVariants.{PrintType}
use Rattle.frame_forms.specs.declared.question_row.NameQuestion.TheVariants.{AnnotatedWith}
use Rattle.frame_forms.specs.QuestionTable.{question_at}
use Rattle.frame_forms.specs.Forms.{EachFits}
use Rattle.frame_forms.specs.TextForms.{text, list_of}
use Rattle.frame_forms.specs.MirrorForms.{element, mirror}
use Rattle.frame_forms.specs.FrameTable.{frame_form}
use Rattle.frame_forms.specs.Frames.{Fits, spelled}
use Rattle.wire_frames.specs.declared.frame.Frame.{Frame}
use Rattle.wire_frames.specs.declared.frame.Frame.TheVariants as frame
use Rattle.wire_frames.specs.declared.question.Question.TheVariants as question
use Rattle.wire_frames.specs.declared.reply.Info.{Info}
use Rattle.wire_frames.specs.declared.reply.Reply.{Reply}
use Rattle.wire_frames.specs.declared.reply.Reply.TheVariants as reply
use Rattle.wire_frames.specs.Frames.{shown, IsInTable}
use Rattle.wire_frames.specs.Limits.{is_too_large}
use Rattle.local_procs.specs.declared.local.Local.{Local}
use Rattle.local_procs.specs.declared.local.Local.TheVariants.{Builder, Checker, Chain, Registry}
use Rattle.local_procs.specs.Plans.{Plan, Ends, Sends, done, then_, each_of}
use Rattle.local_procs.specs.Contents.{elements_in, info_in, mirror_in, text_in, is_accepted, is_empty, carries, about, message_at, roots_frame}
use Rattle.local_procs.specs.ClassText.{is_class, source_of}
use Rattle.local_procs.specs.Stages.{plan_for}
use Rattle.local_procs.specs.Says.{goes, begins, after_roots}
use Rattle.local_procs.specs.Registry as registry
use Rattle.local_procs.specs.Builder as builder
use Rattle.local_procs.specs.Checker as checker
use Rattle.local_procs.specs.Chain as chain
use Rattle.local_kinds.proofs.Exchanges.{fields_short}
use Rattle.local_kinds.proofs.Turns.{AreFrames}

either : (P : Plan → Type 0) (b : Bool) (p q : Plan) → P p → P q → P (if b then p else q)
either P true p q h k = h
either P false p q h k = k

-- ---- fields

abbrev IsElement : ElementRef → Type 0
IsElement at = Fits element at

abbrev IsMirror : Mirror → Type 0
IsMirror m = Fits mirror m

abbrev IsText : List ℕ → Type 0
IsText bytes = is_text bytes ≡ true

text_fits : (bytes : List ℕ) → IsText bytes → length bytes < 2 ^ 32 → Fits text bytes
text_fits bytes is short = (rw is refl, short)

-- the texts of the processors
no_comment_text : IsText (codes "no doc comment")
unfolding is_utf8 chars encode
no_comment_text = refl

lower_case_text : IsText (codes "name begins in lower case")
unfolding is_utf8 chars encode
lower_case_text = refl

not_created_text : IsText (codes "builder not created")
unfolding is_utf8 chars encode
not_created_text = refl

chain_text : IsText (codes "_")
unfolding is_utf8 chars encode
chain_text = refl

builder_text : IsText (codes "Builder")
unfolding is_utf8 chars encode
builder_text = refl

registered_text : IsText registry.registered
unfolding is_utf8 chars encode
registered_text = refl

path_text : IsText (codes "META-INF/registry.txt")
unfolding is_utf8 chars encode
path_text = refl

no_text : IsText []
unfolding is_utf8 chars encode
no_text = refl

text_is : (bytes : List ℕ) → Fits text bytes → IsText bytes
text_is bytes fits = by (is_text bytes) refl fits.0
  where
    by : (b : Bool) → is_text bytes ≡ b → (if b && true then None else Some kinds.Field) ≡ None → is_text bytes ≡ true
    by true is none = is
    by false is none = absurd cc

joined : (one other : List ℕ) → IsText one → IsText other → IsText (one ++ other)
joined one other is too = is_text-of_utf8 (one ++ other) (IsUtf8-append one other (is_text-only one is) (is_text-only other too))

each_fits : {A : Type 0} (P : A → Type 0) (before xs : List A) → EachFits (λ (others : List A). P) before xs → AllByRecursion P xs
each_fits P before [] fits = tt
each_fits P before (x ∷ xs) fits = (fits.0, each_fits P (x ∷ before) xs fits.1)

-- ---- what replies hold

pub held_elements : (answer : Reply) → IsInTable (frame.Reply answer) → AllByRecursion IsElement (elements_in answer)
unfolding IsInTable
held_elements (reply.Elements elements) fits = each_fits IsElement [] elements fits.1.1
held_elements (reply.Info info) fits = tt
held_elements (reply.Texts texts) fits = tt
held_elements (reply.Annotations annotations) fits = tt
held_elements (reply.Values values) fits = tt
held_elements (reply.Mirrors mirrors) fits = tt
held_elements (reply.Truth truth) fits = tt
held_elements (reply.Created created) fits = tt
held_elements reply.Noted fits = tt
held_elements (reply.Refused refused) fits = tt

held_info : (answer : Reply) → IsInTable (frame.Reply answer) → IfSome (info_in answer) (λ info. IsText info.canonical)
unfolding IsInTable
held_info (reply.Info info) fits = text_is info.canonical fits.1.1.1.1.0
held_info (reply.Elements elements) fits = tt
held_info (reply.Texts texts) fits = tt
held_info (reply.Annotations annotations) fits = tt
held_info (reply.Values values) fits = tt
held_info (reply.Mirrors mirrors) fits = tt
held_info (reply.Truth truth) fits = tt
held_info (reply.Created created) fits = tt
held_info reply.Noted fits = tt
held_info (reply.Refused refused) fits = tt

first_mirror : (mirrors : List Mirror) → AllByRecursion IsMirror mirrors → IfSome (mirror_in (reply.Mirrors mirrors)) IsMirror
first_mirror [] fits = tt
first_mirror (m ∷ others) fits = fits.0

held_mirror : (answer : Reply) → IsInTable (frame.Reply answer) → IfSome (mirror_in answer) IsMirror
unfolding IsInTable
held_mirror (reply.Mirrors mirrors) fits = first_mirror mirrors (each_fits IsMirror [] mirrors fits.1.1)
held_mirror (reply.Elements elements) fits = tt
held_mirror (reply.Info info) fits = tt
held_mirror (reply.Texts texts) fits = tt
held_mirror (reply.Annotations annotations) fits = tt
held_mirror (reply.Values values) fits = tt
held_mirror (reply.Truth truth) fits = tt
held_mirror (reply.Created created) fits = tt
held_mirror reply.Noted fits = tt
held_mirror (reply.Refused refused) fits = tt

taken : {A : Type 0} (P : A → Type 0) (n : ℕ) (xs : List A) → AllByRecursion P xs → AllByRecursion P (take n xs)
taken P zero xs all = tt
taken P (suc n) [] all = tt
taken P (suc n) (x ∷ xs) all = (all.0, taken P n xs all.1)

-- ---- frames

info_asked : (at : ElementRef) → IsElement at → IsInTable (about asked.Info at)
unfolding IsInTable question_at
info_asked at is = (refl, is)

annotations_asked : (at : ElementRef) → IsElement at → IsInTable (about asked.Annotations at)
unfolding IsInTable question_at
annotations_asked at is = (refl, is)

all_annotations_asked : (at : ElementRef) → IsElement at → IsInTable (about asked.AllAnnotations at)
unfolding IsInTable question_at
all_annotations_asked at is = (refl, is)

enclosed_asked : (at : ElementRef) → IsElement at → IsInTable (about asked.Enclosed at)
unfolding IsInTable question_at
enclosed_asked at is = (refl, is)

type_asked : (at : ElementRef) → IsElement at → IsInTable (about asked.TypeOf at)
unfolding IsInTable question_at
type_asked at is = (refl, is)

comment_asked : (at : ElementRef) → IsElement at → IsInTable (about asked.DocComment at)
unfolding IsInTable question_at
comment_asked at is = (refl, is)

roots_asked : IsInTable roots_frame
unfolding IsInTable question_at
roots_asked = (refl, tt)

print_asked : (m : Mirror) → IsMirror m → IsInTable (frame.Ask (question.Mirror PrintType m))
unfolding IsInTable question_at
print_asked m is = (refl, is)

error_fits : (at : ElementRef) (words : List ℕ) → IsElement at → IsText words → length words < 2 ^ 32 → IsInTable (message_at 0 at words)
unfolding IsInTable
error_fits at words is text short = (refl, (refl, (is, text_fits words text short)))

warning_fits : (at : ElementRef) (words : List ℕ) → IsElement at → IsText words → length words < 2 ^ 32 → IsInTable (message_at 1 at words)
unfolding IsInTable
warning_fits at words is text short = (refl, (refl, (is, text_fits words text short)))

abbrev all_fields : Frame → List ℕ
all_fields f = spelled frame_form (shown f)

module _ (at : ElementRef) (name content : List ℕ) where
  abbrev origins : List ℕ
  origins = spelled (list_of element) (at ∷ [])

  name_within : length name ≤ length (all_fields (source_of at name content))
  name_within = omega (arith, length-append (bytes_form name) (bytes_form content ++ origins), length-append (to_be_bytes w32 (length name)) name)

  content_within : length content ≤ length (all_fields (source_of at name content))
  content_within =
      omega (
        arith,
        length-append (bytes_form name) (bytes_form content ++ origins),
        length-append (bytes_form content) origins,
        length-append (to_be_bytes w32 (length content)) content,
      )

  source_fits : IsElement at → IsText name → is_too_large (source_of at name content) ≡ false → IsInTable (source_of at name content)
  unfolding IsInTable
  source_fits is text small =
      let few = fields_short (source_of at name content) small in
      (refl, (text_fits name text (omega (arith, few, name_within)), ((refl, omega (arith, few, content_within)), (omega arith, (is, tt)))))

-- ---- plans

frames_none : AreFrames done
unfolding AreFrames
frames_none = tt

asks : (f : Frame) (go : Reply → Plan) → Rattle.local_kinds.proofs.Exchanges.IsRequest f → (is_too_large f ≡ false → IsInTable f) → ((answer : Reply) → IsInTable (frame.Reply answer) → AreFrames (go answer)) → AreFrames (Sends f go)
unfolding AreFrames
asks f go is fits rest = (is, fits, rest)

module _ (root : ElementRef) (is_root : IsElement root) where
  -- ---- checker

  says_text : (kind : ℕ) (words : List ℕ) → IsInTable (message_at kind root words) → AreFrames (checker.says_at kind root words)
  says_text kind words fits = asks (message_at kind root words) checker.after_last tt (λ small. fits) (λ answer fits. frames_none)

  comment_frames : (answer : Reply) → AreFrames (checker.after_comment root answer)
  unfolding checker.after_comment
  comment_frames answer =
      either AreFrames (is_some (text_in answer)) done (checker.says_at 1 root (codes "no doc comment")) frames_none
      (says_text 1 (codes "no doc comment") (warning_fits root (codes "no doc comment") is_root no_comment_text (omega arith)))

  checked_frames : (simple : List ℕ) (answer : Reply) → AreFrames (checker.after_annotations root simple answer)
  unfolding checker.after_annotations
  checked_frames simple answer =
      either AreFrames (carries checker.checked answer) _ done
      (either AreFrames (checker.begins_in_lower_case simple) (checker.says_at 0 root (codes "name begins in lower case")) _
      (says_text 0 (codes "name begins in lower case") (error_fits root (codes "name begins in lower case") is_root lower_case_text (omega arith)))
      (asks (about asked.DocComment root) (checker.after_comment root) tt (λ small. comment_asked root is_root) (λ reply fits. comment_frames reply)))
      frames_none

  type_frames : (info : Option Info) → AreFrames (checker.by_info root info)
  type_frames None = frames_none
  type_frames (Some info) =
      either AreFrames (checker.is_type info.kind) _ done
      (asks (about asked.AllAnnotations root) (checker.after_annotations root info.simple) tt (λ small. all_annotations_asked root is_root) (λ answer fits. checked_frames info.simple answer))
      frames_none

  type_info_frames : (answer : Reply) → AreFrames (checker.after_info root answer)
  unfolding checker.after_info
  type_info_frames answer = type_frames (info_in answer)

  checks_frames : AreFrames (checker.checks root)
  checks_frames = asks (about asked.Info root) (checker.after_info root) tt (λ small. info_asked root is_root) (λ answer fits. type_info_frames answer)

  -- ---- chain

  link_frames : (info : Info) (number : Option ℕ) → IsText info.canonical → AreFrames (chain.by_number root info number)
  link_frames info None text = frames_none
  link_frames info (Some n) text =
      asks (source_of root (info.canonical ++ codes "_") (chain.text_of info n)) chain.after_last tt
      (source_fits root (info.canonical ++ codes "_") (chain.text_of info n) is_root (joined info.canonical (codes "_") text chain_text)) (λ answer fits. frames_none)

  links_frames : (info : Info) → IsText info.canonical → (answer : Reply) → AreFrames (chain.after_annotations root info answer)
  unfolding chain.after_annotations
  links_frames info text answer = link_frames info (chain.links_in answer) text

  chained_frames : (info : Option Info) → IfSome info (λ info. IsText info.canonical) → AreFrames (chain.by_info root info)
  chained_frames None text = frames_none
  chained_frames (Some info) text =
      either AreFrames (is_class info.kind) _ done
      (asks (about asked.Annotations root) (chain.after_annotations root info) tt (λ small. annotations_asked root is_root) (λ answer fits. links_frames info text answer))
      frames_none

  chained_info_frames : (answer : Reply) → IsInTable (frame.Reply answer) → AreFrames (chain.after_info root answer)
  unfolding chain.after_info
  chained_info_frames answer fits = chained_frames (info_in answer) (held_info answer fits)

  chains_frames : AreFrames (chain.chains root)
  chains_frames = asks (about asked.Info root) (chain.after_info root) tt (λ small. info_asked root is_root) chained_info_frames

  -- ---- builder

  warned_frames : AreFrames (builder.warns root)
  warned_frames =
      asks (message_at 1 root (codes "builder not created")) builder.after_warning tt
      (λ small. warning_fits root (codes "builder not created") is_root not_created_text (omega arith)) (λ answer fits. frames_none)

  created_frames : (answer : Reply) → AreFrames (builder.after_creation root answer)
  unfolding builder.after_creation
  created_frames answer = either AreFrames (is_accepted answer) done (builder.warns root) frames_none warned_frames

  file_frames : (canonical content : List ℕ) → IsText canonical → AreFrames (builder.creates root canonical content)
  file_frames canonical content text =
      either AreFrames (nat_lt builder.most_bytes (length content)) (builder.warns root) _ warned_frames
      (asks (source_of root (canonical ++ codes "Builder") content) (builder.after_creation root) tt
      (source_fits root (canonical ++ codes "Builder") content is_root (joined canonical (codes "Builder") text builder_text)) (λ answer fits. created_frames answer))

  module _ (rest : List ℕ → Plan) (text : List ℕ) (are : (t : List ℕ) → AreFrames (rest t)) where
    printed_frames : (name : List ℕ) (of : Option Mirror) → IfSome of IsMirror → AreFrames (builder.by_type rest text name of)
    printed_frames name None is = are text
    printed_frames name (Some m) is =
        asks (frame.Ask (question.Mirror PrintType m)) (builder.after_print rest text name) tt (λ small. print_asked m is) (λ answer fits. are (builder.with_line text name (text_in answer)))

    member_frames : (member : ElementRef) → IsElement member → (info : Option Info) → AreFrames (builder.by_member rest text member info)
    member_frames member is None = are text
    member_frames member is (Some info) =
        either AreFrames (builder.is_instance_field info) _ (rest text)
        (asks (about asked.TypeOf member) (builder.after_type rest text info.simple) tt (λ small. type_asked member is)
        (λ answer fits. printed_frames info.simple (mirror_in answer) (held_mirror answer fits)))
        (are text)

  members_frames : (canonical : List ℕ) → IsText canonical → (xs : List ElementRef) → AllByRecursion IsElement xs → (text : List ℕ) → AreFrames (builder.members root canonical xs text)
  unfolding builder.members
  members_frames canonical is [] all text = file_frames canonical (text ++ codes "}\n") is
  members_frames canonical is (x ∷ xs) all text =
      asks (about asked.Info x) (builder.after_member (builder.members root canonical xs) text x) tt (λ small. info_asked x all.0)
      (λ answer fits. member_frames (builder.members root canonical xs) text (members_frames canonical is xs all.1) x all.0 (info_in answer))

  enclosed_frames : (info : Info) → IsText info.canonical → (answer : Reply) → IsInTable (frame.Reply answer) → AreFrames (builder.after_enclosed root info answer)
  unfolding builder.after_enclosed
  enclosed_frames info is answer fits =
      members_frames info.canonical is (take 1000 (elements_in answer)) (taken IsElement 1000 (elements_in answer) (held_elements answer fits)) (builder.heading_of info)

  built_frames : (info : Info) → IsText info.canonical → (answer : Reply) → AreFrames (builder.after_annotations root info answer)
  unfolding builder.after_annotations
  built_frames info is answer =
      either AreFrames (carries builder.built answer) _ done
      (asks (about asked.Enclosed root) (builder.after_enclosed root info) tt (λ small. enclosed_asked root is_root) (enclosed_frames info is)) frames_none

  class_frames : (info : Option Info) → IfSome info (λ info. IsText info.canonical) → AreFrames (builder.by_info root info)
  class_frames None is = frames_none
  class_frames (Some info) is =
      either AreFrames (is_class info.kind) _ done
      (asks (about asked.Annotations root) (builder.after_annotations root info) tt (λ small. annotations_asked root is_root) (λ answer fits. built_frames info is answer))
      frames_none

  class_info_frames : (answer : Reply) → IsInTable (frame.Reply answer) → AreFrames (builder.after_info root answer)
  unfolding builder.after_info
  class_info_frames answer fits = class_frames (info_in answer) (held_info answer fits)

  builds_frames : AreFrames (builder.builds root)
  builds_frames = asks (about asked.Info root) (builder.after_info root) tt (λ small. info_asked root is_root) class_info_frames

root_frames : (local : Local) (root : ElementRef) → IsElement root → AreFrames (plan_for local root)
root_frames Builder root is = builds_frames root is
root_frames Checker root is = checks_frames root is
root_frames Chain root is = chains_frames root is
root_frames Registry root is = frames_none

-- ---- all roots

then_frames : (plan next : Plan) → AreFrames plan → AreFrames next → AreFrames (then_ plan next)
unfolding AreFrames
then_frames (Ends kept) next are all = all
then_frames (Sends f go) next are all = (are.0, are.1, λ answer fits. then_frames (go answer) next (are.2 answer fits) all)

each_frames : (local : Local) (roots : List ElementRef) → AllByRecursion IsElement roots → AreFrames (each_of (plan_for local) roots)
unfolding each_of
each_frames local [] all = frames_none
each_frames local (root ∷ roots) all = then_frames (plan_for local root) (each_of (plan_for local) roots) (root_frames local root all.0) (each_frames local roots all.1)

roots_frames : (local : Local) (answer : Reply) → IsInTable (frame.Reply answer) → AreFrames (after_roots local answer)
unfolding after_roots
roots_frames local answer fits = each_frames local (elements_in answer) (held_elements answer fits)

goes_frames : (local : Local) (there : Bool) → AreFrames (goes local there)
goes_frames local true = asks roots_frame (after_roots local) tt (λ small. roots_asked) (roots_frames local)
goes_frames local false = frames_none

-- ---- registry

ended : (kept : NameSet) → AreFrames (Ends kept)
unfolding AreFrames
ended kept = tt

registered_asked : IsInTable (frame.Ask (question.Name AnnotatedWith registry.registered))
unfolding IsInTable question_at
registered_asked = (refl, text_fits registry.registered registered_text (omega arith))

module _ (names : List (List ℕ)) where
  abbrev lines : List ℕ
  lines = registry.lines_of names

  lines_within : length lines ≤ length (all_fields (registry.file_of names))
  lines_within =
      omega (
        arith,
        length-append (bytes_form lines) (to_be_bytes w32 0),
        length-append (to_be_bytes w32 (length lines)) lines,
        length-append (bytes_form (codes "META-INF/registry.txt")) (bytes_form lines ++ to_be_bytes w32 0),
      )

  file_fits : is_too_large (registry.file_of names) ≡ false → IsInTable (registry.file_of names)
  unfolding IsInTable
  file_fits small =
      let few = fields_short (registry.file_of names) small in
      (refl, (refl, (text_fits [] no_text (omega arith), (text_fits (codes "META-INF/registry.txt") path_text (omega arith), ((refl, omega (arith, few, lines_within)), (omega arith, tt))))))

written_frames : (over : Bool) (kept : NameSet) → AreFrames (registry.writes over kept)
unfolding registry.writes
written_frames over kept = by (over && not (is_empty (names_in kept)))
  where
    by : (b : Bool) → AreFrames (if b then Sends (registry.file_of (names_in kept)) (registry.after_file kept) else Ends kept)
    by true = asks (registry.file_of (names_in kept)) (registry.after_file kept) tt (file_fits (names_in kept)) (λ answer fits. ended kept)
    by false = ended kept

registered_frames : (over : Bool) (kept : NameSet) (answer : Reply) → AreFrames (registry.after_registered over kept answer)
unfolding registry.after_registered
registered_frames over kept answer = written_frames over (with_names kept (registry.types_in answer))

registers_frames : (there over : Bool) (kept : NameSet) → AreFrames (registry.registers there over kept)
registers_frames true over kept =
    asks (frame.Ask (question.Name AnnotatedWith registry.registered)) (registry.after_registered over kept) tt (λ small. registered_asked) (λ answer fits. registered_frames over kept answer)
registers_frames false over kept = written_frames over kept

pub round_frames : (local : Local) (there over : Bool) (kept : NameSet) → AreFrames (begins local there over kept)
round_frames Builder there over kept = goes_frames Builder there
round_frames Checker there over kept = goes_frames Checker there
round_frames Chain there over kept = goes_frames Chain there
round_frames Registry there over kept = registers_frames there over kept
