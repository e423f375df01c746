-- The reply of the host to a child's question, by the table of types and the roots of the round. Of several reasons why
-- there is no answer the first counts: an element that is not there, an argument of the wrong kind, no answer within 64
-- steps, a reply that is too large.
use Rattle.std.specs.Prelude.{ℕ, Bool, List, [], ◌∷◌, map, Option, None, Some, if◌then◌else◌}
use Rattle.std.specs.Option.{option_to_list}
use Rattle.apt_base.specs.Limits.{max_type_steps}
use Rattle.apt_base.specs.declared.element.ElementRef.{ElementRef}
use Rattle.element_table.specs.TypeTable.{TypeTable}
use Rattle.element_table.specs.TableElements.{enclosing_at, reference}
use Rattle.type_mirror.specs.declared.mirror.Mirror.{Mirror}
use Rattle.type_mirror.specs.declared.value.Value.{Value}
use Rattle.type_layers.specs.Layers.{Layer, Declared, Variable, layer, declared_mirror, array_of}
use Rattle.type_layers.specs.Same.{same}
use Rattle.name_resolve.specs.Mirrors.{superclass, interfaces}
use Rattle.type_resolve.specs.Scopes.{find_in}
use Rattle.type_relations.specs.Boxed as boxes
use Rattle.type_relations.specs.Direct.{direct}
use Rattle.type_relations.specs.Elements.{type_parameters}
use Rattle.type_relations.specs.Erasure.{erasure}
use Rattle.type_relations.specs.Named.{bounds}
use Rattle.type_elements.specs.MemberElements.{enclosed}
use Rattle.type_elements.specs.TypeOf.{type_of}
use Rattle.type_subtypes.specs.Assignable.{assignable}
use Rattle.type_subtypes.specs.Subsignature.{subsignature}
use Rattle.type_subtypes.specs.Subtypes.{subtype, contained}
use Rattle.type_members.specs.MemberOf.{member_of}
use Rattle.type_overriding.specs.Overrides.{overrides}
use Rattle.type_listing.specs.Members.{members}
use Rattle.type_texts.specs.Print.{text_of}
use Rattle.child_questions.specs.Verdicts.{Verdict, NoSuch, WrongKind, TooDeep, Given, value, truth, judged}
use Rattle.child_questions.specs.QueryFault.{QueryFault}
use Rattle.child_questions.specs.QueryFault.TheVariants as fault
use Rattle.annotation_values.specs.ElementValues.{Named, mirrors, all_mirrors, values_with_defaults, default_of, constant_of}
use Rattle.round_env.specs.Presence.{annotated}
use Rattle.element_facts.specs.NamedTypes.{type_element, package_element}
use Rattle.element_facts.specs.ElementFacts.{enclosed_at, package_at, doc_at}
use Rattle.element_facts.specs.ElementInfo.{info_at}
use Rattle.element_facts.specs.declared.element_info.ElementInfo.{ElementInfo}
use Rattle.frame_forms.specs.declared.question_row.NameQuestion.{NameQuestion}
use Rattle.frame_forms.specs.declared.question_row.NameQuestion.TheVariants.{TypeElement, PackageElement, AnnotatedWith}
use Rattle.frame_forms.specs.declared.question_row.ElementQuestion.{ElementQuestion}
use Rattle.frame_forms.specs.declared.question_row.ElementQuestion.TheVariants as element
use Rattle.frame_forms.specs.declared.question_row.MirrorQuestion.{MirrorQuestion}
use Rattle.frame_forms.specs.declared.question_row.MirrorQuestion.TheVariants as mirror
use Rattle.frame_forms.specs.declared.question_row.MirrorsQuestion.{MirrorsQuestion}
use Rattle.frame_forms.specs.declared.question_row.MirrorsQuestion.TheVariants as two
use Rattle.wire_frames.specs.declared.frame.Frame.TheVariants as frames
use Rattle.wire_frames.specs.declared.question.Question.{Question}
use Rattle.wire_frames.specs.declared.question.Question.TheVariants as questions
use Rattle.wire_frames.specs.declared.reply.Info.{Info}
use Rattle.wire_frames.specs.declared.reply.Refused.TheVariants as refused
use Rattle.wire_frames.specs.declared.reply.Reply.{Reply}
use Rattle.wire_frames.specs.declared.reply.Reply.TheVariants as reply
use Rattle.wire_frames.specs.Limits.{is_too_large}
use Rattle.child_questions.specs.declared.stops.Stop.{Stop}
use Rattle.child_questions.specs.declared.stops.Stop.TheVariants as stop
use Rattle.child_questions.specs.NamedElements.{question_elements, are_all_there}
use Rattle.child_questions.specs.WantedKinds.{is_admitted}

-- what a question comes to: a reply, or a reason why there is none
abbrev pub Answer : Type 0
Answer = Verdict Reply

-- ---- answers, by the frame of the reply

abbrev pub with_elements : List ElementRef → Answer
with_elements list = Given (reply.Elements list)

-- one element or none
abbrev pub with_element : Option ElementRef → Answer
with_element found = with_elements (option_to_list found)

-- one text or none
abbrev pub with_text : Option (List ℕ) → Answer
with_text found = Given (reply.Texts (option_to_list found))

-- one value with the empty name, or none
abbrev pub unnamed : Value → Named
unnamed v = ([], v)

abbrev pub with_value : Option Value → Answer
with_value found = Given (reply.Values (map unnamed (option_to_list found)))

abbrev pub with_mirrors : List Mirror → Answer
with_mirrors list = Given (reply.Mirrors list)

abbrev pub with_mirror : Mirror → Answer
with_mirror m = with_mirrors (m ∷ [])

-- a reply made of what was given; a reason why nothing was stays
abbrev pub in_reply : {A : Type 0} → (A → Answer) → Verdict A → Answer
in_reply to (Given answer) = to answer
in_reply to NoSuch = NoSuch
in_reply to WrongKind = WrongKind
in_reply to TooDeep = TooDeep

abbrev pub in_truth : Bool → Answer
in_truth holds = Given (reply.Truth holds)

abbrev pub with_truth : Verdict Bool → Answer
with_truth verdict = in_reply in_truth verdict

-- nothing, where the argument is of the wrong kind
abbrev pub of_its_kind : {A : Type 0} → Option A → Verdict A
of_its_kind None = WrongKind
of_its_kind (Some x) = Given x

-- ---- about a name

unfoldable pub name_answer : TypeTable → List (List ℕ) → NameQuestion → List ℕ → Answer
name_answer table roots TypeElement name = with_element (type_element table name)
name_answer table roots PackageElement name = with_element (package_element table name)
name_answer table roots AnnotatedWith name = with_elements (annotated table roots name)

-- ---- about an element

-- what an element is, as its frame has it
abbrev pub info_of : ElementInfo → Info
info_of i = record {
  kind = i.kind;
  modifiers = i.modifiers;
  simple = i.simple;
  canonical = i.canonical;
  varargs = i.varargs;
}

abbrev pub with_info : Option ElementInfo → Answer
with_info None = NoSuch
with_info (Some info) = Given (reply.Info (info_of info))

unfoldable pub element_answer : TypeTable → ElementQuestion → ElementRef → Answer
element_answer table element.Info at = with_info (info_at table at)
element_answer table element.Enclosing at = with_element (enclosing_at table at)
element_answer table element.Enclosed at = with_elements (enclosed_at table at)
element_answer table element.TypeParameters at = with_elements (type_parameters table at)
-- the children of a method or a constructor behind its type parameters
element_answer table element.Parameters at = with_elements (enclosed table at)
element_answer table element.PackageOf at = with_elements (package_at table at ∷ [])
element_answer table element.DocComment at = with_text (doc_at table at)
element_answer table element.Annotations at = Given (reply.Annotations (mirrors table at))
element_answer table element.AllAnnotations at = Given (reply.Annotations (all_mirrors table at))
element_answer table element.DefaultValue at = with_value (default_of table at)
element_answer table element.ConstantValue at = with_value (constant_of table at)
element_answer table element.AllMembers at = in_reply with_elements (value (members table max_type_steps at))
element_answer table element.TypeOf at = with_mirror (type_of table at)
element_answer table element.Superclass at = with_mirror (superclass table (find_in table at))
element_answer table element.Interfaces at = with_mirrors (interfaces table (find_in table at))
element_answer table element.Bounds at = with_mirrors (bounds table at)

-- ---- about a mirror

-- the element of a class type or of a type variable
abbrev pub element_in : Layer Mirror → Option ElementRef
element_in (Declared at enclosing arguments) = Some at
element_in (Variable at) = Some at
element_in _ = None

unfoldable pub mirror_answer : TypeTable → MirrorQuestion → Mirror → Answer
mirror_answer table mirror.DirectSupertypes m = in_reply with_mirrors (value (direct table m))
mirror_answer table mirror.Erasure m = in_reply with_mirror (value (erasure table max_type_steps m))
mirror_answer table mirror.Boxed m = in_reply with_mirror (of_its_kind (boxes.boxed table m))
mirror_answer table mirror.Unboxed m = in_reply with_mirror (of_its_kind (boxes.unboxed table m))
mirror_answer table mirror.AsElement m = with_element (element_in (layer m))
mirror_answer table mirror.PrintType m = with_text (Some (text_of table m))
mirror_answer table mirror.ArrayType m = with_mirror (array_of m)

-- ---- about two mirrors

unfoldable pub mirrors_answer : TypeTable → MirrorsQuestion → Mirror → Mirror → Answer
mirrors_answer table two.SameType one other = in_truth (same one other)
mirrors_answer table two.Subtype one other = with_truth (truth (subtype table max_type_steps one other))
mirrors_answer table two.Assignable one other = with_truth (truth (assignable table max_type_steps one other))
mirrors_answer table two.Contains one other = with_truth (truth (contained table max_type_steps one other))
mirrors_answer table two.Subsignature one other = with_truth (truth (subsignature table max_type_steps one other))

-- ---- the other rows

unfoldable pub values_answer : TypeTable → ElementRef → ℕ → Answer
values_answer table at number =
    in_reply (λ values. Given (reply.Values values)) (of_its_kind (values_with_defaults table at number))

unfoldable pub overrides_answer : TypeTable → ElementRef → ElementRef → ElementRef → Answer
overrides_answer table overrider overridden in_type =
    with_truth (truth (overrides table max_type_steps overrider overridden in_type))

unfoldable pub member_answer : TypeTable → Mirror → ElementRef → Answer
member_answer table container at = in_reply with_mirror (value (member_of table max_type_steps container at))

-- the class type of the element with these arguments, in no enclosing type
unfoldable pub declared_answer : ElementRef → List Mirror → Answer
declared_answer at arguments = with_mirror (declared_mirror at None arguments)

-- the unit of this name, as an element
abbrev pub root_element : List ℕ → ElementRef
root_element root = reference root []

unfoldable pub roots_answer : List (List ℕ) → Answer
roots_answer roots = with_elements (map root_element roots)

-- ---- the reply

-- where all elements are there, and the arguments are what is wanted
unfoldable pub answer_to : TypeTable → List (List ℕ) → Question → Answer
answer_to table roots (questions.Name of name) = name_answer table roots of name
answer_to table roots (questions.Element of at) = element_answer table of at
answer_to table roots (questions.Mirror of m) = mirror_answer table of m
answer_to table roots (questions.Mirrors of one other) = mirrors_answer table of one other
answer_to table roots (questions.ValuesWithDefaults at number) = values_answer table at number
answer_to table roots (questions.Overrides overrider overridden in_type) =
    overrides_answer table overrider overridden in_type
answer_to table roots (questions.MemberType container at) = member_answer table container at
answer_to table roots (questions.DeclaredType at arguments) = declared_answer at arguments
answer_to table roots questions.Roots = roots_answer roots

-- an element that is not there counts before a wrong kind, and this before no answer
unfoldable pub judged_answer : TypeTable → List (List ℕ) → Question → Answer
judged_answer table roots q =
    judged (are_all_there table (question_elements q)) (is_admitted table q) (answer_to table roots q)

abbrev pub reply_by : Answer → Reply
reply_by NoSuch = reply.Refused refused.NoSuch
reply_by WrongKind = reply.Refused refused.WrongKind
reply_by TooDeep = reply.Refused refused.TooDeep
reply_by (Given answer) = answer

-- ---- the same of what calls give

-- what stands against a question as a fault of the calls on types
abbrev pub fault_of : Stop → QueryFault
fault_of stop.NoSuch = fault.NoSuch
fault_of stop.WrongKind = fault.WrongKind

-- what a child is told of a fault; of want of memory nothing
abbrev pub refusal_of : QueryFault → Option Reply
refusal_of fault.NoSuch = Some (reply.Refused refused.NoSuch)
refusal_of fault.WrongKind = Some (reply.Refused refused.WrongKind)
refusal_of fault.TooDeep = Some (reply.Refused refused.TooDeep)
refusal_of fault.Memory = None

-- ---- its size

-- a reply that no frame holds is refused
abbrev pub unless_too_large : Reply → Reply
unless_too_large answer =
    if is_too_large (frames.Reply answer) then reply.Refused refused.TooLarge else answer

-- the one reply to a question
unfoldable pub reply_of : TypeTable → List (List ℕ) → Question → Reply
reply_of table roots q = unless_too_large (reply_by (judged_answer table roots q))
