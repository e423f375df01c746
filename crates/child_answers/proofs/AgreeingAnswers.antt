-- The answer to a question on types is what the call of `type_queries` answers: what stands against both is the same.
use Rattle.std.proofs.Common.{◌≡◌, ℕ, Bool, true, false, ◌&&◌, not, List, [], ◌∷◌, ◌++◌, Option, None, Some, option_map, is_some, refl, sym, ap, ap₂, ◌∙◌}
use Rattle.apt_base.specs.Limits.{max_type_steps}
use Rattle.apt_base.specs.declared.element.ElementRef.{ElementRef}
use Rattle.decl_tree.specs.declared.declaration.TypeDecl.{TypeDecl}
use Rattle.decl_tree.specs.declared.declaration.TypeKind.{TypeKind}
use Rattle.decl_tree.specs.declared.declaration.TypeKind.TheVariants as kind
use Rattle.decl_tree.specs.declared.declaration.Member.{Member, out-Member}
use Rattle.decl_tree.specs.declared.declaration.Member.TheOpen.{Member-F}
use Rattle.decl_elements.specs.Nodes.{Node, OfPackage, Top, Inside, OfTypeParam, OfParam}
use Rattle.decl_elements.specs.Nodes.{DefaultConstructor, Values, ValueOf, ValueOfName}
use Rattle.decl_elements.specs.Shown.{element_of, type_element, member_element}
use Rattle.element_table.specs.TypeTable.{TypeTable}
use Rattle.element_table.specs.TableElements.{node_at}
use Rattle.type_mirror.specs.declared.mirror.Mirror.{Mirror}
use Rattle.type_mirror.specs.declared.mirror.PrimitiveKind.{PrimitiveKind}
use Rattle.type_layers.specs.Layers.{Primitive, layer, mirror_of}
use Rattle.type_layers.specs.Same.{same}
use Rattle.type_resolve.specs.Scopes.{is_type}
use Rattle.type_relations.specs.Boxed as boxes
use Rattle.type_relations.specs.Direct.{direct}
use Rattle.type_relations.specs.Elements.{is_there}
use Rattle.type_relations.specs.Erasure.{erasure}
use Rattle.type_elements.specs.MemberElements.{is_method, is_method_name, member_name, name_in, node_name, written_name}
use Rattle.type_elements.specs.TypeOf.{type_of}
use Rattle.type_subtypes.specs.Assignable.{assignable}
use Rattle.type_subtypes.specs.Subsignature.{subsignature}
use Rattle.type_subtypes.specs.Subtypes.{subtype, contained}
use Rattle.type_overriding.specs.Overrides.{overrides}
use Rattle.type_listing.specs.Members.{members}
use Rattle.type_texts.specs.Print.{text_of}
use Rattle.child_questions.specs.Questions.{is_type_layer, is_package, is_executable}
use Rattle.child_questions.specs.Questions.{same_question, print_question, boxed_question, unboxed_question, type_question}
use Rattle.child_questions.specs.Questions.{direct_question, erasure_question, subtype_question, contains_question}
use Rattle.child_questions.specs.Questions.{assignable_question, subsignature_question}
use Rattle.child_questions.specs.MemberLists.{members_question}
use Rattle.child_questions.specs.OverridingQuestions.{overrides_question}
use Rattle.child_questions.specs.Verdicts.{Verdict, NoSuch, WrongKind, TooDeep, Given, value, truth, judged, are_there, elements_of}
use Rattle.frame_forms.specs.declared.question_row.ElementQuestion.TheVariants as element
use Rattle.frame_forms.specs.declared.question_row.MirrorQuestion.TheVariants as mirror
use Rattle.frame_forms.specs.declared.question_row.MirrorsQuestion.TheVariants as two
use Rattle.frame_forms.specs.declared.question_row.WantedElement.TheVariants as wanted
use Rattle.wire_frames.specs.declared.question.Question.TheVariants as questions
use Rattle.wire_frames.specs.declared.reply.Reply.TheVariants as reply
use Rattle.child_questions.specs.NamedElements.{question_elements, are_all_there}
use Rattle.child_questions.specs.WantedKinds.{fits_any, is_admitted, is_element, is_mirror, is_method_element}
use Rattle.child_questions.proofs.AllThere.{of_one, of_two}
use Rattle.child_answers.specs.Replies.{Answer, answer_to, element_answer, judged_answer, mirror_answer, mirrors_answer}
use Rattle.child_answers.specs.Replies.{overrides_answer, in_reply, in_truth, of_its_kind, with_elements, with_mirror}
use Rattle.child_answers.specs.Replies.{with_mirrors, with_text, with_truth}
use Rattle.child_answers.specs.ReplyLaws.{AgreeWithCalls}
use Rattle.child_answers.proofs.TypesOfKind.{element-is_type}

-- ---- what stands against an answer stands against the reply

module _ {A : Type 0} (to : A → Answer) (v : Verdict A) where
  in_both : (there kinds : Bool) → judged there kinds (in_reply to v) ≡ in_reply to (judged there kinds v)
  in_both false kinds = refl
  in_both true false = refl
  in_both true true = refl

  judged-in : (there there' kinds kinds' : Bool) → there ≡ there' → kinds ≡ kinds'
      → judged there kinds (in_reply to v) ≡ in_reply to (judged there' kinds' v)
  judged-in there there' kinds kinds' t k =
      ap₂ (λ (x y : Bool). judged x y (in_reply to v)) t k ∙ in_both there' kinds'

-- of what may have no answer by its kind
boxed-in : {B : Type 0} (there : Bool) (f : B → Mirror) (o : Option B)
    → judged there (is_some o) (in_reply with_mirror (of_its_kind (option_map f o)))
    ≡ in_reply with_mirror (judged there (is_some (option_map f o)) (value (option_map f o)))
boxed-in false f o = refl
boxed-in true f None = refl
boxed-in true f (Some x) = refl

-- ---- methods

declared-no_method : (k : TypeKind) (d : TypeDecl) → is_method_element (type_element k d) ≡ false
declared-no_method kind.Enum d = refl
declared-no_method kind.Class d = refl
declared-no_method kind.AnnotationType d = refl
declared-no_method kind.Interface d = refl

member-is_method : (member : Member) (m : Member-F Member TypeDecl) → is_method_element (member_element member m) ≡ is_method_name (written_name m)
member-is_method member (Member-F.Field field) = refl
member-is_method member (Member-F.Method method) = refl
member-is_method member (Member-F.Constructor constructor) = refl
member-is_method member (Member-F.Constant constant) = refl
member-is_method member (Member-F.Nested d) = declared-no_method d.kind d

node-is_method : (node : Node) → is_method_element (element_of node) ≡ is_method_name (node_name node)
unfolding element_of
node-is_method (OfPackage info) = refl
node-is_method (Top d) = declared-no_method d.kind d
node-is_method (Inside k member) = member-is_method member (out-Member member)
node-is_method (OfTypeParam parameter) = refl
node-is_method (OfParam parameter) = refl
node-is_method (DefaultConstructor around d) = refl
node-is_method Values = refl
node-is_method ValueOf = refl
node-is_method ValueOfName = refl

any-is_method : (o : Option Node) → fits_any wanted.Method (option_map element_of o) ≡ is_method_name (name_in o)
any-is_method None = refl
any-is_method (Some node) = node-is_method node

element-is_method : (table : TypeTable) (at : ElementRef) → is_element table wanted.Method at ≡ is_method table at
unfolding is_element member_name
element-is_method table at = any-is_method (node_at table at)

-- ---- three of a kind

and_three : (a b c : Bool) → (a && (b && c)) ≡ (a && b && c)
and_three false b c = refl
and_three true b c = refl

all_three : (a b c : Bool) → (a && (b && (c && true))) ≡ (a && b && c)
all_three false b c = refl
all_three true false c = refl
all_three true true false = refl
all_three true true true = refl

-- ---- each question

module _ (table : TypeTable) (roots : List (List ℕ)) where
  module _ (a b : Mirror) where
    same-agrees : judged_answer table roots (questions.Mirrors two.SameType a b) ≡ with_truth (same_question table a b)
    unfolding judged_answer answer_to mirrors_answer same_question question_elements is_admitted is_mirror
    same-agrees = judged-in in_truth (Given (same a b)) _ _ _ _ (of_two table a b) refl

    subtype-agrees : judged_answer table roots (questions.Mirrors two.Subtype a b) ≡ with_truth (subtype_question table a b)
    unfolding judged_answer answer_to mirrors_answer subtype_question question_elements is_admitted is_mirror
    subtype-agrees = judged-in in_truth (truth (subtype table max_type_steps a b)) _ _ _ _ (of_two table a b) refl

    assignable-agrees : judged_answer table roots (questions.Mirrors two.Assignable a b) ≡ with_truth (assignable_question table a b)
    unfolding judged_answer answer_to mirrors_answer assignable_question question_elements is_admitted is_mirror
    assignable-agrees = judged-in in_truth (truth (assignable table max_type_steps a b)) _ _ _ _ (of_two table a b) refl

    contains-agrees : judged_answer table roots (questions.Mirrors two.Contains a b) ≡ with_truth (contains_question table a b)
    unfolding judged_answer answer_to mirrors_answer contains_question question_elements is_admitted is_mirror
    contains-agrees = judged-in in_truth (truth (contained table max_type_steps a b)) _ _ _ _ (of_two table a b) refl

    subsignature-agrees : judged_answer table roots (questions.Mirrors two.Subsignature a b) ≡ with_truth (subsignature_question table a b)
    unfolding judged_answer answer_to mirrors_answer subsignature_question question_elements is_admitted is_mirror
    subsignature-agrees = judged-in in_truth (truth (subsignature table max_type_steps a b)) _ _ _ _ (of_two table a b) refl

  module _ (m : Mirror) where
    direct-agrees : judged_answer table roots (questions.Mirror mirror.DirectSupertypes m) ≡ in_reply with_mirrors (direct_question table m)
    unfolding judged_answer answer_to mirror_answer direct_question question_elements is_admitted is_mirror
    direct-agrees = judged-in with_mirrors (value (direct table m)) _ _ _ _ refl refl

    erasure-agrees : judged_answer table roots (questions.Mirror mirror.Erasure m) ≡ in_reply with_mirror (erasure_question table m)
    unfolding judged_answer answer_to mirror_answer erasure_question question_elements is_admitted is_mirror
    erasure-agrees = judged-in with_mirror (value (erasure table max_type_steps m)) _ _ _ _ refl refl

    boxed-agrees : judged_answer table roots (questions.Mirror mirror.Boxed m) ≡ in_reply with_mirror (boxed_question table m)
    unfolding judged_answer answer_to mirror_answer boxed_question question_elements is_admitted is_mirror boxes.boxed
    boxed-agrees = boxed-in (are_there table m) (boxes.box_of table) (boxes.primitive_of m)

    unboxed-agrees : judged_answer table roots (questions.Mirror mirror.Unboxed m) ≡ in_reply with_mirror (unboxed_question table m)
    unfolding judged_answer answer_to mirror_answer unboxed_question question_elements is_admitted is_mirror boxes.unboxed
    unboxed-agrees = boxed-in (are_there table m) (λ (k : PrimitiveKind). mirror_of (Primitive k)) (boxes.boxed_kind table m)

    print-agrees : judged_answer table roots (questions.Mirror mirror.PrintType m) ≡ in_reply (λ text. with_text (Some text)) (print_question table m)
    unfolding judged_answer answer_to mirror_answer print_question question_elements is_admitted is_mirror
    print-agrees = judged-in (λ (text : List ℕ). with_text (Some text)) (Given (text_of table m)) _ _ _ _ refl refl

  module _ (at : ElementRef) where
    any-there : (o : Option Node) → is_some o ≡ true → fits_any wanted.Any (option_map element_of o) ≡ true
    any-there None e = e
    any-there (Some node) e = refl

    type_of-by : (there : Bool) → is_there table at ≡ there
        → judged there (is_element table wanted.Any at) (with_mirror (type_of table at)) ≡ in_reply with_mirror (judged there true (Given (type_of table at)))
    unfolding is_element
    type_of-by false e = refl
    type_of-by true e = ap (λ (k : Bool). judged true k (with_mirror (type_of table at))) (any-there (node_at table at) e)

    type_of-agrees : judged_answer table roots (questions.Element element.TypeOf at) ≡ in_reply with_mirror (type_question table at)
    unfolding judged_answer answer_to element_answer type_question question_elements is_admitted
    type_of-agrees =
        ap (λ (t : Bool). judged t (is_element table wanted.Any at) (with_mirror (type_of table at))) (of_one table at)
        ∙ type_of-by (is_there table at) refl

    members-agrees : judged_answer table roots (questions.Element element.AllMembers at) ≡ in_reply with_elements (members_question table at)
    unfolding judged_answer answer_to element_answer members_question question_elements is_admitted
    members-agrees = judged-in with_elements (value (members table max_type_steps at)) _ _ _ _ (of_one table at) (element-is_type table at)

  overrides-agrees : (one other within : ElementRef)
      → judged_answer table roots (questions.Overrides one other within) ≡ with_truth (overrides_question table one other within)
  unfolding judged_answer answer_to overrides_answer overrides_question question_elements is_admitted
  overrides-agrees one other within =
      judged-in in_truth (truth (overrides table max_type_steps one other within)) _ _ _ _
      (all_three (is_there table one) (is_there table other) (is_there table within))
      (ap₂ (λ (x y : Bool). x && (y && is_element table wanted.TypeElement within)) (element-is_method table one) (element-is_method table other)
      ∙ ap (λ (z : Bool). is_method table one && (is_method table other && z)) (element-is_type table within)
      ∙ and_three (is_method table one) (is_method table other) (is_type table within))

  pub answers-agree : AgreeWithCalls table roots
  answers-agree = record {
    same = same-agrees;
    subtype = subtype-agrees;
    assignable = assignable-agrees;
    contains = contains-agrees;
    subsignature = subsignature-agrees;
    direct = direct-agrees;
    erasure = erasure-agrees;
    boxed = boxed-agrees;
    unboxed = unboxed-agrees;
    print = print-agrees;
    type_of = type_of-agrees;
    members = members-agrees;
    overrides = overrides-agrees;
  }
