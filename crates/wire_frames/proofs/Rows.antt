-- The rows of the table, by equations: the tag of each frame, and its fields in order.
use Rattle.std.proofs.Common.{◌≡◌, ℕ, Bool, List, [], ◌∷◌, ◌++◌, Option, refl, sym, ap, ◌∙◌}
use Rattle.std.specs.Int.{w16, w32, to_be_bytes}
use Rattle.apt_base.specs.Fields.{bytes_form}
use Rattle.apt_base.specs.declared.element.ElementRef.{ElementRef}
use Rattle.apt_base.specs.declared.kinds.Claim.{Claim}
use Rattle.type_mirror.specs.declared.mirror.Mirror.{Mirror}
use Rattle.type_mirror.specs.declared.value.Value.{Value}
use Rattle.type_mirror.specs.declared.value.Annotation.{Annotation}
use Rattle.frame_forms.specs.Forms.{opt_spelling, plain_frame}
use Rattle.frame_forms.specs.MirrorForms.{bool_number}
use Rattle.frame_forms.specs.FrameTable.{claim_number}
use Rattle.frame_forms.specs.declared.question_row.QuestionRow.TheVariants as rows
use Rattle.frame_forms.specs.QuestionTable.{question_tag}
use Rattle.wire_frames.specs.declared.question.Question.{Question}
use Rattle.wire_frames.specs.declared.question.Question.TheVariants as questions
use Rattle.wire_frames.specs.Frames.{question_row, question_shown}
use Rattle.wire_frames.specs.Spellings.{list_spelled, fields_spelled, arguments_spelled, element_spelled, mirror_spelled, value_spelled, annotation_spelled, option_spelled, value_with_name_spelled}
use Rattle.wire_frames.proofs.Parts.{list_alike, plain_list}

-- ---- a child's questions, by the forms of their arguments

pub question_spelled : (q : Question) → fields_spelled (question_shown q) ≡ question_tag (question_row q) ∷ arguments_spelled q
unfolding fields_spelled arguments_spelled element_spelled mirror_spelled
question_spelled (questions.Name of name) = refl
question_spelled (questions.Element of at) = refl
question_spelled (questions.Mirror of m) = refl
question_spelled (questions.Mirrors of one other) = refl
question_spelled (questions.ValuesWithDefaults at number) = refl
question_spelled (questions.Overrides overrider overridden in_type) = refl
question_spelled (questions.MemberType container at) = refl
question_spelled (questions.DeclaredType at arguments) =
    ap (λ (t : List ℕ). question_tag rows.DeclaredType ∷ (element_spelled at ++ t)) (sym (list_alike (mirror_spelled 256) (mirror_spelled 256) (λ m. refl) arguments))
question_spelled questions.Roots = refl

-- ---- the host's replies

pub fields-Elements : (elements : List ElementRef) → fields_spelled (plain_frame 16, elements) ≡ 16 ∷ list_spelled element_spelled elements
unfolding fields_spelled element_spelled
fields-Elements elements = ap (λ (t : List ℕ). 16 ∷ t) (sym (list_alike element_spelled element_spelled (λ a. refl) elements))

pub fields-InfoReply : (kind modifiers : ℕ) (simple canonical : List ℕ) (varargs : Bool)
    → fields_spelled (plain_frame 17, (kind, (modifiers, (simple, (canonical, varargs))))) ≡ 17 ∷ kind ∷ (to_be_bytes w16 modifiers ++ (bytes_form simple ++ (bytes_form canonical ++ bool_number varargs ∷ [])))
unfolding fields_spelled
fields-InfoReply kind modifiers simple canonical varargs = refl

pub fields-Texts : (texts : List (List ℕ)) → fields_spelled (plain_frame 18, texts) ≡ 18 ∷ list_spelled bytes_form texts
unfolding fields_spelled
fields-Texts texts = ap (λ (t : List ℕ). 18 ∷ t) (sym (list_alike bytes_form bytes_form (λ a. refl) texts))

pub fields-AnnotationsReply : (annotations : List Annotation) → fields_spelled (plain_frame 19, annotations) ≡ 19 ∷ list_spelled (annotation_spelled 256) annotations
unfolding fields_spelled annotation_spelled
fields-AnnotationsReply annotations = ap (λ (t : List ℕ). 19 ∷ t) (sym (list_alike (annotation_spelled 256) (annotation_spelled 256) (λ a. refl) annotations))

pub fields-Values : (values : List (List ℕ × Value)) → fields_spelled (plain_frame 20, values) ≡ 20 ∷ list_spelled (value_with_name_spelled 256) values
unfolding fields_spelled value_spelled
fields-Values values = ap (λ (t : List ℕ). 20 ∷ t) (sym (list_alike (value_with_name_spelled 256) (value_with_name_spelled 256) (λ a. refl) values))

pub fields-Mirrors : (mirrors : List Mirror) → fields_spelled (plain_frame 21, mirrors) ≡ 21 ∷ list_spelled (mirror_spelled 256) mirrors
unfolding fields_spelled mirror_spelled
fields-Mirrors mirrors = ap (λ (t : List ℕ). 21 ∷ t) (sym (list_alike (mirror_spelled 256) (mirror_spelled 256) (λ a. refl) mirrors))

pub fields-Truth : (truth : Bool) → fields_spelled (plain_frame 22, truth) ≡ 22 ∷ bool_number truth ∷ []
unfolding fields_spelled
fields-Truth truth = refl

pub fields-Created : (number : ℕ) → fields_spelled (plain_frame 23, number) ≡ 23 ∷ number ∷ []
unfolding fields_spelled
fields-Created number = refl

pub fields-Noted : fields_spelled (plain_frame 24, tt) ≡ 24 ∷ []
unfolding fields_spelled
fields-Noted = refl

pub fields-Refused : (number : ℕ) → fields_spelled (plain_frame 25, number) ≡ 25 ∷ number ∷ []
unfolding fields_spelled
fields-Refused number = refl

pub ruleset reply_rows = (fields-Elements, fields-InfoReply, fields-Texts, fields-AnnotationsReply, fields-Values, fields-Mirrors, fields-Truth, fields-Created, fields-Noted, fields-Refused)

-- ---- the other frames

pub fields-Init : (name : List ℕ) (level : ℕ) (options : List (List ℕ × List ℕ)) → fields_spelled (plain_frame 1, (name, (level, options))) ≡ 1 ∷ (bytes_form name ++ (to_be_bytes w16 level ++ list_spelled option_spelled options))
unfolding fields_spelled
fields-Init name level options = ap (λ (t : List ℕ). 1 ∷ (bytes_form name ++ (to_be_bytes w16 level ++ t))) (sym (list_alike option_spelled option_spelled (λ o. refl) options))

pub fields-Round : (number : ℕ) (over error : Bool) (offered roots : List (List ℕ))
    → fields_spelled (plain_frame 2, (number, (over, (error, (offered, roots))))) ≡ 2 ∷ (to_be_bytes w32 number ++ (bool_number over ∷ bool_number error ∷ (list_spelled bytes_form offered ++ list_spelled bytes_form roots)))
unfolding fields_spelled
fields-Round number over error offered roots =
    ap (λ (t : List ℕ). 2 ∷ (to_be_bytes w32 number ++ (bool_number over ∷ bool_number error ∷ (t ++ plain_list bytes_form roots)))) (sym (list_alike bytes_form bytes_form (λ o. refl) offered))
    ∙ ap (λ (t : List ℕ). 2 ∷ (to_be_bytes w32 number ++ (bool_number over ∷ bool_number error ∷ (list_spelled bytes_form offered ++ t)))) (sym (list_alike bytes_form bytes_form (λ o. refl) roots))

pub fields-Hello : (patterns options : List (List ℕ)) (claim : Claim) → fields_spelled (plain_frame 64, (patterns, (options, claim))) ≡ 64 ∷ (list_spelled bytes_form patterns ++ (list_spelled bytes_form options ++ claim_number claim ∷ []))
unfolding fields_spelled
fields-Hello patterns options claim =
    ap (λ (t : List ℕ). 64 ∷ (t ++ (plain_list bytes_form options ++ claim_number claim ∷ []))) (sym (list_alike bytes_form bytes_form (λ o. refl) patterns))
    ∙ ap (λ (t : List ℕ). 64 ∷ (list_spelled bytes_form patterns ++ (t ++ claim_number claim ∷ []))) (sym (list_alike bytes_form bytes_form (λ o. refl) options))

pub fields-Done : (claimed : Bool) → fields_spelled (plain_frame 65, claimed) ≡ 65 ∷ bool_number claimed ∷ []
unfolding fields_spelled
fields-Done claimed = refl

pub fields-Source : (name content : List ℕ) (origins : List ElementRef) → fields_spelled (plain_frame 66, (name, (content, origins))) ≡ 66 ∷ (bytes_form name ++ (bytes_form content ++ list_spelled element_spelled origins))
unfolding fields_spelled element_spelled
fields-Source name content origins = ap (λ (t : List ℕ). 66 ∷ (bytes_form name ++ (bytes_form content ++ t))) (sym (list_alike element_spelled element_spelled (λ o. refl) origins))

pub fields-Resource : (location : ℕ) (folder relative content : List ℕ) (origins : List ElementRef)
    → fields_spelled (plain_frame 67, (location, (folder, (relative, (content, origins))))) ≡ 67 ∷ location ∷ (bytes_form folder ++ (bytes_form relative ++ (bytes_form content ++ list_spelled element_spelled origins)))
unfolding fields_spelled element_spelled
fields-Resource location folder relative content origins =
    ap (λ (t : List ℕ). 67 ∷ location ∷ (bytes_form folder ++ (bytes_form relative ++ (bytes_form content ++ t)))) (sym (list_alike element_spelled element_spelled (λ o. refl) origins))

pub fields-Class : (name content : List ℕ) (origins : List ElementRef) → fields_spelled (plain_frame 68, (name, (content, origins))) ≡ 68 ∷ (bytes_form name ++ (bytes_form content ++ list_spelled element_spelled origins))
unfolding fields_spelled element_spelled
fields-Class name content origins = ap (λ (t : List ℕ). 68 ∷ (bytes_form name ++ (bytes_form content ++ t))) (sym (list_alike element_spelled element_spelled (λ o. refl) origins))

pub fields-Message : (kind : ℕ) (element : Option ElementRef) (text : List ℕ) → fields_spelled (plain_frame 69, (kind, (element, text))) ≡ 69 ∷ kind ∷ (opt_spelling {A = ElementRef} element_spelled element ++ bytes_form text)
unfolding fields_spelled element_spelled
fields-Message kind element text = refl

pub ruleset frame_rows = (fields-Init, fields-Round, fields-Hello, fields-Done, fields-Source, fields-Resource, fields-Class, fields-Message)
