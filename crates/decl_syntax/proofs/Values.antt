-- The spelling of values and annotations, by equations, and that their readers read them.
use Rattle.std.proofs.Common.{◌≡◌, ℕ, zero, suc, ◌-◌, arith, Bool, true, false, List, ◌∷◌, ◌++◌, Some, None, refl, sym, ap, subst, ◌∙◌}
use Rattle.apt_base.specs.Fields.{text_next}
use Rattle.apt_base.specs.Forms.{Reader, name_form, list_form, none_next, mapped, checked, tagged, list_next}
use Rattle.decl_syntax.specs.Shape.{value_step, annotation_step, pair_step, type_form, value_form, annotation_form, pair_form}
use Rattle.decl_tree.specs.Legal.{pair_fits, annotation_fits, plain_fits, is_plain, value_fits, is_legal_type, is_legal_value, is_legal_annotation}
use Rattle.decl_syntax.specs.Reading.{pair_of, pair_in, annotation_of, annotation_in, plain_choice, plain_next, are_two, value_choice, value_in, type_next, value_next, annotation_next}
use Rattle.decl_tree.specs.declared.type_text.TypeText.{TypeText}
use Rattle.decl_tree.specs.declared.annotation.ValueText.{ValueText, out-ValueText, roll-ValueText, roll-out-ValueText}
use Rattle.decl_tree.specs.declared.annotation.ValueText.TheVariants as value
use Rattle.decl_tree.specs.declared.annotation.ValueText.TheOpen.{ValueText-F}
use Rattle.decl_tree.specs.declared.annotation.ValueText.TheFolds.{fold-roll-ValueText, fold_out-AnnotationText, fold_out-ElementValuePair}
use Rattle.decl_tree.specs.declared.annotation.AnnotationText.{AnnotationText, out-AnnotationText, roll-out-AnnotationText, out-roll-AnnotationText}
use Rattle.decl_tree.specs.declared.annotation.ElementValuePair.{ElementValuePair}
use Rattle.decl_syntax.proofs.Types.{list_form-spelled, Reads-type_next}
use Rattle.apt_base.proofs.Readers.{Reads, Reads-none, Reads-text, Spells-none, Spells-or, variant, Reads-tagged, and_reads, list_reads, check_reads, map_reads, same_reads}

-- ---- equations

pub value_form-Literal : (text : List ℕ) → value_form (value.Literal text) ≡ 0 ∷ name_form text
unfolding value_form annotation_form pair_form
value_form-Literal text =
    ap value_form (sym (value.rolls-Literal text)) ∙ fold-roll-ValueText (List ℕ) (List ℕ) (List ℕ) value_step annotation_step pair_step (ValueText-F.Literal text)

pub value_form-Negated : (text : List ℕ) → value_form (value.Negated text) ≡ 1 ∷ name_form text
unfolding value_form annotation_form pair_form
value_form-Negated text =
    ap value_form (sym (value.rolls-Negated text)) ∙ fold-roll-ValueText (List ℕ) (List ℕ) (List ℕ) value_step annotation_step pair_step (ValueText-F.Negated text)

pub value_form-Joined : (items : List ValueText) → value_form (value.Joined items) ≡ 2 ∷ list_form value_form items
unfolding value_form annotation_form pair_form
value_form-Joined items =
    ap value_form (sym (value.rolls-Joined items)) ∙ fold-roll-ValueText (List ℕ) (List ℕ) (List ℕ) value_step annotation_step pair_step (ValueText-F.Joined items)
    ∙ ap (λ (t : List ℕ). 2 ∷ t) (list_form-spelled value_form items)

pub value_form-Class : (of : TypeText) → value_form (value.Class of) ≡ 3 ∷ type_form of
unfolding value_form annotation_form pair_form
value_form-Class of =
    ap value_form (sym (value.rolls-Class of)) ∙ fold-roll-ValueText (List ℕ) (List ℕ) (List ℕ) value_step annotation_step pair_step (ValueText-F.Class of)

pub value_form-Chain : (text : List ℕ) → value_form (value.Chain text) ≡ 4 ∷ name_form text
unfolding value_form annotation_form pair_form
value_form-Chain text =
    ap value_form (sym (value.rolls-Chain text)) ∙ fold-roll-ValueText (List ℕ) (List ℕ) (List ℕ) value_step annotation_step pair_step (ValueText-F.Chain text)

pub value_form-Array : (items : List ValueText) → value_form (value.Array items) ≡ 5 ∷ list_form value_form items
unfolding value_form annotation_form pair_form
value_form-Array items =
    ap value_form (sym (value.rolls-Array items)) ∙ fold-roll-ValueText (List ℕ) (List ℕ) (List ℕ) value_step annotation_step pair_step (ValueText-F.Array items)
    ∙ ap (λ (t : List ℕ). 5 ∷ t) (list_form-spelled value_form items)

pub value_form-Nested : (annotation : AnnotationText) → value_form (value.Nested annotation) ≡ 6 ∷ annotation_form annotation
unfolding value_form annotation_form pair_form
value_form-Nested annotation =
    ap value_form (sym (value.rolls-Nested annotation)) ∙ fold-roll-ValueText (List ℕ) (List ℕ) (List ℕ) value_step annotation_step pair_step (ValueText-F.Nested annotation)

pub value_form-Other : (text : List ℕ) → value_form (value.Other text) ≡ 7 ∷ name_form text
unfolding value_form annotation_form pair_form
value_form-Other text =
    ap value_form (sym (value.rolls-Other text)) ∙ fold-roll-ValueText (List ℕ) (List ℕ) (List ℕ) value_step annotation_step pair_step (ValueText-F.Other text)

pub pair_form-is : (pair : ElementValuePair) → pair_form pair ≡ name_form pair.name ++ value_form pair.value
unfolding value_form annotation_form pair_form
pair_form-is pair = fold_out-ElementValuePair (List ℕ) (List ℕ) (List ℕ) value_step annotation_step pair_step pair

pub annotation_form-is : (annotation : AnnotationText) → annotation_form annotation ≡ name_form (out-AnnotationText annotation).name ++ list_form pair_form (out-AnnotationText annotation).values
unfolding value_form annotation_form pair_form
annotation_form-is annotation =
    fold_out-AnnotationText (List ℕ) (List ℕ) (List ℕ) value_step annotation_step pair_step annotation
    ∙ ap (λ (t : List ℕ). name_form (out-AnnotationText annotation).name ++ t) (list_form-spelled pair_form (out-AnnotationText annotation).values)

-- ---- cases

pub value_cases : (Q : ValueText → Type 0) → ((text : List ℕ) → Q (value.Literal text)) → ((text : List ℕ) → Q (value.Negated text)) → ((items : List ValueText) → Q (value.Joined items)) → ((of : TypeText) → Q (value.Class of)) → ((text : List ℕ) → Q (value.Chain text)) → ((items : List ValueText) → Q (value.Array items)) → ((annotation : AnnotationText) → Q (value.Nested annotation)) → ((text : List ℕ) → Q (value.Other text)) → (text : ValueText) → Q text
value_cases Q literal negated joined class chain array nested other text =
    let M : ValueText-F ValueText AnnotationText ElementValuePair → Type 0 = λ x. Q (roll-ValueText x) in
    let at : M (out-ValueText text) = elim (out-ValueText text) as M [
      | ValueText-F.Literal x ↦ subst Q (sym (value.rolls-Literal x)) (literal x)
      | ValueText-F.Negated x ↦ subst Q (sym (value.rolls-Negated x)) (negated x)
      | ValueText-F.Joined x ↦ subst Q (sym (value.rolls-Joined x)) (joined x)
      | ValueText-F.Class x ↦ subst Q (sym (value.rolls-Class x)) (class x)
      | ValueText-F.Chain x ↦ subst Q (sym (value.rolls-Chain x)) (chain x)
      | ValueText-F.Array x ↦ subst Q (sym (value.rolls-Array x)) (array x)
      | ValueText-F.Nested x ↦ subst Q (sym (value.rolls-Nested x)) (nested x)
      | ValueText-F.Other x ↦ subst Q (sym (value.rolls-Other x)) (other x)
    ] in
    subst Q (roll-out-ValueText text) at

-- ---- readers

module _ (inner : Reader ValueText) (fits : ValueText → Bool) where
  pub Reads-pair : Reads inner value_form fits → Reads (pair_in inner) pair_form (pair_fits fits)
  unfolding pair_in
  Reads-pair r =
      same_reads pair_form (pair_fits fits) (λ pair. sym (pair_form-is pair)) (λ pair. refl)
      (map_reads pair_of (λ pair. (pair.name, pair.value)) (λ pair. refl) (λ x. refl) (and_reads Reads-text r))

  pub Reads-annotation : Reads inner value_form fits → Reads (annotation_in inner) annotation_form (annotation_fits fits)
  unfolding annotation_in
  Reads-annotation r =
      same_reads annotation_form (annotation_fits fits) (λ annotation. sym (annotation_form-is annotation)) (λ annotation. refl)
      (map_reads annotation_of (λ annotation. ((out-AnnotationText annotation).name, (out-AnnotationText annotation).values))
      (λ annotation. roll-out-AnnotationText annotation) (λ x. ap (λ a. (a.name, a.values)) (out-roll-AnnotationText (record { name = x.0; values = x.1 })))
      (and_reads Reads-text (list_reads (Reads-pair r))))

-- the items of a sum

no_truth : true ≡ false → ⊥
no_truth e = cc

plain_tests : (F : ValueText-F ValueText AnnotationText ElementValuePair) (text : ValueText) → out-ValueText text ≡ F → is_plain text ≡ plain_fits F
unfolding is_plain
plain_tests F text e = ap plain_fits e

pub Reads-plain : Reads plain_next value_form is_plain
unfolding plain_next
Reads-plain =
    let literal = variant plain_choice value_form is_plain 0 value.Literal value_form-Literal (λ text. plain_tests (ValueText-F.Literal text) _ (value.outs-Literal text)) (λ bytes. refl) Reads-text in
    let chain = variant plain_choice value_form is_plain 4 value.Chain value_form-Chain (λ text. plain_tests (ValueText-F.Chain text) _ (value.outs-Chain text)) (λ bytes. refl) Reads-text in
    let Q : ValueText → Type 0 = λ text. (rest : List ℕ) → is_plain text ≡ true → tagged plain_choice (value_form text ++ rest) ≡ Some (text, rest) in
    Reads-tagged plain_choice value_form is_plain
    (value_cases Q literal.again
    (λ x rest h. absurd (no_truth (sym h ∙ plain_tests (ValueText-F.Negated x) _ (value.outs-Negated x))))
    (λ x rest h. absurd (no_truth (sym h ∙ plain_tests (ValueText-F.Joined x) _ (value.outs-Joined x))))
    (λ x rest h. absurd (no_truth (sym h ∙ plain_tests (ValueText-F.Class x) _ (value.outs-Class x))))
    chain.again
    (λ x rest h. absurd (no_truth (sym h ∙ plain_tests (ValueText-F.Array x) _ (value.outs-Array x))))
    (λ x rest h. absurd (no_truth (sym h ∙ plain_tests (ValueText-F.Nested x) _ (value.outs-Nested x))))
    (λ x rest h. absurd (no_truth (sym h ∙ plain_tests (ValueText-F.Other x) _ (value.outs-Other x))))
    )
    (λ n. Spells-or value_form is_plain n 0 (mapped value.Literal text_next) _ literal.spelled
    (Spells-or value_form is_plain n 4 (mapped value.Chain text_next) none_next chain.spelled (Spells-none value_form is_plain n)))

module _ (of : Reader TypeText) (type : TypeText → Bool) (inner : Reader ValueText) (fits : ValueText → Bool) where
  abbrev test : ValueText → Bool
  test text = value_fits type fits (out-ValueText text)

  pub Reads-value : Reads of type_form type → Reads inner value_form fits → Reads (value_in of inner) value_form test
  unfolding value_in
  Reads-value types values =
      let choose = value_choice of inner in
      let names = Reads-text in
      let sums = check_reads are_two (list_reads Reads-plain) in
      let arrays = list_reads values in
      let annotations = Reads-annotation inner fits values in
      let literal = variant choose value_form test 0 value.Literal value_form-Literal (λ x. ap (value_fits type fits) (value.outs-Literal x)) (λ bytes. refl) names in
      let negated = variant choose value_form test 1 value.Negated value_form-Negated (λ x. ap (value_fits type fits) (value.outs-Negated x)) (λ bytes. refl) names in
      let joined = variant choose value_form test 2 value.Joined value_form-Joined (λ x. ap (value_fits type fits) (value.outs-Joined x)) (λ bytes. refl) sums in
      let class = variant choose value_form test 3 value.Class value_form-Class (λ x. ap (value_fits type fits) (value.outs-Class x)) (λ bytes. refl) types in
      let chain = variant choose value_form test 4 value.Chain value_form-Chain (λ x. ap (value_fits type fits) (value.outs-Chain x)) (λ bytes. refl) names in
      let array = variant choose value_form test 5 value.Array value_form-Array (λ x. ap (value_fits type fits) (value.outs-Array x)) (λ bytes. refl) arrays in
      let nested = variant choose value_form test 6 value.Nested value_form-Nested (λ x. ap (value_fits type fits) (value.outs-Nested x)) (λ bytes. refl) annotations in
      let other = variant choose value_form test 7 value.Other value_form-Other (λ x. ap (value_fits type fits) (value.outs-Other x)) (λ bytes. refl) names in
      let Q : ValueText → Type 0 = λ text. (rest : List ℕ) → test text ≡ true → tagged choose (value_form text ++ rest) ≡ Some (text, rest) in
      Reads-tagged choose value_form test
      (value_cases Q literal.again negated.again joined.again class.again chain.again array.again nested.again other.again)
      (λ n. Spells-or value_form test n 0 (mapped value.Literal text_next) _ literal.spelled
      (Spells-or value_form test n 1 (mapped value.Negated text_next) _ negated.spelled
      (Spells-or value_form test n 2 (mapped value.Joined (checked are_two (list_next plain_next))) _ joined.spelled
      (Spells-or value_form test n 3 (mapped value.Class of) _ class.spelled
      (Spells-or value_form test n 4 (mapped value.Chain text_next) _ chain.spelled
      (Spells-or value_form test n 5 (mapped value.Array (list_next inner)) _ array.spelled
      (Spells-or value_form test n 6 (mapped value.Nested (annotation_in inner)) _ nested.spelled
      (Spells-or value_form test n 7 (mapped value.Other text_next) none_next other.spelled
      (Spells-none value_form test n)))))))))

pub Reads-value_next : (room : ℕ) → Reads (value_next room) value_form (is_legal_value room)
unfolding value_next is_legal_value
Reads-value_next zero = Reads-none value_form
Reads-value_next (suc room) = Reads-value (type_next room) (is_legal_type room) (value_next room) (is_legal_value room) (Reads-type_next room) (Reads-value_next room)

pub Reads-annotation_next : (room : ℕ) → Reads (annotation_next room) annotation_form (is_legal_annotation room)
unfolding annotation_next is_legal_annotation
Reads-annotation_next room = Reads-annotation (value_next room) (is_legal_value room) (Reads-value_next room)

-- ---- how much may open

pub value_next-none : (room : ℕ) (bytes : List ℕ) → room ≡ 0 → value_next room bytes ≡ None
unfolding value_next
value_next-none room bytes e = ap (λ (n : ℕ). value_next n bytes) e

pub value_next-more : (room : ℕ) (bytes : List ℕ) → (room ≡ 0 → ⊥) → value_next room bytes ≡ value_in (type_next (room - 1)) (value_next (room - 1)) bytes
unfolding value_next
value_next-more zero bytes more = absurd (more refl)
value_next-more (suc room) bytes more =
    let k : suc room - 1 ≡ room = omega arith in
    ap (λ (n : ℕ). value_in (type_next n) (value_next n) bytes) (sym k)
