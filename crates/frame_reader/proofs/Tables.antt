-- The tables of nodes are those of the forms.
use Rattle.std.proofs.Common.{◌≡◌, ℕ, zero, suc, Bool, true, false, eqb, cond, List, [], ◌∷◌, map, slice_get, Option, Some, None, refl, sym, ap, subst}
use Rattle.std.specs.Prelude.{option_map}
use Rattle.std.specs.Option.{option_or}
use Rattle.frame_forms.specs.Forms.{Code, Form}
use Rattle.frame_forms.specs.Forms.{primitive, declared, error, variable, array, wildcard, executable, nothing_there, void, null, package_mirror, unbounded, upper, lower, truth_value, whole_value, character, text_value, class_value, constant, array_value, nested, other, floating}
use Rattle.frame_forms.specs.Forms.{question_frame}
use Rattle.frame_forms.specs.declared.question_row.QuestionRow.{QuestionRow}
use Rattle.frame_forms.specs.declared.question_row.QuestionRow.TheVariants as rows
use Rattle.frame_forms.specs.QuestionTable.{question_at}
use Rattle.frame_forms.specs.FrameTable.{Row, table, row_with, row_of, form_in, kind_in, kind_at, question_form, code_of, form_of}
use Rattle.frame_forms.specs.MirrorForms as mirrors
use Rattle.frame_reader.specs.declared.node.Node.{Node}
use Rattle.frame_reader.specs.Nodes.{fields_in, any_form, AreFields, Choices, chosen_by}
use Rattle.frame_reader.specs.Steps.{tag_choices, argument_nodes, tagged_choice, mirror_choices, value_choices, bound_choices}

-- row by row
abbrev SameTable : List Row → Choices → Type 0
SameTable [] [] = Unit {0}
SameTable [] (choice ∷ choices) = ⊥
SameTable (row ∷ rows) [] = ⊥
SameTable (row ∷ rows) (choice ∷ choices) = (row.tag ≡ choice.0) × (fields_in row.form ≡ map any_form choice.1) × SameTable rows choices

same_table : SameTable table tag_choices
same_table = (refl, refl, (refl, refl, (refl, refl, (refl, refl, (refl, refl, (refl, refl, (refl, refl, (refl, refl, (refl, refl, (refl, refl, (refl, refl, (refl, refl, (refl, refl, (refl, refl, (refl, refl, (refl, refl, (refl, refl, (refl, refl, tt))))))))))))))))))

-- a row and its nodes, or neither
abbrev pub IsRow : Option Row → Option (List Node) → Type 0
IsRow None None = Unit {0}
IsRow None (Some fields) = ⊥
IsRow (Some row) None = ⊥
IsRow (Some row) (Some fields) = AreFields row.form fields

row_is : (rows : List Row) (choices : Choices) → SameTable rows choices → (tag : ℕ) → IsRow (row_with tag rows) (chosen_by choices tag)
unfolding chosen_by
row_is [] [] same tag = tt
row_is [] (choice ∷ choices) same tag = absurd same
row_is (row ∷ rows) [] same tag = absurd same
row_is (row ∷ rows) (choice ∷ choices) same tag = go (eqb row.tag tag) (eqb choice.0 tag) (ap (λ (n : ℕ). eqb n tag) same.0) (row_is rows choices same.2 tag)
  where
    go : (a b : Bool) → a ≡ b → IsRow (row_with tag rows) (chosen_by choices tag) → IsRow (cond a (Some row) (row_with tag rows)) (cond b (Some choice.1) (chosen_by choices tag))
    go true true e others = same.1
    go true false e others = absurd (cc)
    go false true e others = absurd (cc)
    go false false e others = others

pub tag_row : (tag : ℕ) → IsRow (row_of tag) (chosen_by tag_choices tag)
tag_row tag = row_is table tag_choices same_table tag

-- ---- things in order

module _ {A : Type 0} (of : A → Code) (form : (x : A) → Form (of x)) where
  abbrev SameForms : List A → List (List Node) → Type 0
  SameForms [] [] = Unit {0}
  SameForms [] (fields ∷ choices) = ⊥
  SameForms (x ∷ xs) [] = ⊥
  SameForms (x ∷ xs) (fields ∷ choices) = (fields_in (form x) ≡ map any_form fields) × SameForms xs choices

  -- a thing and its nodes, or neither
  abbrev pub IsChoice : Option A → Option (List Node) → Type 0
  IsChoice None None = Unit {0}
  IsChoice None (Some fields) = ⊥
  IsChoice (Some x) None = ⊥
  IsChoice (Some x) (Some fields) = AreFields (form x) fields

  choice_is : (xs : List A) (choices : List (List Node)) → SameForms xs choices → (n : ℕ) → IsChoice (slice_get xs n) (slice_get choices n)
  choice_is [] [] same n = tt
  choice_is [] (fields ∷ choices) same n = absurd same
  choice_is (x ∷ xs) [] same n = absurd same
  choice_is (x ∷ xs) (fields ∷ choices) same zero = same.0
  choice_is (x ∷ xs) (fields ∷ choices) same (suc n) = choice_is xs choices same.1 n

-- ---- tags

-- the arguments of a question are those of its row's form
question_is : (row : QuestionRow) → AreFields (question_form row) (argument_nodes row)
question_is (rows.Name of) = refl
question_is (rows.Element of) = refl
question_is (rows.Mirror of) = refl
question_is (rows.Mirrors of) = refl
question_is rows.ValuesWithDefaults = refl
question_is rows.Overrides = refl
question_is rows.MemberType = refl
question_is rows.DeclaredType = refl
question_is rows.Roots = refl

tagged_cases : (tag : ℕ) (of : Option Row) (fields : Option (List Node)) (asked : Option QuestionRow) → row_of tag ≡ of → IsRow of fields
    → IsChoice code_of form_of (option_or (kind_in tag of) (option_map (λ row. question_frame row) asked)) (option_or fields (option_map argument_nodes asked))
tagged_cases tag None None None e is = tt
tagged_cases tag None None (Some row) e is = question_is row
tagged_cases tag None (Some fields) asked e is = absurd is
tagged_cases tag (Some of) None asked e is = absurd is
tagged_cases tag (Some of) (Some fields) asked e is = subst (λ (r : Option Row). AreFields (form_in r) fields) (sym e) is

pub tagged_is : (tag : ℕ) → IsChoice code_of form_of (kind_at tag) (tagged_choice tag)
tagged_is tag = tagged_cases tag (row_of tag) (chosen_by tag_choices tag) (question_at tag) refl (tag_row tag)

pub mirror_choice : (byte : ℕ) → IsChoice mirrors.mirror_fields mirrors.mirror_form (mirrors.mirror_variants.at byte) (slice_get mirror_choices byte)
mirror_choice byte = choice_is mirrors.mirror_fields mirrors.mirror_form (primitive ∷ declared ∷ error ∷ variable ∷ array ∷ wildcard ∷ executable ∷ nothing_there ∷ void ∷ null ∷ package_mirror ∷ []) mirror_choices (refl, (refl, (refl, (refl, (refl, (refl, (refl, (refl, (refl, (refl, (refl, tt))))))))))) byte

pub value_choice : (byte : ℕ) → IsChoice mirrors.value_fields mirrors.value_form (mirrors.value_variants.at byte) (slice_get value_choices byte)
value_choice byte = choice_is mirrors.value_fields mirrors.value_form (truth_value ∷ whole_value ∷ character ∷ text_value ∷ class_value ∷ constant ∷ array_value ∷ nested ∷ other ∷ floating ∷ []) value_choices (refl, (refl, (refl, (refl, (refl, (refl, (refl, (refl, (refl, (refl, tt)))))))))) byte

pub bound_choice : (byte : ℕ) → IsChoice mirrors.bound_fields mirrors.bound_form (mirrors.bounds.at byte) (slice_get bound_choices byte)
bound_choice byte = choice_is mirrors.bound_fields mirrors.bound_form (unbounded ∷ upper ∷ lower ∷ []) bound_choices (refl, (refl, (refl, tt))) byte
