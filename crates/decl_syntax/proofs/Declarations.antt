-- The readers of declarations and of units read their spellings.
use Rattle.std.proofs.Common.{◌≡◌, ℕ, zero, suc, ◌-◌, arith, Bool, true, ◌&&◌, List, [], ◌∷◌, ◌++◌, Some, None, refl, sym, ap, subst, ◌∙◌}
use Rattle.apt_base.specs.Fields.{text_next}
use Rattle.apt_base.specs.Forms.{Reader, name_form, u16_form, list_form, opt_form, is_name, all_fit, fits_if_some, none_next, ◌>>◌, mapped, tagged, opt_next, list_next}
use Rattle.decl_syntax.specs.Numbers.{kind_number, kind_of, import_number, import_of}
use Rattle.decl_syntax.specs.Shape.{type_form, annotation_form, type_param_form, field_form, method_form, constructor_form, constant_form, head_form, member_step, declaration_step, member_form, declaration_form, import_form, body_form, unit_form}
use Rattle.decl_tree.specs.Legal.{is_modifiers, is_legal_type, is_legal_annotation, is_legal_type_param, is_canonical, member_fits, declaration_fits, inside_declaration, is_legal_declaration, is_legal_import, is_legal_body, is_legal}
use Rattle.decl_syntax.specs.Reading.{annotation_next, field_next, method_next, constructor_next, constant_next, ends_in_time, canonical_next, member_choice, member_in, type_heading_of, type_heading_next, head_of, head_next, members_start, declaration_of, declaration_is_small, declaration_in, inside_declaration_next, declaration_next, import_with, import_next, info_of, body_choice, body_next, front_of_unit_next, body_start, unit_of, unit_next}
use Rattle.decl_tree.specs.declared.member.FieldDecl.{FieldDecl}
use Rattle.decl_tree.specs.declared.member.MethodDecl.{MethodDecl}
use Rattle.decl_tree.specs.declared.member.ConstructorDecl.{ConstructorDecl}
use Rattle.decl_tree.specs.declared.member.ConstantDecl.{ConstantDecl}
use Rattle.decl_tree.specs.declared.declaration.Member.{Member, out-Member, roll-Member, roll-out-Member}
use Rattle.decl_tree.specs.declared.declaration.Member.TheVariants as member
use Rattle.decl_tree.specs.declared.declaration.Member.TheOpen.{Member-F}
use Rattle.decl_tree.specs.declared.declaration.Member.TheFolds.{fold-roll-Member, fold_out-TypeDecl}
use Rattle.decl_tree.specs.declared.declaration.TypeDecl.{TypeDecl}
use Rattle.decl_syntax.specs.declared.unit_reading.TypeHeading.{TypeHeading}
use Rattle.decl_syntax.specs.declared.unit_reading.TypeHead.{TypeHead}
use Rattle.decl_tree.specs.declared.compilation.Body.{Body}
use Rattle.decl_tree.specs.declared.compilation.Body.TheVariants.{Declared, Info}
use Rattle.decl_syntax.proofs.NumbersLemmas.{kind_back, kind_on, import_back, import_on}
use Rattle.decl_syntax.proofs.Types.{list_form-spelled, Reads-type_next}
use Rattle.decl_syntax.proofs.Values.{Reads-annotation_next}
use Rattle.decl_syntax.proofs.Members.{Reads-modifiers, Reads-type_param, Reads-field, Reads-method, Reads-constructor, Reads-constant}
use Rattle.apt_base.proofs.Readers.{Reads, Reads-none, Reads-then, Reads-numbered, Reads-text, Spells-none, Spells-or, variant, Reads-tagged, and_reads, opt_reads, list_reads, check_reads, map_reads, same_reads}
use Rattle.apt_base.specs.Limits.{max_depth}

-- ---- equations

pub member_form-Field : (field : FieldDecl) → member_form (member.Field field) ≡ 0 ∷ field_form field
unfolding member_form declaration_form
member_form-Field field = ap member_form (sym (member.rolls-Field field)) ∙ fold-roll-Member (List ℕ) (List ℕ) member_step declaration_step (Member-F.Field field)

pub member_form-Method : (method : MethodDecl) → member_form (member.Method method) ≡ 1 ∷ method_form method
unfolding member_form declaration_form
member_form-Method method = ap member_form (sym (member.rolls-Method method)) ∙ fold-roll-Member (List ℕ) (List ℕ) member_step declaration_step (Member-F.Method method)

pub member_form-Constructor : (constructor : ConstructorDecl) → member_form (member.Constructor constructor) ≡ 2 ∷ constructor_form constructor
unfolding member_form declaration_form
member_form-Constructor constructor = ap member_form (sym (member.rolls-Constructor constructor)) ∙ fold-roll-Member (List ℕ) (List ℕ) member_step declaration_step (Member-F.Constructor constructor)

pub member_form-Constant : (constant : ConstantDecl) → member_form (member.Constant constant) ≡ 3 ∷ constant_form constant
unfolding member_form declaration_form
member_form-Constant constant = ap member_form (sym (member.rolls-Constant constant)) ∙ fold-roll-Member (List ℕ) (List ℕ) member_step declaration_step (Member-F.Constant constant)

pub member_form-Nested : (declaration : TypeDecl) → member_form (member.Nested declaration) ≡ 4 ∷ declaration_form declaration
unfolding member_form declaration_form
member_form-Nested declaration = ap member_form (sym (member.rolls-Nested declaration)) ∙ fold-roll-Member (List ℕ) (List ℕ) member_step declaration_step (Member-F.Nested declaration)

pub declaration_form-is : (d : TypeDecl) → declaration_form d ≡ head_form d ++ list_form member_form d.members
unfolding member_form declaration_form head_form
declaration_form-is d = fold_out-TypeDecl (List ℕ) (List ℕ) member_step declaration_step d ∙ ap (λ (t : List ℕ). head_form d ++ t) (list_form-spelled member_form d.members)

-- ---- cases

pub member_cases : (Q : Member → Type 0) → ((field : FieldDecl) → Q (member.Field field)) → ((method : MethodDecl) → Q (member.Method method)) → ((constructor : ConstructorDecl) → Q (member.Constructor constructor)) → ((constant : ConstantDecl) → Q (member.Constant constant)) → ((declaration : TypeDecl) → Q (member.Nested declaration)) → (m : Member) → Q m
member_cases Q field method constructor constant nested m =
    let M : Member-F Member TypeDecl → Type 0 = λ x. Q (roll-Member x) in
    let at : M (out-Member m) = elim (out-Member m) as M [
      | Member-F.Field x ↦ subst Q (sym (member.rolls-Field x)) (field x)
      | Member-F.Method x ↦ subst Q (sym (member.rolls-Method x)) (method x)
      | Member-F.Constructor x ↦ subst Q (sym (member.rolls-Constructor x)) (constructor x)
      | Member-F.Constant x ↦ subst Q (sym (member.rolls-Constant x)) (constant x)
      | Member-F.Nested x ↦ subst Q (sym (member.rolls-Nested x)) (nested x)
    ] in
    subst Q (roll-out-Member m) at

-- ---- readers

pub Reads-canonical : (start : ℕ) → Reads (canonical_next start) name_form (is_canonical start)
Reads-canonical start = check_reads (ends_in_time start) Reads-text

module _ (room : ℕ) (nested : Reader TypeDecl) (fits : TypeDecl → Bool) where
  abbrev test : Member → Bool
  test m = member_fits room fits (out-Member m)

  pub Reads-member : Reads nested declaration_form fits → Reads (member_in room nested) member_form test
  unfolding member_in
  Reads-member r =
      let choose = member_choice room nested in
      let of_field = variant choose member_form test 0 member.Field member_form-Field (λ x. ap (member_fits room fits) (member.outs-Field x)) (λ bytes. refl) (Reads-field room) in
      let of_method = variant choose member_form test 1 member.Method member_form-Method (λ x. ap (member_fits room fits) (member.outs-Method x)) (λ bytes. refl) (Reads-method room) in
      let of_constructor = variant choose member_form test 2 member.Constructor member_form-Constructor (λ x. ap (member_fits room fits) (member.outs-Constructor x)) (λ bytes. refl) (Reads-constructor room) in
      let of_constant = variant choose member_form test 3 member.Constant member_form-Constant (λ x. ap (member_fits room fits) (member.outs-Constant x)) (λ bytes. refl) (Reads-constant room) in
      let of_nested = variant choose member_form test 4 member.Nested member_form-Nested (λ x. ap (member_fits room fits) (member.outs-Nested x)) (λ bytes. refl) (r) in
      let Q : Member → Type 0 = λ m. (rest : List ℕ) → test m ≡ true → tagged choose (member_form m ++ rest) ≡ Some (m, rest) in
      Reads-tagged choose member_form test
      (member_cases Q of_field.again of_method.again of_constructor.again of_constant.again of_nested.again)
      (λ n. Spells-or member_form test n 0 (mapped member.Field (field_next room)) _ of_field.spelled
      (Spells-or member_form test n 1 (mapped member.Method (method_next room)) _ of_method.spelled
      (Spells-or member_form test n 2 (mapped member.Constructor (constructor_next room)) _ of_constructor.spelled
      (Spells-or member_form test n 3 (mapped member.Constant (constant_next room)) _ of_constant.spelled
      (Spells-or member_form test n 4 (mapped member.Nested (nested)) none_next of_nested.spelled
      (Spells-none member_form test n))))))

-- the parts of a declaration
abbrev head_in : TypeDecl → TypeHead
head_in d = record {
  heading = record { kind = d.kind; name = d.name; modifiers = d.modifiers; annotations = d.annotations; doc = d.doc };
  parameters = d.parameters;
  superclass = d.superclass;
  interfaces = d.interfaces;
}

abbrev type_heading_form : TypeHeading → List ℕ
type_heading_form h = (kind_number h.kind ∷ []) ++ name_form h.name ++ u16_form h.modifiers ++ list_form annotation_form h.annotations ++ opt_form name_form h.doc

abbrev type_heading_fits : ℕ → ℕ → TypeHeading → Bool
type_heading_fits room start h = is_canonical start h.name && is_modifiers h.modifiers && all_fit (is_legal_annotation room) h.annotations && fits_if_some is_name h.doc

Reads-type_heading : (room start : ℕ) → Reads (type_heading_next room start) type_heading_form (type_heading_fits room start)
unfolding type_heading_next
Reads-type_heading room start =
    map_reads type_heading_of (λ h. ((((h.kind, h.name), h.modifiers), h.annotations), h.doc)) (λ h. refl) (λ x. refl)
    (and_reads (and_reads (and_reads (and_reads (Reads-numbered kind_of kind_number kind_back kind_on) (Reads-canonical start)) Reads-modifiers) (list_reads (Reads-annotation_next room))) (opt_reads Reads-text))

abbrev head_parts_form : TypeHead → List ℕ
head_parts_form h = type_heading_form h.heading ++ list_form type_param_form h.parameters ++ opt_form type_form h.superclass ++ list_form type_form h.interfaces

abbrev head_fits : ℕ → ℕ → TypeHead → Bool
head_fits room start h = type_heading_fits room start h.heading && all_fit (is_legal_type_param room) h.parameters && fits_if_some (is_legal_type room) h.superclass && all_fit (is_legal_type room) h.interfaces

Reads-head : (room start : ℕ) → Reads (head_next room start) head_parts_form (head_fits room start)
unfolding head_next
Reads-head room start =
    map_reads head_of (λ h. (((h.heading, h.parameters), h.superclass), h.interfaces)) (λ h. refl) (λ x. refl)
    (and_reads (and_reads (and_reads (Reads-type_heading room start) (list_reads (Reads-type_param room))) (opt_reads (Reads-type_next room))) (list_reads (Reads-type_next room)))

module _ (nested : ℕ → Reader TypeDecl) (fits : ℕ → TypeDecl → Bool) where
  pub Reads-declaration : (room start : ℕ) → ((at : ℕ) → Reads (nested at) declaration_form (fits at)) → Reads (declaration_in nested room start) declaration_form (declaration_fits fits room start)
  unfolding declaration_in head_form
  Reads-declaration room start r =
      let members : (h : TypeHead) → Reads (list_next (member_in room (nested (members_start start h)))) (list_form member_form) (all_fit (λ m. member_fits room (fits (members_start start h)) (out-Member m))) =
      λ h. list_reads (Reads-member room (nested (members_start start h)) (fits (members_start start h)) (r (members_start start h))) in
      let parts = Reads-then (head_next room start) head_parts_form (head_fits room start) (λ h. list_next (member_in room (nested (members_start start h)))) (list_form member_form)
      (λ h. all_fit (λ m. member_fits room (fits (members_start start h)) (out-Member m))) (Reads-head room start) members in
      same_reads declaration_form (declaration_fits fits room start) (λ d. sym (declaration_form-is d)) (λ d. refl)
      (check_reads declaration_is_small (map_reads declaration_of (λ d. (head_in d, d.members)) (λ d. refl) (λ x. refl) parts))

pub Reads-inside_declaration : (room start : ℕ) → Reads (inside_declaration_next room start) declaration_form (inside_declaration room start)
unfolding inside_declaration_next inside_declaration
Reads-inside_declaration zero start = Reads-none declaration_form
Reads-inside_declaration (suc room) start = Reads-declaration (inside_declaration_next room) (inside_declaration room) room start (Reads-inside_declaration room)

pub Reads-declaration_next : (room start : ℕ) → Reads (declaration_next room start) declaration_form (is_legal_declaration room start)
unfolding declaration_next is_legal_declaration
Reads-declaration_next room start = Reads-declaration (inside_declaration_next room) (inside_declaration room) room start (Reads-inside_declaration room)

-- ---- units

pub Reads-import : Reads import_next import_form is_legal_import
unfolding import_next import_form is_legal_import
Reads-import =
    same_reads import_form is_legal_import (λ i. refl) (λ i. refl)
    (map_reads import_with (λ i. (i.kind, i.name)) (λ i. refl) (λ x. refl) (and_reads (Reads-numbered import_of import_number import_back import_on) Reads-text))

pub Reads-body : (room start : ℕ) → Reads (body_next room start) body_form (is_legal_body room start)
unfolding body_next body_form is_legal_body
Reads-body room start =
    let choose = body_choice room start in
    let form = body_form in
    let test = is_legal_body room start in
    let declared = variant choose form test 0 Declared (λ d. refl) (λ d. refl) (λ bytes. refl) (Reads-declaration_next room start) in
    let info = variant choose form test 1 info_of (λ x. refl) (λ x. refl) (λ bytes. refl) (and_reads (list_reads (Reads-annotation_next room)) (opt_reads Reads-text)) in
    let again : (b : Body) (rest : List ℕ) → test b ≡ true → tagged choose (form b ++ rest) ≡ Some (b, rest) = λ b. elim b as (λ (v : Body). (rest : List ℕ) → test v ≡ true → tagged choose (form v ++ rest) ≡ Some (v, rest)) [
      | Declared d ↦ declared.again d
      | Info annotations doc ↦ info.again (annotations, doc)
    ] in
    Reads-tagged choose form test again
    (λ n. Spells-or form test n 0 (mapped Declared (declaration_next room start)) _ declared.spelled
    (Spells-or form test n 1 (mapped info_of (list_next (annotation_next room) >> opt_next text_next)) none_next info.spelled (Spells-none form test n)))

pub Reads-unit : Reads unit_next unit_form is_legal
unfolding unit_next unit_form is_legal front_of_unit_next
Reads-unit =
    let front = and_reads (and_reads (Reads-canonical 0) (list_reads Reads-import)) (list_reads Reads-text) in
    let parts = Reads-then front_of_unit_next (λ x. name_form x.0.0 ++ list_form import_form x.0.1 ++ list_form name_form x.1)
    (λ x. is_canonical 0 x.0.0 && all_fit is_legal_import x.0.1 && all_fit is_name x.1) (λ x. body_next max_depth (body_start x)) body_form (λ x. is_legal_body max_depth (body_start x)) front (λ x. Reads-body max_depth (body_start x)) in
    same_reads unit_form is_legal (λ u. refl) (λ u. refl)
    (map_reads unit_of (λ u. (((u.package, u.imports), u.siblings), u.body)) (λ u. refl) (λ x. refl) parts)

-- ---- how much may open

pub inside_declaration_next-none : (room start : ℕ) (bytes : List ℕ) → room ≡ 0 → inside_declaration_next room start bytes ≡ None
unfolding inside_declaration_next
inside_declaration_next-none room start bytes e = ap (λ (n : ℕ). inside_declaration_next n start bytes) e

pub inside_declaration_next-more : (room start : ℕ) (bytes : List ℕ) → (room ≡ 0 → ⊥) → inside_declaration_next room start bytes ≡ declaration_next (room - 1) start bytes
unfolding inside_declaration_next declaration_next
inside_declaration_next-more zero start bytes more = absurd (more refl)
inside_declaration_next-more (suc room) start bytes more =
    let k : suc room - 1 ≡ room = omega arith in
    ap (λ (n : ℕ). declaration_in (inside_declaration_next n) n start bytes) (sym k)
