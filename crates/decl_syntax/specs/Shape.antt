-- The one spelling of a unit in bytes: each form by cases, its fields in their order.
use Rattle.std.specs.Prelude.{ℕ, List, [], ◌∷◌, ◌++◌}
use Rattle.std.specs.List.{flat_map}
use Rattle.apt_base.specs.Fields.{bool_form}
use Rattle.apt_base.specs.Forms.{name_form, u16_form, list_form, opt_form}
use Rattle.decl_syntax.specs.Numbers.{primitive_number, kind_number, import_number}
use Rattle.apt_base.specs.declared.around.Around.{Around}
use Rattle.apt_base.specs.declared.around.Around.TheVariants as around
use Rattle.decl_tree.specs.declared.type_text.BaseType.{BaseType}
use Rattle.decl_tree.specs.declared.type_text.NamedPart.{NamedPart}
use Rattle.decl_tree.specs.declared.type_text.TypeText.{TypeText}
use Rattle.decl_tree.specs.declared.type_text.BaseType.TheOpen.{BaseType-F, NamedPart-F, TypeText-F}
use Rattle.decl_tree.specs.declared.type_text.BaseType.TheFolds.{fold-BaseType, fold-NamedPart, fold-TypeText}
use Rattle.decl_tree.specs.declared.annotation.ValueText.{ValueText}
use Rattle.decl_tree.specs.declared.annotation.AnnotationText.{AnnotationText}
use Rattle.decl_tree.specs.declared.annotation.ElementValuePair.{ElementValuePair}
use Rattle.decl_tree.specs.declared.annotation.ValueText.TheOpen.{ValueText-F, AnnotationText-F, ElementValuePair-F}
use Rattle.decl_tree.specs.declared.annotation.ValueText.TheFolds.{fold-ValueText, fold-AnnotationText, fold-ElementValuePair}
use Rattle.decl_tree.specs.declared.member.TypeParam.{TypeParam}
use Rattle.decl_tree.specs.declared.member.Param.{Param}
use Rattle.decl_tree.specs.declared.member.FieldDecl.{FieldDecl}
use Rattle.decl_tree.specs.declared.member.MethodDecl.{MethodDecl}
use Rattle.decl_tree.specs.declared.member.ConstructorDecl.{ConstructorDecl}
use Rattle.decl_tree.specs.declared.member.ConstantDecl.{ConstantDecl}
use Rattle.decl_tree.specs.declared.declaration.Member.{Member}
use Rattle.decl_tree.specs.declared.declaration.TypeDecl.{TypeDecl}
use Rattle.decl_tree.specs.declared.declaration.Member.TheOpen.{Member-F, TypeDecl-F}
use Rattle.decl_tree.specs.declared.declaration.Member.TheFolds.{fold-Member, fold-TypeDecl}
use Rattle.decl_tree.specs.declared.compilation.Import.{Import}
use Rattle.decl_tree.specs.declared.compilation.Body.{Body}
use Rattle.decl_tree.specs.declared.compilation.Body.TheVariants.{Declared, Info}
use Rattle.decl_tree.specs.declared.compilation.UnitText.{UnitText}

-- a part that is spelled already
abbrev pub spelled : List ℕ → List ℕ
spelled bytes = bytes

-- ---- types

-- `[]`, `? extends` and `? super`
abbrev pub around_form : Around → List ℕ
around_form around.Array = 2 ∷ []
around_form around.Extends = 3 ∷ 1 ∷ 1 ∷ []
around_form around.Super = 3 ∷ 2 ∷ 1 ∷ []

abbrev pub base_step : BaseType-F (List ℕ) (List ℕ) (List ℕ) → List ℕ
base_step (BaseType-F.Primitive kind) = 0 ∷ primitive_number kind ∷ []
base_step (BaseType-F.Named parts) = 1 ∷ list_form spelled parts
base_step BaseType-F.Wildcard = 3 ∷ 0 ∷ 0 ∷ []

abbrev pub part_step : NamedPart-F (List ℕ) (List ℕ) (List ℕ) → List ℕ
part_step part = name_form part.name ++ opt_form (list_form spelled) part.arguments

-- what stands around the base, from the outside in, and the base
abbrev pub type_step : TypeText-F (List ℕ) (List ℕ) (List ℕ) → List ℕ
type_step text = flat_map around_form text.around ++ text.base

unfoldable pub base_form : BaseType → List ℕ
base_form = fold-BaseType (List ℕ) (List ℕ) (List ℕ) base_step part_step type_step

unfoldable pub part_form : NamedPart → List ℕ
part_form = fold-NamedPart (List ℕ) (List ℕ) (List ℕ) base_step part_step type_step

unfoldable pub type_form : TypeText → List ℕ
type_form = fold-TypeText (List ℕ) (List ℕ) (List ℕ) base_step part_step type_step

-- ---- values and annotations

abbrev pub value_step : ValueText-F (List ℕ) (List ℕ) (List ℕ) → List ℕ
value_step (ValueText-F.Literal text) = 0 ∷ name_form text
value_step (ValueText-F.Negated text) = 1 ∷ name_form text
value_step (ValueText-F.Joined items) = 2 ∷ list_form spelled items
value_step (ValueText-F.Class of) = 3 ∷ type_form of
value_step (ValueText-F.Chain text) = 4 ∷ name_form text
value_step (ValueText-F.Array items) = 5 ∷ list_form spelled items
value_step (ValueText-F.Nested annotation) = 6 ∷ annotation
value_step (ValueText-F.Other text) = 7 ∷ name_form text

abbrev pub annotation_step : AnnotationText-F (List ℕ) (List ℕ) (List ℕ) → List ℕ
annotation_step annotation = name_form annotation.name ++ list_form spelled annotation.values

abbrev pub pair_step : ElementValuePair-F (List ℕ) (List ℕ) (List ℕ) → List ℕ
pair_step pair = name_form pair.name ++ pair.value

unfoldable pub value_form : ValueText → List ℕ
value_form = fold-ValueText (List ℕ) (List ℕ) (List ℕ) value_step annotation_step pair_step

unfoldable pub annotation_form : AnnotationText → List ℕ
annotation_form = fold-AnnotationText (List ℕ) (List ℕ) (List ℕ) value_step annotation_step pair_step

unfoldable pub pair_form : ElementValuePair → List ℕ
pair_form = fold-ElementValuePair (List ℕ) (List ℕ) (List ℕ) value_step annotation_step pair_step

-- ---- members

unfoldable pub type_param_form : TypeParam → List ℕ
type_param_form p = name_form p.name ++ list_form annotation_form p.annotations ++ list_form type_form p.bounds

unfoldable pub param_form : Param → List ℕ
param_form p = name_form p.name ++ u16_form p.modifiers ++ list_form annotation_form p.annotations ++ type_form p.of

unfoldable pub field_form : FieldDecl → List ℕ
field_form f =
    name_form f.name ++ u16_form f.modifiers ++ list_form annotation_form f.annotations ++ opt_form name_form f.doc ++ type_form f.of
    ++ opt_form value_form f.constant

unfoldable pub method_form : MethodDecl → List ℕ
method_form m =
    name_form m.name ++ u16_form m.modifiers ++ list_form annotation_form m.annotations ++ opt_form name_form m.doc
    ++ list_form type_param_form m.parameters ++ type_form m.result ++ list_form param_form m.arguments ++ bool_form m.varargs
    ++ list_form type_form m.thrown ++ opt_form value_form m.default

unfoldable pub constructor_form : ConstructorDecl → List ℕ
constructor_form c =
    u16_form c.modifiers ++ list_form annotation_form c.annotations ++ opt_form name_form c.doc ++ list_form type_param_form c.parameters
    ++ list_form param_form c.arguments ++ bool_form c.varargs ++ list_form type_form c.thrown

unfoldable pub constant_form : ConstantDecl → List ℕ
constant_form c = name_form c.name ++ list_form annotation_form c.annotations ++ opt_form name_form c.doc ++ bool_form c.body

-- ---- declarations

-- what stands before the members
unfoldable pub head_form : TypeDecl → List ℕ
head_form d =
    (kind_number d.kind ∷ []) ++ name_form d.name ++ u16_form d.modifiers ++ list_form annotation_form d.annotations
    ++ opt_form name_form d.doc ++ list_form type_param_form d.parameters ++ opt_form type_form d.superclass ++ list_form type_form d.interfaces

abbrev pub member_step : Member-F (List ℕ) (List ℕ) → List ℕ
member_step (Member-F.Field field) = 0 ∷ field_form field
member_step (Member-F.Method method) = 1 ∷ method_form method
member_step (Member-F.Constructor constructor) = 2 ∷ constructor_form constructor
member_step (Member-F.Constant constant) = 3 ∷ constant_form constant
member_step (Member-F.Nested declaration) = 4 ∷ declaration

abbrev pub declaration_step : TypeDecl-F (List ℕ) (List ℕ) → List ℕ
declaration_step d =
    (kind_number d.kind ∷ []) ++ name_form d.name ++ u16_form d.modifiers ++ list_form annotation_form d.annotations
    ++ opt_form name_form d.doc ++ list_form type_param_form d.parameters ++ opt_form type_form d.superclass
    ++ list_form type_form d.interfaces ++ list_form spelled d.members

unfoldable pub member_form : Member → List ℕ
member_form = fold-Member (List ℕ) (List ℕ) member_step declaration_step

unfoldable pub declaration_form : TypeDecl → List ℕ
declaration_form = fold-TypeDecl (List ℕ) (List ℕ) member_step declaration_step

-- ---- units

unfoldable pub import_form : Import → List ℕ
import_form i = (import_number i.kind ∷ []) ++ name_form i.name

unfoldable pub body_form : Body → List ℕ
body_form (Declared declaration) = 0 ∷ declaration_form declaration
body_form (Info annotations doc) = 1 ∷ (list_form annotation_form annotations ++ opt_form name_form doc)

unfoldable pub unit_form : UnitText → List ℕ
unit_form u = name_form u.package ++ list_form import_form u.imports ++ list_form name_form u.siblings ++ body_form u.body
