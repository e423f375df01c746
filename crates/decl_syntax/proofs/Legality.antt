-- What is legal, by equations: one for each variant.
use Rattle.std.proofs.Common.{◌≡◌, ℕ, suc, Bool, true, ◌&&◌, List, length, ap, ◌∙◌}
use Rattle.std.specs.Prelude.{nat_le}
use Rattle.apt_base.specs.Forms.{is_name, all_fit}
use Rattle.decl_tree.specs.Legal.{part_fits, base_fits, inside_type, is_legal_type, is_plain, plain_fits, value_fits, is_legal_value, is_legal_annotation, is_legal_field, is_legal_method, is_legal_constructor, is_legal_constant, member_fits}
use Rattle.decl_tree.specs.declared.type_text.PrimitiveKind.{PrimitiveKind}
use Rattle.apt_base.specs.declared.around.Around.{Around}
use Rattle.decl_tree.specs.declared.type_text.BaseType.{BaseType, out-BaseType}
use Rattle.decl_tree.specs.declared.type_text.BaseType.TheVariants as base
use Rattle.decl_tree.specs.declared.type_text.TypeText.{TypeText, roll-TypeText, out-roll-TypeText}
use Rattle.decl_tree.specs.declared.type_text.NamedPart.{NamedPart}
use Rattle.decl_tree.specs.declared.annotation.ValueText.{ValueText}
use Rattle.decl_tree.specs.declared.annotation.ValueText.TheVariants as value
use Rattle.decl_tree.specs.declared.annotation.AnnotationText.{AnnotationText}
use Rattle.decl_tree.specs.declared.member.FieldDecl.{FieldDecl}
use Rattle.decl_tree.specs.declared.member.MethodDecl.{MethodDecl}
use Rattle.decl_tree.specs.declared.member.ConstructorDecl.{ConstructorDecl}
use Rattle.decl_tree.specs.declared.member.ConstantDecl.{ConstantDecl}
use Rattle.decl_tree.specs.declared.declaration.TypeDecl.{TypeDecl}
use Rattle.decl_tree.specs.declared.declaration.Member.{out-Member}
use Rattle.decl_tree.specs.declared.declaration.Member.TheVariants as member

-- of what stands around the base nothing is asked
pub is_legal_type-at : (room : ℕ) (around : List Around) (of : BaseType) → is_legal_type room (roll-TypeText (record { around = around; base = of })) ≡ base_fits (inside_type room) (out-BaseType of)
unfolding is_legal_type
is_legal_type-at room around of = ap (λ t. base_fits (inside_type room) (out-BaseType t.base)) (out-roll-TypeText (record { around = around; base = of }))
