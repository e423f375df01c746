use Rattle.std.proofs.Common.{[], ◌∷◌, ap, ◌∙◌}
use Rattle.apt_base.specs.Forms.{list_form}
use Rattle.decl_syntax.specs.Shape.{head_form, field_form, method_form, constructor_form, constant_form, member_form, declaration_form}
use Rattle.decl_syntax.proofs.Declarations.{member_form-Field, member_form-Method, member_form-Constructor, member_form-Constant, member_form-Nested, declaration_form-is}
use Rattle.apt_base.proofs.Written.{written}
use Rattle.decl_syntax.proofs.unit_writing.+unit_writing.Goals as goal

pub member-returns-in_ok-u8-in-Field : goal.member-returns-in_ok-u8-in-Field
member-returns-in_ok-u8-in-Field t c =
    let inner = c.in-Field.inner in
    written c.field.result c.args.writer.now c.u8.new.self c.field.new.writer (0 ∷ []) (field_form inner) (member_form c.args.of.now)
    c.in_ok-u8-in-Field.ensures.ok (ap member_form c.in-Field.is ∙ member_form-Field inner) c.field.ensures

pub member-returns-in_ok-u8-in-Method : goal.member-returns-in_ok-u8-in-Method
member-returns-in_ok-u8-in-Method t c =
    let inner = c.in-Method.inner in
    written c.method.result c.args.writer.now c.u8-in-Method.new.self c.method.new.writer (1 ∷ []) (method_form inner) (member_form c.args.of.now)
    c.in_ok-u8-in-Method.ensures.ok (ap member_form c.in-Method.is ∙ member_form-Method inner) c.method.ensures

pub member-returns-in_ok-u8-in-Constructor : goal.member-returns-in_ok-u8-in-Constructor
member-returns-in_ok-u8-in-Constructor t c =
    let inner = c.in-Constructor.inner in
    written c.constructor.result c.args.writer.now c.u8-in-Constructor.new.self c.constructor.new.writer (2 ∷ []) (constructor_form inner) (member_form c.args.of.now)
    c.in_ok-u8-in-Constructor.ensures.ok (ap member_form c.in-Constructor.is ∙ member_form-Constructor inner) c.constructor.ensures

pub member-returns-in_ok-u8-in-Constant : goal.member-returns-in_ok-u8-in-Constant
member-returns-in_ok-u8-in-Constant t c =
    let inner = c.in-Constant.inner in
    written c.constant.result c.args.writer.now c.u8-in-Constant.new.self c.constant.new.writer (3 ∷ []) (constant_form inner) (member_form c.args.of.now)
    c.in_ok-u8-in-Constant.ensures.ok (ap member_form c.in-Constant.is ∙ member_form-Constant inner) c.constant.ensures

pub member-returns-in_ok-u8-in-Nested : goal.member-returns-in_ok-u8-in-Nested
member-returns-in_ok-u8-in-Nested t c =
    let inner = c.in-Nested.inner in
    written c.declaration.result c.args.writer.now c.u8-in-Nested.new.self c.declaration.new.writer (4 ∷ []) (declaration_form inner) (member_form c.args.of.now)
    c.in_ok-u8-in-Nested.ensures.ok (ap member_form c.in-Nested.is ∙ member_form-Nested inner) c.declaration.ensures

pub declaration-returns : goal.declaration-returns
declaration-returns t c =
    let of = c.args.of.now in
    written c.members.result c.args.writer.now c.head.new.writer c.members.new.writer (head_form of) (list_form member_form of.members) (declaration_form of)
    c.in_ok-head.ensures (declaration_form-is of) (rw c.as_slice.ensures at c.members.ensures)
