use Rattle.std.proofs.Common.{[], ◌∷◌, ap, ◌∙◌}
use Rattle.apt_base.specs.Forms.{name_form, list_form}
use Rattle.apt_base.proofs.Written.{written}
use Rattle.decl_syntax.specs.Shape.{type_form, value_form, annotation_form, pair_form}
use Rattle.decl_tree.specs.declared.annotation.AnnotationText.{out-AnnotationText}
use Rattle.decl_syntax.proofs.Values.{value_form-Literal, value_form-Negated, value_form-Joined, value_form-Class, value_form-Chain, value_form-Array, value_form-Nested, value_form-Other, pair_form-is, annotation_form-is}
use Rattle.decl_syntax.proofs.annotation_writing.+annotation_writing.Goals as goal

pub annotation-returns : goal.annotation-returns
annotation-returns t c =
    let of = out-AnnotationText c.args.of.now in
    written c.pairs.result c.args.writer.now c.write_text.new.writer c.pairs.new.writer (name_form of.name) (list_form pair_form of.values) (annotation_form c.args.of.now)
    c.in_ok-write_text.ensures (annotation_form-is c.args.of.now) (rw c.as_slice.ensures at c.pairs.ensures)

pub pair-returns : goal.pair-returns
pair-returns t c =
    let of = c.args.of.now in
    written c.value.result c.args.writer.now c.write_text.new.writer c.value.new.writer (name_form of.name) (value_form of.value) (pair_form of)
    c.in_ok-write_text.ensures (pair_form-is of) c.value.ensures

pub value-returns-in_ok-u8-in-Literal : goal.value-returns-in_ok-u8-in-Literal
value-returns-in_ok-u8-in-Literal t c =
    let part = c.in-Literal.content in
    written c.write_text.result c.args.writer.now c.u8.new.self c.write_text.new.writer (0 ∷ []) (name_form part) (value_form c.args.of.now)
    c.in_ok-u8-in-Literal.ensures.ok (ap value_form c.in-Literal.is ∙ value_form-Literal part) c.write_text.ensures

pub value-returns-in_ok-u8-in-Negated : goal.value-returns-in_ok-u8-in-Negated
value-returns-in_ok-u8-in-Negated t c =
    let part = c.in-Negated.content in
    written c.write_text-in-Negated.result c.args.writer.now c.u8-in-Negated.new.self c.write_text-in-Negated.new.writer (1 ∷ []) (name_form part) (value_form c.args.of.now)
    c.in_ok-u8-in-Negated.ensures.ok (ap value_form c.in-Negated.is ∙ value_form-Negated part) c.write_text-in-Negated.ensures

pub value-returns-in_ok-u8-in-Joined : goal.value-returns-in_ok-u8-in-Joined
value-returns-in_ok-u8-in-Joined t c =
    let part = c.in-Joined.items in
    written c.values.result c.args.writer.now c.u8-in-Joined.new.self c.values.new.writer (2 ∷ []) (list_form value_form part) (value_form c.args.of.now)
    c.in_ok-u8-in-Joined.ensures.ok (ap value_form c.in-Joined.is ∙ value_form-Joined part) (rw c.as_slice.ensures at c.values.ensures)

pub value-returns-in_ok-u8-in-Class : goal.value-returns-in_ok-u8-in-Class
value-returns-in_ok-u8-in-Class t c =
    let part = c.in-Class.of in
    written c.type_text.result c.args.writer.now c.u8-in-Class.new.self c.type_text.new.writer (3 ∷ []) (type_form part) (value_form c.args.of.now)
    c.in_ok-u8-in-Class.ensures.ok (ap value_form c.in-Class.is ∙ value_form-Class part) c.type_text.ensures

pub value-returns-in_ok-u8-in-Chain : goal.value-returns-in_ok-u8-in-Chain
value-returns-in_ok-u8-in-Chain t c =
    let part = c.in-Chain.content in
    written c.write_text-in-Chain.result c.args.writer.now c.u8-in-Chain.new.self c.write_text-in-Chain.new.writer (4 ∷ []) (name_form part) (value_form c.args.of.now)
    c.in_ok-u8-in-Chain.ensures.ok (ap value_form c.in-Chain.is ∙ value_form-Chain part) c.write_text-in-Chain.ensures

pub value-returns-in_ok-u8-in-Array : goal.value-returns-in_ok-u8-in-Array
value-returns-in_ok-u8-in-Array t c =
    let part = c.in-Array.items in
    written c.values-in-Array.result c.args.writer.now c.u8-in-Array.new.self c.values-in-Array.new.writer (5 ∷ []) (list_form value_form part) (value_form c.args.of.now)
    c.in_ok-u8-in-Array.ensures.ok (ap value_form c.in-Array.is ∙ value_form-Array part) (rw c.as_slice-in-Array.ensures at c.values-in-Array.ensures)

pub value-returns-in_ok-u8-in-Nested : goal.value-returns-in_ok-u8-in-Nested
value-returns-in_ok-u8-in-Nested t c =
    let part = c.in-Nested.inner in
    written c.annotation.result c.args.writer.now c.u8-in-Nested.new.self c.annotation.new.writer (6 ∷ []) (annotation_form part) (value_form c.args.of.now)
    c.in_ok-u8-in-Nested.ensures.ok (ap value_form c.in-Nested.is ∙ value_form-Nested part) c.annotation.ensures

pub value-returns-in_ok-u8-in-Other : goal.value-returns-in_ok-u8-in-Other
value-returns-in_ok-u8-in-Other t c =
    let part = c.in-Other.content in
    written c.write_text-in-Other.result c.args.writer.now c.u8-in-Other.new.self c.write_text-in-Other.new.writer (7 ∷ []) (name_form part) (value_form c.args.of.now)
    c.in_ok-u8-in-Other.ensures.ok (ap value_form c.in-Other.is ∙ value_form-Other part) c.write_text-in-Other.ensures
