use Rattle.std.proofs.Common.{◌≡◌, ℕ, List, [], ◌∷◌, ◌++◌, Result, Ok, Err, refl, sym, ap, ◌∙◌}
use Rattle.std.specs.Prelude.{OnOk}
use Rattle.std.specs.List.{flat_map}
use Rattle.apt_base.specs.Forms.{name_form, list_form, opt_form}
use Rattle.apt_base.proofs.Written.{written}
use Rattle.decl_tree.specs.declared.type_text.TypeText.{out-TypeText}
use Rattle.decl_tree.specs.declared.type_text.NamedPart.{out-NamedPart}
use Rattle.decl_syntax.specs.Numbers.{primitive_number}
use Rattle.decl_syntax.specs.Shape.{around_form, base_form, part_form, type_form}
use Rattle.decl_syntax.proofs.Types.{base_form-Primitive, base_form-Named, base_form-Wildcard, part_form-is, type_form-is}
use Rattle.decl_syntax.proofs.type_writing.+type_writing.Goals as goal

wrote : {E : Type 0} (r : Result (Unit {0}) E) (old new form whole : List ℕ) → whole ≡ form → OnOk r (new ≡ old ++ form) → OnOk r (new ≡ old ++ whole)
wrote (Ok u) old new form whole same h = h ∙ ap (λ (t : List ℕ). old ++ t) (sym same)
wrote (Err e) old new form whole same h = tt

pub type_text-returns : goal.type_text-returns
type_text-returns t c =
    let of = out-TypeText c.args.of.now in
    written c.base.result c.args.writer.now c.all_around.new.writer c.base.new.writer (flat_map around_form of.around) (base_form of.base) (type_form c.args.of.now)
    (rw c.as_slice.ensures at c.in_ok-all_around.ensures) (type_form-is c.args.of.now) c.base.ensures

pub base-returns-in_ok-u8-in-Primitive : goal.base-returns-in_ok-u8-in-Primitive
base-returns-in_ok-u8-in-Primitive t c =
    let kind = c.in-Primitive.kind in
    written c.u8-in-Primitive.result c.args.writer.now c.u8.new.self c.u8-in-Primitive.new.self (0 ∷ []) (primitive_number kind ∷ []) (base_form c.args.of.now)
    c.in_ok-u8-in-Primitive.ensures.ok (ap base_form c.in-Primitive.is ∙ base_form-Primitive kind) (rw c.primitive.ensures at c.u8-in-Primitive.ensures.ok)

pub base-returns-in_ok-u8-in-Named : goal.base-returns-in_ok-u8-in-Named
base-returns-in_ok-u8-in-Named t c =
    let names = c.in-Named.names in
    written c.parts.result c.args.writer.now c.u8-in-Named.new.self c.parts.new.writer (1 ∷ []) (list_form part_form names) (base_form c.args.of.now)
    c.in_ok-u8-in-Named.ensures.ok (ap base_form c.in-Named.is ∙ base_form-Named names) (rw c.as_slice.ensures at c.parts.ensures)

pub base-returns-in-Wildcard : goal.base-returns-in-Wildcard
base-returns-in-Wildcard t c = wrote c.wildcard.result c.args.writer.now c.wildcard.new.writer (3 ∷ 0 ∷ 0 ∷ []) (base_form c.args.of.now) (ap base_form c.in-Wildcard.is ∙ base_form-Wildcard) c.wildcard.ensures

pub part-returns-in-None : goal.part-returns-in-None
part-returns-in-None t c =
    let part = out-NamedPart c.args.part.now in
    let absent : opt_form (list_form type_form) part.arguments ≡ 0 ∷ [] = ap (opt_form (list_form type_form)) c.in-None.is in
    written c.u8.result c.args.writer.now c.write_text.new.writer c.u8.new.self (name_form part.name) (0 ∷ []) (part_form c.args.part.now)
    c.in_ok-write_text.ensures (part_form-is c.args.part.now ∙ ap (λ (t : List ℕ). name_form part.name ++ t) absent) c.u8.ensures.ok

pub part-returns-in_ok-u8-in-Some : goal.part-returns-in_ok-u8-in-Some
part-returns-in_ok-u8-in-Some t c =
    let part = out-NamedPart c.args.part.now in
    let types = c.in-Some.arguments in
    let there : opt_form (list_form type_form) part.arguments ≡ 1 ∷ list_form type_form types = ap (opt_form (list_form type_form)) c.in-Some.is in
    let behind = written c.types.result c.write_text.new.writer c.u8-in-Some.new.self c.types.new.writer (1 ∷ []) (list_form type_form types) (1 ∷ list_form type_form types)
    c.in_ok-u8-in-Some.ensures.ok refl (rw c.as_slice.ensures at c.types.ensures) in
    written c.types.result c.args.writer.now c.write_text.new.writer c.types.new.writer (name_form part.name) (1 ∷ list_form type_form types) (part_form c.args.part.now)
    c.in_ok-write_text.ensures (part_form-is c.args.part.now ∙ ap (λ (t : List ℕ). name_form part.name ++ t) there) behind
