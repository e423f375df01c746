use Rattle.std.proofs.Common.{◌≡◌, ◌++◌, List, ℕ, codes, string_bytes, flat_map, sym, ap, ◌∙◌, append_assoc, append-nil}
use Rattle.apt_base.proofs.Written.{written}
use Rattle.decl_tree.specs.declared.type_text.NamedPart.{out-NamedPart}
use Rattle.decl_tree.specs.declared.type_text.TypeText.{out-TypeText}
use Rattle.type_resolve.specs.Spelling.{base_spelled, part_spelled, type_spelled, types_spelled, arguments_spelled, front_of, back_of}
use Rattle.type_resolve.proofs.SpellingLemmas.{part_spelled-is, type_spelled-is, joined-step, three_written}
use Rattle.type_resolve.proofs.spelling.+spelling.Goals as goal

pub add_part-returns-in-None : goal.add_part-returns-in-None
add_part-returns-in-None t c =
    let part = out-NamedPart c.args.part.now in
    let spelled : part_spelled c.args.part.now ≡ part.name = part_spelled-is c.args.part.now ∙ ap (λ a. part.name ++ arguments_spelled a) c.in-None.is ∙ append-nil part.name in
    c.in_ok-add.ensures ∙ ap (λ (b : List ℕ). string_bytes c.args.text.now ++ b) (c.as_str.ensures ∙ sym spelled)

pub add_part-returns-in_ok-add_types-in-Some : goal.add_part-returns-in_ok-add_types-in-Some
add_part-returns-in_ok-add_types-in-Some t c =
    let part = out-NamedPart c.args.part.now in
    let old = string_bytes c.args.text.now in
    let types = types_spelled c.in-Some.list in
    let three = string_bytes c.add_types.new.text in
    let front = three_written old part.name (codes "<") types (string_bytes c.add.new.text) (string_bytes c.add-in-Some.new.text) three
    (c.in_ok-add.ensures ∙ ap (λ (b : List ℕ). old ++ b) c.as_str.ensures) c.in_ok-add-in-Some.ensures (rw c.as_slice.ensures at c.in_ok-add_types-in-Some.ensures) in
    let whole : part_spelled c.args.part.now ≡ (part.name ++ (codes "<" ++ types)) ++ codes ">" =
    part_spelled-is c.args.part.now ∙ ap (λ a. part.name ++ arguments_spelled a) c.in-Some.is ∙ sym (append_assoc part.name (codes "<" ++ types) (codes ">")) in
    written c.add-in-Some-2.result old three (string_bytes c.add-in-Some-2.new.text) (part.name ++ (codes "<" ++ types)) (codes ">") (part_spelled c.args.part.now) front whole c.add-in-Some-2.ensures

pub add_type-returns : goal.add_type-returns
add_type-returns t c =
    let of = out-TypeText c.args.of.now in
    let old = string_bytes c.args.text.now in
    let fronts = flat_map front_of of.around in
    let base = base_spelled of.base in
    let backs = flat_map back_of of.around in
    let one : string_bytes c.add_fronts.new.text ≡ old ++ fronts = rw c.as_slice.ensures at c.in_ok-add_fronts.ensures in
    let two : string_bytes c.add_base.new.text ≡ old ++ (fronts ++ base) = c.in_ok-add_base.ensures ∙ ap (λ (b : List ℕ). b ++ base) one ∙ append_assoc old fronts base in
    written c.add_backs.result old (string_bytes c.add_base.new.text) (string_bytes c.add_backs.new.text) (fronts ++ base) backs (type_spelled c.args.of.now)
    two (type_spelled-is c.args.of.now ∙ sym (append_assoc fronts base backs)) (rw c.as_slice-2.ensures at c.add_backs.ensures)

pub add_parts-loop-each-preserved : goal.add_parts-loop-each-preserved
add_parts-loop-each-preserved t c =
    joined-step part_spelled 46 c.args.parts.now c.loop-each.each-index c.each-item.result c.loop-each.is_first (string_bytes c.loop-each.text) (string_bytes c.add_separator.new.text)
    (string_bytes c.add_part.new.text) c.loop-each-test.true c.each-item.is c.in_ok-add_separator.ensures c.in_ok-add_part.ensures
    ∙ c.loop-each.invariant

pub add_types-loop-each-preserved : goal.add_types-loop-each-preserved
add_types-loop-each-preserved t c =
    joined-step type_spelled 44 c.args.types.now c.loop-each.each-index c.each-item.result c.loop-each.is_first (string_bytes c.loop-each.text) (string_bytes c.add_separator.new.text)
    (string_bytes c.add_type.new.text) c.loop-each-test.true c.each-item.is c.in_ok-add_separator.ensures c.in_ok-add_type.ensures
    ∙ c.loop-each.invariant
