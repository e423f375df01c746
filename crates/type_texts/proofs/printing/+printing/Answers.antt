use Rattle.std.proofs.Common.{◌≡◌, ◌++◌, List, ℕ, codes, map, option_map, string_bytes, flat_map, sym, ap, ◌∙◌, append_assoc}
use Rattle.apt_base.proofs.Written.{written}
use Rattle.type_mirror.specs.declared.mirror.Mirror.{out-Mirror}
use Rattle.type_mirror.specs.declared.mirror.DeclaredMirror.{out-DeclaredMirror}
use Rattle.type_mirror.specs.declared.mirror.ExecutableMirror.{out-ExecutableMirror}
use Rattle.type_texts.specs.Print.{text_of, class_text, arguments_text}
use Rattle.type_texts.specs.Spelling.{front_of, back_of, base_text, declared_text, executable_text, types_text}
use Rattle.type_texts.proofs.ListedTexts.{listed-step}
use Rattle.type_texts.proofs.TypeTexts.{text_of-is, declared_text-is, executable_text-is, bracketed}
use Rattle.type_texts.proofs.printing.+printing.Goals as goal

pub add_type-returns : goal.add_type-returns
add_type-returns t c =
    let of = out-Mirror c.args.of.now in
    let old = string_bytes c.args.text.now in
    let fronts = flat_map front_of of.around in
    let base = base_text c.args.table.now of.base in
    let backs = flat_map back_of of.around in
    let one : string_bytes c.add_fronts.new.text ≡ old ++ fronts = rw c.as_slice.ensures at c.in_ok-add_fronts.ensures in
    let two : string_bytes c.add_base.new.text ≡ old ++ (fronts ++ base) = c.in_ok-add_base.ensures ∙ ap (λ (b : List ℕ). b ++ base) one ∙ append_assoc old fronts base in
    written c.add_backs.result old (string_bytes c.add_base.new.text) (string_bytes c.add_backs.new.text) (fronts ++ base) backs (text_of c.args.table.now c.args.of.now)
    two (text_of-is c.args.table.now c.args.of.now ∙ sym (append_assoc fronts base backs)) (rw c.as_slice-2.ensures at c.add_backs.ensures)

pub add_types-loop-each-preserved : goal.add_types-loop-each-preserved
add_types-loop-each-preserved t c =
    listed-step (text_of c.args.table.now) c.args.types.now c.loop-each.each-index c.each-item.result c.loop-each.is_first (string_bytes c.loop-each.text) (string_bytes c.add_comma.new.text)
    (string_bytes c.add_type.new.text) c.loop-each-test.true c.each-item.is c.in_ok-add_comma.ensures c.in_ok-add_type.ensures
    ∙ c.loop-each.invariant

pub add_declared-returns : goal.add_declared-returns
add_declared-returns t c =
    let table = c.args.table.now in
    let of = out-DeclaredMirror c.args.of.now in
    let old = string_bytes c.args.text.now in
    let name = class_text table of.element (option_map (text_of table) of.enclosing) in
    let arguments = arguments_text (map (text_of table) of.arguments) in
    written c.add_arguments.result old (string_bytes c.add_class.new.text) (string_bytes c.add_arguments.new.text) name arguments (declared_text table c.args.of.now)
    c.in_ok-add_class.ensures (declared_text-is table c.args.of.now) (rw c.as_slice.ensures at c.add_arguments.ensures)

pub add_executable-returns : goal.add_executable-returns
add_executable-returns t c =
    let table = c.args.table.now in
    let of = out-ExecutableMirror c.args.of.now in
    let old = string_bytes c.args.text.now in
    let types = types_text table of.parameters in
    let outcome = text_of table of.result in
    let front = bracketed old types (string_bytes c.add.new.text) (string_bytes c.add_types.new.text) (string_bytes c.add-2.new.text)
    c.in_ok-add.ensures (rw c.as_slice.ensures at c.in_ok-add_types.ensures) c.in_ok-add-2.ensures in
    let whole : executable_text table c.args.of.now ≡ (codes "(" ++ (types ++ codes ")")) ++ outcome =
    executable_text-is table c.args.of.now ∙ ap (λ (b : List ℕ). codes "(" ++ b) (sym (append_assoc types (codes ")") outcome)) in
    written c.add_type.result old (string_bytes c.add-2.new.text) (string_bytes c.add_type.new.text) (codes "(" ++ (types ++ codes ")")) outcome (executable_text table c.args.of.now)
    front whole (rw c.get.ensures at c.add_type.ensures)
