use Rattle.std.proofs.Common.{ℕ, List, ◌++◌, length, sym, ap, ◌∙◌, arith}
use Rattle.std.specs.Int.{w32, to_be_bytes}
use Rattle.type_mirror.specs.declared.value.Annotation.{out-Annotation}
use Rattle.type_mirror.specs.declared.value.NamedValue.{NamedValue}
use Rattle.wire_frames.specs.Outputs.{added}
use Rattle.wire_frames.specs.Spellings.{list_spelled, mirror_spelled, value_spelled, named_spelled}
use Rattle.wire_frames.proofs.Added.{added-nil, added_next, same_bytes, more_bytes}
use Rattle.wire_frames.proofs.Parts.{value_spelled-zero, value_spelled-Truth, value_spelled-Whole, value_spelled-Character, value_spelled-Text, value_spelled-Class, value_spelled-Constant, value_spelled-Array, value_spelled-Nested, value_spelled-Other, value_spelled-Floating, named_spelled-is, annotation_spelled-is}
use Rattle.wire_frames.proofs.form_writing.+put_value.Goals as goal

pub put_value-returns-then-room-eq0 : goal.put_value-returns-then-room-eq0
put_value-returns-then-room-eq0 t c = sym (ap (added c.args.output.now) (ap (λ (n : ℕ). value_spelled n c.args.value.now) c.if-room-eq0.true ∙ value_spelled-zero c.args.value.now) ∙ added-nil c.args.output.now)

pub put_value-returns-in-Truth : goal.put_value-returns-in-Truth
put_value-returns-in-Truth t c = same_bytes _ _ _ _ _ c.put_truth.ensures (rw c.in-Truth.is (value_spelled-Truth _ _ (omega (arith, c.if-room-eq0.false))))

pub put_value-returns-in-Whole : goal.put_value-returns-in-Whole
put_value-returns-in-Whole t c = same_bytes _ _ _ _ _ c.put_whole.ensures (rw c.in-Whole.is (value_spelled-Whole _ _ _ (omega (arith, c.if-room-eq0.false))))

pub put_value-returns-in-Character : goal.put_value-returns-in-Character
put_value-returns-in-Character t c = same_bytes _ _ _ _ _ c.put_character.ensures (rw c.in-Character.is (value_spelled-Character _ _ (omega (arith, c.if-room-eq0.false))))

pub put_value-returns-in-Text : goal.put_value-returns-in-Text
put_value-returns-in-Text t c = same_bytes _ _ _ _ _ c.put_tagged_text.ensures (rw c.in-Text.is (value_spelled-Text _ _ (omega (arith, c.if-room-eq0.false))))

pub put_value-returns-in-Class : goal.put_value-returns-in-Class
put_value-returns-in-Class t c = same_bytes _ _ _ _ _ c.put_tagged_mirror.ensures (rw c.in-Class.is (value_spelled-Class _ _ (omega (arith, c.if-room-eq0.false))))

pub put_value-returns-in-Constant : goal.put_value-returns-in-Constant
put_value-returns-in-Constant t c = same_bytes _ _ _ _ _ c.put_tagged_element.ensures (rw c.in-Constant.is (value_spelled-Constant _ _ (omega (arith, c.if-room-eq0.false))))

pub put_value-returns-in-Array : goal.put_value-returns-in-Array
put_value-returns-in-Array t c = same_bytes _ _ _ _ _ c.put_array.ensures (rw c.in-Array.is (value_spelled-Array _ _ (omega (arith, c.if-room-eq0.false))))

pub put_value-returns-in-Nested : goal.put_value-returns-in-Nested
put_value-returns-in-Nested t c = same_bytes _ _ _ _ _ c.put_nested.ensures (rw c.in-Nested.is (value_spelled-Nested _ _ (omega (arith, c.if-room-eq0.false))))

pub put_value-returns-in-Other : goal.put_value-returns-in-Other
put_value-returns-in-Other t c = same_bytes _ _ _ _ _ c.put_tagged_text-in-Other.ensures (rw c.in-Other.is (value_spelled-Other _ _ (omega (arith, c.if-room-eq0.false))))

pub put_value-returns-in-Floating : goal.put_value-returns-in-Floating
put_value-returns-in-Floating t c = same_bytes _ _ _ _ _ c.put_tagged_text-in-Floating.ensures (rw c.in-Floating.is (value_spelled-Floating _ _ (omega (arith, c.if-room-eq0.false))))

pub put_values-loop-each-preserved : goal.put_values-loop-each-preserved
put_values-loop-each-preserved t c = added_next (value_spelled c.args.room) _ _ _ (to_be_bytes w32 (length c.args.items.now)) _ _ c.each-item.result c.each-item.result c.loop-each-test.true c.each-item.is c.loop-each.invariant c.in_ok-put_value.ensures

pub put_named-loop-each-preserved : goal.put_named-loop-each-preserved
put_named-loop-each-preserved t c = added_next (named_spelled c.args.room) _ _ _ (to_be_bytes w32 (length c.args.values.now)) _ _ c.each-item.result c.each-item.result c.loop-each-test.true c.each-item.is c.loop-each.invariant c.in_ok-put_named_value.ensures

pub put_named_value-returns : goal.put_named_value-returns
put_named_value-returns t c = same_bytes _ _ _ _ _ (more_bytes _ _ _ _ _ _ c.put_value.ensures c.in_ok-text.ensures) (named_spelled-is c.args.room c.args.named.now)

pub put_annotation-returns : goal.put_annotation-returns
put_annotation-returns t c = same_bytes _ _ _ _ _ (more_bytes _ _ _ _ _ _ c.put_named.ensures c.in_ok-put_mirror.ensures)
    (annotation_spelled-is c.args.room c.args.annotation.now ∙ ap (λ (v : List NamedValue). mirror_spelled c.args.room (out-Annotation c.args.annotation.now).annotation_type ++ list_spelled (named_spelled c.args.room) v) (sym c.as_slice.ensures))
