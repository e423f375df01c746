use Rattle.std.proofs.Common.{◌≡◌, ℕ, ◌-◌, min, List, ◌++◌, length, take, sym, ap, ◌∙◌, arith}
use Rattle.std.specs.List.{flat_map}
use Rattle.std.specs.Int.{w32, to_be_bytes}
use Rattle.apt_base.specs.declared.around.Around.{Around}
use Rattle.type_mirror.specs.declared.mirror.Mirror.{out-Mirror}
use Rattle.wire_frames.specs.Outputs.{added}
use Rattle.wire_frames.specs.Spellings.{around_spelled, mirror_spelled, base_spelled}
use Rattle.wire_frames.proofs.Added.{added-nil, added_next, same_bytes, more_bytes}
use Rattle.wire_frames.proofs.Parts.{mirror_spelled-room, base_spelled-zero, base_spelled-Primitive, base_spelled-Declared, base_spelled-Error, base_spelled-Variable, base_spelled-Wildcard, base_spelled-Executable, base_spelled-Nothing, base_spelled-Void, base_spelled-Null, base_spelled-Package}
use Rattle.wire_frames.proofs.form_writing.+put_mirror.Goals as goal

pub put_mirror-returns : goal.put_mirror-returns
put_mirror-returns t c =
    let m = out-Mirror c.args.mirror.now in
    let count = c.min-count.result in
    let short : count ≡ min (length m.around) c.args.room = c.min-count.ensures ∙ ap (λ (all : List Around). min (length all) c.args.room) c.as_slice-around.ensures in
    same_bytes _ _ _ _ _ (more_bytes _ _ _ _ _ _ c.put_base.ensures c.in_ok-put_arounds.ensures)
    (mirror_spelled-room c.args.room count c.args.mirror.now short ∙ ap (λ (all : List Around). flat_map around_spelled (take count all) ++ base_spelled (c.args.room - count) m.base) (sym c.as_slice-around.ensures))

pub put_mirrors-loop-each-preserved : goal.put_mirrors-loop-each-preserved
put_mirrors-loop-each-preserved t c = added_next (mirror_spelled c.args.room) _ _ _ (to_be_bytes w32 (length c.args.mirrors.now)) _ _ c.each-item.result c.each-item.result c.loop-each-test.true c.each-item.is c.loop-each.invariant c.in_ok-put_mirror.ensures

pub put_base-returns-then-room-eq0 : goal.put_base-returns-then-room-eq0
put_base-returns-then-room-eq0 t c = sym (ap (added c.args.output.now) (ap (λ (n : ℕ). base_spelled n c.args.base.now) c.if-room-eq0.true ∙ base_spelled-zero c.args.base.now) ∙ added-nil c.args.output.now)

pub put_base-returns-in-Primitive : goal.put_base-returns-in-Primitive
put_base-returns-in-Primitive t c = same_bytes _ _ _ _ _ c.put_primitive.ensures (rw c.in-Primitive.is (base_spelled-Primitive _ _ (omega (arith, c.if-room-eq0.false))))

pub put_base-returns-in-Declared : goal.put_base-returns-in-Declared
put_base-returns-in-Declared t c = same_bytes _ _ _ _ _ c.put_declared.ensures (rw c.in-Declared.is (base_spelled-Declared _ _ (omega (arith, c.if-room-eq0.false))))

pub put_base-returns-in-Error : goal.put_base-returns-in-Error
put_base-returns-in-Error t c = same_bytes _ _ _ _ _ c.put_tagged_text.ensures (rw c.in-Error.is (base_spelled-Error _ _ (omega (arith, c.if-room-eq0.false))))

pub put_base-returns-in-Variable : goal.put_base-returns-in-Variable
put_base-returns-in-Variable t c = same_bytes _ _ _ _ _ c.put_tagged_element.ensures (rw c.in-Variable.is (base_spelled-Variable _ _ (omega (arith, c.if-room-eq0.false))))

pub put_base-returns-in-Wildcard : goal.put_base-returns-in-Wildcard
put_base-returns-in-Wildcard t c = same_bytes _ _ _ _ _ c.put_wildcard.ensures (rw c.in-Wildcard.is (base_spelled-Wildcard _ (omega (arith, c.if-room-eq0.false))))

pub put_base-returns-in-Executable : goal.put_base-returns-in-Executable
put_base-returns-in-Executable t c = same_bytes _ _ _ _ _ c.put_executable.ensures (rw c.in-Executable.is (base_spelled-Executable _ _ (omega (arith, c.if-room-eq0.false))))

pub put_base-returns-in-Nothing : goal.put_base-returns-in-Nothing
put_base-returns-in-Nothing t c = same_bytes _ _ _ _ _ c.u8.ensures (rw c.in-Nothing.is (base_spelled-Nothing _ (omega (arith, c.if-room-eq0.false))))

pub put_base-returns-in-Void : goal.put_base-returns-in-Void
put_base-returns-in-Void t c = same_bytes _ _ _ _ _ c.u8-in-Void.ensures (rw c.in-Void.is (base_spelled-Void _ (omega (arith, c.if-room-eq0.false))))

pub put_base-returns-in-Null : goal.put_base-returns-in-Null
put_base-returns-in-Null t c = same_bytes _ _ _ _ _ c.u8-in-Null.ensures (rw c.in-Null.is (base_spelled-Null _ (omega (arith, c.if-room-eq0.false))))

pub put_base-returns-in-Package : goal.put_base-returns-in-Package
put_base-returns-in-Package t c = same_bytes _ _ _ _ _ c.put_tagged_text-in-Package.ensures (rw c.in-Package.is (base_spelled-Package _ _ (omega (arith, c.if-room-eq0.false))))
