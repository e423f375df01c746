use Rattle.std.proofs.Common.{sym, subst, Option, List, ℕ}
use Rattle.std.proofs.lemmas.Result.{err_from_is_err_and}
use Rattle.apt_base.specs.Forms.{items_next}
use Rattle.decl_syntax.specs.Reading.{member_in, inside_declaration_next}
use Rattle.apt_base.proofs.Counted.{goes_on, list_ends, list_is_done}
use Rattle.apt_base.specs.Readings.{Gives}
use Rattle.decl_tree.specs.declared.declaration.TypeDecl.{TypeDecl}
use Rattle.decl_syntax.proofs.Declarations.{inside_declaration_next-none, inside_declaration_next-more}
use Rattle.decl_syntax.proofs.unit_reading.+unit_reading.Goals as goal

pub members-returns-in_err-item : goal.members-returns-in_err-item
members-returns-in_err-item t c =
    let p = err_from_is_err_and c.from_residual-in_err-item.result c.from_residual-in_err-item.ensures.1 in
    rw (p.1, p.2) (list_ends (member_in c.args.room (inside_declaration_next c.args.room c.args.start)) c.in_err-item.field-0.0 c.loop.items c.in_ok-count.count c.loop.counter c.loop.reader c.args.reader.now c.read_count.new.reader c.member.new.reader
    c.in_ok-count.ensures c.loop-test.true c.in_err-item.ensures c.loop.invariant)

pub members-loop-preserved : goal.members-loop-preserved
members-loop-preserved t c =
    rw c.in_ok-push.ensures.ok (goes_on (member_in c.args.room (inside_declaration_next c.args.room c.args.start)) c.loop.items c.in_ok-count.count c.loop.counter c.loop.reader c.in_ok-item.item c.member.new.reader (items_next (member_in c.args.room (inside_declaration_next c.args.room c.args.start)) c.in_ok-count.count c.read_count.new.reader)
    c.loop-test.true c.in_ok-item.ensures c.loop.invariant)

pub members-returns : goal.members-returns
members-returns t c = list_is_done (member_in c.args.room (inside_declaration_next c.args.room c.args.start)) c.loop.items c.in_ok-count.count c.loop.counter c.loop.reader c.args.reader.now c.read_count.new.reader c.in_ok-count.ensures c.loop-test.false c.loop.invariant

pub nested-returns-then-room-eq0 : goal.nested-returns-then-room-eq0
nested-returns-then-room-eq0 t c = inside_declaration_next-none c.args.room c.args.start c.args.reader.now c.if-room-eq0.true

pub nested-returns : goal.nested-returns
nested-returns t c =
    subst (λ (read : Option (TypeDecl × List ℕ)). Gives c.declaration.result read c.declaration.new.reader) (sym (inside_declaration_next-more c.args.room c.args.start c.args.reader.now c.if-room-eq0.false)) c.declaration.ensures
