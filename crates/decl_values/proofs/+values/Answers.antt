use Rattle.std.proofs.Common.{ℕ, List, [], ◌∷◌, Some, refl, ◌∙◌, sym, ap, arith}
use Rattle.std.proofs.lemmas.Result.{err_from_is_err_and}
use Rattle.decl_grammar.specs.Reading.{starts}
use Rattle.decl_grammar.specs.Form.{type_arguments, created_arguments, array_value, nested_annotation, expression_part, nest}
use Rattle.decl_grammar.specs.Types.{silently, annotation, dim, next_part, next_argument}
use Rattle.decl_grammar.specs.Expressions.{next_created_part, value_there}
use Rattle.decl_grammar.proofs.Firsts.{annotation_first, annotation_full, dim_first, dim_full, next_part_first, next_part_full, next_argument_first, next_argument_full}
use Rattle.decl_grammar.proofs.Loop.{falls, gathers, goes_on, ends, gathered, stops, turned_fails}
use Rattle.decl_grammar.proofs.Nests.{some-is, none-fails, free-is, fewer}
use Rattle.decl_turns.specs.declared.states.Piece.TheVariants as piece
use Rattle.decl_turns.specs.States.{stands_of, part_at, leave_after, leave_first, rest_read, expression_read}
use Rattle.decl_values.specs.Ends.{array_rest, values_from, pairs_from}
use Rattle.decl_values.proofs.PartFirsts.{next_created_part_first, next_created_part_full}
use Rattle.decl_values.proofs.Measures.{rank-free}
use Rattle.decl_values.proofs.RowTurns.{part-goes, part-fails, nothing-fails, types-go, types-sink, two-part, compares-go, compares-fail, row-over, free-first, free-after, row-starts, row-turns, row-errs, row-stops, begun-given, begun-part-fails, none-begins}
use Rattle.decl_turns.proofs.FirstParts.{never-two, never-end}
use Rattle.decl_values.proofs.RowItems.{so-starts, so-ends, listed-read, listed-fails, listed-ends, paired-read, paired-fails, paired-ends}
use Rattle.decl_values.proofs.StepsSmaller.{listed-smaller, paired-smaller}
use Rattle.decl_names.proofs.Smaller.{one-smaller}
use Rattle.decl_values.proofs.ValueEnds.{array-read, array-fails, annotation-read, annotation-fails, expression-is, ended-left, ended-value, lone-read, lone-fails}
use Rattle.decl_values.proofs.+values.Goals as goal

-- ---- types

pub type_arguments::type_arguments_of-returns-then-room-gt0 : goal.type_arguments::type_arguments_of-returns-then-room-gt0
type_arguments::type_arguments_of-returns-then-room-gt0 t c = rw (some-is type_arguments refl c.args.room c.args.symbols.now c.if-room-gt0.true) c.arguments_in.ensures

pub type_arguments::type_arguments_of-returns : goal.type_arguments::type_arguments_of-returns
type_arguments::type_arguments_of-returns t c = none-fails type_arguments refl c.args.room c.args.symbols.now c.is_next.result c.shut.result c.if-room-gt0.false c.is_next.ensures c.shut.ensures

pub types::more_parts_of-returns-in_err-next : goal.types::more_parts_of-returns-in_err-next
types::more_parts_of-returns-in_err-next t c =
    let p = err_from_is_err_and c.from_residual-in_err-next.result c.from_residual-in_err-next.ensures.1 in
    rw (p.1, p.2) (ends c.args.room next_part _ _ _ _ next_part_full (ap (λ (ks : List ℕ). starts ks c.row.rest.now) next_part_first ∙ sym c.is_next.ensures ∙ c.row-test.true) c.in_err-next.ensures c.row.invariant)

pub types::more_parts_of-row-smaller : goal.types::more_parts_of-row-smaller
types::more_parts_of-row-smaller t c = falls c.args.room next_part _ _ _ next_part_full c.in_ok-next.ensures

pub types::more_parts_of-row-preserved : goal.types::more_parts_of-row-preserved
types::more_parts_of-row-preserved t c = rw c.in_ok-push.ensures.items (gathers c.args.room next_part _ _ _ _ _ next_part_full (ap (λ (ks : List ℕ). starts ks c.row.rest.now) next_part_first ∙ sym c.is_next.ensures ∙ c.row-test.true) c.in_ok-next.ensures c.row.invariant)

pub types::more_parts_of-returns : goal.types::more_parts_of-returns
types::more_parts_of-returns t c = gathered c.args.room next_part c.row.all.items c.row.rest.now _ next_part_full (ap (λ (ks : List ℕ). starts ks c.row.rest.now) next_part_first ∙ sym c.is_next.ensures ∙ c.row-test.false) c.row.invariant

pub type_arguments::more_arguments_of-returns-in_err-next : goal.type_arguments::more_arguments_of-returns-in_err-next
type_arguments::more_arguments_of-returns-in_err-next t c =
    let p = err_from_is_err_and c.from_residual-in_err-next.result c.from_residual-in_err-next.ensures.1 in
    rw (p.1, p.2) (ends c.args.room next_argument _ _ _ _ next_argument_full (ap (λ (ks : List ℕ). starts ks c.row.rest.now) next_argument_first ∙ sym c.is_next.ensures ∙ c.row-test.true) c.in_err-next.ensures c.row.invariant)

pub type_arguments::more_arguments_of-row-smaller : goal.type_arguments::more_arguments_of-row-smaller
type_arguments::more_arguments_of-row-smaller t c = falls c.args.room next_argument _ _ _ next_argument_full c.in_ok-next.ensures

pub type_arguments::more_arguments_of-row-preserved : goal.type_arguments::more_arguments_of-row-preserved
type_arguments::more_arguments_of-row-preserved t c = rw c.in_ok-push.ensures.items (gathers c.args.room next_argument _ _ _ _ _ next_argument_full (ap (λ (ks : List ℕ). starts ks c.row.rest.now) next_argument_first ∙ sym c.is_next.ensures ∙ c.row-test.true) c.in_ok-next.ensures c.row.invariant)

pub type_arguments::more_arguments_of-returns : goal.type_arguments::more_arguments_of-returns
type_arguments::more_arguments_of-returns t c = gathered c.args.room next_argument c.row.all.items c.row.rest.now _ next_argument_full (ap (λ (ks : List ℕ). starts ks c.row.rest.now) next_argument_first ∙ sym c.is_next.ensures ∙ c.row-test.false) c.row.invariant

pub types::more_dims_of-returns-in_err-next : goal.types::more_dims_of-returns-in_err-next
types::more_dims_of-returns-in_err-next t c =
    let p = err_from_is_err_and c.from_residual-in_err-next.result c.from_residual-in_err-next.ensures.1 in
    rw (p.1, p.2) (ends c.args.room dim _ _ _ _ dim_full (ap (λ (ks : List ℕ). starts ks c.row.rest.now) dim_first ∙ sym c.starts_dim.ensures ∙ c.row-test.true) c.in_err-next.ensures c.row.invariant)

pub types::more_dims_of-row-smaller : goal.types::more_dims_of-row-smaller
types::more_dims_of-row-smaller t c = falls c.args.room dim _ _ _ dim_full c.in_ok-next.ensures

pub types::more_dims_of-row-preserved : goal.types::more_dims_of-row-preserved
types::more_dims_of-row-preserved t c = rw c.in_ok-push.ensures.items (gathers c.args.room dim _ _ _ _ _ dim_full (ap (λ (ks : List ℕ). starts ks c.row.rest.now) dim_first ∙ sym c.starts_dim.ensures ∙ c.row-test.true) c.in_ok-next.ensures c.row.invariant)

pub types::more_dims_of-returns : goal.types::more_dims_of-returns
types::more_dims_of-returns t c = gathered c.args.room dim c.row.all.items c.row.rest.now _ dim_full (ap (λ (ks : List ℕ). starts ks c.row.rest.now) dim_first ∙ sym c.starts_dim.ensures ∙ c.row-test.false) c.row.invariant

-- ---- annotations

pub annotations::more_annotations_of-returns-in_err-next : goal.annotations::more_annotations_of-returns-in_err-next
annotations::more_annotations_of-returns-in_err-next t c =
    let p = err_from_is_err_and c.from_residual-in_err-next.result c.from_residual-in_err-next.ensures.1 in
    rw (p.1, p.2) (ends c.args.room annotation _ _ _ _ annotation_full (ap (λ (ks : List ℕ). starts ks c.row.rest.now) annotation_first ∙ sym c.starts_annotation.ensures ∙ c.row-test.true) c.in_err-next.ensures c.row.invariant)

pub annotations::more_annotations_of-row-smaller : goal.annotations::more_annotations_of-row-smaller
annotations::more_annotations_of-row-smaller t c = falls c.args.room annotation _ _ _ annotation_full c.in_ok-next.ensures

pub annotations::more_annotations_of-row-preserved : goal.annotations::more_annotations_of-row-preserved
annotations::more_annotations_of-row-preserved t c = rw c.in_ok-push.ensures.items (gathers c.args.room annotation _ _ _ _ _ annotation_full (ap (λ (ks : List ℕ). starts ks c.row.rest.now) annotation_first ∙ sym c.starts_annotation.ensures ∙ c.row-test.true) c.in_ok-next.ensures c.row.invariant)

pub annotations::more_annotations_of-returns : goal.annotations::more_annotations_of-returns
annotations::more_annotations_of-returns t c = gathered c.args.room annotation c.row.all.items c.row.rest.now _ annotation_full (ap (λ (ks : List ℕ). starts ks c.row.rest.now) annotation_first ∙ sym c.starts_annotation.ensures ∙ c.row-test.false) c.row.invariant

-- ---- what is open within

pub creations::created_arguments_of-returns-then-room-gt0 : goal.creations::created_arguments_of-returns-then-room-gt0
creations::created_arguments_of-returns-then-room-gt0 t c = rw (some-is created_arguments refl c.args.room c.args.symbols.now c.if-room-gt0.true) c.created_arguments_in.ensures

pub creations::created_arguments_of-returns : goal.creations::created_arguments_of-returns
creations::created_arguments_of-returns t c = none-fails created_arguments refl c.args.room c.args.symbols.now c.is_next.result c.shut.result c.if-room-gt0.false c.is_next.ensures c.shut.ensures

pub values::array_value_of-returns-then-room-gt0 : goal.values::array_value_of-returns-then-room-gt0
values::array_value_of-returns-then-room-gt0 t c = rw (some-is array_value refl c.args.room c.args.symbols.now c.if-room-gt0.true) c.array_in.ensures

pub values::array_value_of-returns : goal.values::array_value_of-returns
values::array_value_of-returns t c = none-fails array_value refl c.args.room c.args.symbols.now c.is_next.result c.shut.result c.if-room-gt0.false c.is_next.ensures c.shut.ensures

pub values::nested_annotation_of-returns-then-room-gt0 : goal.values::nested_annotation_of-returns-then-room-gt0
values::nested_annotation_of-returns-then-room-gt0 t c = rw (some-is nested_annotation refl c.args.room c.args.symbols.now c.if-room-gt0.true) c.annotation_of.ensures

pub values::nested_annotation_of-returns : goal.values::nested_annotation_of-returns
values::nested_annotation_of-returns t c = none-fails nested_annotation refl c.args.room c.args.symbols.now c.starts_annotation.result c.shut.result c.if-room-gt0.false c.starts_annotation.ensures c.shut.ensures

pub creations::more_created_parts_of-returns-in_err-rest-2 : goal.creations::more_created_parts_of-returns-in_err-rest-2
creations::more_created_parts_of-returns-in_err-rest-2 t c =
    let p = err_from_is_err_and c.from_residual-in_err-rest-2.result c.from_residual-in_err-rest-2.ensures.1 in
    rw (p.1, p.2) (ends c.args.room next_created_part silently _ _ _ next_created_part_full (ap (λ (ks : List ℕ). starts ks c.row.rest.now) next_created_part_first ∙ sym c.is_next.ensures ∙ c.row-test.true) c.in_err-rest-2.ensures c.row.invariant)

pub creations::more_created_parts_of-row-smaller : goal.creations::more_created_parts_of-row-smaller
creations::more_created_parts_of-row-smaller t c = falls c.args.room next_created_part _ tt _ next_created_part_full c.in_ok-rest-2.ensures

pub creations::more_created_parts_of-row-preserved : goal.creations::more_created_parts_of-row-preserved
creations::more_created_parts_of-row-preserved t c = goes_on c.args.room next_created_part silently _ tt _ _ next_created_part_full (ap (λ (ks : List ℕ). starts ks c.row.rest.now) next_created_part_first ∙ sym c.is_next.ensures ∙ c.row-test.true) c.in_ok-rest-2.ensures c.row.invariant

pub creations::more_created_parts_of-returns : goal.creations::more_created_parts_of-returns
creations::more_created_parts_of-returns t c = stops c.args.room next_created_part silently c.row.rest.now _ next_created_part_full (ap (λ (ks : List ℕ). starts ks c.row.rest.now) next_created_part_first ∙ sym c.is_next.ensures ∙ c.row-test.false) c.row.invariant

-- ---- parts of expressions

pub pieces::value_part_of-returns-then-room-gt0 : goal.pieces::value_part_of-returns-then-room-gt0
pieces::value_part_of-returns-then-room-gt0 t c = rw (some-is (expression_part (stands_of c.args.place) (part_at c.args.piece c.args.symbols.now)) c.requires c.args.room c.args.symbols.now c.if-room-gt0.true) c.part_in.ensures

pub pieces::value_part_of-returns : goal.pieces::value_part_of-returns
pieces::value_part_of-returns t c =
    none-fails (expression_part (stands_of c.args.place) (part_at c.args.piece c.args.symbols.now)) c.requires c.args.room c.args.symbols.now c.begins_part.result c.shut.result c.if-room-gt0.false c.begins_part.ensures c.shut.ensures

pub pieces::piece_of-value_part_of-requires : goal.pieces::piece_of-value_part_of-requires
pieces::piece_of-value_part_of-requires t c = (omega (arith, c.decreases), sym c.is_valued.ensures ∙ c.if-is_valued.true)

pub pieces::piece_of-part_in-requires : goal.pieces::piece_of-part_in-requires
pieces::piece_of-part_in-requires t c = omega (arith, c.decreases, rank-free c.args.place (sym c.is_valued.ensures ∙ c.if-is_valued.false))

pub pieces::piece_of-returns : goal.pieces::piece_of-returns
pieces::piece_of-returns t c = rw (free-is (expression_part (stands_of c.args.place) (part_at c.args.piece c.args.symbols.now)) (sym c.is_valued.ensures ∙ c.if-is_valued.false) c.args.room c.args.symbols.now) c.part_in.ensures

-- ---- rows

pub rows::step_of-returns-in-Ok-clause-goes : goal.rows::step_of-returns-in-Ok-clause-goes
rows::step_of-returns-in-Ok-clause-goes t c = part-goes c.args.room c.args.place c.args.row.now _ c.args.piece c.args.turn c.args.before c.requires c.in-Ok.ensures c.in_ok-leave.ensures refl refl

pub rows::step_of-returns-in-Err-clause-goes : goal.rows::step_of-returns-in-Err-clause-goes
rows::step_of-returns-in-Err-clause-goes t c = rw c.fallen.ensures (part-fails c.args.room c.args.place c.args.row.now c.args.piece c.args.turn c.args.before c.in-Err.fault c.requires c.in-Err.ensures)

pub rows::two_of-returns-in-Ok-clause-goes : goal.rows::two_of-returns-in-Ok-clause-goes
rows::two_of-returns-in-Ok-clause-goes t c = types-go c.args.room c.args.place c.args.row.now _ c.requires c.in-Ok.ensures refl refl refl

pub rows::two_of-returns-in-Err-Deep-clause-goes : goal.rows::two_of-returns-in-Err-Deep-clause-goes
rows::two_of-returns-in-Err-Deep-clause-goes t c = types-sink c.args.room c.args.place c.args.row.now c.in-Err-Deep.left c.requires (rw c.in-Err-Deep.field-0-is at c.in-Err-Deep.ensures)

pub rows::compared_of-returns-in-Ok-clause-goes : goal.rows::compared_of-returns-in-Ok-clause-goes
rows::compared_of-returns-in-Ok-clause-goes t c =
    compares-go c.args.room c.args.place c.args.row.now _ c.args.left c.requires.two c.requires.failed (sym (two-part c.args.room c.args.place c.args.row.now c.requires.two) ∙ c.in-Ok.ensures) refl refl (ap (λ (n : ℕ). Some n) c.less.ensures)

pub rows::compared_of-returns-in-Err-clause-goes : goal.rows::compared_of-returns-in-Err-clause-goes
rows::compared_of-returns-in-Err-clause-goes t c =
    rw (c.fallen.ensures, c.less.ensures) (compares-fail c.args.room c.args.place c.args.row.now c.args.left c.in-Err.fault c.requires.two c.requires.failed (rw (two-part c.args.room c.args.place c.args.row.now c.requires.two) at c.in-Err.ensures))

pub rows::step_of-returns-in-Ok-clause-smaller : goal.rows::step_of-returns-in-Ok-clause-smaller
rows::step_of-returns-in-Ok-clause-smaller t c =
    falls c.args.room (nest (expression_part (stands_of c.args.place) (part_at c.args.piece c.args.row.now.rest.now))) c.args.row.now.rest.now tt c.in-Ok.rest.now refl c.in-Ok.ensures

pub rows::two_of-returns-in-Ok-clause-smaller : goal.rows::two_of-returns-in-Ok-clause-smaller
rows::two_of-returns-in-Ok-clause-smaller t c =
    falls c.args.room (nest (expression_part (stands_of c.args.place) (part_at piece.Reference c.args.row.now.rest.now))) c.args.row.now.rest.now tt c.in-Ok.rest.now refl c.in-Ok.ensures

pub rows::compared_of-returns-in-Ok-clause-smaller : goal.rows::compared_of-returns-in-Ok-clause-smaller
rows::compared_of-returns-in-Ok-clause-smaller t c =
    falls c.args.room (nest (expression_part (stands_of c.args.place) (part_at piece.One c.args.row.now.rest.now))) c.args.row.now.rest.now tt c.in-Ok.rest.now refl c.in-Ok.ensures

pub rows::two_of-compared_of-requires : goal.rows::two_of-compared_of-requires
rows::two_of-compared_of-requires t c = (omega (arith, c.decreases), (c.requires, rw c.in-Err-Bad.field-0-is at c.in-Err-Bad.ensures))

pub rows::turn_of-step_of-requires : goal.rows::turn_of-step_of-requires
rows::turn_of-step_of-requires t c = (omega (arith, c.decreases), sym c.next_of.ensures ∙ c.in-Part.is)

pub rows::turn_of-two_of-requires : goal.rows::turn_of-two_of-requires
rows::turn_of-two_of-requires t c = (omega (arith, c.decreases), sym c.next_of.ensures ∙ c.in-Two.is)

pub rows::turn_of-returns-in-Nothing-clause-goes : goal.rows::turn_of-returns-in-Nothing-clause-goes
rows::turn_of-returns-in-Nothing-clause-goes t c = rw c.fallen.ensures (nothing-fails c.args.room c.args.place c.args.row.now (sym c.next_of.ensures ∙ c.in-Nothing.is))

pub rows::turn_of-returns-in-End-clause-goes : goal.rows::turn_of-returns-in-End-clause-goes
rows::turn_of-returns-in-End-clause-goes t c = row-over c.args.room c.args.place c.args.row.now (sym c.next_of.ensures ∙ c.in-End.is)

pub rows::row_of-row-init : goal.rows::row_of-row-init
rows::row_of-row-init t c =
    row-starts c.args.room c.args.place c.args.leave c.args.before c.args.symbols.now c.row_at-row.result c.requires c.row_at-row.ensures.leave c.row_at-row.ensures.before c.row_at-row.ensures.rest c.row_at-row.ensures.far

pub rows::row_of-row-smaller : goal.rows::row_of-row-smaller
rows::row_of-row-smaller t c = rw c.in-Some.is at c.in_ok-next.ensures.smaller

pub rows::row_of-returns-in_err-next : goal.rows::row_of-returns-in_err-next
rows::row_of-returns-in_err-next t c =
    let p = err_from_is_err_and c.from_residual.result c.from_residual.ensures.1 in
    rw (p.1, p.2) (row-errs c.args.room c.args.place (rest_read c.args.room c.args.place c.args.leave c.args.before c.args.symbols.now) c.args.symbols.now c.row.row _ c.row.invariant c.in_err-next.ensures.goes)

pub rows::row_of-row-preserved : goal.rows::row_of-row-preserved
rows::row_of-row-preserved t c = row-turns c.args.room c.args.place (rest_read c.args.room c.args.place c.args.leave c.args.before c.args.symbols.now) c.args.symbols.now c.row.row c.in-Some.next c.row.invariant (rw c.in-Some.is at c.in_ok-next.ensures.goes)

pub rows::row_of-returns-in-None : goal.rows::row_of-returns-in-None
rows::row_of-returns-in-None t c =
    row-stops c.args.room c.args.place (rest_read c.args.room c.args.place c.args.leave c.args.before c.args.symbols.now) c.args.symbols.now c.row.row _ c.row.invariant (rw c.in-None.is at c.in_ok-next.ensures.goes) refl refl

pub rows::begun_of-row_of-requires : goal.rows::begun_of-row_of-requires
rows::begun_of-row_of-requires t c = (omega (arith, c.decreases), rw (c.in_ok-leave.ensures, c.first_leave.ensures) (free-after c.args.place c.args.turn (leave_first c.args.place) (free-first c.args.place)))

pub rows::begun_of-returns-in_err-rest : goal.rows::begun_of-returns-in_err-rest
rows::begun_of-returns-in_err-rest t c =
    let p = err_from_is_err_and c.from_residual.result c.from_residual.ensures.1 in
    rw (p.1, p.2) (begun-part-fails c.args.room c.args.place c.args.piece c.args.turn c.args.before c.args.symbols.now _ c.requires c.in_err-rest.ensures)

pub rows::begun_of-returns : goal.rows::begun_of-returns
rows::begun_of-returns t c =
    begun-given c.args.room c.args.place c.args.piece c.args.turn c.args.before c.in_ok-leave.leave c.args.symbols.now c.in_ok-rest.rest.now c.row_of.result c.requires c.in_ok-rest.ensures
    (c.in_ok-leave.ensures ∙ ap (leave_after c.args.turn) c.first_leave.ensures) c.row_of.ensures

pub rows::ended_of-begun_of-requires : goal.rows::ended_of-begun_of-requires
rows::ended_of-begun_of-requires t c = (omega (arith, c.decreases), sym c.first_next.ensures ∙ c.in-Part.is)

pub rows::ended_of-returns-in-Two : goal.rows::ended_of-returns-in-Two
rows::ended_of-returns-in-Two t c = absurd (never-two c.args.place c.args.symbols.now (sym c.first_next.ensures ∙ c.in-Two.is))

pub rows::ended_of-returns-in-End : goal.rows::ended_of-returns-in-End
rows::ended_of-returns-in-End t c = absurd (never-end c.args.place c.args.symbols.now (sym c.first_next.ensures ∙ c.in-End.is))

pub rows::ended_of-returns-in-Nothing : goal.rows::ended_of-returns-in-Nothing
rows::ended_of-returns-in-Nothing t c = none-begins c.args.room c.args.place c.args.symbols.now (sym c.first_next.ensures ∙ c.in-Nothing.is)

-- ---- values

pub values::value_of-returns-in_err-value : goal.values::value_of-returns-in_err-value
values::value_of-returns-in_err-value t c =
    let p = err_from_is_err_and c.from_residual.result c.from_residual.ensures.1 in
    rw (p.1, p.2) (array-fails c.args.room c.args.place c.args.symbols.now _ c.requires (sym c.is_next.ensures ∙ c.if-is_next.true) c.in_err-value.ensures)

pub values::value_of-returns-then-is_next : goal.values::value_of-returns-then-is_next
values::value_of-returns-then-is_next t c = array-read c.args.room c.args.place c.args.symbols.now c.in_ok-value.value _ c.requires (sym c.is_next.ensures ∙ c.if-is_next.true) c.in_ok-value.ensures refl

pub values::value_of-returns-in_err-annotation : goal.values::value_of-returns-in_err-annotation
values::value_of-returns-in_err-annotation t c =
    let p = err_from_is_err_and c.from_residual-in_err-annotation.result c.from_residual-in_err-annotation.ensures.1 in
    rw (p.1, p.2) (annotation-fails c.args.room c.args.place c.args.symbols.now _ c.requires (sym c.is_next.ensures ∙ c.if-is_next.false) (sym c.starts_annotation.ensures ∙ c.if-starts_annotation.true) c.in_err-annotation.ensures)

pub values::value_of-returns-then-starts_annotation : goal.values::value_of-returns-then-starts_annotation
values::value_of-returns-then-starts_annotation t c =
    annotation-read c.args.room c.args.place c.args.symbols.now c.in_ok-annotation.annotation _ c.requires (sym c.is_next.ensures ∙ c.if-is_next.false) (sym c.starts_annotation.ensures ∙ c.if-starts_annotation.true) c.in_ok-annotation.ensures refl

pub values::value_of-returns : goal.values::value_of-returns
values::value_of-returns t c = rw (expression-is c.args.room c.args.place c.args.symbols.now c.requires (sym c.is_next.ensures ∙ c.if-is_next.false) (sym c.starts_annotation.ensures ∙ c.if-starts_annotation.false)) c.expression_value_of.ensures

pub values::expression_value_of-meaning_of-requires : goal.values::expression_value_of-meaning_of-requires
values::expression_value_of-meaning_of-requires t c = ended-left c.args.room c.args.place c.args.symbols.now c.in_ok-end.end c.in_ok-end.ensures

pub values::expression_value_of-returns-in_err-end : goal.values::expression_value_of-returns-in_err-end
values::expression_value_of-returns-in_err-end t c =
    let p = err_from_is_err_and c.from_residual.result c.from_residual.ensures.1 in
    rw (p.1, p.2) (turned_fails value_there _ (expression_read c.args.room c.args.place c.args.symbols.now) c.in_err-end.ensures)

pub values::expression_value_of-returns : goal.values::expression_value_of-returns
values::expression_value_of-returns t c = ended-value c.args.room c.args.place c.args.symbols.now c.in_ok-value.value c.in_ok-end.end c.in_ok-end.ensures c.in_ok-value.ensures

pub values::lone_value_of-returns-in-Ok : goal.values::lone_value_of-returns-in-Ok
values::lone_value_of-returns-in-Ok t c = lone-read c.args.room c.args.symbols.now c.in-Ok.read.1.now c.in_ok-value.value c.in_ok-value.end _ c.in_ok-value.ensures c.in-Ok.ensures

pub values::lone_value_of-returns-in-Err : goal.values::lone_value_of-returns-in-Err
values::lone_value_of-returns-in-Err t c = rw c.fallen.ensures (lone-fails c.args.room c.args.symbols.now c.in_ok-value.value c.in_ok-value.end c.in-Err.fault c.in_ok-value.ensures c.in-Err.ensures)

pub values::listed_item_of-returns-in-Ok-listed_step_of-clause-item : goal.values::listed_item_of-returns-in-Ok-listed_step_of-clause-item
values::listed_item_of-returns-in-Ok-listed_step_of-clause-item t c = listed-read c.args.room c.args.far c.args.symbols.now c.in-Ok-listed_step_of.step.1.now c.in-Ok.value c.in-Ok.end _ c.in-Ok-listed_step_of.step.0 c.in-Ok.ensures c.in-Ok-listed_step_of.ensures refl c.furthest-far.ensures

pub values::listed_item_of-returns-in-Err-listed_step_of-clause-item : goal.values::listed_item_of-returns-in-Err-listed_step_of-clause-item
values::listed_item_of-returns-in-Err-listed_step_of-clause-item t c = rw (c.fallen.ensures, c.furthest-far.ensures) (listed-ends c.args.room c.args.far c.args.symbols.now c.in-Ok.value c.in-Ok.end c.in-Err-listed_step_of.fault c.in-Ok.ensures c.in-Err-listed_step_of.ensures)

pub values::listed_item_of-returns-in-Err-clause-item : goal.values::listed_item_of-returns-in-Err-clause-item
values::listed_item_of-returns-in-Err-clause-item t c = rw c.fallen-in-Err.ensures (listed-fails c.args.room c.args.far c.args.symbols.now c.in-Err.fault c.in-Err.ensures)

pub values::values_of-row-init : goal.values::values_of-row-init
values::values_of-row-init t c = rw (c.new-all.ensures.items, c.in_ok-rest.ensures) (so-starts (values_from c.args.room c.args.symbols.now))

pub values::values_of-returns-in_err-value : goal.values::values_of-returns-in_err-value
values::values_of-returns-in_err-value t c =
    let p = err_from_is_err_and c.from_residual-in_err-value.result c.from_residual-in_err-value.ensures.1 in
    rw (p.1, p.2) (c.in_err-value.ensures.item (values_from c.args.room c.args.symbols.now) c.row.all.items c.row.invariant)

pub values::values_of-row-preserved : goal.values::values_of-row-preserved
values::values_of-row-preserved t c = rw c.in_ok-push.ensures.items ((rw c.if-not-more.false at c.in_ok-value.ensures.item) (values_from c.args.room c.args.symbols.now) c.row.all.items c.row.invariant)

pub values::values_of-returns-then-not-more : goal.values::values_of-returns-then-not-more
values::values_of-returns-then-not-more t c = rw c.in_ok-push.ensures.items (so-ends (values_from c.args.room c.args.symbols.now) _ c.row.all.items c.row.far c.in_ok-value.value _ c.row.invariant (rw c.if-not-more.true at c.in_ok-value.ensures.item))

pub values::array_in-array_meaning-requires : goal.values::array_in-array_meaning-requires
values::array_in-array_meaning-requires t c =
    omega (arith, one-smaller (63 ∷ []) c.args.symbols.now _ c.in_ok-rest.rest.now c.in_ok-rest.ensures, fewer c.args.room array_rest c.in_ok-rest.rest.now _ c.in_ok-values.rest.now c.in_ok-values.ensures)

pub annotations::paired_item_of-returns-in-Ok-paired_step_of-clause-item : goal.annotations::paired_item_of-returns-in-Ok-paired_step_of-clause-item
annotations::paired_item_of-returns-in-Ok-paired_step_of-clause-item t c = λ n. paired-read c.args.room c.args.far n c.args.symbols.now c.in-Ok-paired_step_of.step.1.now c.in-Ok.value c.in-Ok.end _ c.in-Ok-paired_step_of.step.0 c.in-Ok.ensures c.in-Ok-paired_step_of.ensures refl c.furthest-far.ensures

pub annotations::paired_item_of-returns-in-Err-paired_step_of-clause-item : goal.annotations::paired_item_of-returns-in-Err-paired_step_of-clause-item
annotations::paired_item_of-returns-in-Err-paired_step_of-clause-item t c = rw (c.fallen.ensures, c.furthest-far.ensures) (λ n. paired-ends c.args.room c.args.far n c.args.symbols.now c.in-Ok.value c.in-Ok.end c.in-Err-paired_step_of.fault c.in-Ok.ensures c.in-Err-paired_step_of.ensures)

pub annotations::paired_item_of-returns-in-Err-clause-item : goal.annotations::paired_item_of-returns-in-Err-clause-item
annotations::paired_item_of-returns-in-Err-clause-item t c = rw c.fallen-in-Err.ensures (λ n. paired-fails c.args.room c.args.far n c.args.symbols.now c.in-Err.fault c.in-Err.ensures)

pub annotations::pairs_of-row-init : goal.annotations::pairs_of-row-init
annotations::pairs_of-row-init t c = rw (c.new-all.ensures.items, c.in_ok-rest.ensures) (so-starts (pairs_from c.args.room c.args.first c.args.symbols.now))

pub annotations::pairs_of-returns-in_err-value : goal.annotations::pairs_of-returns-in_err-value
annotations::pairs_of-returns-in_err-value t c =
    let p = err_from_is_err_and c.from_residual-in_err-value.result c.from_residual-in_err-value.ensures.1 in
    rw (p.1, p.2) (c.in_err-value.ensures.item c.row.name (pairs_from c.args.room c.args.first c.args.symbols.now) c.row.all.items c.row.invariant)

pub annotations::pairs_of-row-preserved : goal.annotations::pairs_of-row-preserved
annotations::pairs_of-row-preserved t c = rw c.in_ok-push.ensures.items ((rw c.in-Some.is at (c.in_ok-value.ensures.item c.row.name)) (pairs_from c.args.room c.args.first c.args.symbols.now) c.row.all.items c.row.invariant)

pub annotations::pairs_of-returns-in-None : goal.annotations::pairs_of-returns-in-None
annotations::pairs_of-returns-in-None t c = rw c.in_ok-push.ensures.items (so-ends (pairs_from c.args.room c.args.first c.args.symbols.now) _ c.row.all.items c.row.far _ _ c.row.invariant (rw c.in-None.is at (c.in_ok-value.ensures.item c.row.name)))

pub values::listed_item_of-returns-in-Ok-listed_step_of-clause-smaller : goal.values::listed_item_of-returns-in-Ok-listed_step_of-clause-smaller
values::listed_item_of-returns-in-Ok-listed_step_of-clause-smaller t c = omega (arith, c.in-Ok.ensures.fewer, listed-smaller c.in-Ok.end.rest.now _ c.in-Ok-listed_step_of.step.1.now c.in-Ok-listed_step_of.ensures)

pub annotations::paired_item_of-returns-in-Ok-paired_step_of-clause-smaller : goal.annotations::paired_item_of-returns-in-Ok-paired_step_of-clause-smaller
annotations::paired_item_of-returns-in-Ok-paired_step_of-clause-smaller t c = omega (arith, c.in-Ok.ensures.fewer, paired-smaller c.args.room c.in-Ok.end.rest.now _ c.in-Ok-paired_step_of.step.1.now c.in-Ok-paired_step_of.ensures)

pub values::lone_value_of-value_of-requires : goal.values::lone_value_of-value_of-requires
values::lone_value_of-value_of-requires t c = (omega (arith, c.decreases), refl)

pub values::listed_item_of-value_of-requires : goal.values::listed_item_of-value_of-requires
values::listed_item_of-value_of-requires t c = (omega (arith, c.decreases), refl)

pub annotations::paired_item_of-value_of-requires : goal.annotations::paired_item_of-value_of-requires
annotations::paired_item_of-value_of-requires t c = (omega (arith, c.decreases), refl)
