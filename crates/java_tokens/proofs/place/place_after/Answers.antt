use Rattle.std.proofs.Common.{arith}
use Rattle.java_tokens.proofs.Places.{line_ends_few, at_most_one}
use Rattle.java_tokens.proofs.LinesInBytes.{lines_passed, return_passed}
use Rattle.java_tokens.proofs.place.place_after.Goals as goal

pub overflow_add-line : goal.overflow_add-line
overflow_add-line c =
    omega (arith, at_most_one _ _ c.line_end-line.ensures, c.bytes.invariant.line, line_ends_few c.args.place.after_return c.args.text.now, c.requires.narrow, c.requires.line)

pub returns-clause-line : goal.returns-clause-line
returns-clause-line c =
    lines_passed c.bytes.line c.args.place.line c.bytes.after_return c.args.place.after_return c.bytes.rest.now c.args.text.now c.utf8.text (omega (arith, c.in_default.len_below)) c.bytes.invariant.line

pub returns-clause-after_return : goal.returns-clause-after_return
returns-clause-after_return c =
    return_passed c.bytes.after_return c.args.place.after_return c.bytes.rest.now c.args.text.now c.utf8.text (omega (arith, c.in_default.len_below)) c.bytes.invariant.after_return
