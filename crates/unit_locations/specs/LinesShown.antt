-- How contracts see lines on the way down to an element.
use Rattle.decl_grammar.specs.declared.written.Lines.{Lines}
use Rattle.decl_grammar.specs.Grammar.{line_alone}
use Rattle.unit_locations.specs.declared.lines.LinesAt.{LinesAt}
use Rattle.unit_locations.specs.declared.lines.LinesAt.TheVariants as at

abbrev pub lines_of : LinesAt → Lines
lines_of (at.Written lines) = lines.now
lines_of (at.Added line) = line_alone line
