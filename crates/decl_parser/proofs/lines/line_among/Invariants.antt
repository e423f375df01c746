use Rattle.std.proofs.Common.{◌≡◌, length}
use Rattle.decl_parser.specs.Lines.{line_in}
use Rattle.decl_parser.proofs.lines.line_among.Given as goal

-- the units to come decide as all of them do
abbrev pub invariant-row : goal.invariant-row
invariant-row l = line_in l.rest l.behind l.name l.path ≡ line_in l.units l.lines l.name l.path

abbrev pub decreases-row : goal.decreases-row
decreases-row l = length l.rest
