use Rattle.std.proofs.Common.{◌-◌, ◌<◌}
use Rattle.decl_grammar.specs.SymbolReading.{HasGathered}
use Rattle.decl_parser.proofs.parsing.of_reader.Given as goal

-- the reader has the first symbols of the file, and more are wanted of it next
abbrev pub invariant-part : goal.invariant-part
invariant-part l = HasGathered l.fn.chars l.reader × (0 < l.count)

abbrev pub decreases-part : goal.decreases-part
decreases-part l = 18446744073709551615 - l.count
