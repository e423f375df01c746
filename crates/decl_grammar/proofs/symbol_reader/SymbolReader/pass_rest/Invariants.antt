use Rattle.std.proofs.Common.{◌+◌, length}
use Rattle.java_tokens.specs.declared.chars.Chars.{Chars}
use Rattle.decl_grammar.specs.SymbolList.{shown_next}
use Rattle.decl_grammar.specs.SymbolReading.{HasGathered}
use Rattle.decl_grammar.proofs.SymbolsGathered.{Passes}
use Rattle.decl_grammar.proofs.symbol_reader.SymbolReader.pass_rest.Given as goal

abbrev pub invariant-row : goal.invariant-row
invariant-row l = (read : Chars) → HasGathered read l.fn.self → Passes read l.reader l.last l.fn.self.symbols.items

abbrev pub decreases-row : goal.decreases-row
decreases-row l = length l.reader.rest.now + length (shown_next l.last)
