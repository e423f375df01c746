use Rattle.decl_limits.proofs.TextSymbols.{text-symbols}
use Rattle.decl_limits.proofs.laws.symbols_are_texts.Goals as goal

pub returns : goal.returns
returns c = text-symbols
