use Rattle.decl_grammar.proofs.SymbolsGathered.{gathers-none, fails-as}
use Rattle.decl_grammar.proofs.symbol_reader.symbols.Goals as goal

pub returns-in_err-begun : goal.returns-in_err-begun
returns-in_err-begun c = fails-as c.args.chars.now _ c.from_residual.result c.in_err-begun.field-0.0 c.from_residual.ensures.1 c.in_err-begun.ensures

pub read_to-requires : goal.read_to-requires
read_to-requires c = (c.args.chars.now, c.in_ok-begun.ensures)

pub returns-in_err-ended : goal.returns-in_err-ended
returns-in_err-ended c =
    fails-as c.args.chars.now _ c.from_residual-in_err-ended.result c.in_err-ended.field-0.0 c.from_residual-in_err-ended.ensures.1 (c.in_err-ended.ensures.further c.args.chars.now c.in_ok-begun.ensures)

pub returns-in-None : goal.returns-in-None
returns-in-None c =
    let ended = c.in_ok-ended.ended in
    gathers-none c.args.chars.now ended.tokens ended.last ended.symbols.items c.in-None.is (c.in_ok-ended.ensures.further c.args.chars.now c.in_ok-begun.ensures)
