use Rattle.std.proofs.Common.{[]}
use Rattle.decl_grammar.specs.SymbolReading.{HasGathered}
use Rattle.decl_grammar.proofs.SymbolsGathered.{can-read, gathers-first, fault-read, fails-as}
use Rattle.decl_grammar.proofs.symbol_reader.SymbolReader.new.Goals as goal

pub next-requires : goal.next-requires
next-requires c = ([], can-read c.args.chars.now c.new-tokens.result [] c.new-tokens.ensures)

pub returns-in_err-last : goal.returns-in_err-last
returns-in_err-last c =
    let on = c.in_err-last.ensures [] (can-read c.args.chars.now c.new-tokens.result [] c.new-tokens.ensures) in
    fails-as c.args.chars.now (HasGathered c.args.chars.now) c.from_residual.result c.in_err-last.field-0.0 c.from_residual.ensures.1 (fault-read c.args.chars.now c.new-tokens.result c.next.new.self [] c.in_err-last.field-0.0 c.new-tokens.ensures on)

pub returns : goal.returns
returns c =
    let on = c.in_ok-last.ensures [] (can-read c.args.chars.now c.new-tokens.result [] c.new-tokens.ensures) in
    gathers-first c.args.chars.now c.new-tokens.result c.next.new.self c.in_ok-last.last c.new-symbols.result.items c.new-tokens.ensures on c.new-symbols.ensures.items
