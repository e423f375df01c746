use Rattle.std.proofs.Common.{ℕ, sym, subst}
use Rattle.decl_grammar.specs.Grammar.{package_info}
use Rattle.decl_parser.specs.FileShown.{info_view}
use Rattle.decl_parser.specs.Parsed.{HasFaultAt, IsDeepAt}
use Rattle.decl_limits.proofs.LegalUnits.{info-legal}
use Rattle.decl_parser.proofs.FileAnswers.{info-whole, info-memory}
use Rattle.decl_parser.proofs.parsing.info_of_symbols.Goals as goal

pub named_info-requires : goal.named_info-requires
named_info-requires c = info-legal c.args.symbols.now (info_view c.in-Ok.file) c.requires (c.in-Ok.ensures.found, c.in-Ok.ensures.shallow)

pub bad_info-requires : goal.bad_info-requires
bad_info-requires c = subst (λ (n : ℕ). HasFaultAt package_info n c.args.symbols.now) (sym c.in-Err-Bad.place-is) (rw c.in-Err-Bad.field-0-is at c.in-Err-Bad.ensures.bad)

pub deep_info-requires : goal.deep_info-requires
deep_info-requires c = subst (λ (n : ℕ). IsDeepAt package_info n c.args.symbols.now) (sym c.in-Err-Deep.place-is) (rw c.in-Err-Deep.field-0-is at c.in-Err-Deep.ensures.deep)

pub returns-in-Ok : goal.returns-in-Ok
returns-in-Ok c = info-whole c.args.symbols.now (info_view c.in-Ok.file) c.args.end c.named_info.result (c.in-Ok.ensures.found, c.in-Ok.ensures.shallow) c.named_info.ensures

pub returns-in-Err-Memory : goal.returns-in-Err-Memory
returns-in-Err-Memory c = info-memory c.args.symbols.now c.args.end
