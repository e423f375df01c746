use Rattle.std.proofs.Common.{ℕ, sym, subst}
use Rattle.decl_grammar.specs.Grammar.{package_info}
use Rattle.decl_parser.specs.Parsed.{IsDeepAt}
use Rattle.decl_parser.proofs.FrontAnswers.{deep-settles-info, memory-settles-info}
use Rattle.decl_parser.proofs.fronts.info_limit.Goals as goal

pub deep_info-requires : goal.deep_info-requires
deep_info-requires c = subst (λ (n : ℕ). IsDeepAt package_info n c.args.symbols.now) (sym c.in-Err-Deep.place-is) (rw c.in-Err-Deep.field-0-is at c.in-Err-Deep.ensures.deep)

pub returns-in-Err-Deep : goal.returns-in-Err-Deep
returns-in-Err-Deep c =
    deep-settles-info c.args.end c.in-Err-Deep.place c.args.symbols.now c.deep_info.result (subst (λ (n : ℕ). IsDeepAt package_info n c.args.symbols.now) (sym c.in-Err-Deep.place-is) (rw c.in-Err-Deep.field-0-is at c.in-Err-Deep.ensures.deep)) c.deep_info.ensures

pub returns-in-Err-Memory : goal.returns-in-Err-Memory
returns-in-Err-Memory c = memory-settles-info c.args.end c.args.symbols.now
