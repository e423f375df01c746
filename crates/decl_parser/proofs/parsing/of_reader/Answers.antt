use Rattle.std.proofs.Common.{List, ◌∙◌, sym, subst, arith}
use Rattle.decl_grammar.specs.declared.symbol.Symbol.{Symbol}
use Rattle.decl_limits.specs.Texts.{AreTexts}
use Rattle.decl_limits.proofs.TextSymbols.{text-symbols}
use Rattle.decl_parser.specs.Fronts.{SettlesSymbols}
use Rattle.decl_parser.proofs.FileAnswers.{chars-symbols, chars-fault}
use Rattle.decl_parser.proofs.FrontAnswers.{has-all}
use Rattle.decl_parser.proofs.parsing.of_reader.Goals as goal

pub part-init : goal.part-init
part-init c = (c.requires, omega arith)

pub read_to-requires : goal.read_to-requires
read_to-requires c = (c.args.chars.now, c.part.invariant.0)

pub returns-in-Err : goal.returns-in-Err
returns-in-Err c =
    chars-fault c.args.info c.args.end c.args.chars.now c.in-Err.stop c.text_fault.result c.text_fault.ensures (c.in-Err.ensures.further c.args.chars.now c.part.invariant.0)

pub of_symbols-requires : goal.of_symbols-requires
of_symbols-requires c =
    let all = has-all c.args.chars.now c.in-Ok.further c.has_ended.result c.if-has_ended.true c.has_ended.ensures (c.in-Ok.ensures.further c.args.chars.now c.part.invariant.0) in
    subst AreTexts (sym (c.front.ensures ∙ all.2)) (text-symbols c.args.chars.now all.0 all.1)

pub returns-then-has_ended : goal.returns-then-has_ended
returns-then-has_ended c =
    let all = has-all c.args.chars.now c.in-Ok.further c.has_ended.result c.if-has_ended.true c.has_ended.ensures (c.in-Ok.ensures.further c.args.chars.now c.part.invariant.0) in
    chars-symbols c.args.info c.args.end c.args.chars.now all.0 c.front.result.now c.of_symbols.result all.1 (c.front.ensures ∙ all.2) c.of_symbols.ensures

pub given_up-requires : goal.given_up-requires
given_up-requires c = record {
  gathered = c.in-Ok.ensures.further c.args.chars.now c.part.invariant.0;
  settled =
      subst (λ (us : List Symbol). SettlesSymbols c.args.info c.args.end us c.in-Some.fault) c.front-in-part.ensures
      (rw c.in-Some.is at c.limit_passed.ensures);
}

pub part-smaller : goal.part-smaller
part-smaller c = omega (arith, c.part.invariant.1)

pub part-preserved : goal.part-preserved
part-preserved c = (c.in-Ok.ensures.further c.args.chars.now c.part.invariant.0, omega (arith, c.part.invariant.1))
