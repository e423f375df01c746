use Rattle.decl_parser.proofs.FrontAnswers.{bad-settles, deep-settles, memory-settles}
use Rattle.decl_parser.proofs.fronts.ordinary_limit.Goals as goal

pub bad_ordinary-requires : goal.bad_ordinary-requires
bad_ordinary-requires c = rw c.in-Err-Bad.field-0-is at c.in-Err-Bad.ensures.bad

pub deep_ordinary-requires : goal.deep_ordinary-requires
deep_ordinary-requires c = rw c.in-Err-Deep.field-0-is at c.in-Err-Deep.ensures.deep

pub returns-in-Err-Bad : goal.returns-in-Err-Bad
returns-in-Err-Bad c =
    bad-settles c.args.end c.in-Err-Bad.place c.args.symbols.now c.bad_ordinary.result c.settled.result (rw c.in-Err-Bad.field-0-is at c.in-Err-Bad.ensures.bad) c.bad_ordinary.ensures c.settled.ensures

pub returns-in-Err-Deep : goal.returns-in-Err-Deep
returns-in-Err-Deep c =
    deep-settles c.args.end c.in-Err-Deep.place c.args.symbols.now c.deep_ordinary.result (rw c.in-Err-Deep.field-0-is at c.in-Err-Deep.ensures.deep) c.deep_ordinary.ensures

pub returns-in-Err-Memory : goal.returns-in-Err-Memory
returns-in-Err-Memory c = memory-settles c.args.end c.args.symbols.now
