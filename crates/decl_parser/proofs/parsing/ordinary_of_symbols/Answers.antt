use Rattle.decl_parser.proofs.FileAnswers.{memory-answers}
use Rattle.decl_parser.proofs.parsing.ordinary_of_symbols.Goals as goal

pub whole_ordinary-requires : goal.whole_ordinary-requires
whole_ordinary-requires c = record { texts = c.requires; whole = (c.in-Ok.ensures.found, c.in-Ok.ensures.shallow) }

pub bad_ordinary-requires : goal.bad_ordinary-requires
bad_ordinary-requires c = rw c.in-Err-Bad.field-0-is at c.in-Err-Bad.ensures.bad

pub deep_ordinary-requires : goal.deep_ordinary-requires
deep_ordinary-requires c = rw c.in-Err-Deep.field-0-is at c.in-Err-Deep.ensures.deep

pub returns-in-Err-Memory : goal.returns-in-Err-Memory
returns-in-Err-Memory c = memory-answers c.args.symbols.now c.args.end
