use Rattle.decl_parser.proofs.FileAnswers.{chars-fault}
use Rattle.decl_parser.proofs.FrontAnswers.{settled-file}
use Rattle.decl_parser.proofs.parsing.given_up.Goals as goal

pub pass_rest-requires : goal.pass_rest-requires
pass_rest-requires c = (c.args.chars.now, c.requires.gathered)

pub returns-in-Ok : goal.returns-in-Ok
returns-in-Ok c =
    settled-file c.args.info c.args.end c.args.chars.now c.args.reader.symbols.items c.args.fault (c.in-Ok.ensures c.args.chars.now c.requires.gathered) c.requires.settled

pub returns-in-Err : goal.returns-in-Err
returns-in-Err c =
    chars-fault c.args.info c.args.end c.args.chars.now c.in-Err.stop c.text_fault.result c.text_fault.ensures (c.in-Err.ensures c.args.chars.now c.requires.gathered)
