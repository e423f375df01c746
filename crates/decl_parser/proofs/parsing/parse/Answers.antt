use Rattle.std.proofs.Common.{arith}
use Rattle.decl_parser.proofs.FileAnswers.{file-chars, file-fault}
use Rattle.decl_parser.proofs.parsing.parse.Goals as goal

pub returns-in-Ok : goal.returns-in-Ok
returns-in-Ok c =
    file-chars c.args.path.now c.args.bytes.now c.is_info_path-info.result _ c.in-Ok.chars c.of_chars.result c.is_info_path-info.ensures (omega arith) c.in-Ok.ensures.chars c.of_chars.ensures

pub returns-in-Err : goal.returns-in-Err
returns-in-Err c = file-fault c.args.path.now c.args.bytes.now c.in-Err.fault c.text_fault.result c.text_fault.ensures c.in-Err.ensures.chars
