use Rattle.frame_decoder.proofs.Decoded.{is_found, is_none}
use Rattle.frame_decoder.proofs.decoding.decode.Goals as goal

pub returns-clause-found : goal.returns-clause-found
returns-clause-found c = is_found c.args.bytes.now c.decoded.result c.decoded.ensures

pub returns-clause-none : goal.returns-clause-none
returns-clause-none c = is_none c.args.bytes.now c.decoded.result c.decoded.ensures
