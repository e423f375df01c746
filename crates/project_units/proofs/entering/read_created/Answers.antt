use Rattle.std.proofs.Common.{◌≤◌, ◌<◌, length, arith}
use Rattle.apt_base.specs.Limits.{max_file_bytes}
use Rattle.project_units.proofs.EnteringLemmas.{reading-long, short-parses}
use Rattle.project_units.proofs.entering.read_created.Goals as goal

pub returns-then-count-gt-MAX_FILE_BYTES : goal.returns-then-count-gt-MAX_FILE_BYTES
returns-then-count-gt-MAX_FILE_BYTES c =
    let long : max_file_bytes < length c.args.content.now = omega (arith, c.if-count-gt-MAX_FILE_BYTES.true) in
    reading-long c.args.path.now c.args.content.now long

pub read_declarations-requires : goal.read_declarations-requires
read_declarations-requires c = omega (arith, c.if-count-gt-MAX_FILE_BYTES.false)

pub returns : goal.returns
returns c =
    let short : length c.args.content.now ≤ max_file_bytes = omega (arith, c.if-count-gt-MAX_FILE_BYTES.false) in
    short-parses c.args.path.now c.args.content.now c.read_declarations.result short c.read_declarations.ensures.reading
