use Rattle.std.proofs.Common.{◌<◌, ◌≤◌, [], length, Some, refl, sym, ap, ◌∙◌, arith}
use Rattle.apt_base.specs.Limits.{max_file_bytes}
use Rattle.tree_store.specs.Sources.{source_of}
use Rattle.tree_store.proofs.SourceLimits.{passed-one, passed-all}
use Rattle.tree_store.proofs.sources.sized.Goals as goal

pub returns-then-count-gt-MAX_FILE_BYTES-clause-source : goal.returns-then-count-gt-MAX_FILE_BYTES-clause-source
returns-then-count-gt-MAX_FILE_BYTES-clause-source c =
    let source = source_of c.args.path.now c.args.bytes.items in
    let long : max_file_bytes < length c.args.bytes.items = omega (arith, c.if-count-gt-MAX_FILE_BYTES.true, c.len-count.ensures) in
    (source, refl, passed-one c.args.folder c.args.left source [] long)

pub returns-then-count-left-clause-source : goal.returns-then-count-left-clause-source
returns-then-count-left-clause-source c =
    let source = source_of c.args.path.now c.args.bytes.items in
    let short : length c.args.bytes.items ≤ max_file_bytes = omega (arith, c.if-count-gt-MAX_FILE_BYTES.false, c.len-count.ensures) in
    let heavy : c.args.left < length c.args.bytes.items = omega (arith, c.if-count-left.true, c.len-count.ensures) in
    (source, refl, passed-all c.args.folder c.args.left source [] short heavy ∙ ap Some (sym c.limit.ensures))
