use Rattle.std.proofs.Common.{not, length, arith}
use Rattle.std.proofs.lemmas.List.Sums.{prefix_len-le-length}
use Rattle.processor_claims.specs.Lines.{is_line_end}
use Rattle.processor_claims.proofs.LineLaws.{lines-split, split-shorter}
use Rattle.processor_claims.proofs.lines.split_line.Goals as goal

pub split_at-requires : goal.split_at-requires
split_at-requires c = omega (arith, c.line_len.ensures, prefix_len-le-length (λ x. not (is_line_end x)) c.args.text.now)

pub returns-clause-lines : goal.returns-clause-lines
returns-clause-lines c =
    lines-split c.args.text.now c.split_at.result.0.now c.split_at.result.1.now c.behind_line_end.result.now c.line_len.result
    c.requires c.line_len.ensures c.split_at.ensures.front c.split_at.ensures.back c.behind_line_end.ensures.lines

pub returns-clause-shorter : goal.returns-clause-shorter
returns-clause-shorter c =
    split-shorter (length c.split_at.result.1.now) (length c.behind_line_end.result.now) (length c.args.text.now) c.line_len.result
    c.requires c.split_at.ensures.back_len c.behind_line_end.ensures.no_longer c.behind_line_end.ensures.shorter
