use Rattle.std.proofs.Common.{◌≡◌, length, sym, ◌∙◌, arith}
use Rattle.frame_reader.proofs.Staging.{length_bad, at_tag}
use Rattle.frame_reader.proofs.stage.in_length.Goals as goal

pub returns-then-is_out_of_range : goal.returns-then-is_out_of_range
returns-then-is_out_of_range c =
    let four : length c.args.bytes.now ≡ 4 = omega arith in
    length_bad c.args.bytes.now c.number_of-count.result four c.number_of-count.ensures (sym c.is_out_of_range.ensures ∙ c.if-is_out_of_range.true)

pub returns : goal.returns
returns c =
    let four : length c.args.bytes.now ≡ 4 = omega arith in
    at_tag c.args.bytes.now c.number_of-count.result c.start.new.self four c.number_of-count.ensures (sym c.is_out_of_range.ensures ∙ c.if-is_out_of_range.false) c.in_ok-start.ensures
