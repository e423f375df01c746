use Rattle.std.proofs.Common.{◌∙◌, string_bytes, ap, arith}
use Rattle.std.specs.Str.{chars}
use Rattle.apt_base.specs.Limits.{max_file_bytes}
use Rattle.java_tokens.specs.CharsShown.{shift_at}
use Rattle.java_tokens.proofs.Shifts.{shift_within}
use Rattle.java_tokens.proofs.Places.{offset_of_place}
use Rattle.java_tokens.proofs.place.offset_at.Goals as goal

pub overflow_add-result : goal.overflow_add-result
overflow_add-result c =
    let by = ap (λ ss. shift_at ss c.args.width) c.as_slice.ensures.value in
    omega (arith, c.requires, c.shift_at.ensures, by, shift_within max_file_bytes c.args.chars.now.shifts.items c.args.width c.args.chars.now.within)

pub returns : goal.returns
returns c = λ before at.
    offset_of_place (chars (string_bytes c.args.chars.now.text)) c.args.chars.now.shifts.items before c.args.width c.shift_at.result (omega (arith, at.0)) at.1
    (c.shift_at.ensures ∙ ap (λ ss. shift_at ss c.args.width) c.as_slice.ensures.value)
