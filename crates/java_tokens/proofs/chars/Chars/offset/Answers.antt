use Rattle.std.proofs.Common.{◌≡◌, ◌∙◌, length, string_bytes, slice_get, Some, ap, subst, arith}
use Rattle.std.specs.Str.{chars}
use Rattle.apt_base.specs.Limits.{max_file_bytes}
use Rattle.java_tokens.specs.CharsShown.{places_from, shift_at}
use Rattle.java_tokens.proofs.Shifts.{shift_within}
use Rattle.java_tokens.proofs.Offsets.{offset_found}
use Rattle.java_tokens.proofs.chars.Chars.offset.Goals as goal

pub overflow_add-result : goal.overflow_add-result
overflow_add-result c =
    let shifts = c.args.self.now.shifts.items in
    let place = c.in_ok-place.place in
    let by = ap (λ ss. shift_at ss place) c.as_slice.ensures.value in
    omega (arith, c.in_ok-place.ensures.within, ap length c.as_str.ensures.value, c.args.self.now.small, c.shift_at.ensures, by, shift_within max_file_bytes shifts place c.args.self.now.within)

pub returns : goal.returns
returns c =
    let bs = string_bytes c.args.self.now.text in
    let shifts = c.args.self.now.shifts.items in
    let place = c.in_ok-place.place in
    let found : Some place ≡ slice_get (places_from 0 (chars bs)) c.args.at = subst (λ t. Some place ≡ slice_get (places_from 0 (chars t)) c.args.at) c.as_str.ensures.value c.in_ok-place.ensures.place in
    offset_found (chars bs) shifts c.args.at place c.shift_at.result found (c.shift_at.ensures ∙ ap (λ ss. shift_at ss place) c.as_slice.ensures.value)
