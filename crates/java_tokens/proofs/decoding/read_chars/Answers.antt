use Rattle.std.proofs.Common.{◌≡◌, ◌+◌, ◌-◌, ◌≤◌, ◌++◌, ◌∷◌, [], length, take, drop, string_bytes, string_len, ap, sym, subst, ◌∙◌, arith, rules, length-append, length-drop}
use Rattle.std.proofs.lemmas.List.{take_rest}
use Rattle.std.proofs.lemmas.Str.{length-encode, IsUtf8-string_bytes}
use Rattle.std.specs.Prelude.{encode_utf8}
use Rattle.std.specs.Char.{len_utf8}
use Rattle.java_tokens.specs.declared.shift.Shift.{Shift}
use Rattle.java_tokens.specs.Characters.{HasChar, HasNoChar, slashes_after}
use Rattle.java_tokens.proofs.CharactersLemmas.{has_long, some_bytes}
use Rattle.java_tokens.proofs.Totals.{list_or_place}
use Rattle.java_tokens.proofs.Laws.{one_list, never_both, one_place}
use Rattle.java_tokens.proofs.Readings.{GoesOn, IsReading, reading_none, shift_stays, shift_grows, reading_more, reading_plain, reading_done, reading_stuck}
use Rattle.java_tokens.proofs.decoding.read_chars.Goals as goal
use Rattle.java_tokens.proofs.decoding.read_chars.Goals.{then-read-len_utf8+in_ok-push-2, else-read-len_utf8}

pub returns-in_err-text-clause-decided : goal.returns-in_err-text-clause-decided
returns-in_err-text-clause-decided c = list_or_place c.args.bytes.now

pub returns-in_err-shifts-clause-decided : goal.returns-in_err-shifts-clause-decided
returns-in_err-shifts-clause-decided c = list_or_place c.args.bytes.now

pub loop-at-init : goal.loop-at-init
loop-at-init c =
    subst (λ text. IsReading c.args.bytes.now text c.in_ok-shifts.shifts.items 0 0) (sym c.in_ok-text.ensures.bytes)
    (subst (λ shifts. IsReading c.args.bytes.now [] shifts 0 0) (sym c.in_ok-shifts.ensures.items) (reading_none c.args.bytes.now))

pub returns-in_default-clause-chars : goal.returns-in_default-clause-chars
returns-in_default-clause-chars c =
    reading_stuck c.args.bytes.now (string_bytes c.loop-at.text) c.loop-at.shifts.items c.loop-at.slashes c.loop-at.at c.loop-at.invariant c.loop-at-test.true
    (subst (HasNoChar c.loop-at.slashes) (take_rest c.args.bytes.now c.loop-at.at) c.in_default.ensures.char)

pub returns-in_default-clause-list : goal.returns-in_default-clause-list
returns-in_default-clause-list c = λ all are.
    absurd (never_both c.args.bytes.now all c.loop-at.at are (reading_stuck c.args.bytes.now (string_bytes c.loop-at.text) c.loop-at.shifts.items c.loop-at.slashes c.loop-at.at c.loop-at.invariant c.loop-at-test.true
    (subst (HasNoChar c.loop-at.slashes) (take_rest c.args.bytes.now c.loop-at.at) c.in_default.ensures.char)))

pub returns-in_default-clause-decided : goal.returns-in_default-clause-decided
returns-in_default-clause-decided c = list_or_place c.args.bytes.now

pub returns-in_default-clause-place : goal.returns-in_default-clause-place
returns-in_default-clause-place c = λ place is.
    one_place c.args.bytes.now c.loop-at.at place (reading_stuck c.args.bytes.now (string_bytes c.loop-at.text) c.loop-at.shifts.items c.loop-at.slashes c.loop-at.at c.loop-at.invariant c.loop-at-test.true
    (subst (HasNoChar c.loop-at.slashes) (take_rest c.args.bytes.now c.loop-at.at) c.in_default.ensures.char)) is

pub returns-in_err-push_str-clause-decided : goal.returns-in_err-push_str-clause-decided
returns-in_err-push_str-clause-decided c = list_or_place c.args.bytes.now

pub loop-at-preserved-then-not-is_empty : goal.loop-at-preserved-then-not-is_empty
loop-at-preserved-then-not-is_empty c =
    let bytes = c.args.bytes.now in
    let at = c.loop-at.at in
    let text = string_bytes c.loop-at.text in
    let plain = c.plain_front-plain.result.now in
    let shown = c.plain_front-plain.ensures in
    let text_is : string_bytes c.push_str.new.self ≡ text ++ plain = search rules in
    subst (λ t. IsReading bytes t c.loop-at.shifts.items 0 (at + length plain)) (sym text_is)
    (reading_plain bytes text c.loop-at.shifts.items c.loop-at.slashes at plain shown.front.0 c.loop-at.invariant (IsUtf8-string_bytes c.loop-at.text) shown.text shown.plain (some_bytes plain c.if-not-is_empty.ensures) (sym (take_rest bytes at) ∙ shown.front.1))

pub returns-in_err-push-clause-decided : goal.returns-in_err-push-clause-decided
returns-in_err-push-clause-decided c = list_or_place c.args.bytes.now

pub returns-in_err-push-2-clause-decided : goal.returns-in_err-push-2-clause-decided
returns-in_err-push-2-clause-decided c = list_or_place c.args.bytes.now

pub loop-at-preserved : goal.loop-at-preserved
loop-at-preserved c =
    let bytes = c.args.bytes.now in
    let at = c.loop-at.at in
    let text = string_bytes c.loop-at.text in
    let shifts = c.loop-at.shifts.items in
    let width = c.in-Some.read.width in
    let code = c.in-Some.read.code in
    let cut = take_rest bytes at in
    let has : HasChar c.loop-at.slashes (drop at bytes) width code = subst (λ r. HasChar c.loop-at.slashes r width code) cut c.in-Some.ensures.char in
    let wider : len_utf8 code ≤ width = has_long c.loop-at.slashes (drop at bytes) width code has in
    let within : width ≤ length (drop at bytes) = subst (λ r. width ≤ length r) cut c.in-Some.ensures.width.1 in
    let fits : at + width ≤ length bytes = omega (arith, within, length-drop at bytes, c.loop-at.invariant.within) in
    let text_is : string_bytes c.push.new.self ≡ text ++ encode_utf8 code = search rules in
    let long : string_len c.push.new.self ≡ length (string_bytes c.push.new.self) = search rules in
    let end_is : string_len c.push.new.self ≡ length text + len_utf8 code = omega (arith, long, ap length text_is, length-append text (encode_utf8 code), length-encode code) in
    let goes_on : GoesOn shifts c.if-read-len_utf8.shifts.items (length bytes) (length text + len_utf8 code) (at + width) = elim c.if-read-len_utf8.branch [
      | then-read-len_utf8+in_ok-push-2 w ↦
          let shift : Shift = record { place = w.len-place.result; by = at + width - w.len-place.result } in
          let place_is : shift.place ≡ length text + len_utf8 code = w.len-place.ensures ∙ end_is in
          let pushed : c.if-read-len_utf8.shifts.items ≡ shifts ++ shift ∷ [] = ap (λ v. v.items) w.shifts-is ∙ w.in_ok-push-2.ensures.items in
          subst (λ ss. GoesOn shifts ss (length bytes) (length text + len_utf8 code) (at + width)) (sym pushed)
          (shift_grows shifts shift (length bytes) (length text) at width (len_utf8 code) c.loop-at.invariant.shifted wider fits place_is (omega (arith, place_is, wider, c.loop-at.invariant.short)))
      | else-read-len_utf8 w ↦
          subst (λ ss. GoesOn shifts ss (length bytes) (length text + len_utf8 code) (at + width)) (sym (ap (λ v. v.items) w.shifts-is))
          (shift_stays shifts (length bytes) (length text) at width (len_utf8 code) c.loop-at.invariant.shifted (omega (arith, w.if-read-len_utf8.false, c.len_utf8.ensures.value)))
    ] in
    let more = reading_more bytes text shifts c.if-read-len_utf8.shifts.items c.loop-at.slashes at width code c.loop-at.invariant (IsUtf8-string_bytes c.loop-at.text) has c.in-Some.ensures.scalar fits goes_on in
    let slashes_are : c.count_slashes-slashes.result ≡ slashes_after c.loop-at.slashes (take width (drop at bytes)) = c.count_slashes-slashes.ensures ∙ ap (λ r. slashes_after c.loop-at.slashes (take width r)) cut in
    subst (λ t. IsReading bytes t c.if-read-len_utf8.shifts.items c.count_slashes-slashes.result (at + width)) (sym text_is)
    (subst (λ s. IsReading bytes (text ++ encode_utf8 code) c.if-read-len_utf8.shifts.items s (at + width)) (sym slashes_are) more)

pub returns-clause-list : goal.returns-clause-list
returns-clause-list c = λ all are.
    one_list c.args.bytes.now _ all (reading_done c.args.bytes.now (string_bytes c.loop-at.text) c.loop-at.shifts.items c.loop-at.slashes c.loop-at.at c.loop-at.invariant c.loop-at-test.false) are

pub returns-clause-place : goal.returns-clause-place
returns-clause-place c = λ place is.
    never_both c.args.bytes.now _ place (reading_done c.args.bytes.now (string_bytes c.loop-at.text) c.loop-at.shifts.items c.loop-at.slashes c.loop-at.at c.loop-at.invariant c.loop-at-test.false) is
