-- Mirrors and values by the room that there is for them.
use Rattle.std.proofs.Common.{◌≡◌, ℕ, zero, suc, ◌-◌, ◌≤◌, List, None, refl, ap, arith}
use Rattle.frame_decoder.specs.PartReadings.{mirror_in, mirror_next, value_in, value_next}

pub mirror_next-none : (bytes : List ℕ) → mirror_next 0 bytes ≡ None
unfolding mirror_next
mirror_next-none bytes = refl

pub mirror_next-more : (room : ℕ) (bytes : List ℕ) → 1 ≤ room → mirror_in (mirror_next (room - 1)) bytes ≡ mirror_next room bytes
unfolding mirror_next
mirror_next-more zero bytes some = absurd (omega (arith, some))
mirror_next-more (suc room) bytes some = let less : suc room - 1 ≡ room = omega arith in ap (λ (n : ℕ). mirror_in (mirror_next n) bytes) less

pub value_next-none : (bytes : List ℕ) → value_next 0 bytes ≡ None
unfolding value_next
value_next-none bytes = refl

pub value_next-more : (room : ℕ) (bytes : List ℕ) → 1 ≤ room → value_in (mirror_next (room - 1)) (value_next (room - 1)) bytes ≡ value_next room bytes
unfolding value_next
value_next-more zero bytes some = absurd (omega (arith, some))
value_next-more (suc room) bytes some = let less : suc room - 1 ≡ room = omega arith in ap (λ (n : ℕ). value_in (mirror_next n) (value_next n) bytes) less
