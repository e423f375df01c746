-- Frames at the front of bytes, and behind others.
use Rattle.std.proofs.Common.{◌≡◌, ℕ, zero, suc, List, ◌++◌, Option, None, Some, Ok, refl, sym, ap, ◌∙◌}
use Rattle.std.specs.Prelude.{option_and_then}
use Rattle.wire_frames.specs.declared.frame.Frame.{Frame}
use Rattle.frame_stream.specs.Streams.{frame_at}
use Rattle.frame_stream.proofs.StreamsLemmas.{frame_at-append}
use Rattle.frame_breaches.specs.Breaches.{front_of, go_on, front_behind}
use Rattle.child_session.specs.Talk.{rest_after}
use Rattle.frame_breaches.proofs.FrontsOfBytes.{front_is}

and_then_some : {A B : Type 0} (f : A → Option B) (o : Option A) (b : B) → option_and_then f o ≡ Some b → (a : A) × (o ≡ Some a) × (f a ≡ Some b)
and_then_some f None b e = absurd cc
and_then_some f (Some a) b e = (a, refl, e)

-- what follows this many frames is longer where more bytes come
pub rest_after-append : (n : ℕ) (bytes rest more : List ℕ) → rest_after n bytes ≡ Some rest → rest_after n (bytes ++ more) ≡ Some (rest ++ more)
unfolding rest_after
rest_after-append zero bytes rest more is = let same : bytes ≡ rest = cc in ap (λ xs. Some (xs ++ more)) same
rest_after-append (suc n) bytes rest more is =
    let first = and_then_some (λ x. rest_after n x.1) (frame_at bytes) rest is in
    rw (frame_at-append bytes more first.0 first.1) (rest_after-append n first.0.1 rest more first.2)

-- one frame more
pub rest_after-next : (n : ℕ) (bytes waiting left : List ℕ) (frame : Frame) → rest_after n bytes ≡ Some waiting → frame_at waiting ≡ Some (frame, left) → rest_after (suc n) bytes ≡ Some left
unfolding rest_after
rest_after-next zero bytes waiting left frame is found = let same : bytes ≡ waiting = cc in rw (same, found) refl
rest_after-next (suc n) bytes waiting left frame is found =
    let first = and_then_some (λ x. rest_after n x.1) (frame_at bytes) waiting is in
    rw first.1 (rest_after-next n first.0.1 waiting left frame first.2 found)

-- what stands behind this many whole frames is what is in front of the bytes that follow them
pub front_behind-is : (n : ℕ) (bytes rest : List ℕ) → rest_after n bytes ≡ Some rest → front_behind n bytes ≡ front_of rest
unfolding rest_after front_behind
front_behind-is zero bytes rest is = let same : bytes ≡ rest = cc in ap front_of same
front_behind-is (suc n) bytes rest is =
    let first = and_then_some (λ x. rest_after n x.1) (frame_at bytes) rest is in
    ap (go_on (front_behind n)) (front_is bytes first.0 first.1) ∙ front_behind-is n first.0.1 rest first.2
