-- What the bytes that are fed to a reader lead to.
use Rattle.std.proofs.Common.{◌≡◌, ℕ, ◌≤◌, List, [], ◌++◌, length, take, drop, Some, Ok, Err, inl, inr, sym, ap, ◌∙◌, append_assoc, arith}
use Rattle.std.proofs.lemmas.List.{take_all, take-append-drop, length-take-le}
use Rattle.frame_forms.specs.declared.bad_kind.BadKind.{BadKind}
use Rattle.wire_frames.specs.declared.frame.Frame.{Frame}
use Rattle.frame_reader.specs.declared.found.Found.TheVariants as founds
use Rattle.frame_reader.specs.Stages.{found_in, IsWholeFrame, wanted_in}
use Rattle.frame_reader.proofs.Wanted.{frame_wants}
use Rattle.frame_stream.specs.declared.reader.ReadFault.TheVariants as faults
use Rattle.frame_stream.specs.Streams.{frame_at, AnswersLast, ComesOf}
use Rattle.frame_stream.proofs.StreamsLemmas.{bytes_whole, frame_at-append}
use Rattle.frame_breaches.specs.declared.breach.Breach.TheVariants.{Bad}
use Rattle.frame_breaches.specs.Breaches.{front_of}
use Rattle.child_session.specs.Talk.{FindsFrame}
use Rattle.frame_breaches.proofs.FrontsOfBytes.{front_is, front_bad}

module _ (old bytes : List ℕ) (taken : ℕ) (new : List ℕ) (starts : found_in old ≡ founds.Begun) where
  -- a frame ends with the last byte of those that come next
  pub frame_ends : (frame : Frame) → length bytes ≤ wanted_in old → AnswersLast (Ok (Some frame)) taken bytes old new → (rest : List ℕ) → FindsFrame ((old ++ bytes) ++ rest) (Ok frame) rest
  frame_ends frame next answers rest =
      let whole : IsWholeFrame (old ++ take taken bytes) = bytes_whole (old ++ take taken bytes) frame answers.comes.0 in
      let all : take taken bytes ≡ bytes = take_all taken bytes (omega (arith, answers.within, next, frame_wants old (take taken bytes) starts whole, length-take-le taken bytes answers.within)) in
      let there : frame_at (old ++ bytes) ≡ Some (frame, []) = ap (λ (t : List ℕ). frame_at (old ++ t)) (sym all) ∙ answers.comes.2 in
      front_is ((old ++ bytes) ++ rest) (frame, rest) (frame_at-append (old ++ bytes) rest (frame, []) there)

  -- a bad byte stands there, whatever comes behind it
  bad_last : (place : ℕ) (kind : BadKind) → AnswersLast (Err (faults.Bad place kind)) taken bytes old new → (rest : List ℕ) → FindsFrame ((old ++ bytes) ++ rest) (Err (Bad place kind)) rest
  bad_last place kind answers rest =
      let front : List ℕ = take taken bytes in
      let back : List ℕ = drop taken bytes in
      let split : (old ++ bytes) ++ rest ≡ (old ++ front) ++ (back ++ rest) =
      ap (λ (b : List ℕ). (old ++ b) ++ rest) (sym (take-append-drop taken bytes)) ∙ ap (λ (b : List ℕ). b ++ rest) (sym (append_assoc old front back)) ∙ append_assoc (old ++ front) back rest in
      ap front_of split ∙ front_bad (old ++ front) (back ++ rest) place kind answers.comes.0

  pub bad_ends : (place : ℕ) (kind : BadKind) → ComesOf (Err (faults.Bad place kind)) taken bytes old new → (rest : List ℕ) → FindsFrame ((old ++ bytes) ++ rest) (Err (Bad place kind)) rest
  bad_ends place kind (inl answers) rest = bad_last place kind answers rest
  bad_ends place kind (inr none) rest = absurd (let e : founds.Begun ≡ founds.Bad place kind = sym starts ∙ none.1.0 in cc)
