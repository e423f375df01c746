-- What a reader makes of the next bytes, in the words of a session.
use Rattle.std.proofs.Common.{◌≡◌, inl, inr, ℕ, ◌+◌, ◌-◌, ◌<◌, ◌≤◌, List, [], ◌∷◌, ◌++◌, length, take, drop, get_or, Some, None, Ok, Err, sym, ap, ◌∙◌, append_assoc, append-nil, arith}
use Rattle.std.proofs.lemmas.List.{take_more, take_all, take-append-drop, length-drop}
use Rattle.frame_forms.specs.declared.bad_kind.BadKind.{BadKind}
use Rattle.wire_frames.specs.declared.frame.Frame.{Frame}
use Rattle.frame_reader.specs.declared.found.Found.TheVariants as founds
use Rattle.frame_reader.specs.Stages.{found_in}
use Rattle.frame_reader.proofs.Wanted.{found_begun}
use Rattle.frame_stream.specs.declared.reader.ReadFault.TheVariants as faults
use Rattle.frame_stream.specs.Streams.{frame_at, AnswersLast, ComesOf}
use Rattle.frame_breaches.specs.declared.breach.Breach.TheVariants.{Bad}
use Rattle.frame_breaches.specs.Breaches.{front_of}
use Rattle.frame_breaches.proofs.FrontsOfBytes.{front_bad}
use Rattle.local_procs.specs.declared.local.Local.{Local}
use Rattle.local_procs.specs.Says.{At, step}
use Rattle.local_children.specs.Streams.{Session, over, answered, heard, after, open_session}
use Rattle.local_children.proofs.Sessions.{after-append, after_fronts, begun_fronts, after_whole}

-- the front of a piece, with the last byte that was taken
last_taken : (taken : ℕ) (piece : List ℕ) → 0 < taken → taken ≤ length piece → take taken piece ≡ take (taken - 1) piece ++ get_or piece (taken - 1) 0 ∷ []
last_taken taken piece some within =
    let one_more : taken ≡ (taken - 1) + 1 = omega (arith, some) in
    ap (λ (n : ℕ). take n piece) one_more ∙ take_more piece (taken - 1) 0 (omega (arith, some, within))

module _ (local : Local) (written : List ℕ) (at : At) (old piece : List ℕ) (taken : ℕ) (new : List ℕ) where
  -- all of it begins a frame
  pub hears_begun : ComesOf (Ok None) taken piece old new → after local (open_session written (at, old)) (take taken piece) ≡ open_session written (at, new)
  hears_begun comes =
      ap (after local (open_session written (at, old))) (take_all taken piece (omega (arith, comes.0)))
      ∙ after_fronts local written at old piece (begun_fronts old piece (found_begun (old ++ piece) comes.1.0))
      ∙ ap (λ (b : List ℕ). open_session written (at, b)) (sym comes.1.1)

  -- its front ends a frame
  pub hears_frame : (frame : Frame) → ComesOf (Ok (Some frame)) taken piece old new → after local (open_session written (at, old)) (take taken piece) ≡ answered written (step local at frame)
  hears_frame frame answers =
      let front = take (taken - 1) piece in
      let byte = get_or piece (taken - 1) 0 in
      let split = last_taken taken piece answers.some answers.within in
      let there : frame_at ((old ++ front) ++ byte ∷ []) ≡ Some (frame, []) =
      ap frame_at (append_assoc old front (byte ∷ []) ∙ ap (λ (b : List ℕ). old ++ b) (sym split)) ∙ answers.comes.2 in
      ap (after local (open_session written (at, old))) split ∙ after_whole local written at old front byte frame (found_begun (old ++ front) answers.begun) there

  -- a bad byte ends its front
  bad_last : (place : ℕ) (kind : BadKind) → AnswersLast (Err (faults.Bad place kind)) taken piece old new
      → after local (open_session written (at, old)) (take taken piece) ≡ over written (Bad place kind)
  unfolding after
  bad_last place kind answers =
      let front = take (taken - 1) piece in
      let byte = get_or piece (taken - 1) 0 in
      let split = last_taken taken piece answers.some answers.within in
      let all : (old ++ front) ++ byte ∷ [] ≡ (old ++ take taken piece) ++ [] =
      append_assoc old front (byte ∷ []) ∙ ap (λ (b : List ℕ). old ++ b) (sym split) ∙ sym (append-nil (old ++ take taken piece)) in
      ap (after local (open_session written (at, old))) split
      ∙ after-append local (open_session written (at, old)) front (byte ∷ [])
      ∙ ap (λ (s : Session). after local s (byte ∷ [])) (after_fronts local written at old front (begun_fronts old front (found_begun (old ++ front) answers.begun)))
      ∙ ap (heard local written (at, (old ++ front) ++ byte ∷ [])) (ap front_of all ∙ front_bad (old ++ take taken piece) [] place kind answers.comes.0)

  pub hears_bad : (place : ℕ) (kind : BadKind) → found_in old ≡ founds.Begun → ComesOf (Err (faults.Bad place kind)) taken piece old new
      → (after local (open_session written (at, old)) (take taken piece) ≡ over written (Bad place kind)) × (0 < taken)
  hears_bad place kind starts (inl answers) = (bad_last place kind answers, answers.some)
  hears_bad place kind starts (inr none) = absurd (let e : founds.Begun ≡ founds.Bad place kind = sym starts ∙ none.1.0 in cc)

-- the front was heard, and what is left goes on from there
pub hears_rest : (local : Local) (session : Session) (rest : List ℕ) (taken : ℕ) → taken ≤ length rest
    → after local session rest ≡ after local (after local session (take taken rest)) (take (length rest - taken) (drop taken rest))
hears_rest local session rest taken within =
    let all : take (length rest - taken) (drop taken rest) ≡ drop taken rest = take_all (length rest - taken) (drop taken rest) (omega (arith, length-drop taken rest)) in
    ap (after local session) (sym (take-append-drop taken rest)) ∙ after-append local session (take taken rest) (drop taken rest)
    ∙ ap (after local (after local session (take taken rest))) (sym all)
