-- What the front of a piece comes to.
use Rattle.std.proofs.Common.{◌≡◌, inl, inr, ℕ, zero, suc, ◌+◌, ◌-◌, ◌<◌, ◌≤◌, true, false, eqb, List, [], ◌∷◌, ◌++◌, length, take, get_or, Option, Some, None, Result, Ok, Err, refl, sym, ap, subst, ◌∙◌, append_assoc, append-nil, arith}
use Rattle.std.proofs.lemmas.Bool.{eqb-true}
use Rattle.std.proofs.lemmas.List.{take_more, take_all, length-append, length-take, nil_from_length}
use Rattle.frame_forms.specs.declared.bad_kind.BadKind.{BadKind}
use Rattle.wire_frames.specs.declared.frame.Frame.{Frame}
use Rattle.wire_frames.specs.Frames.{AreBytesOf}
use Rattle.frame_reader.specs.declared.found.Found.{Found}
use Rattle.frame_reader.specs.declared.found.Found.TheVariants as founds
use Rattle.frame_reader.specs.declared.found.Interrupted.{Interrupted}
use Rattle.frame_reader.specs.Stages.{found_in, IsWholeFrame, is_begun, TakesPiece}
use Rattle.frame_reader.proofs.Scanning.{frame_found}
use Rattle.frame_reader.proofs.Wanted.{found_begun}
use Rattle.frame_stream.specs.declared.reader.ReadFault.{ReadFault}
use Rattle.frame_stream.specs.declared.reader.ReadFault.TheVariants as faults
use Rattle.frame_stream.specs.Streams.{frame_at, pending, most_bytes, Comes, AnswersLast, ComesOf}
use Rattle.frame_stream.proofs.StreamsLemmas.{pending_begun, pending_bad, pending_whole, pending_none, take_all_but_one, pending_is_begun, begun_short}

-- ---- what was taken

open_is : (bytes : List ℕ) → is_begun (found_in bytes) ≡ true → found_in bytes ≡ founds.Begun
open_is bytes e = cases (found_in bytes) refl e
  where
    cases : (found : Found) → found_in bytes ≡ found → is_begun found ≡ true → found_in bytes ≡ founds.Begun
    cases founds.Begun is f = is
    cases founds.Whole is f = absurd cc
    cases (founds.Bad place kind) is f = absurd cc

some_taken : (taken : ℕ) (piece old new : List ℕ) → new ≡ old ++ take taken piece → found_in old ≡ founds.Begun → is_begun (found_in new) ≡ false → 0 < taken
some_taken zero piece old new e starts closed =
    let wrong : true ≡ false = ap is_begun (sym (ap found_in (e ∙ append-nil old) ∙ starts)) ∙ closed in absurd cc
some_taken (suc taken) piece old new e starts closed = omega arith

begun_before : (taken : ℕ) (piece old new : List ℕ) → 0 < taken → is_begun (found_in new) ≡ false → TakesPiece (Ok taken) piece old new → found_in (old ++ take (taken - 1) piece) ≡ founds.Begun
begun_before taken piece old new some closed (inl (all, begins)) = let wrong : true ≡ false = sym begins ∙ closed in absurd cc
begun_before taken piece old new some closed (inr (inl none, again)) = absurd (omega (arith, some, none))
begun_before taken piece old new some closed (inr (inr begins, again)) = open_is (old ++ take (taken - 1) piece) begins

-- ---- what is answered

module _ (taken : ℕ) (piece old new : List ℕ) (starts : found_in old ≡ founds.Begun) (le : taken ≤ length piece) (e : new ≡ old ++ take taken piece) (takes : TakesPiece (Ok taken) piece old new) where
  answers_last : (answer : Result (Option Frame) ReadFault) (left : List ℕ) → is_begun (found_in new) ≡ false → Comes answer (old ++ take (taken - 1) piece) (old ++ take taken piece) left → AnswersLast answer taken piece old left
  answers_last answer left closed comes =
      let some = some_taken taken piece old new e starts closed in
      record { some = some; within = le; begun = begun_before taken piece old new some closed takes; comes = comes }

  pub piece_goes_on : (found : Found) → found ≡ found_in new → found ≡ founds.Begun → ComesOf (Ok None) taken piece old (pending new)
  piece_goes_on found is begins = cases takes
    where
      there : found_in new ≡ founds.Begun
      there = sym is ∙ begins

      cases : TakesPiece (Ok taken) piece old new → ComesOf (Ok None) taken piece old (pending new)
      cases (inl (all, begins)) =
          let full : new ≡ old ++ piece = e ∙ ap (λ (t : List ℕ). old ++ t) (take_all taken piece (omega (arith, all))) in
          (all, (ap found_in (sym full) ∙ there, pending_begun new there ∙ full))
      cases (inr (before, closed)) = let wrong : true ≡ false = ap is_begun (sym there) ∙ closed in absurd cc

  pub piece_turns_bad : (place : ℕ) (kind : BadKind) (found : Found) → found ≡ found_in new → found ≡ founds.Bad place kind → ComesOf (Err (faults.Bad place kind)) taken piece old (pending new)
  piece_turns_bad place kind found is wrong =
      let there : found_in new ≡ founds.Bad place kind = sym is ∙ wrong in
      inl (answers_last (Err (faults.Bad place kind)) (pending new) (ap is_begun there) (ap found_in (sym e) ∙ there, pending_bad new place kind there ∙ e))

  pub piece_given : (left : List ℕ) (frame : Frame) → IsWholeFrame new → AreBytesOf new frame → frame_at new ≡ Some (frame, []) → left ≡ [] → ComesOf (Ok (Some frame)) taken piece old (pending left)
  piece_given left frame is bytes stands none =
      answers_last (Ok (Some frame)) (pending left) (ap is_begun (frame_found new is)) (subst (λ (b : List ℕ). AreBytesOf b frame) e bytes, ap pending none ∙ pending_none, ap frame_at (sym e) ∙ stands)

  pub piece_not_given : (left : List ℕ) (less : ℕ) → IsWholeFrame new → left ≡ new → less ≡ taken - 1 → ComesOf (Err faults.Memory) less piece old (pending left)
  piece_not_given left less is same fewer =
      let closed = ap is_begun (frame_found new is) in
      let some = some_taken taken piece old new e starts closed in
      let front = old ++ take (taken - 1) piece in
      let byte = get_or piece (taken - 1) 0 in
      let one_more : taken ≡ (taken - 1) + 1 = omega (arith, some) in
      let more : take taken piece ≡ take (taken - 1) piece ++ byte ∷ [] = ap (λ (n : ℕ). take n piece) one_more ∙ take_more piece (taken - 1) 0 (omega (arith, some, le)) in
      let split : new ≡ front ++ byte ∷ [] = e ∙ ap (λ (t : List ℕ). old ++ t) more ∙ sym (append_assoc old (take (taken - 1) piece) (byte ∷ [])) in
      let there : pending left ≡ front = ap pending same ∙ pending_whole new is ∙ ap (λ (b : List ℕ). take (length b - 1) b) split ∙ take_all_but_one front byte in
      subst (λ (n : ℕ). ComesOf (Err faults.Memory) n piece old (pending left)) (sym fewer)
      (omega (arith, some, le), (begun_before taken piece old new some closed takes, there))

-- without memory for the byte behind those that were taken
pub piece_not_taken : (interrupted : Interrupted) (piece old new : List ℕ) → new ≡ old ++ take interrupted.taken piece → TakesPiece (Err interrupted) piece old new → ComesOf (Err faults.Memory) interrupted.taken piece old (pending new)
piece_not_taken interrupted piece old new e takes =
    let there = open_is new takes.1 in
    (takes.0, (ap found_in (sym e) ∙ there, pending_begun new there ∙ e))

-- ---- by what is found before the piece

pub piece_stays_bad : (old piece : List ℕ) (place : ℕ) (kind : BadKind) (found : Found) → found ≡ found_in old → found ≡ founds.Bad place kind → ComesOf (Err (faults.Bad place kind)) 0 piece (pending old) (pending old)
piece_stays_bad old piece place kind found is wrong =
    let there : found_in old ≡ founds.Bad place kind = sym is ∙ wrong in
    inr (refl, (ap found_in (pending_bad old place kind there) ∙ there, refl))

pub piece_from_begun : (answer : Result (Option Frame) ReadFault) (taken : ℕ) (piece old new : List ℕ) → found_in old ≡ founds.Begun → ComesOf answer taken piece old new → ComesOf answer taken piece (pending old) new
piece_from_begun answer taken piece old new starts = subst (λ (b : List ℕ). ComesOf answer taken piece b new) (sym (pending_begun old starts))

pub piece_from_whole : (answer : Result (Option Frame) ReadFault) (taken : ℕ) (piece old front new : List ℕ) → IsWholeFrame old → front ≡ take (length old - 1) old → ComesOf answer taken piece front new → ComesOf answer taken piece (pending old) new
piece_from_whole answer taken piece old front new is e = subst (λ (b : List ℕ). ComesOf answer taken piece b new) (e ∙ sym (pending_whole old is))

pub nothing_fed : (old piece : List ℕ) → IsWholeFrame old → eqb (length piece) 0 ≡ true → ComesOf (Ok None) 0 piece (pending old) (pending old)
nothing_fed old piece is empty =
    let none : length piece ≡ 0 = eqb-true (length piece) 0 empty in
    let same : pending old ++ piece ≡ pending old = ap (λ (t : List ℕ). pending old ++ t) (nil_from_length piece none) ∙ append-nil (pending old) in
    (sym none, (ap found_in same ∙ pending_is_begun old is, sym same))

pub nothing_taken : (old piece : List ℕ) → IsWholeFrame old → eqb (length piece) 0 ≡ false → ComesOf (Err faults.Memory) 0 piece (pending old) (pending old)
nothing_taken old [] is some = absurd cc
nothing_taken old (byte ∷ rest) is some = (omega arith, (ap found_in (append-nil (pending old)) ∙ pending_is_begun old is, sym (append-nil (pending old))))

-- ---- the bytes stay within a frame's

pub piece_stays_short : (answer : Result (Option Frame) ReadFault) (taken : ℕ) (piece old new : List ℕ) → ComesOf answer taken piece old new → length old ≤ most_bytes → length new ≤ most_bytes
piece_stays_short (Ok (Some frame)) taken piece old new answers short = let c = answers.comes.1 in omega (arith, ap length c)
piece_stays_short (Ok None) taken piece old new comes short = omega (arith, ap length comes.1.1, begun_short (old ++ piece) (found_begun (old ++ piece) comes.1.0))
piece_stays_short (Err (faults.Bad place kind)) taken piece old new (inl answers) short =
    let c = answers.comes.1 in
    let b = begun_short (old ++ take (taken - 1) piece) (found_begun (old ++ take (taken - 1) piece) answers.begun) in
    omega (arith, ap length c, b, length-append old (take taken piece), length-append old (take (taken - 1) piece), length-take taken piece, length-take (taken - 1) piece)
piece_stays_short (Err (faults.Bad place kind)) taken piece old new (inr (none, comes)) short = omega (arith, ap length comes.1, short)
piece_stays_short (Err faults.Memory) taken piece old new comes short =
    let front = old ++ take taken piece in omega (arith, ap length comes.1.1, begun_short front (found_begun front comes.1.0))
