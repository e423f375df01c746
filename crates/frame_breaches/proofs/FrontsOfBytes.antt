-- What stands at the front of bytes: a frame, the first bad byte, or the beginning of a frame.
use Rattle.std.proofs.Common.{◌≡◌, ℕ, ◌+◌, ◌-◌, List, ◌++◌, length, take, drop, Option, None, Some, Result, Ok, Err, refl, sym, ap, ◌∙◌, append_assoc}
use Rattle.std.proofs.lemmas.List.{take-append-drop}
use Rattle.frame_forms.specs.declared.bad_kind.BadKind.{BadKind}
use Rattle.frame_forms.specs.Scans.{Scan, whole, begun, bad}
use Rattle.frame_forms.specs.FrameTable.{Fields}
use Rattle.frame_forms.specs.Frames.{frame_scan, place_in, first_bad}
use Rattle.frame_forms.proofs.FrameLawProofs.{first_bad_is_found}
use Rattle.wire_frames.specs.declared.frame.Frame.{Frame}
use Rattle.frame_reader.specs.declared.found.Found.TheVariants as founds
use Rattle.frame_reader.specs.Stages.{found_by, found_in}
use Rattle.frame_stream.specs.Streams.{frame_at}
use Rattle.frame_stream.proofs.StreamsLemmas.{frame_at-begun, frame_at-bad}
use Rattle.frame_breaches.specs.declared.breach.Breach.{Breach}
use Rattle.frame_breaches.specs.declared.breach.Breach.TheVariants.{Ended, Bad}
use Rattle.frame_breaches.specs.Breaches.{front_by, front_of}

pub front_is : (bytes : List ℕ) (first : Frame × List ℕ) → frame_at bytes ≡ Some first → front_of bytes ≡ Ok first
unfolding front_of
front_is bytes first is = ap (λ o. front_by o (first_bad bytes) (length bytes)) is

pub front_at : (bytes : List ℕ) (first : Frame × List ℕ) → front_of bytes ≡ Ok first → frame_at bytes ≡ Some first
unfolding front_of
front_at bytes first is = cases (frame_at bytes) (first_bad bytes) refl is
  where
    cases : (o : Option (Frame × List ℕ)) (b : Option (ℕ × BadKind)) → frame_at bytes ≡ o → front_by o b (length bytes) ≡ Ok first → frame_at bytes ≡ Some first
    cases (Some other) b there e = there ∙ (let same : other ≡ first = cc in ap Some same)
    cases None (Some place) there e = absurd cc
    cases None None there e = absurd cc

found_begun_bad : (bytes : List ℕ) → found_in bytes ≡ founds.Begun → first_bad bytes ≡ None
found_begun_bad bytes e = cases (frame_scan bytes) e
  where
    cases : (s : Scan Fields) → found_by bytes s ≡ founds.Begun → place_in bytes s ≡ None
    cases (whole a rest) f = absurd cc
    cases begun f = refl
    cases (bad rest kind) f = absurd cc

found_bad_at : (bytes : List ℕ) (place : ℕ) (kind : BadKind) → found_in bytes ≡ founds.Bad place kind → first_bad bytes ≡ Some (place, kind)
found_bad_at bytes place kind e = cases (frame_scan bytes) e
  where
    cases : (s : Scan Fields) → found_by bytes s ≡ founds.Bad place kind → place_in bytes s ≡ Some (place, kind)
    cases (whole a rest) f = absurd cc
    cases begun f = absurd cc
    cases (bad rest k) f = let at : length bytes - length rest ≡ place = cc in let is : k ≡ kind = cc in rw (at, is) refl

-- the first bad byte stays the first where more bytes come
bad_grows : (bytes more : List ℕ) (place : ℕ) (kind : BadKind) → first_bad bytes ≡ Some (place, kind) → first_bad (bytes ++ more) ≡ Some (place, kind)
bad_grows bytes more place kind is =
    let found = (first_bad_is_found bytes place kind).0 is in
    let split : bytes ++ more ≡ take (place + 1) bytes ++ (drop (place + 1) bytes ++ more) =
    ap (λ (b : List ℕ). b ++ more) (sym (take-append-drop (place + 1) bytes)) ∙ append_assoc (take (place + 1) bytes) (drop (place + 1) bytes) more in
    ap first_bad split ∙ found.after (drop (place + 1) bytes ++ more)

-- a bad byte, whatever comes behind it
pub front_bad : (bytes more : List ℕ) (place : ℕ) (kind : BadKind) → found_in bytes ≡ founds.Bad place kind → front_of (bytes ++ more) ≡ Err (Bad place kind)
unfolding front_of
front_bad bytes more place kind e =
    ap (λ o. front_by o (first_bad (bytes ++ more)) (length (bytes ++ more))) (frame_at-bad bytes more place kind e)
    ∙ ap (λ o. front_by None o (length (bytes ++ more))) (bad_grows bytes more place kind (found_bad_at bytes place kind e))

-- the beginning of a frame, and no more
pub front_begun : (bytes : List ℕ) → found_in bytes ≡ founds.Begun → front_of bytes ≡ Err (Ended (length bytes))
unfolding front_of
front_begun bytes e =
    ap (λ o. front_by o (first_bad bytes) (length bytes)) (frame_at-begun bytes e) ∙ ap (λ o. front_by None o (length bytes)) (found_begun_bad bytes e)
