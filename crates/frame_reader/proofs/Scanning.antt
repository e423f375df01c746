-- What is found at each stage.
use Rattle.std.proofs.Common.{◌≡◌, inl, inr, Ok, ℕ, ◌+◌, ◌-◌, ◌<◌, ◌≤◌, Bool, true, false, List, [], ◌∷◌, ◌++◌, length, take, drop, get_or, slice_get, Option, Some, None, refl, sym, ap, ◌∙◌, subst, append_assoc, append-nil, take-add, arith}
use Rattle.std.proofs.lemmas.List.{length-append, length-take-le, length-drop}
use Rattle.frame_forms.specs.declared.bad_kind.BadKind.{BadKind}
use Rattle.frame_forms.specs.declared.bad_kind.BadKind.TheVariants as kinds
use Rattle.frame_forms.specs.Scans.{Scan, whole, begun, bad}
use Rattle.frame_forms.specs.FrameTable.{Fields, frame_form}
use Rattle.frame_forms.specs.Frames.{scanned, frame_scan}
use Rattle.frame_forms.proofs.Framed.{range_is, begun_front}
use Rattle.frame_forms.proofs.FrameLawProofs.{frames_steady}
use Rattle.frame_reader.specs.declared.fields.FieldsReader.{FieldsReader}
use Rattle.frame_reader.specs.declared.found.Found.{Found}
use Rattle.frame_reader.specs.declared.found.Found.TheVariants as founds
use Rattle.frame_reader.specs.declared.stage.Stage.{Stage}
use Rattle.frame_reader.specs.declared.stage.Stage.TheVariants as stages
use Rattle.frame_reader.specs.declared.task.Gather.{Gather}
use Rattle.frame_reader.specs.declared.task.Taken.{Taken}
use Rattle.frame_reader.specs.declared.task.Taken.TheVariants as takens
use Rattle.frame_reader.specs.declared.task.Task.{Task}
use Rattle.frame_reader.specs.declared.task.TextList.{TextList}
use Rattle.frame_reader.specs.Rests.{Reading, forgotten}
use Rattle.frame_reader.specs.Stands.{Stands}
use Rattle.frame_reader.specs.Follows.{Means, Comes, Follows, TellsEnd, ahead_of, skipped}
use Rattle.frame_reader.specs.Stages.{found_by, found_in, IsWholeFrame, is_begun, is_whole, fields_behind, IsWithin, InStage, CanTake, fed_by, fed, released_by, released, IsBegun, IsOpenBefore, TakesFront, TakesRun, TakesPiece}
use Rattle.frame_reader.proofs.Following.{gather_tells, list_tells, task_tells, none_tells}
use Rattle.frame_reader.proofs.Stepping.{gathers_many}
use Rattle.frame_reader.proofs.Staging.{short_begun, within_found, bad_byte, byte_behind, goes_on, ends_whole, ends_early}

-- a reader tells whether it is at the end
tells : (reader : FieldsReader) → (done : Bool) × TellsEnd reader done
tells reader = by_gather reader.gather refl
  where
    by_last : reader.gather ≡ None → reader.list ≡ None → (o : Option Task) → slice_get reader.stack (length reader.stack - 1) ≡ o → (done : Bool) × TellsEnd reader done
    by_last g l None k = (true, none_tells reader g l k)
    by_last g l (Some task) k = (false, task_tells reader task g l k)

    by_list : reader.gather ≡ None → (o : Option TextList) → reader.list ≡ o → (done : Bool) × TellsEnd reader done
    by_list g None l = by_last g l (slice_get reader.stack (length reader.stack - 1)) refl
    by_list g (Some list) l = (false, list_tells reader list g l)

    by_gather : (o : Option Gather) → reader.gather ≡ o → (done : Bool) × TellsEnd reader done
    by_gather None g = by_list g reader.list refl
    by_gather (Some gather) g = (false, gather_tells reader gather g)

fields_begun : (end : ℕ) (fields : FieldsReader) (bytes : List ℕ) → IsWithin end fields bytes → found_in bytes ≡ founds.Begun
fields_begun end fields bytes w = let t = tells fields in within_found end fields bytes t.0 t.1 w

pub length_found : (stage : Stage) (fields : FieldsReader) (bytes : List ℕ) → stage ≡ stages.Length → InStage stage fields bytes → found_in bytes ≡ founds.Begun
length_found stage fields bytes e s = short_begun bytes (subst (λ (t : Stage). InStage t fields bytes) e s)

pub fields_found : (stage : Stage) (end : ℕ) (fields : FieldsReader) (bytes : List ℕ) → stage ≡ stages.Fields end → InStage stage fields bytes → found_in bytes ≡ founds.Begun
fields_found stage end fields bytes e s = fields_begun end fields bytes (subst (λ (t : Stage). InStage t fields bytes) e s)

pub frame_found : (bytes : List ℕ) → IsWholeFrame bytes → found_in bytes ≡ founds.Whole
frame_found bytes f = ap (found_by bytes) f.1

pub whole_found : (stage : Stage) (fields : FieldsReader) (bytes : List ℕ) → stage ≡ stages.Whole → InStage stage fields bytes → IsWholeFrame bytes
whole_found stage fields bytes e s = subst (λ (t : Stage). InStage t fields bytes) e s

pub can_take : (stage : Stage) (fields : FieldsReader) (bytes : List ℕ) → InStage stage fields bytes → is_begun (found_in bytes) ≡ true → CanTake stage fields (length bytes)
can_take stages.Length fields bytes s e = s
can_take (stages.Fields end) fields bytes w e =
    let most = (range_is (scanned frame_form) w.count w.is_length.in_range).1 in
    (w.means.gathering, w.before, omega (arith, most, w.ends))
can_take stages.Whole fields bytes s e = let wrong : false ≡ true = ap is_begun (sym (frame_found bytes s)) ∙ e in absurd (cc)
can_take (stages.Bad place kind) fields bytes s e = let wrong : false ≡ true = ap is_begun (sym s) ∙ e in absurd (cc)

-- ---- bytes that are taken

fed_by_open : (found : Found) (bytes more : List ℕ) → is_begun found ≡ true → fed_by found bytes more ≡ bytes ++ more
fed_by_open founds.Begun bytes more e = refl
fed_by_open founds.Whole bytes more e = absurd (cc)
fed_by_open (founds.Bad place kind) bytes more e = absurd (cc)

fed_by_closed : (found : Found) (bytes more : List ℕ) → is_begun found ≡ false → fed_by found bytes more ≡ bytes
fed_by_closed founds.Begun bytes more e = absurd (cc)
fed_by_closed founds.Whole bytes more e = refl
fed_by_closed (founds.Bad place kind) bytes more e = refl

pub fed_open : (bytes : List ℕ) (byte : ℕ) → is_begun (found_in bytes) ≡ true → fed bytes byte ≡ bytes ++ byte ∷ []
fed_open bytes byte e = fed_by_open (found_in bytes) bytes (byte ∷ []) e

pub fed_closed : (bytes : List ℕ) (byte : ℕ) → is_begun (found_in bytes) ≡ false → fed bytes byte ≡ bytes
fed_closed bytes byte e = fed_by_closed (found_in bytes) bytes (byte ∷ []) e

released_by_whole : (found : Found) (bytes : List ℕ) → is_whole found ≡ true → released_by found bytes ≡ []
released_by_whole founds.Begun bytes e = absurd (cc)
released_by_whole founds.Whole bytes e = refl
released_by_whole (founds.Bad place kind) bytes e = absurd (cc)

released_by_other : (found : Found) (bytes : List ℕ) → is_whole found ≡ false → released_by found bytes ≡ bytes
released_by_other founds.Begun bytes e = refl
released_by_other founds.Whole bytes e = absurd (cc)
released_by_other (founds.Bad place kind) bytes e = refl

pub released_whole : (bytes : List ℕ) → is_whole (found_in bytes) ≡ true → released bytes ≡ []
released_whole bytes e = released_by_whole (found_in bytes) bytes e

pub released_other : (bytes : List ℕ) → is_whole (found_in bytes) ≡ false → released bytes ≡ bytes
released_other bytes e = released_by_other (found_in bytes) bytes e

-- ---- the next stage

module _ (end : ℕ) (old new : FieldsReader) (bytes : List ℕ) (byte : ℕ) (taken : Taken) (follows : Follows old new bytes byte taken) (held : List ℕ) (split : bytes ≡ held ++ byte ∷ []) (w : IsWithin end old held) where
  comes : (t : Taken) → taken ≡ t → Comes new held byte (fields_behind w.body) t
  comes t e = subst (λ (x : Taken). Comes new held byte (fields_behind w.body) x) e (follows held split (fields_behind w.body) w.means)

  place_is : (length bytes - 1) + 1 ≡ length (held ++ byte ∷ [])
  place_is = omega (arith, ap length split, length-append held (byte ∷ []))

  pub fields_bad : (kind : BadKind) → taken ≡ takens.Bad kind → found_in bytes ≡ founds.Bad (length bytes - 1) kind
  fields_bad kind e = ap found_in split ∙ bad_byte end old held byte w kind (length bytes - 1) place_is (comes (takens.Bad kind) e)

  pub fields_behind_last : taken ≡ takens.Behind → found_in bytes ≡ founds.Bad (length bytes - 1) kinds.Rest
  fields_behind_last e = ap found_in split ∙ byte_behind end old held byte w (length bytes - 1) place_is (comes takens.Behind e)

  pub fields_go_on : taken ≡ takens.On → length bytes < end → IsWithin end new bytes
  fields_go_on e lt =
      subst (λ (t : List ℕ). IsWithin end new t) (sym split) (goes_on end old held byte w new (comes takens.On e) (omega (arith, ap length split, lt)))

  pub fields_end : taken ≡ takens.On → end ≤ length bytes → (done : Bool) → done ≡ true → TellsEnd new done → IsWholeFrame bytes
  fields_end e le done d tell = subst IsWholeFrame (sym split) (ends_whole end old held byte w new (comes takens.On e) (omega (arith, ap length split, le)) (subst (λ (x : Bool). TellsEnd new x) d tell))

  pub fields_end_early : taken ≡ takens.On → end ≤ length bytes → (done : Bool) → done ≡ false → TellsEnd new done → found_in bytes ≡ founds.Bad (length bytes - 1) kinds.Field
  fields_end_early e le done d tell =
      ap found_in split ∙ ends_early end old held byte w new (comes takens.On e) (length bytes - 1) place_is (omega (arith, ap length split, le)) (subst (λ (x : Bool). TellsEnd new x) d tell)

-- ---- many bytes at once

skip_means : (old new : FieldsReader) (chunk held : List ℕ) (count : ℕ) (reading : Reading) → length chunk ≡ count → 0 < count → count ≤ ahead_of old.gather → new ≡ record old { gather = skipped count old.gather }
    → Means old held reading → Means new (held ++ chunk) (λ later. reading (chunk ++ later))
skip_means old new chunk held count reading len some le e s =
    subst (λ (r : FieldsReader). Means r (held ++ chunk) (λ later. reading (chunk ++ later))) (sym e) (go old.gather le s)
  where
    go : (g : Option Gather) → count ≤ ahead_of g → Stands g old.list old.stack old.earlier old.last held reading
        → Stands (skipped count g) old.list old.stack old.earlier old.last (held ++ chunk) (λ later. reading (chunk ++ later))
    go None l t = absurd (omega (arith, l, some))
    go (Some gather) l t = gathers_many old.earlier old.last held chunk reading gather (gather.more - count) old.list old.stack (omega (arith, len, l)) t

pub skip_within : (end : ℕ) (old new : FieldsReader) (bytes chunk : List ℕ) (count : ℕ) → length chunk ≡ count → 0 < count → count ≤ ahead_of old.gather → new ≡ record old { gather = skipped count old.gather }
    → length bytes + count < end → IsWithin end old bytes → IsWithin end new (bytes ++ chunk)
skip_within end old new bytes chunk count len some le e lt w =
    let m = skip_means old new chunk bytes count (fields_behind w.body) len some le e w.means in record {
      head = w.head;
      body = w.body ++ chunk;
      count = w.count;
      split = ap (λ (t : List ℕ). t ++ chunk) w.split ∙ append_assoc w.head w.body chunk;
      is_length = w.is_length;
      ends = w.ends;
      before = omega (arith, len, lt, length-append bytes chunk);
      means = record { before = m.before; keeps = m.keeps; gathering = m.gathering; same = λ later. ap (λ (t : List ℕ). forgotten (scanned frame_form t)) (append_assoc w.body chunk later) ∙ m.same later };
    }

pub fields_open : (end : ℕ) (fields : FieldsReader) (bytes : List ℕ) → IsWithin end fields bytes → is_begun (found_in bytes) ≡ true
fields_open end fields bytes w = ap is_begun (fields_begun end fields bytes w)

-- bytes at the front of a piece that belong to those before them
module _ (end run : ℕ) (old new : FieldsReader) (held bytes piece : List ℕ) (some : 0 < run) (le : run ≤ length piece) (before : run < end - length held) (ahead : run ≤ ahead_of old.gather) where
  run_within : new ≡ record old { gather = skipped run old.gather } → bytes ≡ held ++ take run piece → IsWithin end old held → IsWithin end new bytes
  run_within e is w =
      let b = w.before in
      subst (λ (t : List ℕ). IsWithin end new t) (sym is)
      (skip_within end old new held (take run piece) run (length-take-le run piece le) some ahead e (omega (arith, before, b)) w)

  pub run_in_stage : (stage : Stage) → stage ≡ stages.Fields end → new ≡ record old { gather = skipped run old.gather } → bytes ≡ held ++ take run piece → InStage stage old held → InStage stage new bytes
  run_in_stage stage f e is w =
      subst (λ (t : Stage). InStage t new bytes) (sym f) (run_within e is (subst (λ (t : Stage). InStage t old held) f w))

  pub run_is_taken : (stage : Stage) → stage ≡ stages.Fields end → new ≡ record old { gather = skipped run old.gather } → bytes ≡ held ++ take run piece → InStage stage old held → TakesRun run piece held bytes
  run_is_taken stage f e is w =
      record { within = le; bytes = is; begun = fields_open end new bytes (run_within e is (subst (λ (t : Stage). InStage t old held) f w)) }

-- ---- pieces

begun_scan : (bytes : List ℕ) → IsBegun bytes → frame_scan bytes ≡ begun
begun_scan bytes e = cases (frame_scan bytes) refl e
  where
    cases : (s : Scan Fields) → frame_scan bytes ≡ s → is_begun (found_by bytes s) ≡ true → frame_scan bytes ≡ begun
    cases (whole a rest) is f = absurd cc
    cases begun is f = is
    cases (bad rest kind) is f = absurd cc

-- what is in front of the beginning of a frame is one
begun_in_front : (front back : List ℕ) → IsBegun (front ++ back) → IsBegun front
begun_in_front front back e = ap (λ (s : Scan Fields). is_begun (found_by front s)) (begun_front frame_scan frames_steady front back (begun_scan (front ++ back) e))

-- two fronts of a piece, one behind the other
front_behind : (old piece : List ℕ) (taken more : ℕ) → (old ++ take taken piece) ++ take more (drop taken piece) ≡ old ++ take (taken + more) piece
front_behind old piece taken more = append_assoc old (take taken piece) (take more (drop taken piece)) ∙ ap (λ (t : List ℕ). old ++ t) (sym (take-add taken more piece))

pub run_is_front : (taken : ℕ) (piece old new : List ℕ) → 0 < taken → TakesRun taken piece old new → TakesFront taken piece old new
run_is_front taken piece old new some r =
    let one_more : (taken - 1) + 1 ≡ taken = omega (arith, some) in
    let split : new ≡ (old ++ take (taken - 1) piece) ++ take 1 (drop (taken - 1) piece) =
    r.bytes ∙ ap (λ (n : ℕ). old ++ take n piece) (sym one_more) ∙ sym (front_behind old piece (taken - 1) 1) in
    record {
      some = some;
      within = r.within;
      bytes = r.bytes;
      open_before = begun_in_front (old ++ take (taken - 1) piece) (take 1 (drop (taken - 1) piece)) (subst IsBegun split r.begun);
    }

pub byte_is_front : (byte d : ℕ) (piece old new : List ℕ) → 0 < length piece → byte ≡ get_or piece 0 d → IsBegun old → new ≡ fed old byte → TakesFront 1 piece old new
byte_is_front byte d [] old new some is starts e = absurd (omega (arith, some))
byte_is_front byte d (first ∷ rest) old new some is starts e = record {
  some = omega arith;
  within = omega (arith, some);
  bytes = e ∙ fed_open old byte starts ∙ ap (λ (b : ℕ). old ++ b ∷ []) is;
  open_before = subst IsBegun (sym (append-nil old)) starts;
}

pub front_more : (taken more : ℕ) (piece rest old held new : List ℕ) → taken ≤ length piece → rest ≡ drop taken piece → held ≡ old ++ take taken piece → TakesFront more rest held new
    → (taken + more ≤ length piece) × (new ≡ old ++ take (taken + more) piece) × IsOpenBefore (taken + more) piece old
front_more taken more piece rest old held new le is h f =
    let same : (n : ℕ) → held ++ take n rest ≡ old ++ take (taken + n) piece =
    λ n. ap (λ (t : List ℕ). t ++ take n rest) h ∙ ap (λ (t : List ℕ). (old ++ take taken piece) ++ take n t) is ∙ front_behind old piece taken n in
    let less : taken + (more - 1) ≡ (taken + more) - 1 = let s = f.some in omega (arith, s) in (
      let w = f.within in omega (arith, w, le, ap length is, length-drop taken piece),
      f.bytes ∙ same more,
      inr (subst IsBegun (same (more - 1) ∙ ap (λ (n : ℕ). old ++ take n piece) less) f.open_before),
    )

pub piece_ends : (taken : ℕ) (piece old new : List ℕ) → taken ≤ length piece → length piece ≤ taken → IsOpenBefore taken piece old → TakesPiece (Ok taken) piece old new
piece_ends taken piece old new le ge before = cases (is_begun (found_in new)) refl
  where
    cases : (starts : Bool) → is_begun (found_in new) ≡ starts → TakesPiece (Ok taken) piece old new
    cases true e = inl (omega (arith, le, ge), e)
    cases false e = inr (before, e)
