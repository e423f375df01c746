-- What is decoded is what the table says of the bytes.
use Rattle.std.proofs.Common.{◌≡◌, ℕ, Bool, true, false, cond, eqb, List, [], ◌∷◌, length, Option, Some, None, Result, Ok, Err, refl, sym, ap, ◌∙◌}
use Rattle.std.specs.Prelude.{IfOk, IfSome, IfNone}
use Rattle.std.proofs.lemmas.Bool.{eqb-true}
use Rattle.std.proofs.lemmas.List.{nil_from_length}
use Rattle.apt_base.specs.Fields.{u8_next}
use Rattle.apt_base.specs.declared.memory.NoMemory.{NoMemory}
use Rattle.apt_base.proofs.FieldsLemmas.{some_is}
use Rattle.frame_forms.specs.Scans.{Scan, whole, begun, bad, byte_scan}
use Rattle.frame_forms.specs.FrameTable.{frame_form, Fields}
use Rattle.frame_forms.specs.Frames.{scanned}
use Rattle.wire_frames.specs.declared.frame.Frame.{Frame}
use Rattle.wire_frames.specs.Frames.{shown, AreFieldsOf}
use Rattle.wire_frames.specs.Readings.{found, alone}
use Rattle.frame_decoder.specs.Decodings.{frame_next, decoded, AreNoFields}
use Rattle.frame_decoder.proofs.TableRows.{shown_of, RowIs, row_is}

frame-shown : (bytes : List ℕ) → shown_of (frame_next bytes) ≡ found (scanned frame_form bytes)
unfolding frame_next u8_next byte_scan RowIs
frame-shown [] = refl
frame-shown (tag ∷ rest) = row_is tag rest

-- a value with nothing behind it
alone_some : {A : Type 0} (o : Option (A × List ℕ)) (x : A) → alone o ≡ Some x → o ≡ Some (x, [])
alone_some None x e = absurd cc
alone_some (Some a) x e = kept (eqb (length a.1) 0) refl e
  where
    kept : (b : Bool) → eqb (length a.1) 0 ≡ b → cond b (Some a.0) None ≡ Some x → Some a ≡ Some (x, [])
    kept true is same = ap (λ rest. Some (a.0, rest)) (nil_from_length a.1 (eqb-true _ _ is)) ∙ ap (λ y. Some (y, [])) (some_is a.0 x same)
    kept false is same = absurd cc

found_whole : {A : Type 0} (s : Scan A) (x : A) (rest : List ℕ) → found s ≡ Some (x, rest) → s ≡ whole x rest
found_whole (whole a behind) x rest e = ap (λ (y : _ × List ℕ). whole y.0 y.1) (some_is (a, behind) (x, rest) e)
found_whole begun x rest e = absurd cc
found_whole (bad more kind) x rest e = absurd cc

pub decoded-stands : (bytes : List ℕ) (frame : Frame) → decoded bytes ≡ Some frame → scanned frame_form bytes ≡ whole (shown frame) []
unfolding decoded
decoded-stands bytes frame e = found_whole (scanned frame_form bytes) (shown frame) [] (sym (frame-shown bytes) ∙ ap shown_of (alone_some (frame_next bytes) frame e))

-- where nothing is decoded there is none
none_alone : (o : Option (Frame × List ℕ)) (fields : Fields) → alone o ≡ None → shown_of o ≡ Some (fields, []) → ⊥
none_alone None fields e is = absurd cc
none_alone (Some x) fields e is =
    let none : x.1 ≡ [] = ap (λ (y : Fields × List ℕ). y.1) (some_is (shown x.0, x.1) (fields, []) is) in
    let wrong : Some x.0 ≡ None = sym (ap (λ (rest : List ℕ). cond (eqb (length rest) 0) (Some x.0) None) none) ∙ e in
    absurd cc

decoded-none : (bytes : List ℕ) → decoded bytes ≡ None → (fields : Fields) → scanned frame_form bytes ≡ whole fields [] → ⊥
unfolding decoded
decoded-none bytes e fields is = none_alone (frame_next bytes) fields e (frame-shown bytes ∙ ap found is)

-- ---- what a call gives

pub is_found : (bytes : List ℕ) (result : Result (Option Frame) NoMemory) → IfOk result (λ read. read ≡ decoded bytes) → IfOk result (λ read. IfSome read (λ frame. AreFieldsOf bytes frame))
unfolding AreFieldsOf
is_found bytes (Ok None) e = tt
is_found bytes (Ok (Some frame)) e = decoded-stands bytes frame (sym e)
is_found bytes (Err error) e = tt

pub is_none : (bytes : List ℕ) (result : Result (Option Frame) NoMemory) → IfOk result (λ read. read ≡ decoded bytes) → IfOk result (λ read. IfNone read (AreNoFields bytes))
unfolding AreNoFields
is_none bytes (Ok None) e = decoded-none bytes (sym e)
is_none bytes (Ok (Some frame)) e = tt
is_none bytes (Err error) e = tt
