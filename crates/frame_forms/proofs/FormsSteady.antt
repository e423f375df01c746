-- Every form is read steadily: one induction over forms.
use Rattle.std.proofs.Common.{◌≡◌, ℕ, zero, suc, List, [], ◌∷◌, Option, refl, ap}
use Rattle.std.specs.Int.{w16, w32, w64, cast_signed}
use Rattle.frame_forms.specs.declared.bad_kind.BadKind.{BadKind}
use Rattle.frame_forms.specs.declared.bad_kind.BadKind.TheVariants as kinds
use Rattle.frame_forms.specs.Scans.{whole, bad, mapped, number_scan, byte_scan, opt_scan, items_scan}
use Rattle.frame_forms.specs.Forms.{One, Code, El, Form, Part, PartScans, empty, byte, u16, u32, i64, run, both, choice, opt, list, part, means, bool_at, scan_with}
use Rattle.frame_forms.specs.ScanLaws.{Takes, Stops, Steady}
use Rattle.frame_forms.specs.MirrorForms.{grammar}
use Rattle.frame_forms.specs.Frames.{part_scan, too_deep, scanned, most_nested}
use Rattle.frame_forms.proofs.Steady.{Steady-whole, Steady-and_then, Steady-mapped, Steady-number, Steady-byte, Steady-run, Steady-opt, Steady-items}

pub steady_with : (inner : PartScans) → ((c : Code) (p : Part c) → Steady (inner c p)) → {c : Code} (f : Form c) → Steady (scan_with inner f)
steady_with inner parts empty = Steady-whole tt
steady_with inner parts (byte s kind numbers) = Steady-byte kind numbers.at
steady_with inner parts u16 = Steady-number w16
steady_with inner parts u32 = Steady-number w32
steady_with inner parts i64 = Steady-mapped (cast_signed w64) (number_scan w64) (Steady-number w64)
steady_with inner parts (run fault) = Steady-run fault
steady_with inner parts (both {c} {d} f g) =
    Steady-and_then {B = El c × El d} (scan_with inner f) (λ v rest. mapped (λ w. (v, w)) (scan_with inner g rest)) (steady_with inner parts f)
    (λ v. Steady-mapped {B = El c × El d} (λ w. (v, w)) (scan_with inner g) (steady_with inner parts g))
steady_with inner parts (choice s kind numbers of f) =
    Steady-and_then {B = (x : One s) × El (of x)} (byte_scan kind numbers.at) (λ x rest. mapped (λ v. (x, v)) (scan_with inner (f x) rest)) (Steady-byte kind numbers.at)
    (λ x. Steady-mapped {B = (y : One s) × El (of y)} (λ v. (x, v)) (scan_with inner (f x)) (steady_with inner parts (f x)))
steady_with inner parts (opt {c} f) =
    Steady-and_then {B = Option (El c)} (byte_scan kinds.Field bool_at) (λ is_there rest. opt_scan {A = El c} (scan_with inner f) is_there rest) (Steady-byte kinds.Field bool_at)
    (λ is_there. Steady-opt {A = El c} (scan_with inner f) (steady_with inner parts f) is_there)
steady_with inner parts (list {c} f) =
    Steady-and_then {B = List (El c)} (number_scan w32) (λ count rest. items_scan {A = El c} (λ before. scan_with inner (f before)) [] count rest) (Steady-number w32)
    (λ count. Steady-items {A = El c} (λ before. scan_with inner (f before)) (λ before. steady_with inner parts (f before)) [] count)
steady_with inner parts (part {c} p) = parts c p
steady_with inner parts (means {c} {d} make show f) = Steady-mapped {A = El c} {B = El d} make (scan_with inner f) (steady_with inner parts f)

deep_takes : {A : Type 0} (bytes : List ℕ) (a : A) (rest : List ℕ) → too_deep bytes ≡ whole a rest → Takes too_deep bytes a rest
deep_takes [] a rest e = absurd cc
deep_takes (b ∷ behind) a rest e = absurd cc

deep_stops : {A : Type 0} (bytes rest : List ℕ) (kind : BadKind) → too_deep {A = A} bytes ≡ bad rest kind → Stops (too_deep {A = A}) bytes rest kind
deep_stops [] rest kind e = absurd cc
deep_stops {A} (b ∷ behind) rest kind e =
    let same : kinds.Field ≡ kind = cc in
    record { front = []; byte = b; more = behind; split = refl; from = cc; before = refl; after = λ later. ap (bad (b ∷ later)) same }

pub part_scan-steady : (room : ℕ) (c : Code) (p : Part c) → Steady (part_scan room c p)
unfolding part_scan
part_scan-steady zero c p = record { takes = deep_takes; stops = deep_stops }
part_scan-steady (suc room) c p = steady_with (part_scan room) (part_scan-steady room) (grammar p)

pub scanned-steady : {c : Code} (f : Form c) → Steady (scanned f)
scanned-steady f = steady_with (part_scan most_nested) (part_scan-steady most_nested) f
