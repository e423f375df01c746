-- Every form whose numbers and meanings are sound is read as it is spelled: one induction over forms.
use Rattle.std.proofs.Common.{◌≡◌, ℕ, zero, suc, List, [], ◌∷◌, Some}
use Rattle.frame_forms.specs.Scans.{whole, byte_scan}
use Rattle.frame_forms.specs.Forms.{One, Code, El, Form, Part, PartFits, PartSpellings, PartScans, Numbering, empty, byte, u16, u32, i64, run, both, choice, opt, list, part, means, fits_with, spelled_with, scan_with}
use Rattle.frame_forms.specs.ScanLaws.{Meets}
use Rattle.frame_forms.specs.MirrorForms.{grammar}
use Rattle.frame_forms.specs.Frames.{part_fits, part_spelling, part_scan, too_deep, Fits, spelled, scanned, most_nested}
use Rattle.frame_forms.proofs.Meets.{Meets-pairs, Meets-made, Meets-nothing, Meets-byte, Meets-u16, Meets-u32, Meets-i64, Meets-run, Meets-opt, Meets-list}

-- Some thing has a number, and each byte that stands for a thing is its number. What is made of a value shows that value, and the other way round.
pub record IsNumbered {A : Type 0} (numbers : Numbering A) : Type 0 where
  pub back : (n : ℕ) (x : A) → numbers.at n ≡ Some x → numbers.number_of x ≡ n
  pub some : A
  pub there : numbers.at (numbers.number_of some) ≡ Some some

abbrev pub IsSound : {c : Code} → Form c → Type 0
IsSound (byte s kind numbers) = IsNumbered numbers
IsSound (both f g) = IsSound f × IsSound g
IsSound (choice s kind numbers of f) = IsNumbered numbers × ((x : One s) → IsSound (f x))
IsSound (opt f) = IsSound f
IsSound (list {c} f) = (before : List (El c)) → IsSound (f before)
IsSound (means {c} {d} make show f) = IsSound f × ((u : El c) → show (make u) ≡ u) × ((v : El d) → make (show v) ≡ v)
IsSound empty = Unit {0}
IsSound u16 = Unit {0}
IsSound u32 = Unit {0}
IsSound i64 = Unit {0}
IsSound (run fault) = Unit {0}
IsSound (part p) = Unit {0}

pub meets_with : (fits : PartFits) (spelling : PartSpellings) (scan : PartScans) → ((c : Code) (p : Part c) → Meets (scan c p) (fits c p) (spelling c p))
    → {c : Code} (f : Form c) → IsSound f → Meets (scan_with scan f) (fits_with fits f) (spelled_with spelling f)
meets_with fits spelling scan parts empty sound = Meets-nothing
meets_with fits spelling scan parts (byte s kind numbers) sound = Meets-byte kind numbers sound.back
meets_with fits spelling scan parts u16 sound = Meets-u16
meets_with fits spelling scan parts u32 sound = Meets-u32
meets_with fits spelling scan parts i64 sound = Meets-i64
meets_with fits spelling scan parts (run fault) sound = Meets-run fault
meets_with fits spelling scan parts (both {c} {d} f g) sound =
    Meets-pairs {A = El c} {B = λ a. El d} (scan_with scan f) (λ a. scan_with scan g) (fits_with fits f) (λ a. fits_with fits g) (spelled_with spelling f) (λ a. spelled_with spelling g)
    (meets_with fits spelling scan parts f sound.0) (λ a. meets_with fits spelling scan parts g sound.1)
meets_with fits spelling scan parts (choice s kind numbers of f) sound =
    Meets-pairs {A = One s} {B = λ x. El (of x)} (byte_scan kind numbers.at) (λ x. scan_with scan (f x)) (λ x. numbers.at (numbers.number_of x) ≡ Some x) (λ x. fits_with fits (f x)) (λ x. numbers.number_of x ∷ []) (λ x. spelled_with spelling (f x))
    (Meets-byte kind numbers sound.0.back) (λ x. meets_with fits spelling scan parts (f x) (sound.1 x))
meets_with fits spelling scan parts (opt {c} f) sound = Meets-opt {A = El c} (scan_with scan f) (fits_with fits f) (spelled_with spelling f) (meets_with fits spelling scan parts f sound)
meets_with fits spelling scan parts (list {c} f) sound =
    Meets-list {A = El c} (λ before. scan_with scan (f before)) (λ before. fits_with fits (f before)) (λ before. spelled_with spelling (f before)) (λ before. meets_with fits spelling scan parts (f before) (sound before))
meets_with fits spelling scan parts (part {c} p) sound = parts c p
meets_with fits spelling scan parts (means {c} {d} make show f) sound =
    Meets-made {A = El c} {B = El d} make show (scan_with scan f) (fits_with fits f) (spelled_with spelling f) sound.1 sound.2 (meets_with fits spelling scan parts f sound.0)

deep_reads : {A : Type 0} (bytes : List ℕ) (a : A) (rest : List ℕ) → too_deep bytes ≡ whole a rest → ⊥
deep_reads [] a rest e = cc
deep_reads (b ∷ behind) a rest e = cc

pub part_scan-meets : ((c : Code) (p : Part c) → IsSound (grammar p)) → (room : ℕ) (c : Code) (p : Part c) → Meets (part_scan room c p) (part_fits room c p) (part_spelling room c p)
unfolding part_scan part_fits part_spelling
part_scan-meets sound zero c p = record { again = λ a rest h. absurd h; spelled = λ bytes a rest is e. absurd (deep_reads bytes a rest e) }
part_scan-meets sound (suc room) c p = meets_with (part_fits room) (part_spelling room) (part_scan room) (part_scan-meets sound room) (grammar p) (sound c p)

pub scanned-meets : ((c : Code) (p : Part c) → IsSound (grammar p)) → {c : Code} (f : Form c) → IsSound f → Meets (scanned f) (Fits f) (spelled f)
scanned-meets sound f is = meets_with (part_fits most_nested) (part_spelling most_nested) (part_scan most_nested) (part_scan-meets sound most_nested) f is
