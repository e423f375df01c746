-- What is begun goes on, but for what is asked of texts and of the nesting: one induction over forms.
use Rattle.std.proofs.Common.{◌≡◌, ℕ, zero, suc, false, List, [], ◌∷◌, Some, refl, sym, subst}
use Rattle.frame_forms.specs.declared.bad_kind.BadKind.TheVariants as kinds
use Rattle.frame_forms.specs.Scans.{whole, begun, byte_scan}
use Rattle.frame_forms.specs.Forms as forms
use Rattle.frame_forms.specs.Forms.{One, Code, El, Form, Part, PartFits, PartSpellings, PartScans, mirror_part, value_part, empty, byte, u16, u32, i64, run, both, choice, opt, list, part, means, fits_with, spelled_with, scan_with}
use Rattle.frame_forms.specs.Forms.{MirrorVariant, primitive, declared, error, variable, array, wildcard, executable, nothing_there, void, null, package_mirror, BoundKind, unbounded, upper, lower, ValueVariant, truth_value, whole_value, character, text_value, class_value, constant, array_value, nested, other, floating}
use Rattle.frame_forms.specs.MirrorForms.{mirror_form, mirror_made, MirrorShown, mirror_fields, mirror_variants, value_form, value_made, ValueShown, value_fields, value_variants, grammar}
use Rattle.frame_forms.specs.FrameTable.{frame_form}
use Rattle.frame_forms.specs.Frames.{part_scan, too_deep, most_nested}
use Rattle.frame_forms.specs.Loosened.{loosened, loose_fits, loose_spelling, GoesOn, BegunGoesOn}
use Rattle.frame_forms.proofs.FormsMeet.{IsSound}
use Rattle.frame_forms.proofs.Sound.{grammar_sound, frame_sound, mirror-shown, value-shown}
use Rattle.frame_forms.proofs.Goes.{Loosely, Loosely-u16, Loosely-u32, Loosely-i64, Loosely-nothing, Loosely-byte, Loosely-run, Loosely-pairs, Loosely-made, Loosely-opt, Loosely-list}

pub goes_with : (fits : PartFits) (spelling : PartSpellings) (scan : PartScans) → ((c : Code) (p : Part c) → Loosely (scan c p) (fits c p) (spelling c p))
    → {c : Code} (f : Form c) → IsSound f → Loosely (scan_with scan f) (fits_with fits (loosened f)) (spelled_with spelling (loosened f))
goes_with fits spelling scan parts empty sound = Loosely-nothing
goes_with fits spelling scan parts (byte s kind numbers) sound = Loosely-byte kind numbers sound.back sound.some sound.there
goes_with fits spelling scan parts u16 sound = Loosely-u16
goes_with fits spelling scan parts u32 sound = Loosely-u32
goes_with fits spelling scan parts i64 sound = Loosely-i64
goes_with fits spelling scan parts (run fault) sound = Loosely-run fault
goes_with fits spelling scan parts (both {c} {d} f g) sound =
    Loosely-pairs {A = El c} {B = λ a. El d} (scan_with scan f) (λ a. scan_with scan g) (fits_with fits (loosened f)) (λ a. fits_with fits (loosened g)) (spelled_with spelling (loosened f)) (λ a. spelled_with spelling (loosened g))
    (goes_with fits spelling scan parts f sound.0) (λ a. goes_with fits spelling scan parts g sound.1)
goes_with fits spelling scan parts (choice s kind numbers of f) sound =
    Loosely-pairs {A = One s} {B = λ x. El (of x)} (byte_scan kind numbers.at) (λ x. scan_with scan (f x)) (λ x. numbers.at (numbers.number_of x) ≡ Some x) (λ x. fits_with fits (loosened (f x))) (λ x. numbers.number_of x ∷ []) (λ x. spelled_with spelling (loosened (f x)))
    (Loosely-byte kind numbers sound.0.back sound.0.some sound.0.there) (λ x. goes_with fits spelling scan parts (f x) (sound.1 x))
goes_with fits spelling scan parts (opt {c} f) sound = Loosely-opt {A = El c} (scan_with scan f) (fits_with fits (loosened f)) (spelled_with spelling (loosened f)) (goes_with fits spelling scan parts f sound)
goes_with fits spelling scan parts (list {c} f) sound =
    Loosely-list {A = El c} (λ before. scan_with scan (f before)) (λ before. fits_with fits (loosened (f before))) (λ before. spelled_with spelling (loosened (f before))) (λ before. goes_with fits spelling scan parts (f before) (sound before))
goes_with fits spelling scan parts (part {c} p) sound = parts c p
goes_with fits spelling scan parts (means {c} {d} make show f) sound =
    Loosely-made {A = El c} {B = El d} make show (scan_with scan f) (fits_with fits (loosened f)) (spelled_with spelling (loosened f)) sound.1 (goes_with fits spelling scan parts f sound.0)

-- ---- mirrors and values

-- a mirror and a value that hold nothing
least : (c : Code) (p : Part c) → (v : El c) × loose_fits 1 c p v
unfolding loose_fits
least _ mirror_part = (
  mirror_made nothing_there tt,
  subst (λ (u : MirrorShown). fits_with (loose_fits 0) (loosened (choice forms.mirror_variant kinds.Field mirror_variants mirror_fields mirror_form)) u) (sym (mirror-shown nothing_there tt)) (refl, tt),
)
least _ value_part = (
  value_made truth_value false,
  subst (λ (u : ValueShown). fits_with (loose_fits 0) (loosened (choice forms.value_variant kinds.Field value_variants value_fields value_form)) u) (sym (value-shown truth_value false)) (refl, refl),
)

deep_read : {A : Type 0} (bytes : List ℕ) (a : A) (rest : List ℕ) → too_deep bytes ≡ whole a rest → ⊥
deep_read [] a rest e = cc
deep_read (b ∷ behind) a rest e = cc

deep_goes : {A : Type 0} (fits : A → Type 0) (f : A → List ℕ) → (a : A) × fits a → (bytes : List ℕ) → too_deep {A = A} bytes ≡ begun → GoesOn fits f bytes
deep_goes fits f some [] e = record { value = some.0; more = f some.0; fit = some.1; split = refl }
deep_goes fits f some (b ∷ rest) e = absurd cc

pub part_scan-goes : (room : ℕ) (c : Code) (p : Part c) → Loosely (part_scan room c p) (loose_fits (suc room) c p) (loose_spelling (suc room) c p)
unfolding part_scan loose_fits loose_spelling
part_scan-goes zero c p = record {
  reads = λ bytes a rest are e. absurd (deep_read bytes a rest e);
  goes = λ bytes are e. deep_goes (loose_fits 1 c p) (loose_spelling 1 c p) (least c p) bytes e;
  some = least c p;
}
part_scan-goes (suc room) c p = goes_with (loose_fits (suc room)) (loose_spelling (suc room)) (part_scan room) (part_scan-goes room) (grammar p) (grammar_sound c p)

-- ---- frames

pub begun_goes_on : BegunGoesOn
begun_goes_on bytes are e = (goes_with (loose_fits (suc most_nested)) (loose_spelling (suc most_nested)) (part_scan most_nested) (part_scan-goes most_nested) frame_form frame_sound).goes bytes are e
