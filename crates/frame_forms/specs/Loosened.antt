-- Forms without what is asked of texts, and with mirrors and values nested one deeper: how bytes that are begun may go on. A text of which the first bytes are there may be one that cannot pass, and the byte for it to fail is its last one.
use Rattle.std.specs.Prelude.{◌≡◌, ℕ, zero, suc, List, [], ◌++◌, None}
use Rattle.frame_forms.specs.Scans.{begun}
use Rattle.frame_forms.specs.Forms.{Code, El, Form, PartFits, PartSpellings, empty, byte, u16, u32, i64, run, both, choice, opt, list, part, means, fits_with, spelled_with}
use Rattle.frame_forms.specs.ScanLaws.{IsBytes}
use Rattle.frame_forms.specs.MirrorForms.{grammar}
use Rattle.frame_forms.specs.FrameTable.{frame_form}
use Rattle.frame_forms.specs.Frames.{scanned, most_nested}

abbrev pub loosened : {c : Code} → Form c → Form c
loosened empty = empty
loosened (byte s kind numbers) = byte s kind numbers
loosened u16 = u16
loosened u32 = u32
loosened i64 = i64
loosened (run fault) = run (λ bytes. None)
loosened (both f g) = both (loosened f) (loosened g)
loosened (choice s kind numbers of f) = choice s kind numbers of (λ x. loosened (f x))
loosened (opt f) = opt (loosened f)
loosened (list f) = list (λ before. loosened (f before))
loosened (part p) = part p
loosened (means make show f) = means make show (loosened f)

unfoldable pub loose_fits : ℕ → PartFits
loose_fits zero c p v = ⊥
loose_fits (suc room) c p v = fits_with (loose_fits room) (loosened (grammar p)) v

unfoldable pub loose_spelling : ℕ → PartSpellings
loose_spelling zero c p v = []
loose_spelling (suc room) c p v = spelled_with (loose_spelling room) (loosened (grammar p)) v

-- bytes that go on as the spelling of a value that fits
pub record GoesOn {A : Type 0} (fits : A → Type 0) (spelling : A → List ℕ) (bytes : List ℕ) : Type 0 where
  pub value : A
  pub more : List ℕ
  pub fit : fits value
  pub split : bytes ++ more ≡ spelling value

abbrev pub LooselyGoesOn : {c : Code} → Form c → List ℕ → Type 0
LooselyGoesOn {c} form bytes = GoesOn {A = El c} (fits_with (loose_fits (suc most_nested)) (loosened form)) (spelled_with (loose_spelling (suc most_nested)) (loosened form)) bytes

-- a tag and fields that are begun go on, but for what is asked of texts and of the nesting
abbrev pub BegunGoesOn : Type 0
BegunGoesOn = (bytes : List ℕ) → IsBytes bytes → scanned frame_form bytes ≡ begun → LooselyGoesOn frame_form bytes
