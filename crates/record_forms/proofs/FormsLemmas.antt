-- Each way to make a form keeps to the two laws: a value that fits is read from its spelling, whatever follows, and what is read fits and is spelled so.
use Rattle.std.proofs.Common.{◌≡◌, ℕ, zero, suc, Bool, true, false, cond, ltb, ◌&&◌, List, [], ◌∷◌, ◌++◌, length, Option, Some, None, slice_get, refl, sym, ap, ◌∙◌}
use Rattle.std.proofs.lemmas.Bool.{ltb-true, lt-ltb}
use Rattle.std.specs.Int.{w16, w32, to_be_bytes}
use Rattle.apt_base.specs.Fields.{◌>>=◌, u8_next, u16_next, u32_next, bytes_next}
use Rattle.apt_base.specs.Forms.{Reader, name_form, u16_form, is_short, checked}
use Rattle.apt_base.proofs.FieldsLemmas.{IsBytes, bind_some, some_is, u8_next-again, u8_next-spelled, u32_next-again, u32_next-spelled, bytes_next-again, bytes_next-spelled}
use Rattle.apt_base.proofs.Readers.{Reads, Reads-text, Reads-u16, Reads-numbered, and_reads, opt_reads, list_reads, check_reads, map_reads}
use Rattle.record_forms.specs.Forms.{Form, u16, u32, u32_form, text, octets, octets_form, u8_below, in_order, opt, list, ◌then◌, made, that, ascending, ascends}

abbrev pub IsForm : {A : Type 0} → Form A → Type 0
IsForm form = Reads form.next form.spelling form.fits

-- ---- fields

pub u16-is : IsForm u16
u16-is = Reads-u16

pub u32-is : IsForm u32
unfolding u32_form
u32-is = record {
  again = λ x rest h. u32_next-again x rest (ltb-true _ _ h);
  spelled = λ bytes x rest fits e. let t = u32_next-spelled bytes x rest fits e in (t.0, lt-ltb _ _ t.1);
}

pub text-is : IsForm text
text-is = Reads-text

pub octets-is : IsForm octets
unfolding octets_form
octets-is = record {
  again = λ x rest h. bytes_next-again x rest (ltb-true _ _ h);
  spelled = λ bytes x rest fits e. let t = bytes_next-spelled bytes x rest fits e in (t.0, lt-ltb _ _ t.1);
}

kept : {A : Type 0} (b : Bool) (x y : A) → cond b (Some x) None ≡ Some y → (b ≡ true) × (x ≡ y)
kept true x y e = (refl, some_is x y e)
kept false x y e = absurd cc

pub u8_below-is : (bound : ℕ) → IsForm (u8_below bound)
u8_below-is bound = record {
  again = λ x rest h. rw (u8_next-again x rest, h) refl;
  spelled = λ bytes x rest fits e.
      let b = bind_some (u8_next bytes) (λ a. cond (ltb a.0 bound) (Some a) None) (x, rest) e in
      let k = kept (ltb b.0.0 bound) b.0 (x, rest) b.2 in
      let one = u8_next-spelled bytes b.0.0 b.0.1 b.1 in
      (one ∙ ap (λ (y : ℕ × List ℕ). y.0 ∷ y.1) k.1, ap (λ (y : ℕ × List ℕ). ltb y.0 bound) (sym k.1) ∙ k.0);
}

pub in_order-is : {A : Type 0} (number_of : A → ℕ) (things : List A) → ((a : A) → slice_get things (number_of a) ≡ Some a) → ((n : ℕ) (a : A) → slice_get things n ≡ Some a → n ≡ number_of a) → IsForm (in_order number_of things)
in_order-is number_of things back on = Reads-numbered (slice_get things) number_of back on

-- ---- made of other forms

pub opt-is : {A : Type 0} {form : Form A} → IsForm form → IsForm (opt form)
opt-is r = opt_reads r

pub list-is : {A : Type 0} {form : Form A} → IsForm form → IsForm (list form)
list-is r = list_reads r

infixl 10 ◌and◌
pub ◌and◌ : {A B : Type 0} {first : Form A} {second : Form B} → IsForm first → IsForm second → IsForm (first then second)
r and s = and_reads r s

pub made-is : {A B : Type 0} {form : Form A} (make : A → B) (parts : B → A) → ((b : B) → make (parts b) ≡ b) → ((a : A) → parts (make a) ≡ a) → IsForm form → IsForm (made make parts form)
made-is make parts there back r = map_reads make parts there back r

pub ascending-is : {A : Type 0} (less : A → A → Bool) {form : Form A} → IsForm form → IsForm (ascending less form)
ascending-is less r = check_reads (ascends less) (list_reads r)
