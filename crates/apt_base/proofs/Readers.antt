-- A reader reads a form: it reads again what was written, whatever follows, and what it reads is spelled so.
use Rattle.std.proofs.Common.{◌≡◌, ℕ, zero, suc, Bool, true, false, cond, eqb, ltb, ◌&&◌, List, [], ◌∷◌, ◌++◌, length, Option, Some, None, refl, sym, ap, subst, ◌∙◌, append_assoc, arith}
use Rattle.std.specs.List.{flat_map, list_all}
use Rattle.std.specs.Int.{w32, to_be_bytes}
use Rattle.std.proofs.lemmas.Bool.{ltb-true, lt-ltb, eqb-true}
use Rattle.std.proofs.lemmas.List.Concat.{flat_map-cons}
use Rattle.apt_base.specs.Fields.{◌>>=◌, bool_form, is_text, u8_next, u16_next, u32_next, bool_next, text_next}
use Rattle.apt_base.specs.Forms.{Reader, name_form, u16_form, count_form, list_form, opt_form, is_short, is_name, all_fit, fits_if_some, none_next, then_by, mapped, checked, numbered, tagged, opt_next, items_next, list_next}
use Rattle.apt_base.proofs.FieldsLemmas.{IsBytes, IsBytes-rest, bind_some, some_is, u8_next-again, u8_next-spelled, u16_next-again, u16_next-spelled, u32_next-again, u32_next-spelled, bool_next-again, bool_next-spelled, text_next-again, text_next-spelled}

-- ---- tests

pub both : (a b : Bool) → (a && b) ≡ true → (a ≡ true) × (b ≡ true)
both true b e = (refl, e)
both false b e = absurd cc

pub both_from : (a b : Bool) → a ≡ true → b ≡ true → (a && b) ≡ true
both_from a b p q = rw p q

kept : {A : Type 0} (b : Bool) (x y : A) → cond b (Some x) None ≡ Some y → (b ≡ true) × (x ≡ y)
kept true x y e = (refl, some_is x y e)
kept false x y e = absurd cc

-- ---- what a reader is to do

pub record Reads {A : Type 0} (next : Reader A) (form : A → List ℕ) (fits : A → Bool) : Type 0 where
  pub again : (x : A) (rest : List ℕ) → fits x ≡ true → next (form x ++ rest) ≡ Some (x, rest)
  pub spelled : (bytes : List ℕ) (x : A) (rest : List ℕ) → IsBytes bytes → next bytes ≡ Some (x, rest) → (bytes ≡ form x ++ rest) × (fits x ≡ true)

-- ---- made of others

pub Reads-none : {A : Type 0} (form : A → List ℕ) → Reads (none_next {A = A}) form (λ x. false)
Reads-none form = record {
  again = λ x rest h. absurd cc;
  spelled = λ bytes x rest fits e. absurd cc;
}

pub Reads-then : {A B : Type 0} (first : Reader A) (f : A → List ℕ) (P : A → Bool) (second : A → Reader B) (g : B → List ℕ) (Q : A → B → Bool)
    → Reads first f P → ((a : A) → Reads (second a) g (Q a)) → Reads (then_by first second) (λ x. f x.0 ++ g x.1) (λ x. P x.0 && Q x.0 x.1)
Reads-then {A} {B} first f P second g Q r s = record {
  again = λ x rest h.
      let t = both (P x.0) (Q x.0 x.1) h in
      let one : first ((f x.0 ++ g x.1) ++ rest) ≡ Some (x.0, g x.1 ++ rest) = ap first (append_assoc (f x.0) (g x.1) rest) ∙ r.again x.0 (g x.1 ++ rest) t.0 in
      rw (one, (s x.0).again x.1 rest t.1) refl;
  spelled = λ bytes x rest fits e.
      let b = bind_some (first bytes) (λ a. second a.0 a.1 >>= λ b. Some ((a.0, b.0), b.1)) (x, rest) e in
      let c = bind_some (second b.0.0 b.0.1) (λ y. Some ((b.0.0, y.0), y.1)) (x, rest) b.2 in
      let one = r.spelled bytes b.0.0 b.0.1 fits b.1 in
      let two = (s b.0.0).spelled b.0.1 c.0.0 c.0.1 (IsBytes-rest bytes (f b.0.0) b.0.1 one.0 fits) c.1 in
      let whole : bytes ≡ (f b.0.0 ++ g c.0.0) ++ c.0.1 = one.0 ∙ ap (λ (t : List ℕ). f b.0.0 ++ t) two.0 ∙ sym (append_assoc (f b.0.0) (g c.0.0) c.0.1) in
      let same = some_is ((b.0.0, c.0.0), c.0.1) (x, rest) c.2 in
      subst (λ (y : (A × B) × List ℕ). (bytes ≡ (f y.0.0 ++ g y.0.1) ++ y.1) × ((P y.0.0 && Q y.0.0 y.0.1) ≡ true)) same (whole, both_from _ _ one.1 two.1);
}

pub Reads-mapped : {A B : Type 0} (next : Reader A) (f : A → List ℕ) (P : A → Bool) (make : A → B) (parts : B → A) → ((b : B) → make (parts b) ≡ b) → ((a : A) → parts (make a) ≡ a)
    → Reads next f P → Reads (mapped make next) (λ b. f (parts b)) (λ b. P (parts b))
Reads-mapped {A} {B} next f P make parts makes_back parts_back r = record {
  again = λ b rest h. rw (r.again (parts b) rest h) (ap (λ (x : B). Some (x, rest)) (makes_back b));
  spelled = λ bytes b rest fits e.
      let t = bind_some (next bytes) (λ a. Some (make a.0, a.1)) (b, rest) e in
      let one = r.spelled bytes t.0.0 t.0.1 fits t.1 in
      let same = some_is (make t.0.0, t.0.1) (b, rest) t.2 in
      let back : t.0.0 ≡ parts (make t.0.0) = sym (parts_back t.0.0) in
      let made : (bytes ≡ f (parts (make t.0.0)) ++ t.0.1) × (P (parts (make t.0.0)) ≡ true) = subst (λ (a : A). (bytes ≡ f a ++ t.0.1) × (P a ≡ true)) back one in
      subst (λ (y : B × List ℕ). (bytes ≡ f (parts y.0) ++ y.1) × (P (parts y.0) ≡ true)) same made;
}

pub Reads-checked : {A : Type 0} (test : A → Bool) (next : Reader A) (f : A → List ℕ) (P : A → Bool) → Reads next f P → Reads (checked test next) f (λ x. P x && test x)
Reads-checked {A} test next f P r = record {
  again = λ x rest h. let t = both (P x) (test x) h in rw (r.again x rest t.0, t.1) refl;
  spelled = λ bytes x rest fits e.
      let b = bind_some (next bytes) (λ a. cond (test a.0) (Some a) None) (x, rest) e in
      let k = kept (test b.0.0) b.0 (x, rest) b.2 in
      let one = r.spelled bytes b.0.0 b.0.1 fits b.1 in
      subst (λ (y : A × List ℕ). (bytes ≡ f y.0 ++ y.1) × ((P y.0 && test y.0) ≡ true)) k.1 (one.0, both_from _ _ one.1 k.0);
}

-- the same form and the same test, however they are written
pub Reads-same : {A : Type 0} (next : Reader A) (f g : A → List ℕ) (P Q : A → Bool) → ((x : A) → f x ≡ g x) → ((x : A) → P x ≡ Q x) → Reads next f P → Reads next g Q
Reads-same next f g P Q forms tests r = record {
  again = λ x rest h. ap (λ (t : List ℕ). next (t ++ rest)) (sym (forms x)) ∙ r.again x rest (tests x ∙ h);
  spelled = λ bytes x rest fits e.
      let one = r.spelled bytes x rest fits e in
      (one.0 ∙ ap (λ (t : List ℕ). t ++ rest) (forms x), sym (tests x) ∙ one.1);
}

opt_again : {A : Type 0} (next : Reader A) (f : A → List ℕ) (P : A → Bool) → Reads next f P → (x : Option A) (rest : List ℕ) → fits_if_some P x ≡ true → opt_next next (opt_form f x ++ rest) ≡ Some (x, rest)
unfolding opt_next
opt_again next f P r None rest h = rw (bool_next-again false rest) refl
opt_again next f P r (Some x) rest h = rw (bool_next-again true (f x ++ rest), r.again x rest h) refl

opt_behind : {A : Type 0} (next : Reader A) (f : A → List ℕ) (P : A → Bool) → Reads next f P → (flag : Bool) (left : List ℕ) (x : Option A) (rest : List ℕ) → IsBytes left
    → cond flag (mapped Some next left) (Some (None, left)) ≡ Some (x, rest) → (bool_form flag ++ left ≡ opt_form f x ++ rest) × (fits_if_some P x ≡ true)
opt_behind {A} next f P r false left x rest fits e =
    subst (λ (y : Option A × List ℕ). (0 ∷ left ≡ opt_form f y.0 ++ y.1) × (fits_if_some P y.0 ≡ true)) (some_is (None, left) (x, rest) e) (refl, refl)
opt_behind {A} next f P r true left x rest fits e =
    let b = bind_some (next left) (λ a. Some (Some a.0, a.1)) (x, rest) e in
    let one = r.spelled left b.0.0 b.0.1 fits b.1 in
    subst (λ (y : Option A × List ℕ). (1 ∷ left ≡ opt_form f y.0 ++ y.1) × (fits_if_some P y.0 ≡ true)) (some_is (Some b.0.0, b.0.1) (x, rest) b.2) (ap (λ (t : List ℕ). 1 ∷ t) one.0, one.1)

opt_spelled : {A : Type 0} (next : Reader A) (f : A → List ℕ) (P : A → Bool) → Reads next f P → (bytes : List ℕ) (x : Option A) (rest : List ℕ) → IsBytes bytes
    → opt_next next bytes ≡ Some (x, rest) → (bytes ≡ opt_form f x ++ rest) × (fits_if_some P x ≡ true)
unfolding opt_next
opt_spelled next f P r bytes x rest fits e =
    let b = bind_some (bool_next bytes) (λ is_there. cond is_there.0 (mapped Some next is_there.1) (Some (None, is_there.1))) (x, rest) e in
    let one = bool_next-spelled bytes b.0.0 b.0.1 b.1 in
    let two = opt_behind next f P r b.0.0 b.0.1 x rest (IsBytes-rest bytes (bool_form b.0.0) b.0.1 one fits) b.2 in
    (one ∙ two.0, two.1)

pub Reads-opt : {A : Type 0} (next : Reader A) (f : A → List ℕ) (P : A → Bool) → Reads next f P → Reads (opt_next next) (opt_form f) (fits_if_some P)
Reads-opt next f P r = record { again = opt_again next f P r; spelled = opt_spelled next f P r }

items_again : {A : Type 0} (next : Reader A) (f : A → List ℕ) (P : A → Bool) → Reads next f P → (xs : List A) (rest : List ℕ) → list_all P xs ≡ true → items_next next (length xs) (flat_map f xs ++ rest) ≡ Some (xs, rest)
unfolding items_next
items_again next f P r [] rest h = refl
items_again next f P r (x ∷ xs) rest h =
    let t = both (P x) (list_all P xs) h in
    let regrouped : flat_map f (x ∷ xs) ++ rest ≡ f x ++ (flat_map f xs ++ rest) = ap (λ (y : List ℕ). y ++ rest) (flat_map-cons f x xs) ∙ append_assoc (f x) (flat_map f xs) rest in
    ap (items_next next (suc (length xs))) regrouped ∙ rw (r.again x (flat_map f xs ++ rest) t.0, items_again next f P r xs rest t.1) refl

items_spelled : {A : Type 0} (next : Reader A) (f : A → List ℕ) (P : A → Bool) → Reads next f P → (n : ℕ) (bytes : List ℕ) (x : List A) (rest : List ℕ) → IsBytes bytes
    → items_next next n bytes ≡ Some (x, rest) → (bytes ≡ flat_map f x ++ rest) × (length x ≡ n) × (list_all P x ≡ true)
unfolding items_next
items_spelled {A} next f P r zero bytes x rest fits e =
    subst (λ (y : List A × List ℕ). (bytes ≡ flat_map f y.0 ++ y.1) × (length y.0 ≡ 0) × (list_all P y.0 ≡ true)) (some_is ([], bytes) (x, rest) e) (refl, refl, refl)
items_spelled {A} next f P r (suc n) bytes x rest fits e =
    let a = bind_some (next bytes) (λ first. items_next next n first.1 >>= λ others. Some (first.0 ∷ others.0, others.1)) (x, rest) e in
    let b = bind_some (items_next next n a.0.1) (λ others. Some (a.0.0 ∷ others.0, others.1)) (x, rest) a.2 in
    let one = r.spelled bytes a.0.0 a.0.1 fits a.1 in
    let two = items_spelled next f P r n a.0.1 b.0.0 b.0.1 (IsBytes-rest bytes (f a.0.0) a.0.1 one.0 fits) b.1 in
    let whole : bytes ≡ flat_map f (a.0.0 ∷ b.0.0) ++ b.0.1 = one.0 ∙ ap (λ (t : List ℕ). f a.0.0 ++ t) two.0 ∙ sym (append_assoc (f a.0.0) (flat_map f b.0.0) b.0.1) ∙ ap (λ (t : List ℕ). t ++ b.0.1) (sym (flat_map-cons f a.0.0 b.0.0)) in
    subst (λ (y : List A × List ℕ). (bytes ≡ flat_map f y.0 ++ y.1) × (length y.0 ≡ suc n) × (list_all P y.0 ≡ true)) (some_is (a.0.0 ∷ b.0.0, b.0.1) (x, rest) b.2) (whole, ap suc two.1, both_from _ _ one.1 two.2)

list_again : {A : Type 0} (next : Reader A) (f : A → List ℕ) (P : A → Bool) → Reads next f P → (xs : List A) (rest : List ℕ) → all_fit P xs ≡ true → list_next next (list_form f xs ++ rest) ≡ Some (xs, rest)
unfolding list_next count_form
list_again next f P r xs rest h =
    let t = both (is_short xs) (list_all P xs) h in
    let counted = u32_next-again (length xs) (flat_map f xs ++ rest) (ltb-true _ _ t.0) in
    ap (list_next next) (append_assoc (to_be_bytes w32 (length xs)) (flat_map f xs) rest) ∙ rw counted (items_again next f P r xs rest t.1)

list_spelled : {A : Type 0} (next : Reader A) (f : A → List ℕ) (P : A → Bool) → Reads next f P → (bytes : List ℕ) (x : List A) (rest : List ℕ) → IsBytes bytes
    → list_next next bytes ≡ Some (x, rest) → (bytes ≡ list_form f x ++ rest) × (all_fit P x ≡ true)
unfolding list_next count_form
list_spelled next f P r bytes x rest fits e =
    let b = bind_some (u32_next bytes) (λ count. items_next next count.0 count.1) (x, rest) e in
    let one = u32_next-spelled bytes b.0.0 b.0.1 fits b.1 in
    let two = items_spelled next f P r b.0.0 b.0.1 x rest (IsBytes-rest bytes (to_be_bytes w32 b.0.0) b.0.1 one.0 fits) b.2 in
    let short : is_short x ≡ true = lt-ltb _ _ (omega (arith, two.1, one.1)) in
    let counted : to_be_bytes w32 b.0.0 ≡ to_be_bytes w32 (length x) = ap (λ (n : ℕ). to_be_bytes w32 n) (sym two.1) in
    (one.0 ∙ ap (λ (t : List ℕ). to_be_bytes w32 b.0.0 ++ t) two.0 ∙ ap (λ (t : List ℕ). t ++ (flat_map f x ++ rest)) counted ∙ sym (append_assoc (to_be_bytes w32 (length x)) (flat_map f x) rest), both_from _ _ short two.2)

pub Reads-list : {A : Type 0} (next : Reader A) (f : A → List ℕ) (P : A → Bool) → Reads next f P → Reads (list_next next) (list_form f) (all_fit P)
Reads-list next f P r = record { again = list_again next f P r; spelled = list_spelled next f P r }

-- ---- fields

pub Reads-text : Reads text_next name_form is_name
unfolding name_form
Reads-text = record {
  again = λ x rest h. let t = both (is_text x) (is_short x) h in text_next-again x rest t.0 (ltb-true _ _ t.1);
  spelled = λ bytes x rest fits e. let t = text_next-spelled bytes x rest fits e in (t.0, both_from _ _ t.2 (lt-ltb _ _ t.1));
}

pub Reads-u16 : Reads u16_next u16_form (λ n. ltb n 65536)
unfolding u16_form
Reads-u16 = record {
  again = λ x rest h. u16_next-again x rest (ltb-true _ _ h);
  spelled = λ bytes x rest fits e. let t = u16_next-spelled bytes x rest fits e in (t.0, lt-ltb _ _ t.1);
}

pub Reads-bool : Reads bool_next bool_form (λ b. true)
Reads-bool = record { again = λ b rest h. bool_next-again b rest; spelled = λ bytes b rest fits e. (bool_next-spelled bytes b rest e, refl) }

-- ---- numbers and tags

pub Reads-numbered : {A : Type 0} (of : ℕ → Option A) (number : A → ℕ) → ((a : A) → of (number a) ≡ Some a) → ((n : ℕ) (a : A) → of n ≡ Some a → n ≡ number a)
    → Reads (numbered of) (λ a. number a ∷ []) (λ a. true)
Reads-numbered {A} of number back on = record {
  again = λ a rest h. rw (u8_next-again (number a) rest, back a) refl;
  spelled = λ bytes a rest fits e.
      let b = bind_some (u8_next bytes) (λ n. of n.0 >>= λ a. Some (a, n.1)) (a, rest) e in
      let c = bind_some (of b.0.0) (λ x. Some (x, b.0.1)) (a, rest) b.2 in
      let one = u8_next-spelled bytes b.0.0 b.0.1 b.1 in
      let same = some_is (c.0, b.0.1) (a, rest) c.2 in
      (one ∙ ap (λ (n : ℕ). n ∷ b.0.1) (on b.0.0 c.0 c.1) ∙ ap (λ (y : A × List ℕ). number y.0 ∷ y.1) same, refl);
}

-- what a choice of readers reads behind the tag n
abbrev pub Spells : {B : Type 0} → (B → List ℕ) → (B → Bool) → ℕ → Reader B → Type 0
Spells {B} form fits n next = (bytes : List ℕ) (x : B) (rest : List ℕ) → IsBytes bytes → next bytes ≡ Some (x, rest) → (n ∷ bytes ≡ form x ++ rest) × (fits x ≡ true)

pub Spells-none : {B : Type 0} (form : B → List ℕ) (fits : B → Bool) (n : ℕ) → Spells form fits n none_next
Spells-none form fits n bytes x rest h e = absurd cc

-- the reader of the variant with the tag, or another one
pub Spells-or : {B : Type 0} (form : B → List ℕ) (fits : B → Bool) (n tag : ℕ) (next other : Reader B) → Spells form fits tag next → Spells form fits n other → Spells form fits n (cond (eqb n tag) next other)
Spells-or {B} form fits n tag next other here there =
    let M : Bool → Type 0 = λ v. eqb n tag ≡ v → Spells form fits n (cond v next other) in
    let chosen : M (eqb n tag) = elim (eqb n tag) as M [
      | true ↦ λ is. λ bytes x rest h e. (let one = here bytes x rest h e in (ap (λ (k : ℕ). k ∷ bytes) (eqb-true n tag is) ∙ one.0, one.1))
      | false ↦ λ is. there
    ] in
    chosen refl

-- one variant
pub Spells-variant : {A B : Type 0} (form : B → List ℕ) (fits : B → Bool) (tag : ℕ) (inject : A → B) (next : Reader A) (f : A → List ℕ) (P : A → Bool)
    → ((a : A) → form (inject a) ≡ tag ∷ f a) → ((a : A) → fits (inject a) ≡ P a) → Reads next f P → Spells form fits tag (mapped inject next)
Spells-variant {A} {B} form fits tag inject next f P forms tests r bytes x rest h e =
    let b = bind_some (next bytes) (λ a. Some (inject a.0, a.1)) (x, rest) e in
    let one = r.spelled bytes b.0.0 b.0.1 h b.1 in
    let whole : tag ∷ bytes ≡ form (inject b.0.0) ++ b.0.1 = ap (λ (t : List ℕ). tag ∷ t) one.0 ∙ ap (λ (t : List ℕ). t ++ b.0.1) (sym (forms b.0.0)) in
    subst (λ (y : B × List ℕ). (tag ∷ bytes ≡ form y.0 ++ y.1) × (fits y.0 ≡ true)) (some_is (inject b.0.0, b.0.1) (x, rest) b.2) (whole, tests b.0.0 ∙ one.1)

-- a value of one variant is read again
pub tagged-again : {A B : Type 0} (choose : ℕ → Reader B) (form : B → List ℕ) (fits : B → Bool) (tag : ℕ) (inject : A → B) (next : Reader A) (f : A → List ℕ) (P : A → Bool)
    → ((a : A) → form (inject a) ≡ tag ∷ f a) → ((a : A) → fits (inject a) ≡ P a) → Reads next f P → ((bytes : List ℕ) → choose tag bytes ≡ mapped inject next bytes)
    → (a : A) (rest : List ℕ) → fits (inject a) ≡ true → tagged choose (form (inject a) ++ rest) ≡ Some (inject a, rest)
tagged-again choose form fits tag inject next f P forms tests r chooses a rest h =
    ap (λ (t : List ℕ). tagged choose (t ++ rest)) (forms a) ∙ rw (u8_next-again tag (f a ++ rest), chooses (f a ++ rest), r.again a rest (sym (tests a) ∙ h)) refl

pub Reads-tagged : {B : Type 0} (choose : ℕ → Reader B) (form : B → List ℕ) (fits : B → Bool)
    → ((x : B) (rest : List ℕ) → fits x ≡ true → tagged choose (form x ++ rest) ≡ Some (x, rest)) → ((n : ℕ) → Spells form fits n (choose n)) → Reads (tagged choose) form fits
Reads-tagged choose form fits again spells = record {
  again = again;
  spelled = λ bytes x rest h e.
      let b = bind_some (u8_next bytes) (λ n. choose n.0 n.1) (x, rest) e in
      let one = u8_next-spelled bytes b.0.0 b.0.1 b.1 in
      let two = spells b.0.0 b.0.1 x rest (IsBytes-rest bytes (b.0.0 ∷ []) b.0.1 one h) b.2 in
      (one ∙ two.0, two.1);
}

-- ---- the same, with what can be read from the facts left out

pub and_reads : {A B : Type 0} {first : Reader A} {f : A → List ℕ} {P : A → Bool} {second : Reader B} {g : B → List ℕ} {Q : B → Bool}
    → Reads first f P → Reads second g Q → Reads (then_by first (λ a. second)) (λ x. f x.0 ++ g x.1) (λ x. P x.0 && Q x.1)
and_reads {A} {B} {first} {f} {P} {second} {g} {Q} r s = Reads-then first f P (λ _. second) g (λ _. Q) r (λ _. s)

pub opt_reads : {A : Type 0} {next : Reader A} {f : A → List ℕ} {P : A → Bool} → Reads next f P → Reads (opt_next next) (opt_form f) (fits_if_some P)
opt_reads {A} {next} {f} {P} r = Reads-opt next f P r

pub list_reads : {A : Type 0} {next : Reader A} {f : A → List ℕ} {P : A → Bool} → Reads next f P → Reads (list_next next) (list_form f) (all_fit P)
list_reads {A} {next} {f} {P} r = Reads-list next f P r

pub check_reads : {A : Type 0} {next : Reader A} {f : A → List ℕ} {P : A → Bool} (test : A → Bool) → Reads next f P → Reads (checked test next) f (λ x. P x && test x)
check_reads {A} {next} {f} {P} test r = Reads-checked test next f P r

pub map_reads : {A B : Type 0} {next : Reader A} {f : A → List ℕ} {P : A → Bool} (make : A → B) (parts : B → A) → ((b : B) → make (parts b) ≡ b) → ((a : A) → parts (make a) ≡ a)
    → Reads next f P → Reads (mapped make next) (λ b. f (parts b)) (λ b. P (parts b))
map_reads {A} {B} {next} {f} {P} make parts there back r = Reads-mapped next f P make parts there back r

pub same_reads : {A : Type 0} {next : Reader A} {f : A → List ℕ} {P : A → Bool} (g : A → List ℕ) (Q : A → Bool) → ((x : A) → f x ≡ g x) → ((x : A) → P x ≡ Q x) → Reads next f P → Reads next g Q
same_reads {A} {next} {f} {P} g Q forms tests r = Reads-same next f g P Q forms tests r

-- one variant of a choice: its tag, how it is made, and its reader
pub record Variant {A B : Type 0} (choose : ℕ → Reader B) (form : B → List ℕ) (fits : B → Bool) (tag : ℕ) (inject : A → B) (next : Reader A) : Type 0 where
  pub again : (a : A) (rest : List ℕ) → fits (inject a) ≡ true → tagged choose (form (inject a) ++ rest) ≡ Some (inject a, rest)
  pub spelled : Spells form fits tag (mapped inject next)

pub variant : {A B : Type 0} {next : Reader A} {f : A → List ℕ} {P : A → Bool} (choose : ℕ → Reader B) (form : B → List ℕ) (fits : B → Bool) (tag : ℕ) (inject : A → B)
    → ((a : A) → form (inject a) ≡ tag ∷ f a) → ((a : A) → fits (inject a) ≡ P a) → ((bytes : List ℕ) → choose tag bytes ≡ mapped inject next bytes) → Reads next f P → Variant choose form fits tag inject next
variant {A} {B} {next} {f} {P} choose form fits tag inject forms tests chooses r = record {
  again = tagged-again choose form fits tag inject next f P forms tests r chooses;
  spelled = Spells-variant form fits tag inject next f P forms tests r;
}
