-- The laws of phrases: what reading gives, and that a phrase has one meaning.
use Rattle.std.proofs.Common.{◌≡◌, ℕ, suc, ◌*◌, ◌-◌, ◌<◌, ◌≤◌, false, List, [], ◌∷◌, ◌++◌, ◌⊎◌, length, refl, sym, ap, subst, ◌∙◌, append_assoc, length-append, arith, inl, inr, ⊎_elim}
use Rattle.std.proofs.lemmas.List.{append-nil}
use Rattle.decl_grammar.specs.declared.symbol.Symbol.{Symbol}
use Rattle.decl_grammar.specs.Reading.{starts, Outcome, done, fault, deep, left, ◌>>=◌}
use Rattle.decl_grammar.specs.Form.{Form, Is, read}
use Rattle.decl_grammar.specs.Grammar.{ordinary, package_info}
use Rattle.decl_grammar.specs.Rule.{WholeAt, BegunAt, reads, read_nest, read_at}
use Rattle.decl_grammar.specs.File.{IsPhrase, BeginsPhrase, IsShallow, IsFirstFault, IsFirstDeep, ended, phrase_at}
use Rattle.decl_grammar.proofs.OneToken.{more}
use Rattle.decl_grammar.proofs.Heads.{Is-begins}
use Rattle.decl_grammar.proofs.Told.{Told, told}
use Rattle.decl_grammar.proofs.Rivals.{Begins-up}
use Rattle.decl_grammar.proofs.Attempts.{Passes}
use Rattle.decl_grammar.proofs.Open.{most-open}
use Rattle.decl_grammar.proofs.Rules.{ordinary-ok, ordinary-plain, package_info-ok, package_info-plain}
use Rattle.decl_grammar.proofs.Complete.{Comes, complete}
use Rattle.decl_grammar.proofs.Passes.{bind-left}
use Rattle.decl_grammar.proofs.Fuel.{at-reads}
use Rattle.decl_grammar.proofs.Heights.{full-at, begins-at, most-at, Whole, Started, whole-up, started-up}
use Rattle.decl_grammar.proofs.RuleFair.{fair}
use Rattle.decl_grammar.proofs.Knot.{told-at, comes-at, inside-at, IsSound, sound-plain, passes-any}

pub ordinary-sound : IsSound ordinary
ordinary-sound = sound-plain fair ordinary ordinary-ok ordinary-plain

pub package_info-sound : IsSound package_info
package_info-sound = sound-plain fair package_info package_info-ok package_info-plain

ended-left : {A : Type 0} (x : A) (rest : List Symbol) → length (left (ended x rest)) ≤ length rest
ended-left x [] = omega arith
ended-left x (t ∷ ts) = omega arith

-- what reading a phrase tells
abbrev PhraseTold : {A : Type 0} → Form A → ℕ → List Symbol → Outcome A → Type 0
PhraseTold f room ts (done x rest) = IsPhrase f ts x
PhraseTold f room ts (fault at) = (us : List Symbol) × (ts ≡ us ++ at) × (n : ℕ) × BeginsPhrase f us n
PhraseTold f room ts (deep at) = (us : List Symbol) × (t : Symbol) × (vs : List Symbol) × (at ≡ t ∷ vs) × (ts ≡ us ++ t ∷ vs) × (n : ℕ) × (room < n) × BeginsPhrase f (us ++ t ∷ []) n

told-ended : {A : Type 0} (f : Form A) (h room : ℕ) (ts : List Symbol) (o : Outcome A) → Told room (WholeAt h) (BegunAt h) f ts o → PhraseTold f room ts (o >>= ended)
told-ended f h room ts (done x []) p = (h, subst (λ (u : List Symbol). Is (WholeAt h) f u x) (sym (p.1 ∙ append-nil p.0)) p.2)
told-ended f h room ts (done x (t ∷ rest)) p =
    let b = Is-begins (WholeAt h) (BegunAt h) (full-at h) (begins-at h) f p.0 x p.2 in
    (p.0, p.1, b.0, (h, b.1))
told-ended f h room ts (fault at) p = (p.0, p.1, p.2, (h, p.3))
told-ended f h room ts (deep at) p = (p.0, p.1, p.2, p.3, p.4, p.5, p.6, (h, p.7))

phrase-told : {A : Type 0} (f : Form A) (room : ℕ) (ts : List Symbol) → PhraseTold f room ts (phrase_at room f ts)
phrase-told {A} f room ts =
    let n = 3 * suc (length ts) in
    let h = suc (suc n) in
    subst (λ (o : Outcome A). PhraseTold f room ts (o >>= ended)) (sym (at-reads room (length ts) f ts (omega arith)))
    (told-ended f h room ts (read (read_at n room) f ts) (told room (WholeAt h) (BegunAt h) (read_at n room) (told-at n room) f ts))

-- what begins a phrase is passed
phrase-passes : {A : Type 0} (f : Form A) → IsSound f → (room : ℕ) (us rest : List Symbol) (n : ℕ) → BeginsPhrase f us n → Passes room n rest (phrase_at room f (us ++ rest))
phrase-passes f sound room us rest n b =
    go (passes-any f sound room us n rest (Begins-up (WholeAt b.0) Whole (BegunAt b.0) Started (whole-up b.0) (started-up b.0) f us n b.1))
  where
    go : Passes room n rest (reads room f (us ++ rest)) → Passes room n rest (phrase_at room f (us ++ rest))
    go (inl p) = inl (omega (arith, bind-left (reads room f (us ++ rest)) ended ended-left, p.0), p.1)
    go (inr q) = inr (q.0, rw q.1 refl, q.2)

starts-end : (ks : List ℕ) → starts ks [] ≡ false
starts-end ks = refl

phrase-comes : {A : Type 0} (f : Form A) → IsSound f → (room h : ℕ) (ts : List Symbol) (x : A) → Is (WholeAt h) f ts x → (phrase_at room f ts ≡ done x []) ⊎ ((at : List Symbol) × (phrase_at room f ts ≡ deep at))
phrase-comes f sound room h ts x is =
    let c = complete (WholeAt h) Whole Started room (read_nest room) (inside-at room h (comes-at sound.2 h room)) f sound.0 sound.1 ts x [] (starts-end (more f)) is in
    let d : Comes x [] (reads room f ts) = subst (λ (u : List Symbol). Comes x [] (reads room f u)) (append-nil ts) c in
    ⊎_elim (λ (e : reads room f ts ≡ done x []). inl (rw e refl)) (λ (e : (at : List Symbol) × (reads room f ts ≡ deep at) × (0 < length at)). inr (e.0, rw e.1 refl)) d

-- with room for three forms at each symbol nothing is too deep
pub phrase-fits : {A : Type 0} (f : Form A) (room : ℕ) (ts at : List Symbol) → 3 * length ts ≤ room → phrase_at room f ts ≡ deep at → ⊥
phrase-fits {A} f room ts at fits e =
    let p : PhraseTold f room ts (deep at) = subst (λ (o : Outcome A). PhraseTold f room ts o) e (phrase-told f room ts) in
    let h = p.7.0 in
    let most = most-open (WholeAt h) (BegunAt h) (full-at h) (most-at h) f (p.0 ++ p.1 ∷ []) p.5 p.7.1 in
    omega (arith, most, p.6, fits, ap length p.4, length-append p.0 (p.1 ∷ []), length-append p.0 (p.1 ∷ p.2))

-- ---- the laws

pub phrase-found : {A : Type 0} (f : Form A) (room : ℕ) (ts : List Symbol) (x : A) (rest : List Symbol) → phrase_at room f ts ≡ done x rest → IsPhrase f ts x
phrase-found {A} f room ts x rest e = subst (λ (o : Outcome A). PhraseTold f room ts o) e (phrase-told f room ts)

pub phrase-only : {A : Type 0} (f : Form A) → IsSound f → (room : ℕ) (ts : List Symbol) (x : A) → IsPhrase f ts x → (phrase_at room f ts ≡ done x []) ⊎ ((at : List Symbol) × (phrase_at room f ts ≡ deep at))
phrase-only f sound room ts x is = phrase-comes f sound room is.0 ts x is.1

done_value : {A : Type 0} (x y : A) → done x [] ≡ done y [] → x ≡ y
done_value x y e = cc

-- a phrase has at most one meaning
pub phrase-unique : {A : Type 0} (f : Form A) → IsSound f → (ts : List Symbol) (x y : A) → IsPhrase f ts x → IsPhrase f ts y → x ≡ y
phrase-unique f sound ts x y p q = done_value x y (sym (read_whole x p) ∙ read_whole y q)
  where
    read_whole : (z : _) → IsPhrase f ts z → phrase_at (3 * length ts) f ts ≡ done z []
    read_whole z is = ⊎_elim (λ (e : phrase_at (3 * length ts) f ts ≡ done z []). e) (λ (e : (at : List Symbol) × (phrase_at (3 * length ts) f ts ≡ deep at)). absurd (phrase-fits f (3 * length ts) ts e.0 (omega arith) e.1)) (phrase-only f sound (3 * length ts) ts z is)

split_end : (us vs ws at : List Symbol) (ts : List Symbol) → ts ≡ us ++ at → us ≡ vs ++ ws → vs ++ (ws ++ at) ≡ ts
split_end us vs ws at ts p q = sym (append_assoc vs ws at) ∙ ap (λ (u : List Symbol). u ++ at) (sym q) ∙ sym p

not_deep : {A : Type 0} {B : Type 0} (o : Outcome A) (at bt : List Symbol) → o ≡ fault at → o ≡ deep bt → B
not_deep o at bt p q = absurd cc

not_done : {A : Type 0} {B : Type 0} (o : Outcome A) (x : A) (rest at : List Symbol) → o ≡ fault at → o ≡ done x rest → B
not_done o x rest at p q = absurd cc

deep_at : {A : Type 0} (o : Outcome A) (at bt : List Symbol) → o ≡ deep at → o ≡ deep bt → at ≡ bt
deep_at o at bt p q = cc

wrong_end : {A : Type 0} (room n : ℕ) (vs : List Symbol) (t : Symbol) (at : List Symbol) (o : Outcome A) → o ≡ fault at → at ≡ t ∷ vs → Passes room n vs o → ⊥
wrong_end {A} room n vs t at o e s (inl p) = omega (arith, p.0, ap (λ (q : Outcome A). length (left q)) e, ap length s)
wrong_end room n vs t at o e s (inr p) = not_deep o at p.0 e p.1

shallow_fault : {A : Type 0} (room n : ℕ) (rest at : List Symbol) (o : Outcome A) → o ≡ fault at → Passes room n rest o → n ≤ room
shallow_fault room n rest at o e (inl d) = d.1
shallow_fault room n rest at o e (inr d) = not_deep o at d.0 e d.1

shallow_deep : {A : Type 0} (room n : ℕ) (rest at : List Symbol) (o : Outcome A) → o ≡ deep at → length at ≤ length rest → Passes room n rest o → n ≤ room
shallow_deep room n rest at o e le (inl d) = d.1
shallow_deep room n rest at o e le (inr d) = absurd (omega (arith, d.2, ap length (deep_at o at d.0 e d.1)))

shallow_done : {A : Type 0} (room n : ℕ) (rest : List Symbol) (x : A) (after : List Symbol) (o : Outcome A) → o ≡ done x after → Passes room n rest o → n ≤ room
shallow_done room n rest x after o e (inl d) = d.1
shallow_done room n rest x after o e (inr d) = absurd cc

-- what is read within the room is nowhere too deep
pub phrase-shallow : {A : Type 0} (f : Form A) → IsSound f → (room : ℕ) (ts : List Symbol) (x : A) (rest : List Symbol) → phrase_at room f ts ≡ done x rest → IsShallow f room ts
phrase-shallow {A} f sound room ts x rest e us vs n s b =
    let o : Passes room n vs (phrase_at room f ts) = subst (λ (u : List Symbol). Passes room n vs (phrase_at room f u)) (sym s) (phrase-passes f sound room us vs n b) in
    shallow_done room n vs x rest (phrase_at room f ts) e o

pub phrase-fault : {A : Type 0} (f : Form A) → IsSound f → (room : ℕ) (ts at : List Symbol) → phrase_at room f ts ≡ fault at → (us : List Symbol) × IsFirstFault f room ts us at
phrase-fault {A} f sound room ts at e =
    let p : PhraseTold f room ts (fault at) = subst (λ (o : Outcome A). PhraseTold f room ts o) e (phrase-told f room ts) in (
      p.0,
      record {
        parts = p.1;
        begins = (p.2, p.3);
        wrong = λ t vs n s b.
            let whole : (p.0 ++ t ∷ []) ++ vs ≡ ts = append_assoc p.0 (t ∷ []) vs ∙ ap (λ (u : List Symbol). p.0 ++ u) (sym s) ∙ sym p.1 in
            let o : Passes room n vs (phrase_at room f ts) = subst (λ (u : List Symbol). Passes room n vs (phrase_at room f u)) whole (phrase-passes f sound room (p.0 ++ t ∷ []) vs n b) in
            wrong_end room n vs t at (phrase_at room f ts) e s o;
        none = λ x is. ⊎_elim (λ (d : phrase_at room f ts ≡ done x []). not_done (phrase_at room f ts) x [] at e d) (λ (d : (bt : List Symbol) × (phrase_at room f ts ≡ deep bt)). not_deep (phrase_at room f ts) at d.0 e d.1) (phrase-only f sound room ts x is);
        shallow = λ vs ws n s b.
            let o : Passes room n (ws ++ at) (phrase_at room f ts) = subst (λ (u : List Symbol). Passes room n (ws ++ at) (phrase_at room f u)) (split_end p.0 vs ws at ts p.1 s) (phrase-passes f sound room vs (ws ++ at) n b) in
            shallow_fault room n (ws ++ at) at (phrase_at room f ts) e o;
      },
    )

pub phrase-deep : {A : Type 0} (f : Form A) → IsSound f → (room : ℕ) (ts at : List Symbol) → phrase_at room f ts ≡ deep at → (us : List Symbol) × (t : Symbol) × (vs : List Symbol) × (at ≡ t ∷ vs) × IsFirstDeep f room ts us t vs
phrase-deep {A} f sound room ts at e =
    let p : PhraseTold f room ts (deep at) = subst (λ (o : Outcome A). PhraseTold f room ts o) e (phrase-told f room ts) in (
      p.0,
      p.1,
      p.2,
      p.3,
      record {
        parts = p.4;
        open_there = (p.5, p.6, p.7);
        shallow = λ vs ws n s b.
            let o : Passes room n (ws ++ p.1 ∷ p.2) (phrase_at room f ts) = subst (λ (u : List Symbol). Passes room n (ws ++ p.1 ∷ p.2) (phrase_at room f u)) (split_end p.0 vs ws (p.1 ∷ p.2) ts p.4 s) (phrase-passes f sound room vs (ws ++ p.1 ∷ p.2) n b) in
            shallow_deep room n (ws ++ p.1 ∷ p.2) at (phrase_at room f ts) e (omega (arith, ap length p.3, length-append ws (p.1 ∷ p.2))) o;
      },
    )

-- ---- the same, by how many symbols are left

pub phrase-is : {A : Type 0} (f : Form A) → IsSound f → (room : ℕ) (ts : List Symbol) (x y : A) → phrase_at room f ts ≡ done y [] → IsPhrase f ts x → y ≡ x
phrase-is f sound room ts x y e is = ⊎_elim (λ (d : phrase_at room f ts ≡ done x []). done_value y x (sym e ∙ d)) (λ (d : (at : List Symbol) × (phrase_at room f ts ≡ deep at)). absurd cc) (phrase-only f sound room ts x is)

abbrev FaultLeft : {A : Type 0} → Form A → ℕ → List Symbol → ℕ → Type 0
FaultLeft f room ts n = (at : List Symbol) × (phrase_at room f ts ≡ fault at) × (n ≡ length at)

abbrev DeepLeft : {A : Type 0} → Form A → ℕ → List Symbol → ℕ → Type 0
DeepLeft f room ts n = (at : List Symbol) × (phrase_at room f ts ≡ deep at) × (n ≡ length at)

pub fault-left : {A : Type 0} (f : Form A) → IsSound f → (room : ℕ) (ts : List Symbol) (n : ℕ) → FaultLeft f room ts n → n ≤ length ts
fault-left f sound room ts n h = let p = phrase-fault f sound room ts h.0 h.1 in omega (arith, ap length p.1.parts, length-append p.0 h.0, h.2)

pub deep-left : {A : Type 0} (f : Form A) → IsSound f → (room : ℕ) (ts : List Symbol) (n : ℕ) → DeepLeft f room ts n → n ≤ length ts
deep-left f sound room ts n h = let p = phrase-deep f sound room ts h.0 h.1 in omega (arith, ap length p.4.parts, length-append p.0 (p.1 ∷ p.2), ap length p.3, h.2)

pub fault-none : {A : Type 0} (f : Form A) → IsSound f → (room : ℕ) (ts : List Symbol) (n : ℕ) → FaultLeft f room ts n → (x : A) → IsPhrase f ts x → ⊥
fault-none f sound room ts n h = (phrase-fault f sound room ts h.0 h.1).1.none

pub fault-place : {A : Type 0} (f : Form A) → IsSound f → (room : ℕ) (ts : List Symbol) (n : ℕ) → FaultLeft f room ts n → (us : List Symbol) × (at : List Symbol) × (length ts - n ≡ length us) × IsFirstFault f room ts us at
fault-place f sound room ts n h = let p = phrase-fault f sound room ts h.0 h.1 in (p.0, h.0, omega (arith, ap length p.1.parts, length-append p.0 h.0, h.2), p.1)

pub deep-place : {A : Type 0} (f : Form A) → IsSound f → (room : ℕ) (ts : List Symbol) (n : ℕ) → DeepLeft f room ts n → (us : List Symbol) × (t : Symbol) × (vs : List Symbol) × (length ts - n ≡ length us) × IsFirstDeep f room ts us t vs
deep-place f sound room ts n h = let p = phrase-deep f sound room ts h.0 h.1 in (p.0, p.1, p.2, omega (arith, ap length p.4.parts, length-append p.0 (p.1 ∷ p.2), ap length p.3, h.2), p.4)
