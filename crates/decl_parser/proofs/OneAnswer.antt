-- What a file comes to is one answer: two that are not out of memory are the same place, the same limit, or the same units with the same lines.
use Rattle.std.proofs.Common.{◌≡◌, ℕ, ◌<◌, Bool, true, false, Result, Ok, Err, List, [], ◌∷◌, ◌++◌, ◌⊎◌, inl, inr, refl, sym, ap, subst, ◌∙◌, append_assoc, arith}
use Rattle.std.proofs.lemmas.List.{append-nil}
use Rattle.apt_base.specs.Limits.{max_depth}
use Rattle.decl_grammar.specs.declared.symbol.Symbol.{Symbol}
use Rattle.decl_grammar.specs.Form.{Form}
use Rattle.decl_grammar.specs.File.{BeginsPhrase, IsFirstFault, IsFirstDeep, HasOneReading}
use Rattle.decl_grammar.proofs.Prefixes.{phrase-front}
use Rattle.decl_parser.specs.declared.parsing.Parsed.{Parsed}
use Rattle.decl_parser.specs.declared.parsing.FileFault.{FileFault}
use Rattle.decl_parser.specs.declared.parsing.FileFault.TheVariants as faults
use Rattle.decl_limits.specs.Units.{Declared}
use Rattle.decl_limits.specs.Limits.{IsWhole}
use Rattle.decl_parser.specs.Parsed.{offset_at, shown_answer, SameAnswer, AreSeen, Answers, gives, bad, too_deep, too_many, too_long, no_memory}

-- ---- two ways to cut a list: one front is a front of the other

abbrev pub Cut : List Symbol → List Symbol → List Symbol → List Symbol → Type 0
Cut us at vs rest = ((ws : List Symbol) × (vs ≡ us ++ ws) × (at ≡ ws ++ rest)) ⊎ ((w : Symbol) × (ws : List Symbol) × (us ≡ vs ++ w ∷ ws) × (rest ≡ (w ∷ ws) ++ at))

pub cut : (us at vs rest : List Symbol) → us ++ at ≡ vs ++ rest → Cut us at vs rest
cut [] at vs rest same = inl (vs, refl, same)
cut (u ∷ us) at [] rest same = inr (u, us, refl, sym same)
cut (u ∷ us) at (v ∷ vs) rest same = go (cut us at vs rest (ap tail_of same))
  where
    tail_of : List Symbol → List Symbol
    tail_of [] = []
    tail_of (x ∷ xs) = xs

    head_of : Symbol → List Symbol → Symbol
    head_of x [] = x
    head_of x (y ∷ ys) = y

    heads : u ≡ v
    heads = ap (head_of u) same

    go : Cut us at vs rest → Cut (u ∷ us) at (v ∷ vs) rest
    go (inl c) = inl (c.0, ap (λ (x : Symbol). x ∷ vs) (sym heads) ∙ ap (λ (xs : List Symbol). u ∷ xs) c.1, c.2)
    go (inr c) = inr (c.0, c.1, ap (λ (x : Symbol). x ∷ us) heads ∙ ap (λ (xs : List Symbol). v ∷ xs) c.2, c.3)

-- ---- the kinds of ends exclude each other

pub whole-no-fault : {A : Type 0} (f : Form A) (ts us at : List Symbol) (x : A) → IsWhole f ts x → IsFirstFault f max_depth ts us at → ⊥
whole-no-fault f ts us at x w fault = fault.none x w.0

pub whole-no-deep : {A : Type 0} (f : Form A) (ts us vs : List Symbol) (t : Symbol) (x : A) → IsWhole f ts x → IsFirstDeep f max_depth ts us t vs → ⊥
whole-no-deep f ts us vs t x w deep =
    let o = deep.open_there in
    let le = w.1 (us ++ t ∷ []) vs o.0 (deep.parts ∙ sym (append_assoc us (t ∷ []) vs)) o.2 in
    absurd (omega (arith, o.1, le))

-- a fault and a place where too much is open: the one that comes first forbids the other
pub fault-no-deep : {A : Type 0} (f : Form A) (ts us at vs rest : List Symbol) (t : Symbol) → IsFirstFault f max_depth ts us at → IsFirstDeep f max_depth ts vs t rest → ⊥
fault-no-deep f ts us at vs rest t fault deep = go (cut us at (vs ++ t ∷ []) rest (sym fault.parts ∙ (deep.parts ∙ sym (append_assoc vs (t ∷ []) rest))))
  where
    o : (n : ℕ) × (max_depth < n) × BeginsPhrase f (vs ++ t ∷ []) n
    o = deep.open_there

    -- the symbols up to the deep one begin the file, and go on behind the fault
    beyond : (ws : List Symbol) → vs ++ t ∷ [] ≡ us ++ ws → at ≡ ws ++ rest → ⊥
    beyond [] same is =
        let le = fault.shallow us [] o.0 (sym (append-nil us)) (subst (λ (xs : List Symbol). BeginsPhrase f xs o.0) (same ∙ append-nil us) o.2) in
        absurd (omega (arith, o.1, le))
    beyond (w ∷ ws) same is =
        let b = phrase-front f (us ++ w ∷ []) ws o.0 (subst (λ (xs : List Symbol). BeginsPhrase f xs o.0) (same ∙ sym (append_assoc us (w ∷ []) ws)) o.2) in
        fault.wrong w (ws ++ rest) b.0 is b.1

    go : Cut us at (vs ++ t ∷ []) rest → ⊥
    go (inl c) = beyond c.0 c.1 c.2
    go (inr c) =
        let le = fault.shallow (vs ++ t ∷ []) (c.0 ∷ c.1) o.0 c.2 o.2 in
        absurd (omega (arith, o.1, le))

-- ---- one place

pub one-fault : {A : Type 0} (f : Form A) (ts us at vs rest : List Symbol) → IsFirstFault f max_depth ts us at → IsFirstFault f max_depth ts vs rest → us ≡ vs
one-fault f ts us at vs rest a b = go (cut us at vs rest (sym a.parts ∙ b.parts))
  where
    -- the longer front begins the file, and so does its front up to the first symbol behind the shorter one
    longer : (us at vs : List Symbol) → IsFirstFault f max_depth ts us at → (n : ℕ) × BeginsPhrase f vs n → (w : Symbol) (ws rest : List Symbol) → vs ≡ us ++ w ∷ ws → at ≡ (w ∷ ws) ++ rest → ⊥
    longer us at vs a n w ws rest same is =
        let b = phrase-front f (us ++ w ∷ []) ws n.0 (subst (λ (xs : List Symbol). BeginsPhrase f xs n.0) (same ∙ sym (append_assoc us (w ∷ []) ws)) n.1) in
        a.wrong w (ws ++ rest) b.0 is b.1

    first : (ws : List Symbol) → vs ≡ us ++ ws → at ≡ ws ++ rest → us ≡ vs
    first [] same is = sym (same ∙ append-nil us)
    first (w ∷ ws) same is = absurd (longer us at vs a b.begins w ws rest same is)

    go : Cut us at vs rest → us ≡ vs
    go (inl c) = first c.0 c.1 c.2
    go (inr c) = absurd (longer vs rest us b a.begins c.0 c.1 at c.2 c.3)

pub one-deep : {A : Type 0} (f : Form A) (ts us at vs rest : List Symbol) (t s : Symbol) → IsFirstDeep f max_depth ts us t at → IsFirstDeep f max_depth ts vs s rest → us ≡ vs
one-deep f ts us at vs rest t s a b = go (cut us (t ∷ at) vs (s ∷ rest) (sym a.parts ∙ b.parts))
  where
    shallow : (us vs at : List Symbol) (t s : Symbol) (rest : List Symbol) → IsFirstDeep f max_depth ts us t at → IsFirstDeep f max_depth ts vs s rest → (w : Symbol) (ws : List Symbol) → vs ≡ us ++ w ∷ ws → t ∷ at ≡ (w ∷ ws) ++ s ∷ rest → ⊥
    shallow us vs at t s rest a b w ws same is =
        let o = a.open_there in
        let heads : t ≡ w = ap (head_of t) is in
        let le = b.shallow (us ++ t ∷ []) ws o.0 (same ∙ (ap (λ (x : Symbol). us ++ x ∷ ws) (sym heads) ∙ sym (append_assoc us (t ∷ []) ws))) o.2 in
        absurd (omega (arith, o.1, le))
      where
        head_of : Symbol → List Symbol → Symbol
        head_of x [] = x
        head_of x (y ∷ ys) = y

    first : (ws : List Symbol) → vs ≡ us ++ ws → t ∷ at ≡ ws ++ s ∷ rest → us ≡ vs
    first [] same is = sym (same ∙ append-nil us)
    first (w ∷ ws) same is = absurd (shallow us vs at t s rest a b w ws same is)

    go : Cut us (t ∷ at) vs (s ∷ rest) → us ≡ vs
    go (inl c) = first c.0 c.1 c.2
    go (inr c) = absurd (shallow vs us rest s t at b a c.0 c.1 c.2 c.3)

-- the symbols at which child lists are looked at are determined by the file
pub one-seen : {A : Type 0} (f : Form A) (ts us vs : List Symbol) → AreSeen f ts us → AreSeen f ts vs → us ≡ vs
one-seen f ts us vs (inl a) (inl b) = a.0 ∙ sym b.0
one-seen f ts us vs (inl a) (inr (inl b)) = absurd (whole-no-fault f ts vs b.0 a.1.0 a.1.1 b.1)
one-seen f ts us vs (inl a) (inr (inr b)) = absurd (whole-no-deep f ts vs b.1 b.0 a.1.0 a.1.1 b.2)
one-seen f ts us vs (inr (inl a)) (inl b) = absurd (whole-no-fault f ts us a.0 b.1.0 b.1.1 a.1)
one-seen f ts us vs (inr (inl a)) (inr (inl b)) = one-fault f ts us a.0 vs b.0 a.1 b.1
one-seen f ts us vs (inr (inl a)) (inr (inr b)) = absurd (fault-no-deep f ts us a.0 vs b.1 b.0 a.1 b.2)
one-seen f ts us vs (inr (inr a)) (inl b) = absurd (whole-no-deep f ts us a.1 a.0 b.1.0 b.1.1 a.2)
one-seen f ts us vs (inr (inr a)) (inr (inl b)) = absurd (fault-no-deep f ts vs b.0 us a.1 a.0 b.1 a.2)
one-seen f ts us vs (inr (inr a)) (inr (inr b)) = one-deep f ts us a.1 vs b.1 a.0 b.0 a.2 b.2

-- ---- one answer

no-both : true ≡ false → ⊥
no-both same = absurd cc

-- behind equal fronts of one list stands the same
one-rest : (us at vs rest : List Symbol) → us ≡ vs → us ++ at ≡ vs ++ rest → at ≡ rest
one-rest us at vs rest same all = behind us at rest (all ∙ ap (λ (xs : List Symbol). xs ++ rest) (sym same))
  where
    tail_of : List Symbol → List Symbol
    tail_of [] = []
    tail_of (x ∷ xs) = xs

    behind : (us at rest : List Symbol) → us ++ at ≡ us ++ rest → at ≡ rest
    behind [] at rest all = all
    behind (u ∷ us) at rest all = behind us at rest (ap tail_of all)

-- What symbols come to is one answer, where they have one reading. Generated: a line for each pair of cases.
pub one-answer : {A : Type 0} (f : Form A) → HasOneReading f → (units : A → Declared) (named : A → Bool) (crowded : List Symbol → Type 0) (end : ℕ) (ts : List Symbol) (r s : Result Parsed FileFault)
    → Answers f units named crowded end ts r → Answers f units named crowded end ts s → SameAnswer r s
one-answer f one units named crowded end ts r s (gives x p e w few fits shown) (gives x' p' e' w' few' fits' shown') = inl (ap shown_answer e ∙ (ap Ok (shown ∙ (ap units (one ts x x' w.0 w'.0) ∙ sym shown')) ∙ sym (ap shown_answer e')))
one-answer f one units named crowded end ts r s (gives x p e w few fits shown) (bad us' at' place' e' fault' placed' few') = absurd (whole-no-fault f ts us' at' x w fault')
one-answer f one units named crowded end ts r s (gives x p e w few fits shown) (too_deep us' t' vs' e' deep' few') = absurd (whole-no-deep f ts us' vs' t' x w deep')
one-answer f one units named crowded end ts r s (gives x p e w few fits shown) (too_many us' e' seen' full') = absurd (few (subst crowded (one-seen f ts us' ts seen' (inl (refl, (x, w)))) full'))
one-answer f one units named crowded end ts r s (gives x p e w few fits shown) (too_long x' e' w' few' exceeds') = absurd (no-both (sym fits ∙ (ap named (one ts x x' w.0 w'.0) ∙ exceeds')))
one-answer f one units named crowded end ts r s (gives x p e w few fits shown) (no_memory e') = inr (inr e')
one-answer f one units named crowded end ts r s (bad us at place e fault placed few) (gives x' p' e' w' few' fits' shown') = absurd (whole-no-fault f ts us at x' w' fault)
one-answer f one units named crowded end ts r s (bad us at place e fault placed few) (bad us' at' place' e' fault' placed' few') = inl (ap shown_answer e ∙ (ap (λ (n : ℕ). Err (faults.Bad n)) (placed ∙ (ap (λ (xs : List Symbol). offset_at 0 xs end) (one-rest us at us' at' (one-fault f ts us at us' at' fault fault') (sym fault.parts ∙ fault'.parts)) ∙ sym placed')) ∙ sym (ap shown_answer e')))
one-answer f one units named crowded end ts r s (bad us at place e fault placed few) (too_deep us' t' vs' e' deep' few') = absurd (fault-no-deep f ts us at us' vs' t' fault deep')
one-answer f one units named crowded end ts r s (bad us at place e fault placed few) (too_many us' e' seen' full') = absurd (few (subst crowded (one-seen f ts us' us seen' (inr (inl (at, fault)))) full'))
one-answer f one units named crowded end ts r s (bad us at place e fault placed few) (too_long x' e' w' few' exceeds') = absurd (whole-no-fault f ts us at x' w' fault)
one-answer f one units named crowded end ts r s (bad us at place e fault placed few) (no_memory e') = inr (inr e')
one-answer f one units named crowded end ts r s (too_deep us t vs e deep few) (gives x' p' e' w' few' fits' shown') = absurd (whole-no-deep f ts us vs t x' w' deep)
one-answer f one units named crowded end ts r s (too_deep us t vs e deep few) (bad us' at' place' e' fault' placed' few') = absurd (fault-no-deep f ts us' at' us vs t fault' deep)
one-answer f one units named crowded end ts r s (too_deep us t vs e deep few) (too_deep us' t' vs' e' deep' few') = inl (ap shown_answer e ∙ sym (ap shown_answer e'))
one-answer f one units named crowded end ts r s (too_deep us t vs e deep few) (too_many us' e' seen' full') = absurd (few (subst crowded (one-seen f ts us' us seen' (inr (inr (t, vs, deep)))) full'))
one-answer f one units named crowded end ts r s (too_deep us t vs e deep few) (too_long x' e' w' few' exceeds') = absurd (whole-no-deep f ts us vs t x' w' deep)
one-answer f one units named crowded end ts r s (too_deep us t vs e deep few) (no_memory e') = inr (inr e')
one-answer f one units named crowded end ts r s (too_many us e seen full) (gives x' p' e' w' few' fits' shown') = absurd (few' (subst crowded (one-seen f ts us ts seen (inl (refl, (x', w')))) full))
one-answer f one units named crowded end ts r s (too_many us e seen full) (bad us' at' place' e' fault' placed' few') = absurd (few' (subst crowded (one-seen f ts us us' seen (inr (inl (at', fault')))) full))
one-answer f one units named crowded end ts r s (too_many us e seen full) (too_deep us' t' vs' e' deep' few') = absurd (few' (subst crowded (one-seen f ts us us' seen (inr (inr (t', vs', deep')))) full))
one-answer f one units named crowded end ts r s (too_many us e seen full) (too_many us' e' seen' full') = inl (ap shown_answer e ∙ sym (ap shown_answer e'))
one-answer f one units named crowded end ts r s (too_many us e seen full) (too_long x' e' w' few' exceeds') = absurd (few' (subst crowded (one-seen f ts us ts seen (inl (refl, (x', w')))) full))
one-answer f one units named crowded end ts r s (too_many us e seen full) (no_memory e') = inr (inr e')
one-answer f one units named crowded end ts r s (too_long x e w few exceeds) (gives x' p' e' w' few' fits' shown') = absurd (no-both (sym fits' ∙ (ap named (one ts x' x w'.0 w.0) ∙ exceeds)))
one-answer f one units named crowded end ts r s (too_long x e w few exceeds) (bad us' at' place' e' fault' placed' few') = absurd (whole-no-fault f ts us' at' x w fault')
one-answer f one units named crowded end ts r s (too_long x e w few exceeds) (too_deep us' t' vs' e' deep' few') = absurd (whole-no-deep f ts us' vs' t' x w deep')
one-answer f one units named crowded end ts r s (too_long x e w few exceeds) (too_many us' e' seen' full') = absurd (few (subst crowded (one-seen f ts us' ts seen' (inl (refl, (x, w)))) full'))
one-answer f one units named crowded end ts r s (too_long x e w few exceeds) (too_long x' e' w' few' exceeds') = inl (ap shown_answer e ∙ sym (ap shown_answer e'))
one-answer f one units named crowded end ts r s (too_long x e w few exceeds) (no_memory e') = inr (inr e')
one-answer f one units named crowded end ts r s (no_memory e) (gives x' p' e' w' few' fits' shown') = inr (inl e)
one-answer f one units named crowded end ts r s (no_memory e) (bad us' at' place' e' fault' placed' few') = inr (inl e)
one-answer f one units named crowded end ts r s (no_memory e) (too_deep us' t' vs' e' deep' few') = inr (inl e)
one-answer f one units named crowded end ts r s (no_memory e) (too_many us' e' seen' full') = inr (inl e)
one-answer f one units named crowded end ts r s (no_memory e) (too_long x' e' w' few' exceeds') = inr (inl e)
one-answer f one units named crowded end ts r s (no_memory e) (no_memory e') = inr (inl e)
