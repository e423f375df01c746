-- Variables that are renamed one after another, by the numbers of their types.
use Rattle.std.proofs.Common.{◌≡◌, ℕ, zero, suc, ◌+◌, ◌<◌, ◌≤◌, length, get_or, drop, List, [], ◌∷◌, ◌++◌, sym, ap, ap₂, subst, append_assoc, append-nil, ◌∙◌, arith}
use Rattle.std.proofs.lemmas.List.{drop_all, map-append}
use Rattle.std.specs.List.{zip}
use Rattle.apt_base.specs.declared.element.ElementRef.{ElementRef}
use Rattle.type_mirror.specs.declared.mirror.Mirror.{Mirror}
use Rattle.type_mirror.specs.Substitution.{Replacements}
use Rattle.type_layers.specs.Layers.{Variable, mirror_of}
use Rattle.type_numbers.specs.Numbers.{at, IsKnown, Stands, Grows}
use Rattle.type_numbers.proofs.LayerMaps.{all_joined}
use Rattle.type_numbers.proofs.NumberLaws.{grows-itself, grows-on}
use Rattle.type_numbers.specs.Replaced.{Numbered, AreKnownIn, replacements_in}
use Rattle.type_numbers.proofs.ReplacedSteps.{grown-known_in, grown-replacements}
use Rattle.type_subtypes.specs.Subsignature.{as_types}
use Rattle.type_subtypes.proofs.RenamedVariables.{as_type, entries_from}

-- those so far, and the rest
pub record AreRenamed (old types : List Mirror) (ones others : List ElementRef) (n : ℕ) (by : Numbered) : Type 0 where
  pub known : AreKnownIn types by
  pub goes_on : replacements_in types by ++ entries_from ones others n ≡ zip others (as_types ones)
  pub grows : Grows old types

pub renamed-none : (t : List Mirror) (ones others : List ElementRef) (by : Numbered) → by ≡ [] → AreRenamed t t ones others 0 by
renamed-none t ones others by e = record {
  known = subst (AreKnownIn t) (sym e) tt;
  goes_on = ap (λ (b : Numbered). replacements_in t b ++ zip others (as_types ones)) e;
  grows = grows-itself t;
}

left : (ones others : List ElementRef) (n : ℕ) (one other : ElementRef) → n < length ones → n < length others → one ≡ get_or ones n one → other ≡ get_or others n other
    → entries_from ones others n ≡ (other, as_type one) ∷ entries_from ones others (suc n)
left [] others n one other p q e h = absurd (omega (arith, p))
left (x ∷ ones) [] n one other p q e h = absurd (omega (arith, q))
left (x ∷ ones) (y ∷ others) zero one other p q e h =
    ap₂ (λ (a b : ElementRef). (a, as_type b) ∷ zip others (as_types ones)) (sym h) (sym e)
left (x ∷ ones) (y ∷ others) (suc n) one other p q e h = left ones others n one other (omega (arith, p)) (omega (arith, q)) e h

abbrev entry : ElementRef → ℕ → ElementRef × ℕ
entry element number = (element, number)

pub renamed-next : (old t t' : List Mirror) (ones others : List ElementRef) (n number : ℕ) (one one' other other' : ElementRef) (by by' : Numbered) → n < length others
    → length ones ≡ length others → one ≡ get_or ones n one → one' ≡ one → other ≡ get_or others n other → other' ≡ other → Grows t t'
    → Stands t' number (mirror_of (Variable one')) → by' ≡ by ++ (other', number) ∷ [] → AreRenamed old t ones others n by → AreRenamed old t' ones others (n + 1) by'
renamed-next old t t' ones others n number one one' other other' by by' p as_many e e' h h' g stands pushed so_far =
    let within : n < length ones = omega (arith, p, as_many) in
    let next : n + 1 ≡ suc n = omega arith in
    let rest : Replacements = entries_from ones others (n + 1) in
    let front : Replacements = replacements_in t by in
    let kept : by' ≡ by ++ entry other number ∷ [] = pushed ∙ ap (λ (o : ElementRef). by ++ entry o number ∷ []) h' in
    let type : at t' number ≡ as_type one = stands.type ∙ ap (λ (e : ElementRef). as_type e) e' in
    record {
      known =
          subst (AreKnownIn t') (sym kept)
          (all_joined (λ (pair : ElementRef × ℕ). IsKnown t' pair.1) by (entry other number ∷ []) (grown-known_in t t' by g so_far.known) (stands.known, tt));
      goes_on =
          ap (λ (b : Numbered). replacements_in t' b ++ rest) kept
          ∙ ap (λ (rs : Replacements). rs ++ rest) (map-append (λ (pair : ElementRef × ℕ). (pair.0, at t' pair.1)) by (entry other number ∷ []))
          ∙ append_assoc (replacements_in t' by) ((other, at t' number) ∷ []) rest
          ∙ ap (λ (rs : Replacements). rs ++ (other, at t' number) ∷ rest) (grown-replacements t t' by g so_far.known)
          ∙ ap (λ (m : Mirror). front ++ (other, m) ∷ rest) type
          ∙ ap (λ (k : ℕ). front ++ (other, as_type one) ∷ entries_from ones others k) next
          ∙ ap (λ (rs : Replacements). front ++ rs) (sym (left ones others n one other within p e h))
          ∙ so_far.goes_on;
      grows = grows-on old t t' so_far.grows g;
    }

pub renamed-all : (old t : List Mirror) (ones others : List ElementRef) (n : ℕ) (by : Numbered) → length others ≤ n → AreRenamed old t ones others n by
    → replacements_in t by ≡ zip others (as_types ones)
renamed-all old t ones others n by p all =
    sym (append-nil (replacements_in t by))
    ∙ ap (λ (rest : List ElementRef). replacements_in t by ++ zip rest (as_types (drop n ones))) (sym (drop_all n others p))
    ∙ all.goes_on
