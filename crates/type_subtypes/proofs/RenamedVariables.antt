-- Variables that are renamed one after another.
use Rattle.std.proofs.Common.{◌≡◌, ℕ, zero, suc, ◌+◌, ◌<◌, ◌≤◌, length, get_or, drop, List, [], ◌∷◌, sym, ap, ap₂, ◌∙◌, arith}
use Rattle.std.proofs.lemmas.List.{drop_all}
use Rattle.std.specs.List.{zip}
use Rattle.apt_base.specs.declared.element.ElementRef.{ElementRef}
use Rattle.type_mirror.specs.declared.mirror.Mirror.{Mirror}
use Rattle.type_mirror.specs.Substitution.{Replacements, AreDistinct}
use Rattle.type_layers.specs.Layers.{Variable, mirror_of}
use Rattle.type_relations.specs.RawTypes.{added, once_behind}
use Rattle.type_relations.proofs.EntriesOfTypes.{distinct-none}
use Rattle.type_subtypes.specs.Subsignature.{as_types, renamed}

abbrev pub as_type : ElementRef → Mirror
as_type one = mirror_of (Variable one)

-- the entries of those from one on
abbrev pub entries_from : List ElementRef → List ElementRef → ℕ → Replacements
entries_from ones others n = zip (drop n others) (as_types (drop n ones))

-- those so far, and the rest
pub record AreRenamed (ones others : List ElementRef) (n : ℕ) (by : Replacements) : Type 0 where
  pub distinct : AreDistinct by
  pub goes_on : once_behind by (entries_from ones others n) ≡ once_behind [] (zip others (as_types ones))

pub renamed-none : (ones others : List ElementRef) (by : Replacements) → by ≡ [] → AreRenamed ones others 0 by
renamed-none ones others by e = record {
  distinct = distinct-none by e;
  goes_on = ap (λ (more : Replacements). once_behind more (zip others (as_types ones))) e;
}

left : (ones others : List ElementRef) (n : ℕ) (one other : ElementRef) → n < length ones → n < length others → one ≡ get_or ones n one → other ≡ get_or others n other
    → entries_from ones others n ≡ (other, as_type one) ∷ entries_from ones others (suc n)
left [] others n one other p q e h = absurd (omega (arith, p))
left (x ∷ ones) [] n one other p q e h = absurd (omega (arith, q))
left (x ∷ ones) (y ∷ others) zero one other p q e h =
    ap₂ (λ (a b : ElementRef). (a, as_type b) ∷ zip others (as_types ones)) (sym h) (sym e)
left (x ∷ ones) (y ∷ others) (suc n) one other p q e h = left ones others n one other (omega (arith, p)) (omega (arith, q)) e h

pub renamed-next : (ones others : List ElementRef) (n : ℕ) (one other : ElementRef) (by after : Replacements) → n < length others → length ones ≡ length others
    → one ≡ get_or ones n one → other ≡ get_or others n other → after ≡ added by (other, as_type one) → AreDistinct after → AreRenamed ones others n by → AreRenamed ones others (n + 1) after
renamed-next ones others n one other by after p as_many e h is distinct so_far =
    let within : n < length ones = omega (arith, p, as_many) in
    let one_more : suc n ≡ n + 1 = omega arith in
    record {
      distinct = distinct;
      goes_on =
          ap (λ (more : Replacements). once_behind more (entries_from ones others (n + 1))) is
          ∙ ap (λ (k : ℕ). once_behind (added by (other, as_type one)) (entries_from ones others k)) (sym one_more)
          ∙ ap (λ (more : Replacements). once_behind by more) (sym (left ones others n one other within p e h))
          ∙ so_far.goes_on;
    }

pub renamed-all : (ones others : List ElementRef) (n : ℕ) (by : Replacements) → length others ≤ n → AreRenamed ones others n by → by ≡ renamed ones others
unfolding renamed
renamed-all ones others n by p all =
    ap (λ (rest : List ElementRef). once_behind by (zip rest (as_types (drop n ones)))) (sym (drop_all n others p)) ∙ all.goes_on

pub ruleset renaming = (renamed-none, renamed-next, renamed-all)
