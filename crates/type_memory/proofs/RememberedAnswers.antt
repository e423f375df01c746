-- Answers that are remembered are right, also when types are added and with one answer more.
use Rattle.std.proofs.Common.{◌≡◌, ℕ, ◌+◌, ◌*◌, ◌<◌, Bool, true, false, cond, ◌&&◌, nat_lt, List, [], Some, None, refl, sym, ap, ap₂, subst, ◌∙◌, arith, ltb-true, if◌then◌else◌}
use Rattle.std.specs.BTreeMap.{BTreeMap, get, IsEmpty, IsUnchanged}
use Rattle.std.specs.Ordering.{nat_cmp, is_eq}
use Rattle.apt_base.proofs.FieldsLemmas.{some_is}
use Rattle.apt_base.specs.Limits.{max_type_steps}
use Rattle.element_table.specs.TypeTable.{TypeTable}
use Rattle.type_levels.specs.declared.answer.Answer.{Answer}
use Rattle.type_levels.specs.declared.question.Pair.{Pair}
use Rattle.type_memory.specs.Known.{Known, AreBothKnown, Grows, known_of, type_at}
use Rattle.type_memory.specs.Remembered.{AreRight, IsAnswer, key_of, subtype_at}
use Rattle.type_numbers.proofs.RememberedValues.{each-found, each-more, each-none, each-same, each-weaker}
use Rattle.type_mirror.specs.declared.mirror.Mirror.{Mirror}
use Rattle.type_numbers.specs.Numbers as numbers
use Rattle.type_numbers.proofs.NumberLaws.{grown-at, grown-known}
use Rattle.type_subtypes.specs.Subtypes.{next_of, subtype}

-- ---- keys

-- the two numbers of a question that has a key
record Keyed (pair : Pair) (key : ℕ) : Type 0 where
  sub : pair.sub < 1048576
  sup : pair.sup < 1048576
  is : pair.sub * 1048576 + pair.sup ≡ key

keyed : (pair : Pair) (key : ℕ) → key_of pair ≡ Some key → Keyed pair key
keyed pair key e = by (nat_lt pair.sub 1048576) (nat_lt pair.sup 1048576) refl refl e
  where
    by : (b d : Bool) → nat_lt pair.sub 1048576 ≡ b → nat_lt pair.sup 1048576 ≡ d → (if b && d then Some (pair.sub * 1048576 + pair.sup) else None) ≡ Some key → Keyed pair key
    by true true s t e = record { sub = ltb-true pair.sub 1048576 s; sup = ltb-true pair.sup 1048576 t; is = some_is (pair.sub * 1048576 + pair.sup) key e }
    by true false s t e = absurd cc
    by false d s t e = absurd cc

pair_is : (p q : Pair) → p.sub ≡ q.sub → p.sup ≡ q.sup → p ≡ q
pair_is p q s t = λ i. record { sub = s i; sup = t i }

key_is : (p q : Pair) (key : ℕ) → key_of p ≡ Some key → key_of q ≡ Some key → p ≡ q
key_is p q key e e' =
    let one = keyed p key e in
    let other = keyed q key e' in
    let low = one.sup in
    let low' = other.sup in
    let is = one.is in
    let is' = other.is in
    pair_is p q (omega arith) (omega arith)

keyed_answer : (known : Known) (pair : Pair) (key : ℕ) (answer : Answer) → key_of pair ≡ Some key → AreBothKnown known pair → answer ≡ subtype_at known pair
    → IsAnswer known key answer
keyed_answer known pair key answer e both is = λ q e'. subst (λ (p : Pair). AreBothKnown known p × (answer ≡ subtype_at known p)) (key_is pair q key e e') (both, is)

-- an answer that was found to a question is that to the one with its key
pub found-answer : (old new : Known) (pair : Pair) (key : ℕ) (answer : Answer) → Grows old new → key_of pair ≡ Some key → AreBothKnown old pair → answer ≡ subtype_at old pair
    → IsAnswer new key answer
found-answer old new pair key answer g e both is =
    keyed_answer new pair key answer e (grown-known old.types new.types pair.sub g.types both.0, grown-known old.types new.types pair.sup g.types both.1)
    (is
    ∙ ap₂ (subtype old.table max_type_steps) (sym (grown-at old.types new.types pair.sub g.types both.0)) (sym (grown-at old.types new.types pair.sup g.types both.1))
    ∙ ap (λ (t : TypeTable). subtype t max_type_steps (type_at new pair.sub) (type_at new pair.sup)) (sym g.table))

-- ---- what stands at keys, with the types that are searched

pub right-none : (table : TypeTable) (known : Known) (held : BTreeMap ℕ Answer) → known ≡ known_of table [] → IsEmpty held → AreRight table known held
right-none table known held is empty = record {
  same = ap (λ (k : Known). next_of k.table) is;
  answers = each-none (IsAnswer (known_of table known.types)) held empty;
}

pub right-found : (table : TypeTable) (known : Known) (held : BTreeMap ℕ Answer) (key : ℕ) (found : Answer) → AreRight table known held → get nat_cmp held key ≡ Some found
    → IsAnswer (known_of table known.types) key found
right-found table known held key found right here = each-found (IsAnswer (known_of table known.types)) held key found right.answers here

pub right-same : (table : TypeTable) (known : Known) (held held' : BTreeMap ℕ Answer) → IsUnchanged held held' → AreRight table known held → AreRight table known held'
right-same table known held held' same right = record {
  same = right.same;
  answers = each-same (IsAnswer (known_of table known.types)) held held' same right.answers;
}

grown_answer : (table : TypeTable) (t t' : List Mirror) → numbers.Grows t t' → (key : ℕ) (answer : Answer) → IsAnswer (known_of table t) key answer
    → IsAnswer (known_of table t') key answer
grown_answer table t t' g key answer was = λ pair e.
    let old = was pair e in (
      (grown-known t t' pair.sub g old.0.0, grown-known t t' pair.sup g old.0.1),
      old.1 ∙ ap₂ (subtype table max_type_steps) (sym (grown-at t t' pair.sub g old.0.0)) (sym (grown-at t t' pair.sup g old.0.1)),
    )

pub right-grown : (table : TypeTable) (old new : Known) (held : BTreeMap ℕ Answer) → next_of new.table ≡ next_of old.table → numbers.Grows old.types new.types
    → AreRight table old held → AreRight table new held
right-grown table old new held same g right = record {
  same = same ∙ right.same;
  answers = each-weaker (IsAnswer (known_of table old.types)) (IsAnswer (known_of table new.types)) held (grown_answer table old.types new.types g) right.answers;
}

pub right-more : (table : TypeTable) (known : Known) (held held' : BTreeMap ℕ Answer) (key : ℕ) (answer : Answer) → AreRight table known held
    → ((q : ℕ) → get nat_cmp held' q ≡ cond (is_eq (nat_cmp key q)) (Some answer) (get nat_cmp held q)) → IsAnswer (known_of table known.types) key answer
    → AreRight table known held'
right-more table known held held' key answer right updates is = record {
  same = right.same;
  answers = each-more (IsAnswer (known_of table known.types)) held held' key answer right.answers updates is;
}
