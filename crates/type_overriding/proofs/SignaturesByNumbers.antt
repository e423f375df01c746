-- The parameters of two methods side by side, by the numbers of their types, while types are added.
use Rattle.std.proofs.Common.{◌≡◌, ℕ, ◌+◌, ◌<◌, ◌≤◌, length, get_or, drop, Bool, true, false, List, map, Option, None, Some, option_map, option_to_list, refl, sym, ap, ap₂, subst, ◌∙◌, arith}
use Rattle.std.proofs.lemmas.List.{get_or-map, length-map}
use Rattle.std.specs.List.{zip, AllByRecursion}
use Rattle.apt_base.specs.declared.element.ElementRef.{ElementRef}
use Rattle.apt_base.specs.Limits.{max_type_steps}
use Rattle.element_table.specs.TypeTable.{TypeTable}
use Rattle.type_mirror.specs.declared.mirror.Mirror.{Mirror}
use Rattle.type_mirror.specs.Substitution.{Replacements, substituted}
use Rattle.type_layers.specs.Same.{same}
use Rattle.type_levels.specs.Answers.{of_test, both}
use Rattle.type_levels.specs.declared.answer.Answer.{Answer}
use Rattle.type_levels.specs.declared.answer.Answer.TheVariants.{Yes, Open, No}
use Rattle.type_numbers.specs.Numbers.{at, IsKnown, AreKnown, Stands, OptionStands, Grows}
use Rattle.type_numbers.proofs.LayerMaps.{all-at}
use Rattle.type_numbers.proofs.NumberLaws.{grown-at, grown-known, grown-types, grows-itself, grows-on}
use Rattle.type_relations.specs.Erasure.{erasure}
use Rattle.type_numbers.specs.Replaced.{Numbered, AreKnownIn, replacements_in, replaced_at}
use Rattle.type_numbers.proofs.ReplacedSteps.{grown-replaced}
use Rattle.type_steps.specs.Supertypes.{erasure_at}
use Rattle.type_subtypes.specs.Subsignature.{all_same, as_types, renamed, is_erased, same_erased}
use Rattle.type_subtypes.proofs.SignatureLaws.{all_same-apart, all_same-broken, all_same-next, all_same-all, same_renamed-paired, erased-apart, erased-next, erased-all}
use Rattle.type_overriding.specs.ByNumbers.{same_at, renamed_at, is_erased_at, erased_at}
use Rattle.type_overriding.proofs.FirstEntries.{first-counts}

-- the type at a place of several
type_at_place : (t : List Mirror) (numbers : List ℕ) (i : ℕ) → i < length numbers → at t (get_or numbers i 0) ≡ get_or (map (at t) numbers) i (at t (get_or numbers i 0))
type_at_place t numbers i h = sym (get_or-map (at t) numbers i 0 (at t (get_or numbers i 0)) h)

-- its number is known
pub place-known : (old t : List Mirror) (numbers : List ℕ) (i : ℕ) → AreKnown old numbers → i < length numbers → Grows old t → IsKnown t (get_or numbers i 0)
place-known old t numbers i known h g = grown-known old t (get_or numbers i 0) g (all-at (IsKnown old) numbers i 0 known h)

pub within-both : (ones others : List ℕ) (n : ℕ) → n < length ones → length ones ≡ length others → n < length others
within-both ones others n within as_many = omega (arith, within, as_many)

many : (t : List Mirror) (numbers : List ℕ) → length (map (at t) numbers) ≡ length numbers
many t numbers = length-map numbers (at t)

as_many_types : (t : List Mirror) (ones others : List ℕ) → length ones ≡ length others → length (map (at t) ones) ≡ length (map (at t) others)
as_many_types t ones others e = many t ones ∙ e ∙ sym (many t others)

-- ---- the same parameters

-- what is left decides
pub record AreSameSoFar (old types : List Mirror) (by : Numbered) (ones others : List ℕ) (n : ℕ) : Type 0 where
  pub as_many : length ones ≡ length others
  pub left_decide : all_same (drop n (map (at old) ones)) (map (substituted (replacements_in old by)) (drop n (map (at old) others))) ≡ same_at old by ones others
  pub grows : Grows old types

pub same-apart : (t : List Mirror) (by : Numbered) (ones others : List ℕ) → (length ones ≡ length others → ⊥) → false ≡ same_at t by ones others
same-apart t by ones others apart =
    all_same-apart (substituted (replacements_in t by)) (map (at t) ones) (map (at t) others) (λ (e : length (map (at t) ones) ≡ length (map (at t) others)). apart (sym (many t ones) ∙ e ∙ many t others))

pub same-begun : (t : List Mirror) (by : Numbered) (ones others : List ℕ) → length ones ≡ length others → AreSameSoFar t t by ones others 0
same-begun t by ones others as_many = record { as_many = as_many; left_decide = refl; grows = grows-itself t }

module _ (old t t' : List Mirror) (by : Numbered) (ones others : List ℕ) (n other : ℕ) (s : Bool) (known_ones : AreKnown old ones) (known_others : AreKnown old others)
    (known_by : AreKnownIn old by) (within : n < length ones) (so_far : AreSameSoFar old t by ones others n) (g : Grows t t')
    (stands : Stands t' other (replaced_at t by (get_or others n 0))) (is : s ≡ same (at t' (get_or ones n 0)) (at t' other)) where
  abbrev one : ℕ
  one = get_or ones n 0

  abbrev beside : ℕ
  beside = get_or others n 0

  within_others : n < length others
  within_others = let e : length ones ≡ length others = so_far.as_many in omega (arith, within, e)

  within_types : n < length (map (at old) ones)
  within_types = let e : length (map (at old) ones) ≡ length ones = many old ones in omega (arith, within, e)

  first_is : at t' one ≡ at old one
  first_is = grown-at old t' one (grows-on old t t' so_far.grows g) (all-at (IsKnown old) ones n 0 known_ones within)

  second_is : at t' other ≡ substituted (replacements_in old by) (at old beside)
  second_is = stands.type ∙ grown-replaced old t by beside so_far.grows known_by (all-at (IsKnown old) others n 0 known_others within_others)

  told : (b : Bool) → s ≡ b → same (at old one) (at t' other) ≡ b
  told b e = sym (is ∙ ap (λ (m : Mirror). same m (at t' other)) first_is) ∙ e

  pub same-broken : s ≡ false → false ≡ same_at old by ones others
  same-broken e =
      all_same-broken (substituted (replacements_in old by)) (map (at old) ones) (map (at old) others) n (at old one) (at old beside) (at t' other) within_types
      (as_many_types old ones others so_far.as_many) (type_at_place old ones n within) (type_at_place old others n within_others) second_is (told false e) so_far.left_decide

  pub same-next : s ≡ true → AreSameSoFar old t' by ones others (n + 1)
  same-next e = record {
    as_many = so_far.as_many;
    left_decide =
        all_same-next (substituted (replacements_in old by)) (map (at old) ones) (map (at old) others) n (at old one) (at old beside) (at t' other) within_types
        (as_many_types old ones others so_far.as_many) (type_at_place old ones n within) (type_at_place old others n within_others) second_is (told true e) so_far.left_decide;
    grows = grows-on old t t' so_far.grows g;
  }

pub same-all : (old t : List Mirror) (by : Numbered) (ones others : List ℕ) (n : ℕ) → length ones ≤ n → AreSameSoFar old t by ones others n → true ≡ same_at old by ones others
same-all old t by ones others n p so_far =
    let e : length (map (at old) ones) ≡ length ones = many old ones in
    all_same-all (substituted (replacements_in old by)) (map (at old) ones) (map (at old) others) n (omega (arith, e, p)) (as_many_types old ones others so_far.as_many) so_far.left_decide

-- ---- with the variables renamed

pub renamed-paired : (t t' : List Mirror) (as' bs : List ElementRef) (ones others : List ℕ) (by : Numbered) (s : Bool) → Grows t t' → AreKnown t ones → AreKnown t others
    → length as' ≡ length bs → replacements_in t' by ≡ zip bs (as_types as') → s ≡ same_at t' by ones others → s ≡ renamed_at t as' ones bs others
unfolding renamed
renamed-paired t t' as' bs ones others by s g known known' as_many put is =
    let entries : Replacements = zip bs (as_types as') in
    same_renamed-paired as' (map (at t) ones) bs (map (at t) others) (renamed as' bs) s as_many refl
    (is
    ∙ ap₂ (λ (ms ns : List Mirror). all_same ms (map (substituted (replacements_in t' by)) ns)) (grown-types t t' ones g known) (grown-types t t' others g known')
    ∙ ap (λ (rs : Replacements). all_same (map (at t) ones) (map (substituted rs) (map (at t) others))) put
    ∙ ap (λ (f : Mirror → Mirror). all_same (map (at t) ones) (map f (map (at t) others))) (sym (first-counts entries)))

-- ---- erased parameters

module _ (table : TypeTable) where
  pub erased-none : (t t' : List Mirror) (one other : ℕ) (o : Option ℕ) → OptionStands t' o (erasure_at table t other) → o ≡ None → Open ≡ is_erased_at table t one other
  unfolding is_erased
  erased-none t t' one other o stands e =
      ap (λ (m : Option Mirror). is_erased (at t one) m) (sym (ap (λ (x : Option ℕ). option_map (at t') x) e) ∙ stands.type)

  pub erased-some : (t t' : List Mirror) (one other erased : ℕ) (o : Option ℕ) (s : Bool) (r : Answer) → IsKnown t one → Grows t t'
      → OptionStands t' o (erasure_at table t other) → o ≡ Some erased → s ≡ same (at t' one) (at t' erased) → r ≡ of_test s → r ≡ is_erased_at table t one other
  unfolding is_erased
  erased-some t t' one other erased o s r known g stands e is test =
      test ∙ ap (λ (b : Bool). of_test b) (is ∙ ap (λ (m : Mirror). same m (at t' erased)) (grown-at t t' one g known))
      ∙ ap (λ (m : Option Mirror). is_erased (at t one) m) (sym (ap (λ (x : Option ℕ). option_map (at t') x) e) ∙ stands.type)

  pub some-known : (t t' : List Mirror) (other erased : ℕ) (o : Option ℕ) → OptionStands t' o (erasure_at table t other) → o ≡ Some erased → IsKnown t' erased
  some-known t t' other erased o stands e =
      let all : AllByRecursion (IsKnown t') (option_to_list (Some erased)) = subst (λ (x : Option ℕ). AllByRecursion (IsKnown t') (option_to_list x)) e stands.known in
      all.0

  -- the answer so far with what is left is the answer
  pub record AreErasedSoFar (old types : List Mirror) (ones others : List ℕ) (n : ℕ) (all : Answer) : Type 0 where
    pub as_many : length ones ≡ length others
    pub left_decide : both all (same_erased table max_type_steps (drop n (map (at old) ones)) (drop n (map (at old) others))) ≡ erased_at table old ones others
    pub grows : Grows old types

  pub erased-differ : (t : List Mirror) (ones others : List ℕ) → (length ones ≡ length others → ⊥) → No ≡ erased_at table t ones others
  erased-differ t ones others apart =
      erased-apart table max_type_steps (map (at t) ones) (map (at t) others) (λ (e : length (map (at t) ones) ≡ length (map (at t) others)). apart (sym (many t ones) ∙ e ∙ many t others))

  pub erased-begun : (t : List Mirror) (ones others : List ℕ) → length ones ≡ length others → AreErasedSoFar t t ones others 0 Yes
  erased-begun t ones others as_many = record { as_many = as_many; left_decide = refl; grows = grows-itself t }

  pub erased-on : (old t t' : List Mirror) (ones others : List ℕ) (n : ℕ) (so_far one all : Answer) → AreKnown old ones → AreKnown old others → n < length ones
      → one ≡ is_erased_at table t (get_or ones n 0) (get_or others n 0) → all ≡ both so_far one → Grows t t' → AreErasedSoFar old t ones others n so_far
      → AreErasedSoFar old t' ones others (n + 1) all
  erased-on old t t' ones others n so_far one all known known' within is joined g before =
      let first = get_or ones n 0 in
      let second = get_or others n 0 in
      let e : length ones ≡ length others = before.as_many in
      let within' : n < length others = omega (arith, within, e) in
      let m : length (map (at old) ones) ≡ length ones = many old ones in
      record {
        as_many = before.as_many;
        left_decide =
            erased-next table max_type_steps (map (at old) ones) (map (at old) others) n (at old first) (at old second) one so_far all (omega (arith, within, m))
            (as_many_types old ones others before.as_many) (type_at_place old ones n within) (type_at_place old others n within')
            (is
            ∙ ap₂ (λ (x y : Mirror). is_erased x (erasure table max_type_steps y)) (grown-at old t first before.grows (all-at (IsKnown old) ones n 0 known within))
            (grown-at old t second before.grows (all-at (IsKnown old) others n 0 known' within')))
            joined before.left_decide;
        grows = grows-on old t t' before.grows g;
      }

  pub erased-done : (old t : List Mirror) (ones others : List ℕ) (n : ℕ) (all : Answer) → length ones ≤ n → AreErasedSoFar old t ones others n all → all ≡ erased_at table old ones others
  erased-done old t ones others n all p so_far =
      let m : length (map (at old) ones) ≡ length ones = many old ones in
      erased-all table max_type_steps (map (at old) ones) (map (at old) others) n all (omega (arith, m, p)) (as_many_types old ones others so_far.as_many) so_far.left_decide

pub ruleset numbered = (same-apart, same-begun, same-all, erased-differ, erased-begun, erased-done)
