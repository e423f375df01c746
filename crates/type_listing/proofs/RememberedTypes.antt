-- The key of an element is that of no other one, so what is remembered under it has its members.
use Rattle.std.proofs.Common.{◌≡◌, ℕ, Bool, true, false, cond, List, [], None, Some, refl, sym, ap, subst, ◌∙◌}
use Rattle.std.proofs.lemmas.Map.Text.{is_eq-slice_cmp}
use Rattle.std.proofs.lemmas.Slice.Eq.{bytes_eq-Decides}
use Rattle.std.specs.Cmp.Lexicographic.{slice_cmp}
use Rattle.std.specs.Ordering.{nat_cmp, is_eq}
use Rattle.apt_base.specs.declared.element.ElementRef.{ElementRef}
use Rattle.element_table.specs.TypeTable.{TypeTable}
use Rattle.type_listing.specs.Remembered.{AreMembers, Key, known_at, AreRight}
use Rattle.type_listing.specs.declared.known.KnownMembers.{KnownMembers}
use Rattle.type_numbers.proofs.KeyLaws.{element_is}
use Rattle.type_numbers.specs.Keys.{element_key}

some_is : (one other : KnownMembers) → Some one ≡ Some other → one ≡ other
some_is one other h = cc

none_is_some : {P : Type 0} (known : KnownMembers) → None ≡ Some known → P
none_is_some known h = absurd cc

alike_keys : (xs ys : List ℕ) → is_eq (slice_cmp nat_cmp xs ys) ≡ true → xs ≡ ys
alike_keys xs ys h = (bytes_eq-Decides xs ys).0 (sym (is_eq-slice_cmp xs ys) ∙ h)

-- ---- what is remembered

pub right-none : (table : TypeTable) (entries : List (Key × KnownMembers)) → entries ≡ [] → AreRight table entries
unfolding AreRight
right-none table entries e = λ at k known is found.
    none_is_some known (sym (ap (λ (es : List (Key × KnownMembers)). known_at es k.items) e) ∙ found)

pub right-found : (table : TypeTable) (entries : List (Key × KnownMembers)) (at : ElementRef) (k : Key) (known : KnownMembers) → AreRight table entries
    → k.items ≡ element_key at → known_at entries k.items ≡ Some known → AreMembers table at known
unfolding AreRight
right-found table entries at k known right is found = right at k known is found

pub right-more : (table : TypeTable) (old new : List (Key × KnownMembers)) (at : ElementRef) (k : Key) (known : KnownMembers) → AreRight table old
    → k.items ≡ element_key at → AreMembers table at known
    → ((q : Key) → known_at new q.items ≡ cond (is_eq (slice_cmp nat_cmp k.items q.items)) (Some known) (known_at old q.items))
    → AreRight table new
unfolding AreRight
right-more table old new at k known right is members updates = λ other q found same at_q.
    by other q found same (is_eq (slice_cmp nat_cmp k.items q.items)) refl (sym (updates q) ∙ at_q)
  where
    by : (other : ElementRef) (q : Key) (found : KnownMembers) → q.items ≡ element_key other → (b : Bool) → is_eq (slice_cmp nat_cmp k.items q.items) ≡ b
        → cond (is_eq (slice_cmp nat_cmp k.items q.items)) (Some known) (known_at old q.items) ≡ Some found → AreMembers table other found
    by other q found same true e at_q =
        let here : at ≡ other = element_is at other (sym is ∙ alike_keys k.items q.items e ∙ same) in
        let value : known ≡ found = some_is known found (ap (λ (b : Bool). cond b (Some known) (known_at old q.items)) (sym e) ∙ at_q) in
        subst (λ (x : ElementRef). AreMembers table x found) here (subst (λ (x : KnownMembers). AreMembers table at x) value members)
    by other q found same false e at_q =
        right other q found same (ap (λ (b : Bool). cond b (Some known) (known_at old q.items)) (sym e) ∙ at_q)
