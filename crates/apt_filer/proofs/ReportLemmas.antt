-- The order of the messages of a report.
use Rattle.std.proofs.Common.{◌≡◌, ℕ, ◌≤◌, Bool, true, false, cond, not, ◌&&◌, eqb, List, [], ◌∷◌, refl, sym, ap, ◌∙◌, nat_cmp, is_eq, is_lt, Ordering, Less, Equal, Greater, IsSorted}
use Rattle.std.specs.Bool.{⊤}
use Rattle.std.specs.Cmp.{IsTotalOrder, IsStrictWeakOrder, both_tied, unsigned_ties}
use Rattle.std.specs.Cmp.Lexicographic.{slice_cmp, lists_ties}
use Rattle.std.specs.List.{AllByRecursion, filter}
use Rattle.std.specs.List.Sorted.{IsStable, ties}
use Rattle.std.specs.Ordering.{ordering_then, ordering_reverse}
use Rattle.std.proofs.lemmas.Bool.{le-ltb}
use Rattle.std.proofs.lemmas.Cmp.{nat_cmp_total, nat_list_cmp_total, on_total, then_total}
use Rattle.std.proofs.lemmas.List.Sorted.{ranks_by}
use Rattle.apt_filer.specs.declared.messages.Placed.{Placed}
use Rattle.apt_filer.specs.Reports.{origin_text, origin_cmp, report_cmp, is_before, in_report_order, has_origin_before, in_origin_order, is_of, NumbersAscend, NumbersPlayNoPart, OriginsTell, LaterComesLater}
use Rattle.apt_filer.proofs.OrderLemmas.{AreAlike, in_order_alike, in_order_append, in_order_same, sorted_is_in_order}

pub origin_total : IsTotalOrder origin_cmp
origin_total = then_total (then_total (on_total (λ (p : Placed). p.round) nat_cmp_total) (on_total (λ (p : Placed). p.processor) nat_cmp_total)) (on_total (λ (p : Placed). origin_text p.message) nat_list_cmp_total)

pub report_total : IsTotalOrder report_cmp
report_total = then_total origin_total (on_total (λ (p : Placed). p.number) nat_cmp_total)

pub by_origin : IsStrictWeakOrder has_origin_before
by_origin = ranks_by origin_total (λ (p : Placed). p)

pub by_report : IsStrictWeakOrder is_before
by_report = ranks_by report_total (λ (p : Placed). p)

-- what a stable sort leaves
pub sorted_is_reported : (old new : List Placed) → IsSorted report_cmp new → IsStable report_cmp old new → new ≡ in_report_order old
sorted_is_reported old new sorted stable = sorted_is_in_order is_before by_report old new sorted stable

-- ---- which messages tie

neither_is_less : (r : Ordering) → not (is_lt r) && not (is_lt (ordering_reverse r)) ≡ is_eq r
neither_is_less Less = refl
neither_is_less Equal = refl
neither_is_less Greater = refl

turned : (r : Ordering) → is_eq (ordering_reverse r) ≡ is_eq r
turned Less = refl
turned Equal = refl
turned Greater = refl

of_one_place : (at other : Placed) → is_of at.round at.processor (origin_text at.message) other ≡ is_eq (origin_cmp at other)
of_one_place at other =
    both_tied _ _ (ordering_then (nat_cmp at.round other.round) (nat_cmp at.processor other.processor)) (slice_cmp nat_cmp (origin_text at.message) (origin_text other.message))
    (both_tied _ _ (nat_cmp at.round other.round) (nat_cmp at.processor other.processor) (unsigned_ties at.round other.round) (unsigned_ties at.processor other.processor))
    (lists_ties nat_cmp unsigned_ties (origin_text at.message) (origin_text other.message))

ties_are : (at other : Placed) → ties has_origin_before at other ≡ is_of at.round at.processor (origin_text at.message) other
ties_are at other =
    (λ i. not (is_lt (origin_cmp at other)) && not (is_lt (origin_total.antisymm other at i)))
    ∙ neither_is_less (origin_cmp at other)
    ∙ sym (of_one_place at other)

filter_by : {A : Type 0} (p q : A → Bool) → ((x : A) → p x ≡ q x) → (xs : List A) → filter p xs ≡ filter q xs
filter_by p q h [] = refl
filter_by p q h (x ∷ xs) = λ i. cond (h x i) (x ∷ filter_by p q h xs i) (filter_by p q h xs i)

-- ---- numbers

all_by : {A : Type 0} (P Q : A → Type 0) → ((x : A) → P x → Q x) → (xs : List A) → AllByRecursion P xs → AllByRecursion Q xs
all_by P Q h [] all = tt
all_by P Q h (x ∷ xs) all = (h x all.0, all_by P Q h xs all.1)

decided_before : (r s : Ordering) → (is_eq r ≡ true → is_lt s ≡ false) → is_lt (ordering_then r s) ≡ is_lt r
decided_before Less s h = refl
decided_before Equal s h = h refl
decided_before Greater s h = refl

no_less : (b : Bool) → is_lt (cond b Equal Greater) ≡ false
no_less true = refl
no_less false = refl

not_lower : (m n : ℕ) → n ≤ m → is_lt (nat_cmp m n) ≡ false
not_lower m n h = (λ i. is_lt (cond (le-ltb m n h i) Less (cond (eqb m n) Equal Greater))) ∙ no_less (eqb m n)

one_alike : (placed other : Placed) → (is_of placed.round placed.processor (origin_text placed.message) other ≡ true → placed.number ≤ other.number) → is_before other placed ≡ has_origin_before other placed
one_alike placed other h =
    decided_before (origin_cmp other placed) (nat_cmp other.number placed.number)
    (λ same. not_lower other.number placed.number (h (of_one_place placed other ∙ (ap is_eq (origin_total.antisymm placed other) ∙ turned (origin_cmp other placed)) ∙ same)))

numbers_alike : (messages : List Placed) → NumbersAscend messages → AreAlike is_before has_origin_before messages
unfolding NumbersAscend AreAlike
numbers_alike [] up = tt
numbers_alike (placed ∷ later) up = (
  all_by
      (λ other. is_of placed.round placed.processor (origin_text placed.message) other ≡ true → placed.number ≤ other.number)
      (λ other. is_before other placed ≡ has_origin_before other placed)
      (one_alike placed)
      later
      up.0,
  numbers_alike later up.1,
)

-- ---- the laws

pub numbers_play_no_part : NumbersPlayNoPart
numbers_play_no_part messages up = in_order_alike has_origin_before is_before messages (numbers_alike messages up)

pub origins_tell : OriginsTell
origins_tell messages others same =
    in_order_same has_origin_before by_origin messages others
    (λ at.
    filter_by (ties has_origin_before at) (is_of at.round at.processor (origin_text at.message)) (ties_are at) messages
    ∙ same at.round at.processor (origin_text at.message)
    ∙ sym (filter_by (ties has_origin_before at) (is_of at.round at.processor (origin_text at.message)) (ties_are at) others))

pub later_comes_later : LaterComesLater
later_comes_later messages later before = in_order_append has_origin_before messages later before
