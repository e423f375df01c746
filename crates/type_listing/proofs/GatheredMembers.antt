-- The members of a type while those of its supertypes are gathered, whatever the number of levels.
use Rattle.std.proofs.Common.{◌≡◌, ◌⊎◌, ℕ, zero, suc, ◌+◌, ◌-◌, ◌<◌, ◌≤◌, Bool, true, false, List, [], ◌∷◌, length, map, get_or, drop, fold, max, Option, None, Some, inl, inr, refl, sym, ap, ap₂, subst, ◌∙◌, arith, if◌then◌else◌}
use Rattle.std.proofs.lemmas.Bool.Decides.{leb_tells}
use Rattle.std.proofs.lemmas.List.{drop_more}
use Rattle.std.specs.Prelude.{nat_le}
use Rattle.apt_base.specs.declared.element.ElementRef.{ElementRef}
use Rattle.element_table.specs.TypeTable.{TypeTable}
use Rattle.type_elements.specs.MemberElements.{enclosed}
use Rattle.type_listing.specs.Members.{Elements, with_members, with_supertype, super_elements, members_over, members}
use Rattle.type_listing.specs.Listings.{Listed, listing_of, AreDue}
use Rattle.type_listing.specs.Remembered.{closed_from, AreMembers, AreKnownWithin, above, IsGathered}
use Rattle.type_listing.specs.declared.known.KnownMembers.{KnownMembers}
use Rattle.type_listing.proofs.MoreLevels.{open_stays, all_open}

closed : (levels n : ℕ) (list : Elements) → levels ≤ n → closed_from levels list n ≡ Some list
closed levels n list h = by (leb_tells levels n)
  where
    by : (((nat_le levels n ≡ true) × (levels ≤ n)) ⊎ ((nat_le levels n ≡ false) × (n < levels))) → closed_from levels list n ≡ Some list
    by (inl less) = ap (λ b. if b then Some list else None) less.0
    by (inr more) = absurd (omega (arith, more.1))

open_below : (levels n : ℕ) (list : Elements) → n < levels → closed_from levels list n ≡ None
open_below levels n list h = by (leb_tells levels n)
  where
    by : (((nat_le levels n ≡ true) × (levels ≤ n)) ⊎ ((nat_le levels n ≡ false) × (n < levels))) → closed_from levels list n ≡ None
    by (inl less) = absurd (omega (arith, less.1))
    by (inr more) = ap (λ b. if b then Some list else None) more.0

either_way : {P : Type 0} (a b : ℕ) → (a ≤ b → P) → (b < a → P) → P
either_way {P} a b less more = by (leb_tells a b)
  where
    by : (((nat_le a b ≡ true) × (a ≤ b)) ⊎ ((nat_le a b ≡ false) × (b < a))) → P
    by (inl h) = less h.1
    by (inr h) = more h.1

module _ (table : TypeTable) where
  -- a list, and those of a supertype that were added to it
  joined : (at : ElementRef) (a b n : ℕ) (list others more : Elements) → with_members table at list others ≡ Some more
      → with_supertype table at (closed_from a list n) (closed_from b others n) ≡ closed_from (max a b) more n
  joined at a b n list others more e =
      either_way a n
      (λ (h : a ≤ n). either_way b n
      (λ (k : b ≤ n). ap₂ (with_supertype table at) (closed a n list h) (closed b n others k) ∙ e ∙ sym (closed (max a b) n more (omega arith)))
      (λ (k : n < b). ap₂ (with_supertype table at) (closed a n list h) (open_below b n others k) ∙ sym (open_below (max a b) n more (omega arith))))
      (λ (h : n < a). ap (λ o. with_supertype table at o (closed_from b others n)) (open_below a n list h) ∙ sym (open_below (max a b) n more (omega arith)))

  -- of one level more
  one_more : (levels n : ℕ) (list : Elements) → closed_from levels list n ≡ closed_from (levels + 1) list (suc n)
  one_more levels n list =
      either_way levels n
      (λ (h : levels ≤ n). closed levels n list h ∙ sym (closed (levels + 1) (suc n) list (omega arith)))
      (λ (h : n < levels). open_below levels n list h ∙ sym (open_below (levels + 1) (suc n) list (omega arith)))

  above_known : (super : ElementRef) (known : KnownMembers) (n : ℕ) → AreMembers table super known → above table n super ≡ closed_from (known.levels + 1) known.list n
  above_known super known zero m = sym (open_below (known.levels + 1) zero known.list (omega arith))
  above_known super known (suc n) m = m.within n ∙ one_more known.levels n known.list

  members_are : (n : ℕ) (at : ElementRef) → members table n at ≡ members_over table (above table n) at
  unfolding members
  members_are zero at = refl
  members_are (suc n) at = refl

  -- ---- the own members, one supertype more, and all

  pub gathered-own : (at : ElementRef) → IsGathered table at (super_elements table at) 0 (enclosed table at)
  gathered-own at = record {
    gathered = λ n.
        members_are n at
        ∙ ap (λ o. fold (with_supertype table at) o (map (above table n) (super_elements table at))) (sym (closed 0 n (enclosed table at) (omega arith)));
  }

  pub gathered-next : (at super : ElementRef) (supers : List ElementRef) (levels : ℕ) (list more : Elements) (known : KnownMembers)
      → IsGathered table at (super ∷ supers) levels list → AreMembers table super known → with_members table at list known.list ≡ Some more
      → IsGathered table at supers (max levels (known.levels + 1)) more
  gathered-next at super supers levels list more known g m e = record {
    gathered = λ n.
        g.gathered n
        ∙ ap (λ o. fold (with_supertype table at) o (map (above table n) supers))
        (ap (with_supertype table at (closed_from levels list n)) (above_known super known n m)
        ∙ joined at levels (known.levels + 1) n list known.list more e);
  }

  pub gathered-all : (at : ElementRef) (levels : ℕ) (list : Elements) → IsGathered table at [] levels list → AreMembers table at (record { levels = levels; list = list })
  gathered-all at levels list g = record { within = g.gathered }

  -- ---- where it is open

  pub open-above : (at super : ElementRef) (supers : List ElementRef) (levels n : ℕ) (list : Elements)
      → IsGathered table at (super ∷ supers) levels list → above table n super ≡ None → members table n at ≡ None
  open-above at super supers levels n list g none =
      g.gathered n
      ∙ ap (λ o. fold (with_supertype table at) (with_supertype table at (closed_from levels list n) o) (map (above table n) supers)) none
      ∙ all_open table at (closed_from levels list n) (map (above table n) supers)

  pub open-beside : (at super : ElementRef) (supers : List ElementRef) (levels n : ℕ) (list : Elements) (known : KnownMembers)
      → IsGathered table at (super ∷ supers) levels list → AreMembers table super known → levels ≤ n → known.levels + 1 ≤ n
      → with_members table at list known.list ≡ None → members table n at ≡ None
  open-beside at super supers levels n list known g m here there none =
      g.gathered n
      ∙ ap (λ o. fold (with_supertype table at) o (map (above table n) supers))
      (ap₂ (with_supertype table at) (closed levels n list here) (above_known super known n m ∙ closed (known.levels + 1) n known.list there) ∙ none)
      ∙ open_stays table at (map (above table n) supers)

-- ---- the supertypes that are left, from a number on

module _ (table : TypeTable) (at : ElementRef) (supers : List ElementRef) (i : ℕ) (super : ElementRef) (levels : ℕ) (list : Elements)
    (h : i < length supers) (is : get_or supers i super ≡ super) (g : IsGathered table at (drop i supers) levels list) where
  next_one : IsGathered table at (super ∷ drop (i + 1) supers) levels list
  next_one =
      subst (λ (ss : List ElementRef). IsGathered table at ss levels list)
      (drop_more supers i super h ∙ ap (λ (s : ElementRef). s ∷ drop (i + 1) supers) is) g

  -- no level is left
  pub none-left : (n : ℕ) → n ≡ 0 → members table n at ≡ None
  none-left n e = open-above table at super (drop (i + 1) supers) levels n list next_one (ap (λ (k : ℕ). above table k super) e)

  -- those of the supertype are open
  pub none-above : (n : ℕ) → 0 < n → members table (n - 1) super ≡ None → members table n at ≡ None
  none-above n some none =
      let count : n ≡ suc (n - 1) = omega arith in
      open-above table at super (drop (i + 1) supers) levels n list next_one (ap (λ (k : ℕ). above table k super) count ∙ none)

  -- one of them is open beside the list
  pub none-beside : (n : ℕ) (known : KnownMembers) → 0 < n → levels ≤ n → AreKnownWithin table super (n - 1) (Some known)
      → with_members table at list known.list ≡ None → members table n at ≡ None
  none-beside n known some here k none =
      let less = k.1 in
      open-beside table at super (drop (i + 1) supers) levels n list known next_one k.0 here (omega arith) none

  pub one_gathered : (known : KnownMembers) (n : ℕ) (list' : Elements) → AreKnownWithin table super n (Some known) → with_members table at list known.list ≡ Some list'
      → IsGathered table at (drop (i + 1) supers) (max levels (known.levels + 1)) list'
  one_gathered known n list' k e = gathered-next table at super (drop (i + 1) supers) levels list list' known next_one k.0 e

past : (xs : List ElementRef) (i : ℕ) → i ≡ length xs → drop i xs ≡ []
past [] zero e = refl
past [] (suc i) e = absurd (omega arith)
past (x ∷ xs) zero e = absurd (omega arith)
past (x ∷ xs) (suc i) e = past xs i (omega arith)

-- none is left
pub all_gathered : (table : TypeTable) (at : ElementRef) (supers : List ElementRef) (i levels n : ℕ) (list : Elements) → i ≡ length supers → levels ≤ n
    → IsGathered table at (drop i supers) levels list → AreKnownWithin table at n (Some (record { levels = levels; list = list }))
all_gathered table at supers i levels n list e h g =
    (gathered-all table at levels list (subst (λ (ss : List ElementRef). IsGathered table at ss levels list) (past supers i e) g), h)

-- ---- what is remembered of a type

pub recalled-open : (table : TypeTable) (at : ElementRef) (known : KnownMembers) (n : ℕ) → AreMembers table at known → n < known.levels → members table n at ≡ None
recalled-open table at known n m h = m.within n ∙ open_below known.levels n known.list h

pub known-closed : (table : TypeTable) (at : ElementRef) (known : KnownMembers) (n : ℕ) → AreMembers table at known → known.levels ≤ n → members table n at ≡ Some known.list
known-closed table at known n m h = m.within n ∙ closed known.levels n known.list h

-- ---- what calls give

-- over the table that is remembered
pub known_here : (table now : TypeTable) (at : ElementRef) (n : ℕ) (given known : Option KnownMembers) → now ≡ table → given ≡ known
    → AreKnownWithin now at n given → AreKnownWithin table at n known
known_here table now at n given known same is k =
    subst (λ (o : Option KnownMembers). AreKnownWithin table at n o) is (subst (λ (t : TypeTable). AreKnownWithin t at n given) same k)

pub begun : (table here : TypeTable) (at : ElementRef) (supers : List ElementRef) (list : Listed) → here ≡ table → list ≡ listing_of here (enclosed here at)
    → supers ≡ super_elements table at → (list.table ≡ table) × IsGathered table at supers 0 list.list
begun table here at supers list same is all =
    let own : list.list ≡ enclosed table at = ap (λ (l : Listed). l.list) is ∙ ap (λ (t : TypeTable). enclosed t at) same in (
      ap (λ (l : Listed). l.table) is ∙ same,
      subst (λ (xs : List ElementRef). IsGathered table at supers 0 xs) (sym own)
          (subst (λ (ss : List ElementRef). IsGathered table at ss 0 (enclosed table at)) (sym all) (gathered-own table at)),
    )

pub due_none : (table here : TypeTable) (at : ElementRef) (closed : Bool) (list others beside list' : Elements) → here ≡ table → others ≡ beside → closed ≡ false
    → AreDue closed (listing_of here list) at others list' → with_members table at list beside ≡ None
due_none table here at true list others beside list' same is e due = absurd cc
due_none table here at false list others beside list' same is e due =
    (λ i. with_members (sym same i) at list (sym is i)) ∙ due

pub due_all : (table here : TypeTable) (at : ElementRef) (closed : Bool) (list others beside list' : Elements) → here ≡ table → others ≡ beside → closed ≡ true
    → AreDue closed (listing_of here list) at others list' → with_members table at list beside ≡ Some list'
due_all table here at true list others beside list' same is e due =
    (λ i. with_members (sym same i) at list (sym is i)) ∙ due
due_all table here at false list others beside list' same is e due = absurd cc

-- a copy is remembered
pub copy_known : (table now : TypeTable) (at : ElementRef) (n : ℕ) (known copy : KnownMembers) → now ≡ table → copy ≡ known
    → AreKnownWithin table at n (Some known) → AreMembers now at copy
copy_known table now at n known copy same is k =
    subst (λ (t : TypeTable). AreMembers t at copy) (sym same) (subst (λ (x : KnownMembers). AreMembers table at x) (sym is) k.0)

pub answered_none : (table here : TypeTable) (at : ElementRef) (n : ℕ) (known : Option KnownMembers) → here ≡ table → known ≡ None
    → AreKnownWithin here at n known → None ≡ members table n at
answered_none table here at n known same is k = sym (known_here table here at n known None same is k)

pub answered_some : (table here : TypeTable) (at : ElementRef) (n : ℕ) (known : Option KnownMembers) (found : KnownMembers) → here ≡ table → known ≡ Some found
    → AreKnownWithin here at n known → Some found.list ≡ members table n at
answered_some table here at n known found same is k =
    let whole = known_here table here at n known (Some found) same is k in
    sym (known-closed table at found n whole.0 whole.1)
