-- The law of settled answers: what follows from itself with some number of levels of supertypes is found with all further ones. A look-up that was not cut by its
-- levels is one whose answer follows from answers that do.
use Rattle.std.proofs.Common.{◌≡◌, ℕ, zero, suc, ◌+◌, ◌-◌, ◌≤◌, ◌⊎◌, inl, inr, List, [], ◌∷◌, map, refl, sym, subst, ap, ◌∙◌, arith}
use Rattle.name_resolve.specs.Finds.{Find, Finds, Nothing, together, declared_types}
use Rattle.name_resolve.specs.Supertypes.{supertypes}
use Rattle.name_resolve.specs.Meaning.{Tops, Members, members_of, supertype_found, inherited, members_within}
use Rattle.name_resolve.specs.Remembered.{IsWay}
use Rattle.name_resolve.proofs.FirstPlaces.{first_found, second_of}

module _ (tops : Tops) where
  pub inherited-none : (members : Members) (f : Find) (name : List ℕ) → supertypes f ≡ [] → inherited tops members f name ≡ Nothing
  unfolding inherited
  inherited-none members f name e = ap (λ ss. together (map (λ s. members_of members (supertype_found tops members f s) name) ss)) e

  pub within-zero : (f : Find) (name : List ℕ) → declared_types f name ≡ members_within tops 0 f name
  unfolding members_within
  within-zero f name = refl

  within-own : (n : ℕ) (f : Find) (name : List ℕ) → (declared_types f name ≡ Nothing → ⊥) → members_within tops n f name ≡ declared_types f name
  unfolding members_within
  within-own zero f name some = refl
  within-own (suc n) f name some = first_found (declared_types f name) (inherited tops (members_within tops n) f name ∷ []) some

  -- with one level more it is what the supertypes have with one level less
  pub within-above : (n : ℕ) (f : Find) (name : List ℕ) → declared_types f name ≡ Nothing → inherited tops (members_within tops n) f name ≡ members_within tops (suc n) f name
  unfolding members_within
  within-above n f name none = sym (second_of (declared_types f name) (inherited tops (members_within tops n) f name) none)

  within-alone : (n : ℕ) (f : Find) (name : List ℕ) → declared_types f name ≡ Nothing → supertypes f ≡ [] → members_within tops n f name ≡ Nothing
  unfolding members_within
  within-alone zero f name none e = none
  within-alone (suc n) f name none e = sym (within-above n f name none) ∙ inherited-none (members_within tops n) f name e

  pub within-way : (n : ℕ) → IsWay (members_within tops n)
  within-way n = record { own = within-own n; alone = within-alone n }

  -- ---- the law, for answers that are known of some types and names

  module _ (Known : Find → List ℕ → Finds → Type 0) where
    -- it finds what is known
    abbrev pub FindsKnown : Members → Type 0
    FindsKnown members = (f : Find) (name : List ℕ) (finds : Finds) → Known f name finds → finds ≡ members f name

    -- each way to find member types that finds what is known inherits this
    abbrev pub FollowsFromKnown : Find → List ℕ → Finds → Type 0
    FollowsFromKnown f name finds = (members : Members) → IsWay members → FindsKnown members → finds ≡ inherited tops members f name

    -- it is found with this many levels and all further ones
    abbrev pub Lasts : ℕ → Find → List ℕ → Finds → Type 0
    Lasts n f name finds = (m : ℕ) → n ≤ m → finds ≡ members_within tops m f name

    -- what is known and why it stays: the type declares none of the name, and this follows from what is known, or lasts
    abbrev pub Stays : ℕ → Type 0
    Stays n = (f : Find) (name : List ℕ) (finds : Finds) → Known f name finds → (declared_types f name ≡ Nothing) × (FollowsFromKnown f name finds ⊎ Lasts n f name finds)

    with_one_more : (n : ℕ) → Stays n → (m : ℕ) → n ≤ m → FindsKnown (members_within tops m) → FindsKnown (members_within tops (suc m))
    with_one_more n stays m more known f name finds is = by_cause (stays f name finds is).0 (stays f name finds is).1
      where
        by_cause : declared_types f name ≡ Nothing → FollowsFromKnown f name finds ⊎ Lasts n f name finds → finds ≡ members_within tops (suc m) f name
        by_cause none (inl follows) = follows (members_within tops m) (within-way m) known ∙ within-above m f name none
        by_cause none (inr lasts) = lasts (suc m) (omega (arith, more))

    -- with this many levels more
    with_more : (n : ℕ) → FindsKnown (members_within tops n) → Stays n → (k m : ℕ) → m ≡ k + n → FindsKnown (members_within tops m)
    with_more n known stays zero m e = subst (λ l. FindsKnown (members_within tops l)) (omega (arith, e)) known
    with_more n known stays (suc k) m e =
        let one : suc (k + n) ≡ m = omega (arith, e) in
        subst (λ l. FindsKnown (members_within tops l)) one (with_one_more n stays (k + n) (omega arith) (with_more n known stays k (k + n) refl))

    -- what is found with some number of levels and stays is found with all further ones
    pub settled : (n : ℕ) → FindsKnown (members_within tops n) → Stays n → (m : ℕ) → n ≤ m → FindsKnown (members_within tops m)
    settled n known stays m more = with_more n known stays (m - n) m (omega (arith, more))
