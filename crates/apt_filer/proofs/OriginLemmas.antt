-- The unit of originating elements.
use Rattle.std.proofs.Common.{◌≡◌, ℕ, Bool, true, false, ◌&&◌, List, [], ◌∷◌, Option, Some, None, option_copied, slice_get, if◌then◌else◌, refl, sym, ap, ◌∙◌, subst, true≢false, is_some, unwrap_or}
use Rattle.std.specs.List.{list_all}
use Rattle.std.specs.Str.{bytes_eq}
use Rattle.std.proofs.lemmas.Slice.Eq.{bytes_eq-Decides}
use denote.Ref.{Bor}
use Rattle.apt_base.specs.declared.element.ElementRef.{ElementRef}
use Rattle.apt_filer.specs.Origins.{Origin, One, Several, Missing, origin_of}

-- these are all in this unit
abbrev all_in : List ℕ → List ElementRef → Bool
all_in unit origins = list_all (λ (at : ElementRef). bytes_eq unit at.unit) origins

nothing_there : {A P : Type 0} {x : A} → None ≡ Some x → P
nothing_there e = absurd (true≢false (sym (ap is_some e)))

first_same : {A : Type 0} (x y : A) → Some x ≡ Some y → x ≡ y
first_same x y e = ap (λ o. unwrap_or o x) e

both_hold : (a b : Bool) → a ≡ true → (a && b) ≡ b
both_hold a b h = ap (λ c. c && b) h

-- the first is in its own unit
own_unit : (at : ElementRef) (others : List ElementRef) → all_in at.unit (at ∷ others) ≡ all_in at.unit others
own_unit at others = both_hold (bytes_eq at.unit at.unit) (all_in at.unit others) ((bytes_eq-Decides at.unit at.unit).1 refl)

by_first : (at : ElementRef) (others : List ElementRef) (b : Bool) → all_in at.unit (at ∷ others) ≡ b → origin_of (at ∷ others) ≡ (if b then One at.unit else Several)
unfolding origin_of
by_first at others b h = ap (λ c. if c then One at.unit else Several) (sym (own_unit at others) ∙ h)

by_unit : (origins : List ElementRef) (first : ElementRef) (b : Bool) → Some first ≡ slice_get origins 0 → all_in first.unit origins ≡ b → (if b then One first.unit else Several) ≡ origin_of origins
by_unit [] first b is h = nothing_there (sym is)
by_unit (at ∷ others) first b is h =
    subst
    (λ (f : ElementRef). all_in f.unit (at ∷ others) ≡ b → (if b then One f.unit else Several) ≡ origin_of (at ∷ others))
    (sym (first_same first at is))
    (λ all. sym (by_first at others b all))
    h

-- there is none
pub missing : (origins : List ElementRef) (found : Option (Bor ElementRef)) → found ≡ None → option_copied found ≡ slice_get origins 0 → Missing ≡ origin_of origins
unfolding origin_of
missing [] found none is = refl
missing (at ∷ others) found none is = nothing_there (sym (ap option_copied none) ∙ is)

-- all are in the unit of the first
pub one : (origins : List ElementRef) (found : Option (Bor ElementRef)) (first : Bor ElementRef) → found ≡ Some first → option_copied found ≡ slice_get origins 0
    → list_all (λ (at : ElementRef). bytes_eq first.now.unit at.unit) origins ≡ true → One first.now.unit ≡ origin_of origins
one origins found first some is all = by_unit origins first.now true (sym (ap option_copied some) ∙ is) all

-- one is in another unit than the first
pub several : (origins : List ElementRef) (found : Option (Bor ElementRef)) (first : Bor ElementRef) → found ≡ Some first → option_copied found ≡ slice_get origins 0
    → list_all (λ (at : ElementRef). bytes_eq first.now.unit at.unit) origins ≡ false → Several ≡ origin_of origins
several origins found first some is other = by_unit origins first.now false (sym (ap option_copied some) ∙ is) other
