-- A name as folders, one part after another.
use Rattle.std.proofs.Common.{◌≡◌, ℕ, zero, suc, false, eqb, List, [], ◌∷◌, ◌++◌, refl, sym, ap, ◌∙◌, append_assoc, arith}
use Rattle.std.proofs.lemmas.Bool.{false_from_ne_true, eqb-true}
use Rattle.apt_base.specs.Identifiers.{HasNoDot}
use Rattle.apt_filer.specs.Filing.{folders_of}

no_dot : (c : ℕ) (cs : List ℕ) → HasNoDot (c ∷ cs) → eqb c 46 ≡ false
no_dot c cs none = false_from_ne_true _ (λ same. none zero (omega arith) (eqb-true c 46 same))

-- a name without a dot is one folder
pub folders_of-without : (text : List ℕ) → HasNoDot text → folders_of text ≡ text
folders_of-without [] none = refl
folders_of-without (c ∷ cs) none = rw (no_dot c cs none, folders_of-without cs (λ i lt. none (suc i) (omega arith))) refl

-- the part before the first dot is the first folder
pub folders_of-split : (first after : List ℕ) → HasNoDot first → folders_of (first ++ (46 ∷ after)) ≡ first ++ (47 ∷ folders_of after)
folders_of-split [] after none = refl
folders_of-split (c ∷ cs) after none = rw (no_dot c cs none, folders_of-split cs after (λ i lt. none (suc i) (omega arith))) refl

-- a path to which a part of a name and a `/` are added
pub one_folder_more : (path first after rest path' : List ℕ) → rest ≡ first ++ (46 ∷ after) → HasNoDot first → path' ≡ (path ++ first) ++ (47 ∷ []) → path' ++ folders_of after ≡ path ++ folders_of rest
one_folder_more path first after rest path' parts none grown =
    ap (λ p. p ++ folders_of after) grown
    ∙ append_assoc (path ++ first) (47 ∷ []) (folders_of after)
    ∙ append_assoc path first (47 ∷ folders_of after)
    ∙ ap (λ p. path ++ p) (sym (folders_of-split first after none) ∙ ap folders_of (sym parts))
