-- Reading the items of a list one after another, as a loop does.
use Rattle.std.proofs.Common.{◌≡◌, ℕ, suc, ◌+◌, ◌-◌, ◌<◌, ◌≤◌, List, [], ◌∷◌, ◌++◌, Option, Some, None, Err, refl, sym, ap, subst, ◌∙◌, append_assoc, arith}
use Rattle.std.proofs.lemmas.List.{append-nil}
use Rattle.apt_base.specs.Fields.{◌>>=◌, u32_next}
use Rattle.apt_base.specs.Forms.{Reader, items_next, list_next}
use Rattle.apt_base.specs.Readings.{Gives}
use Rattle.apt_base.specs.declared.fault.FormFault.{FormFault}
use Rattle.apt_base.specs.declared.fault.FormFault.TheVariants.{Bad, Memory}

-- what a function that failed says of what it was to read
abbrev pub Fails : {A : Type 0} → FormFault → Option A → Type 0
Fails Bad read = read ≡ None
Fails Memory read = Unit {0}

-- what was read before, and what is still read
abbrev pub with_front : {A : Type 0} → List A → Option (List A × List ℕ) → Option (List A × List ℕ)
with_front front read = read >>= λ x. Some (front ++ x.0, x.1)

regroup : {A : Type 0} (front : List A) (item : A) (read : Option (List A × List ℕ)) → with_front front (read >>= λ x. Some (item ∷ x.0, x.1)) ≡ with_front (front ++ (item ∷ [])) read
regroup {A} front item (Some x) = ap (λ (xs : List A). Some (xs, x.1)) (sym (append_assoc front (item ∷ []) x.0))
regroup front item None = refl

pub goes_on : {A : Type 0} (next : Reader A) (front : List A) (count i : ℕ) (bytes : List ℕ) (item : A) (after : List ℕ) (total : Option (List A × List ℕ)) → i < count → next bytes ≡ Some (item, after)
    → with_front front (items_next next (count - i) bytes) ≡ total → with_front (front ++ (item ∷ [])) (items_next next (count - (i + 1)) after) ≡ total
unfolding items_next
goes_on next front count i bytes item after total lt h so_far =
    let k : count - i ≡ suc (count - (i + 1)) = omega arith in
    let one : with_front front (items_next next (count - i) bytes) ≡ with_front (front ++ (item ∷ [])) (items_next next (count - (i + 1)) after) = rw (k, h) (regroup front item (items_next next (count - (i + 1)) after)) in
    sym one ∙ so_far

pub ends : {A : Type 0} (next : Reader A) (fault : FormFault) (front : List A) (count i : ℕ) (bytes : List ℕ) (total : Option (List A × List ℕ)) → i < count → Fails fault (next bytes)
    → with_front front (items_next next (count - i) bytes) ≡ total → Fails fault total
unfolding items_next
ends next Memory front count i bytes total lt h so_far = tt
ends next Bad front count i bytes total lt h so_far =
    let k : count - i ≡ suc (count - (i + 1)) = omega arith in
    let one : with_front front (items_next next (count - i) bytes) ≡ None = rw (k, h) refl in
    sym so_far ∙ one

pub is_done : {A : Type 0} (next : Reader A) (front : List A) (count i : ℕ) (bytes : List ℕ) (total : Option (List A × List ℕ)) → count ≤ i → with_front front (items_next next (count - i) bytes) ≡ total → total ≡ Some (front, bytes)
unfolding items_next
is_done {A} next front count i bytes total le so_far =
    let k : count - i ≡ 0 = omega arith in
    let one : with_front front (items_next next (count - i) bytes) ≡ Some (front, bytes) = rw k (ap (λ (xs : List A). Some (xs, bytes)) (append-nil front)) in
    sym so_far ∙ one

-- ---- a list: its count, and its items

pub gives_err : {A : Type 0} (fault : FormFault) (read : Option (A × List ℕ)) (left : List ℕ) → Fails fault read → Gives (Err fault) read left
gives_err Bad read left h = h
gives_err Memory read left h = tt

pub fails_from : {A : Type 0} (fault : FormFault) (read : Option (A × List ℕ)) (left : List ℕ) → Gives (Err fault) read left → Fails fault read
fails_from Bad read left h = h
fails_from Memory read left h = tt

list_starts : {A : Type 0} (next : Reader A) (old : List ℕ) (count : ℕ) (left : List ℕ) → u32_next old ≡ Some (count, left) → list_next next old ≡ items_next next count left
unfolding list_next
list_starts next old count left e = rw e refl

pub list_ends : {A : Type 0} (next : Reader A) (fault : FormFault) (front : List A) (count i : ℕ) (bytes old left after : List ℕ) → u32_next old ≡ Some (count, left) → i < count → Gives (Err fault) (next bytes) after
    → with_front front (items_next next (count - i) bytes) ≡ items_next next count left → Gives (Err fault) (list_next next old) after
list_ends {A} next fault front count i bytes old left after starts lt h so_far =
    let failed = ends next fault front count i bytes (items_next next count left) lt (fails_from fault (next bytes) after h) so_far in
    gives_err fault (list_next next old) after (subst (λ (read : Option (List A × List ℕ)). Fails fault read) (sym (list_starts next old count left starts)) failed)

pub list_is_done : {A : Type 0} (next : Reader A) (front : List A) (count i : ℕ) (bytes old left : List ℕ) → u32_next old ≡ Some (count, left) → count ≤ i
    → with_front front (items_next next (count - i) bytes) ≡ items_next next count left → list_next next old ≡ Some (front, bytes)
list_is_done next front count i bytes old left starts le so_far = list_starts next old count left starts ∙ is_done next front count i bytes (items_next next count left) le so_far
