-- What a file of the configuration is read as, from its bytes up to one past the limit.
use Rattle.std.proofs.Common.{◌≡◌, ℕ, ◌+◌, ◌≤◌, ◌<◌, Bool, true, false, nat_le, cond, List, length, take, min, None, Some, Ok, Err, option_map, refl, sym, ap, ◌∙◌, arith}
use Rattle.std.specs.Prelude.{IsErrOf}
use Rattle.std.proofs.lemmas.Bool.{leb-true, leb-false, le-leb, lt-leb}
use Rattle.std.proofs.lemmas.List.{take_all, length-take}
use Rattle.tree_store.specs.declared.config.ConfigFile.{ConfigFile}
use Rattle.tree_store.specs.declared.fault.ConfigReadFault.TheVariants.{Failed, TooLarge, Memory}
use Rattle.tree_store.specs.Config.{Reading, Bytes, most_bytes, within, Answers}

-- bytes up to the limit
pub within-short : (file : ConfigFile) (bytes : List ℕ) → length bytes ≤ most_bytes → within file (Some bytes) ≡ Ok (Some bytes)
within-short file bytes short = rw (le-leb (length bytes) most_bytes short) refl

-- bytes past it
pub within-long : (file : ConfigFile) (bytes : List ℕ) → most_bytes < length bytes → within file (Some bytes) ≡ Err (TooLarge file)
within-long file bytes long = rw (lt-leb (length bytes) most_bytes long) refl

cut_bytes : (file : ConfigFile) (bytes : List ℕ) (short : Bool) → nat_le (length bytes) most_bytes ≡ short → within file (Some (take (most_bytes + 1) bytes)) ≡ within file (Some bytes)
cut_bytes file bytes true short = ap (λ (front : List ℕ). within file (Some front)) (take_all (most_bytes + 1) bytes (omega (arith, leb-true (length bytes) most_bytes short)))
cut_bytes file bytes false long =
    let past : most_bytes < length bytes = omega (arith, leb-false (length bytes) most_bytes long) in
    let cut : length (take (most_bytes + 1) bytes) ≡ min (most_bytes + 1) (length bytes) = length-take (most_bytes + 1) bytes in
    within-long file (take (most_bytes + 1) bytes) (omega (arith, cut, past)) ∙ sym (within-long file bytes past)

-- the bytes up to one past the limit tell what the file is read as
pub within-cut : (file : ConfigFile) (bytes : Bytes) → within file (option_map (take (most_bytes + 1)) bytes) ≡ within file bytes
within-cut file None = refl
within-cut file (Some bytes) = cut_bytes file bytes (nat_le (length bytes) most_bytes) refl

-- what a call gives answers itself
pub answers_same : {A : Type 0} (reading : Reading A) → Answers reading reading
answers_same (Ok value) = refl
answers_same (Err Failed) = tt
answers_same (Err (TooLarge file)) = refl
answers_same (Err Memory) = tt

-- the length of a file is no failure of the tree
measured : (file : ConfigFile) (bytes : List ℕ) (short : Bool) → ¬ IsErrOf (cond {A = Reading Bytes} short (Ok (Some bytes)) (Err (TooLarge file))) Failed
measured file bytes true failed = cc
measured file bytes false failed = cc

pub within-unfailed : (file : ConfigFile) (bytes : Bytes) → ¬ IsErrOf (within file bytes) Failed
within-unfailed file None failed = cc
within-unfailed file (Some bytes) failed = measured file bytes (nat_le (length bytes) most_bytes) failed
