-- Where store files and the record stand.
use Rattle.std.proofs.Common.{◌≡◌, ◌≢◌, ℕ, ◌^◌, ◌<◌, true, List, get_or, drop, codes, refl, ap, subst, T, eqb}
use Rattle.std.proofs.lemmas.Fmt.{decimal_injective}
use Rattle.apt_outside.specs.Files.{is_below}
use Rattle.output_store.specs.Output.{store_path, record_path, store_folder}

-- different numbers have different store paths
pub store_path_injective : (m n : ℕ) → m < 2 ^ 64 → n < 2 ^ 64 → store_path m ≡ store_path n → m ≡ n
unfolding store_path
store_path_injective m n a b e = decimal_injective m n a b (ap (drop 10) e)

-- the record stands at no store path
pub store_path-ne-record_path : (n : ℕ) → store_path n ≢ record_path
unfolding store_path
store_path-ne-record_path n e = subst (λ (p : List ℕ). T (eqb (get_or p 4 0) 115)) e tt

pub store_path-below-store : (n : ℕ) → is_below store_folder (store_path n) ≡ true
unfolding store_path
store_path-below-store n = refl

pub store_path-below-out : (n : ℕ) → is_below (codes "out") (store_path n) ≡ true
unfolding store_path
store_path-below-out n = refl
