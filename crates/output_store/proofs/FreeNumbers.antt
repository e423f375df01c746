-- Numbers that no store file of a record has.
use Rattle.std.proofs.Common.{◌≡◌, ◌≢◌, ℕ, suc, ◌<◌, ◌^◌, false, List, [], ◌∷◌, map, Contains, refl, sym, subst, arith}
use Rattle.std.specs.List.{AllByRecursion}
use Rattle.std.specs.Str.{bytes_eq}
use Rattle.std.proofs.lemmas.Bool.{or_from}
use Rattle.apt_filer.proofs.OrderLemmas.{all_in_order}
use Rattle.record_forms.specs.declared.record.Record.{Record}
use Rattle.origin_record.specs.Conditions.{stores_in}
use Rattle.output_store.specs.declared.named.NamedFile.{NamedFile}
use Rattle.output_store.specs.Output.{store_path, named_in, named_less, named_files, AreNumbersOf}
use Rattle.output_store.specs.Reading.{has_path}
use Rattle.output_store.specs.Publishing.{LeaveFree}
use Rattle.output_store.proofs.StorePaths.{store_path_injective}
use Rattle.output_store.proofs.FileChanges.{other_path}
use Rattle.output_store.proofs.PublishedOrder.{parts_named}

abbrev store_of : NamedFile → ℕ
store_of file = file.store

-- the store path of the number is that of none of the files
abbrev IsFree : ℕ → List NamedFile → Type 0
IsFree n files = AllByRecursion (λ file. bytes_eq (store_path n) (store_path file.store) ≡ false) files

later : (x : ℕ) (xs : List ℕ) (n : ℕ) → Contains xs n → Contains (x ∷ xs) n
later x xs n has = let inside = has.1 in (suc has.0, omega (arith, inside), has.2)

is_free : (n : ℕ) → n < 2 ^ 32 → (files : List NamedFile) → ((m : ℕ) → Contains (map store_of files) m → m < 2 ^ 32) → ¬ Contains (map store_of files) n → IsFree n files
is_free n small [] fit free = tt
is_free n small (file ∷ files) fit free =
    let here : Contains (map store_of (file ∷ files)) file.store = (0, omega arith, refl) in
    let fits : file.store < 2 ^ 32 = fit file.store here in
    let other : store_path n ≢ store_path file.store =
    λ same. free (subst (Contains (map store_of (file ∷ files))) (sym (store_path_injective n file.store (omega (arith, small)) (omega (arith, fits)) same)) here) in
    (other_path (store_path n) (store_path file.store) other, is_free n small files (λ m has. fit m (later file.store (map store_of files) m has)) (λ has. free (later file.store (map store_of files) n has)))

no_path : (n : ℕ) (files : List NamedFile) → IsFree n files → has_path files (store_path n) ≡ false
no_path n [] free = refl
no_path n (file ∷ files) free = or_from (bytes_eq (store_path n) (store_path file.store)) (has_path files (store_path n)) free.0 (no_path n files free.1)

-- the numbers that a record names leave all others free
pub leave_free : (value : Record) (numbers : List ℕ) → ((m : ℕ) → Contains numbers m → m < 2 ^ 32) → AreNumbersOf value numbers → LeaveFree value numbers
unfolding named_files
leave_free value numbers fit are n small not_one =
    let files = named_in value.entries in
    let stores : map store_of files ≡ stores_in value.entries = parts_named store_of value.entries in
    let named : (m : ℕ) → Contains (map store_of files) m → Contains numbers m = λ m has. (are m).1 (subst (λ (ms : List ℕ). Contains ms m) stores has) in
    no_path n (named_files value)
    (all_in_order named_less (λ file. bytes_eq (store_path n) (store_path file.store) ≡ false) files (is_free n small files (λ m has. fit m (named m has)) (λ has. not_one (named n has))))
