-- Where store files and the record stand, and which path is that of a number.
use Rattle.std.proofs.Common.{◌≡◌, ◌≢◌, ℕ, suc, zero, ◌^◌, ◌<◌, ◌≤◌, true, List, ◌++◌, length, get_or, drop, codes, refl, sym, ap, ◌∙◌, subst, arith, Result, Ok, Err, Option, None, Some, MatchOption, T, eqb}
use Rattle.std.specs.Fmt.{decimal}
use Rattle.std.specs.Str.Parse.{ParsesUnsigned, AllDigits, digits_value}
use Rattle.std.proofs.lemmas.Fmt.{decimal_injective, decimal_digit, first_decimal, parse-decimal, decimal-digits_value}
use Rattle.std.proofs.lemmas.Str.Parse.{IsNumeralModel, numerals_by_value, tells_digits, parse_plain}
use Rattle.apt_outside.specs.Files.{is_below}
use Rattle.tree_store.specs.Output.{store_path, record_path}

-- different numbers have different store paths
pub store_path_injective : (m n : ℕ) → m < 2 ^ 64 → n < 2 ^ 64 → store_path m ≡ store_path n → m ≡ n
unfolding store_path
store_path_injective m n a b e = decimal_injective m n a b (ap (drop 10) e)

-- the record stands at no store path
pub store_path-ne-record_path : (n : ℕ) → store_path n ≢ record_path
unfolding store_path
store_path-ne-record_path n e = subst (λ (p : List ℕ). T (eqb (get_or p 4 0) 115)) e tt

pub store_path-below-store : (n : ℕ) → is_below (codes "out/store") (store_path n) ≡ true
unfolding store_path
store_path-below-store n = refl

-- without a sign and without a zero before other digits
abbrev pub IsPlain : List ℕ → Type 0
IsPlain digits = (get_or digits 0 0 ≢ 43) × (get_or digits 0 0 ≡ 48 → length digits ≤ 1)

numerals : IsNumeralModel (AllDigits 10) (digits_value 10)
numerals = numerals_by_value (AllDigits 10) tells_digits

pub decimal_plain : (n : ℕ) → n < 2 ^ 64 → IsPlain (decimal n)
decimal_plain zero small = rw (decimal_digit 0 (omega arith)) ((λ e. omega arith), λ _. omega arith)
decimal_plain (suc n) small = let first = first_decimal (suc n) (omega arith) small in ((λ e. omega arith), λ e. absurd (omega arith))

-- plain digits that are read as a number are what is written of it
pub decimal_read : (n : ℕ) (digits : List ℕ) → ParsesUnsigned {E = ℕ} 32 10 digits (Ok n) → IsPlain digits → decimal n ≡ digits
decimal_read n digits read plain =
    let all : (AllDigits 10 digits × (0 < length digits) × (digits_value 10 digits < 2 ^ 32)) × (n ≡ digits_value 10 digits) = parse_plain numerals {E = ℕ} 32 digits (Ok n) read plain.0 in
    ap decimal all.1 ∙ decimal-digits_value numerals digits all.0.0 all.0.1 (λ e. omega (arith, plain.1 e, all.0.1)) (omega (arith, all.0.2))

-- what is not read as a number is written of none
pub decimal_unread : (n : ℕ) (digits : List ℕ) → n < 2 ^ 32 → ParsesUnsigned {E = ℕ} 32 10 digits (Err 0) → decimal n ≢ digits
decimal_unread n digits small unread e =
    let read : ◌≡◌ {A = Result ℕ ℕ} (Err 0) (Ok n) = parse-decimal {E = ℕ} 32 n digits (Err 0) small (omega arith) (sym e) unread in
    cc

-- nor is what is not plain
pub decimal_not_plain : (n : ℕ) (digits : List ℕ) → n < 2 ^ 32 → ¬ IsPlain digits → decimal n ≢ digits
decimal_not_plain n digits small not_plain e = not_plain (subst IsPlain e (decimal_plain n (omega arith)))

-- a path behind whose front stands no number of these is the store path of none
store_path-other : (n : ℕ) (path digits : List ℕ) → path ≡ codes "out/store/" ++ digits → decimal n ≢ digits → store_path n ≢ path
unfolding store_path
store_path-other n path digits is other e = other (ap (drop 10) (e ∙ is))

store_path-same : (n : ℕ) (path digits : List ℕ) → path ≡ codes "out/store/" ++ digits → decimal n ≡ digits → store_path n ≡ path
unfolding store_path
store_path-same n path digits is same = ap (λ (d : List ℕ). codes "out/store/" ++ d) same ∙ sym is

-- a path without the front is the store path of none
pub store_path-elsewhere : (n : ℕ) (path : List ℕ) → ((rest : List ℕ) → path ≢ codes "out/store/" ++ rest) → store_path n ≢ path
unfolding store_path
store_path-elsewhere n path other e = other (decimal n) (sym e)

-- the number of a path is that of the digits behind its front
pub number_behind : (path digits : List ℕ) (found : Option ℕ) → path ≡ codes "out/store/" ++ digits → MatchOption found ((n : ℕ) → n < 2 ^ 32 → decimal n ≢ digits) (λ n. decimal n ≡ digits)
    → MatchOption found ((n : ℕ) → n < 2 ^ 32 → store_path n ≢ path) (λ n. store_path n ≡ path)
number_behind path digits None is none = λ n small. store_path-other n path digits is (none n small)
number_behind path digits (Some n) is same = store_path-same n path digits is same
