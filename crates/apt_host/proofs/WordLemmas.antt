-- The words behind `build` ask for a command whose refusals have lines.
use Rattle.std.proofs.Common.{◌≡◌, ℕ, ◌+◌, Bool, true, false, List, [], ◌∷◌, ◌++◌, Option, None, Some, Result, Ok, Err, cond, refl}
use Rattle.std.specs.Prelude.{bytes_eq, IfErr}
use Rattle.project_config.specs.Options.{option_in}
use Rattle.project_reading.specs.Configuration.{Options}
use Rattle.apt_host.specs.Words.{Request, Bad, has_line, full_word, with_option, build_from, build_of}

either : (b : Bool) (x y : Request) → has_line x ≡ true → has_line y ≡ true → has_line (cond b x y) ≡ true
either true x y first second = first
either false x y first second = second

optional : (at : ℕ) (option : Option (List ℕ × List ℕ)) (go : List ℕ × List ℕ → Request) → ((o : List ℕ × List ℕ) → has_line (go o) ≡ true) → has_line (with_option at option go) ≡ true
optional at None go each = refl
optional at (Some option) go each = each option

lines_from : (at : ℕ) (full : Bool) (options : Options) (words : List (List ℕ)) → has_line (build_from at full options words) ≡ true
lines_from at full options [] = refl
lines_from at full options (word ∷ words) =
    either (bytes_eq word full_word) (cond full (Bad at) (build_from (at + 1) true options words)) (with_option at (option_in word) (λ option. build_from (at + 1) full (options ++ option ∷ []) words))
    (either full (Bad at) (build_from (at + 1) true options words) refl (lines_from (at + 1) true options words))
    (optional at (option_in word) (λ option. build_from (at + 1) full (options ++ option ∷ []) words) (λ option. lines_from (at + 1) full (options ++ option ∷ []) words))

pub build_has_line : (words : List (List ℕ)) → has_line (build_of words) ≡ true
build_has_line words = lines_from 1 false [] words

pub build_if_err : {T E : Type 0} (result : Result T E) (words : List (List ℕ)) → IfErr result (λ (fault : E). has_line (build_of words) ≡ true)
build_if_err (Ok value) words = tt
build_if_err (Err fault) words = build_has_line words
