-- From what a build made to what it publishes.
use Rattle.std.proofs.Common.{◌≡◌, ℕ, ◌<◌, ◌^◌, List, [], ◌∷◌, length, map, Contains, Option, Some, None, IsSome, refl, sym, subst}
use Rattle.std.specs.List.{AllZip}
use Rattle.std.specs.FinMap as fin
use Rattle.std.proofs.lemmas.List.Elements.{All-head, All-tail}
use Rattle.apt_outside.specs.Files.{Files, file_at}
use Rattle.tree_store.specs.declared.record.StoredFile.{StoredFile}
use Rattle.tree_store.specs.Output.{store_path}
use Rattle.tree_store.specs.Storing.{AreTaken, AreWritten, IsEntryOf, Holds}

absent : (found : Option (List ℕ)) → ¬ IsSome found → found ≡ None
absent None none = refl
absent (Some bytes) none = absurd (none refl)

-- a number that is not taken has no store file
pub absent_from_taken : (tree : Files) (numbers : List ℕ) (n : ℕ) → AreTaken tree numbers → n < 2 ^ 32 → ¬ Contains numbers n → file_at tree (store_path n) ≡ None
absent_from_taken tree numbers n taken small free = absent (file_at tree (store_path n)) (λ stands. free ((taken n small).1 stands))

-- what was made: the paths, the numbers and the bytes of A's values
module _ {A : Type 0} (path bytes : A → List ℕ) (store : A → ℕ) where
  abbrev pub entry_of : A → StoredFile
  entry_of made = record { path = path made; store = store made; length = length (bytes made) }

  abbrev pub file_of : A → List ℕ × List ℕ
  file_of made = (path made, bytes made)

  abbrev pub numbered_of : A → ℕ × List ℕ
  numbered_of made = (store made, bytes made)

  entries_written : (tree : Files) (made : List A) → AreWritten tree (map numbered_of made) → AllZip (IsEntryOf tree) (map entry_of made) (map file_of made)
  entries_written tree [] written = tt
  entries_written tree (one ∷ made) written =
      let P : ℕ × List ℕ → Type 0 = λ f. file_at tree (store_path f.0) ≡ Some f.1 in (
        record { path = refl; size = refl; bytes = All-head P (numbered_of one) (map numbered_of made) written },
        entries_written tree made (All-tail P (numbered_of one) (map numbered_of made) written),
      )

  -- where all that was made stands in the store, its entries hold its files
  pub Holds-written : (tree files : Files) (made : List A) → AreWritten tree (map numbered_of made) → fin.entries files ≡ map file_of made → Holds tree (map entry_of made) files
  Holds-written tree files made written are = subst (AllZip (IsEntryOf tree) (map entry_of made)) (sym are) (entries_written tree made written)
