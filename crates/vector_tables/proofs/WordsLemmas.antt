-- The words of a call.
use Rattle.std.proofs.Common.{◌≡◌, ◌≢◌, ℕ, true, false, cond, List, [], ◌∷◌, map, Some, option_map, slice_get, inl, inr, refl}
use Rattle.std.specs.Prelude.{bytes_eq, find, option_and_then}
use Rattle.std.specs.Borrow.{Bor}
use Rattle.clap.specs.Words.{Row, first_of, first_value, rows_of, HasKind, Kinds}
use Rattle.clap.specs.Walk.{row_of}
use Rattle.clap.specs.Simple.{is_simple}
use Rattle.clap.specs.Faults.{is_simple_and_free}
use Rattle.clap.specs.Values.{kind_of}
use Rattle.clap.specs.declared.error.Error.{Error}
use Rattle.clap.specs.declared.error.kind.ErrorKind.{ErrorKind}
use Rattle.clap.specs.declared.error.kind.ErrorKind.TheVariants as kind
use Rattle.clap.specs.declared.parser.matches.Found.{Found}
use Rattle.clap.specs.Facts.{Entry}
use Rattle.clap.proofs.OnLiterals.{clap_on_literals}
use Rattle.vector_tables.specs.Words.{command}

-- ---- the command

pub command_is_simple : is_simple command ≡ true
unfolding clap_on_literals
command_is_simple = refl

pub command_is_free : is_simple_and_free command ≡ true
unfolding clap_on_literals
command_is_free = refl

-- ---- what is read of the matches

first_text : (vs : List (Bor (List ℕ))) → option_map (λ (s : Bor (List ℕ)). s.now) (slice_get vs 0) ≡ slice_get (map (λ (s : Bor (List ℕ)). s.now) vs) 0
first_text [] = refl
first_text (v ∷ vs) = refl

first_in : (es : List Entry) (id : List ℕ) → option_and_then (λ a. option_map (λ s. s.now) (slice_get a.vals.items 0)) (option_map (λ e. e.1) (find (λ e. bytes_eq e.0.now id) es)) ≡ first_of id (map row_of es)
first_in [] id = refl
first_in (e ∷ es) id =
    elim (bytes_eq e.0.now id) as (λ b. option_and_then (λ a. option_map (λ s. s.now) (slice_get a.vals.items 0)) (option_map (λ e. e.1) (cond b (Some e) (find (λ e. bytes_eq e.0.now id) es)))
    ≡ option_and_then (λ (r : Row). slice_get r.values 0) (cond b (Some (row_of e)) (find (λ (r : Row). bytes_eq r.id id) (map row_of es)))) [
      | true ↦ first_text e.1.vals.items
      | false ↦ first_in es id
    ]

-- the first value of an id is that of its row
pub first_value-rows : (f : Found) (id : List ℕ) → first_value f id ≡ first_of id (rows_of f)
first_value-rows f id = first_in f.entries.items id

-- ---- errors

-- an error other than out of memory comes of a fault
pub faulty : (kinds : Kinds) (e : Error) → HasKind kinds e → kind_of e ≢ kind.OutOfMemory → kinds ≢ []
faulty kinds e (inl memory) other none = other memory
faulty [] e (inr among) other none = among
faulty (k ∷ kinds) e (inr among) other none = absurd cc
