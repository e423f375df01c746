-- Where fields go: they are counted, or written.
use Rattle.std.specs.Prelude.{◌≡◌, ℕ, ◌+◌, ◌-◌, ◌^◌, Bool, true, false, List, [], ◌++◌, length, min, Result, MatchResult}
use Rattle.wire_frames.specs.declared.output.Output.{Output}
use Rattle.wire_frames.specs.declared.output.Output.TheVariants.{Counted, Written}

-- a count stops at the largest `usize`
abbrev pub counted : ℕ → ℕ → ℕ
counted size more = size + min more (2 ^ 64 - 1 - size)

-- the output, and these bytes more
unfoldable pub added : Output → List ℕ → Output
added (Counted size) bytes = Counted (counted size (length bytes))
added (Written written) bytes = Written (written ++ bytes)

abbrev pub size_of : Output → ℕ
size_of (Counted size) = size
size_of (Written written) = 0

abbrev pub written_to : Output → List ℕ
written_to (Counted size) = []
written_to (Written written) = written

-- whether it writes
unfoldable pub is_written : Output → Bool
is_written (Counted size) = false
is_written (Written written) = true

-- A call that went well added these bytes. One that failed was to write: where bytes are counted, none fails.
abbrev pub Adds : {T E : Type 0} → Result T E → Output → Output → List ℕ → Type 0
Adds result old new bytes = MatchResult result (λ _. new ≡ added old bytes) (λ _. is_written old ≡ true)
