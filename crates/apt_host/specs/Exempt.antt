-- Whose child is exempt from what a build promises of the frames that children were sent: that of the processor which a fault of the children names. They do not say
-- what became of a frame whose sending failed.
use Rattle.std.specs.Prelude.{◌≡◌, ◌⊎◌, ℕ, List, Option, None, Some, Result, Ok, Err}
use Rattle.project_units.specs.Refusals.{Children}
use Rattle.project_reading.specs.declared.status.Status.{Status}
use Rattle.project_reading.specs.Verdicts.{Verdict, Failed, Memory, verdict}

abbrev pub exempt_in : Verdict → Option (List ℕ)
exempt_in (Failed (Children processor)) = Some processor
exempt_in other = None

-- the same by what making the files of a build gives
abbrev pub exempt_made : {T : Type 0} → Result T Status → Option (List ℕ)
exempt_made (Ok value) = None
exempt_made (Err status) = exempt_in (verdict status)

-- This one is exempt by a verdict, or none is. Out of memory exempts none, unless the line of a refusal found no memory, which then does not say which fault of the children came:
-- there their count rose.
abbrev pub IsExempt : Type 0 → Verdict → Option (List ℕ) → Type 0
IsExempt rose Memory exempt = (exempt ≡ None) ⊎ rose
IsExempt rose v exempt = exempt ≡ exempt_in v
