-- What a step of the code shows, and how large an octal escape may be, so that its value is at most 255.
use Rattle.std.specs.Prelude.{ℕ, zero, suc, ◌<◌, ◌++◌}
use Rattle.std.specs.Option.{option_to_list}
use Rattle.literal_values.specs.declared.quoted.Step as declared
use Rattle.literal_values.specs.declared.quoted.Reading.{Reading}
use Rattle.literal_values.specs.declared.quoted.Reading.TheVariants.{Octal}
use Rattle.literal_values.specs.Quoted.{Step, step}

abbrev pub shown : declared.Step → Step
shown s = step (option_to_list s.ended ++ option_to_list s.read) s.next

-- with so many digits more
abbrev pub IsSmall : ℕ → ℕ → Type 0
IsSmall code zero = code < 256
IsSmall code (suc zero) = code < 32
IsSmall code (suc (suc zero)) = code < 4
IsSmall code (suc (suc (suc more))) = ⊥

abbrev pub Fits : Reading → Type 0
Fits (Octal code more) = IsSmall code more
Fits _ = Unit {0}
