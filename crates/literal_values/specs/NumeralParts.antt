-- Numbers of integer literals up to 2^64: one that is greater is in no type, so that this one stands for it.
use Rattle.std.specs.Prelude.{ℕ, ◌^◌, min}
use Rattle.literal_values.specs.declared.numerals.Numeral as declared
use Rattle.literal_values.specs.Numerals.{Numeral, numeral}

abbrev pub bound : ℕ
bound = 2 ^ 64

abbrev pub bounded : ℕ → ℕ
bounded n = min n bound

abbrev pub bounded_numeral : Numeral → Numeral
bounded_numeral n = numeral n.radix (bounded n.number)

abbrev pub shown : declared.Numeral → Numeral
shown n = numeral n.radix n.number
