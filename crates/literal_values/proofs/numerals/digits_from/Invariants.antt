use Rattle.std.proofs.Common.{false}
use Rattle.literal_values.specs.Numerals.{digits_from}
use Rattle.literal_values.proofs.BoundedNumbers.{IsRead}
use Rattle.literal_values.proofs.numerals.digits_from.Given as goal

abbrev pub invariant-loop-c : goal.invariant-loop-c
invariant-loop-c l = IsRead l.radix (digits_from l.radix l.first false l.rest) l.rest l.c-index l.number l.wanted
