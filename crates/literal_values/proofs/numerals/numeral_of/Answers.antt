use Rattle.std.proofs.Common.{ap, sym, ◌∙◌, option_map}
use Rattle.literal_values.specs.NumeralParts.{bounded_numeral}
use Rattle.literal_values.proofs.BoundedValues.{numeral_of-short}
use Rattle.literal_values.proofs.numerals.numeral_of.Goals as goal

pub returns-in_default : goal.returns-in_default
returns-in_default c = c.numeral_in.ensures ∙ ap (option_map bounded_numeral) (sym (numeral_of-short c.args.text.now c.in_default.len_below))
