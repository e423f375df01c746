use Rattle.std.proofs.Common.{length}
use Rattle.std.specs.Str.{chars}
use Rattle.literal_values.specs.declared.quoted.Reading.TheVariants.{Plain}
use Rattle.literal_values.specs.Quoted.{unquoted}
use Rattle.literal_values.specs.QuotedParts.{Fits}
use Rattle.literal_values.proofs.QuotedLemmas.{IsRead}
use Rattle.literal_values.proofs.quoted.unquoted.Given as goal

-- what is left decides for the whole literal
abbrev pub invariant-loop-c : goal.invariant-loop-c
invariant-loop-c l = IsRead l.quote (unquoted l.quote Plain (chars l.text)) (chars l.text) (length l.yielded) l.found l.reading × Fits l.reading
