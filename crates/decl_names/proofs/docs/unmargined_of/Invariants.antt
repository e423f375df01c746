use Rattle.std.proofs.Common.{◌≡◌, ◌++◌, false, length, string_bytes}
use Rattle.std.specs.Str.{encode_utf8_all}
use Rattle.decl_grammar.specs.Docs.{unmargined, with_line_feeds}
use Rattle.decl_grammar.specs.declared.line_place.LinePlace.TheVariants as places
use Rattle.decl_names.proofs.docs.unmargined_of.Given as goal

abbrev pub invariant-row : goal.invariant-row
invariant-row l = string_bytes l.all ++ encode_utf8_all (unmargined l.place (with_line_feeds l.after_return l.rest)) ≡ encode_utf8_all (unmargined places.Inside (with_line_feeds false l.text))

abbrev pub decreases-row : goal.decreases-row
decreases-row l = length l.rest
