use Rattle.std.proofs.Common.{rules}
use Rattle.java_tokens.proofs.EscapesLemmas.{four_of}
use Rattle.java_tokens.proofs.escapes.hex_value.Goals as goal

pub returns-clause-digits : goal.returns-clause-digits
returns-clause-digits c = record {
  a = _;
  b = _;
  c = _;
  d = _;
  four = four_of c.args.digits.now c.requires;
  a_digit = search rules;
  b_digit = search rules;
  c_digit = search rules;
  d_digit = search rules;
  sum = search rules;
}
