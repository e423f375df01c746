use Rattle.std.proofs.Common.{string_bytes}
use Rattle.std.proofs.lemmas.Str.{IsUtf8-string_bytes}
use Rattle.apt_base.proofs.FieldsLemmas.{is_text-of_utf8}
use Rattle.round_engine.proofs.numbering.made_file.Goals as goal

pub returns-clause-text : goal.returns-clause-text
returns-clause-text c = rw c.from_string.ensures (is_text-of_utf8 (string_bytes c.args.path) (IsUtf8-string_bytes c.args.path))
