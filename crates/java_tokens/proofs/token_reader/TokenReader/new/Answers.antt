use Rattle.std.proofs.Common.{false, [], string_bytes, None, refl, sym, subst}
use Rattle.std.proofs.lemmas.Str.{IsUtf8-string_bytes}
use Rattle.std.specs.Str.{chars}
use Rattle.java_tokens.specs.CharsShown.{offsets_of}
use Rattle.java_tokens.specs.TokenReading.{IsLexing}
use Rattle.java_tokens.proofs.TokensGathered.{lexing_none}
use Rattle.java_tokens.proofs.token_reader.TokenReader.new.Goals as goal

pub returns : goal.returns
returns c =
    let bs = string_bytes c.args.chars.now.text in
    let offsets = offsets_of (chars bs) c.args.chars.now.shifts.items in
    record {
      file = refl;
      reserved = c.word_table.ensures;
      signs = c.operator_table.ensures;
      before = 0;
      lexing = subst (λ r. IsLexing (chars bs) offsets r 0 0 1 false None []) (sym c.as_str.ensures) (lexing_none bs offsets (IsUtf8-string_bytes c.args.chars.now.text));
    }
