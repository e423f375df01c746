use Rattle.std.proofs.Common.{get_or, MatchOption, ap, sym, subst}
use Rattle.java_tokens.specs.Characters.{HasChar, HasNoChar, BeginsEscape}
use Rattle.java_tokens.proofs.CharactersLemmas.{raw_char, no_raw, turned_even, long_escape}
use Rattle.java_tokens.proofs.reading.read_char.Goals as goal
use Rattle.java_tokens.proofs.reading.read_char.Goals.{else-slashes-eq0-via-then-slashes-eq0+then-bytes-gt1+then-bytes-eq92+else-bytes-eq117, else-slashes-eq0-via-then-slashes-eq0+then-bytes-gt1+else-bytes-eq92, else-slashes-eq0-via-then-slashes-eq0+else-bytes-gt1, else-slashes-eq0-via-else-slashes-eq0}

pub returns-then-bytes-eq117-clause-char : goal.returns-then-bytes-eq117-clause-char
returns-then-bytes-eq117-clause-char c = turned_even (λ r. r.width) (λ r. r.code) c.args.slashes c.args.bytes.now c.if-slashes-eq0.true c.read_escaped.result c.read_escaped.ensures.char

pub returns-in_err-code-clause-char : goal.returns-in_err-code-clause-char
returns-in_err-code-clause-char c =
    let bytes = c.args.bytes.now in
    let not : ¬ BeginsEscape c.args.slashes bytes = elim c.else-slashes-eq0.branch [
      | else-slashes-eq0-via-then-slashes-eq0+then-bytes-gt1+then-bytes-eq92+else-bytes-eq117 w ↦ λ b. w.if-bytes-eq117.false (ap (λ xs. get_or xs 1 0) b.begins)
      | else-slashes-eq0-via-then-slashes-eq0+then-bytes-gt1+else-bytes-eq92 w ↦ λ b. w.if-bytes-eq92.false (ap (λ xs. get_or xs 0 0) b.begins)
      | else-slashes-eq0-via-then-slashes-eq0+else-bytes-gt1 w ↦ λ b. long_escape c.args.slashes bytes b w.if-bytes-gt1.false
      | else-slashes-eq0-via-else-slashes-eq0 w ↦ λ b. w.if-slashes-eq0.false b.even
    ] in
    subst (λ o. MatchOption o (HasNoChar c.args.slashes bytes) (λ r. HasChar c.args.slashes bytes r.width r.code)) (sym c.from_residual.ensures) (no_raw c.args.slashes bytes not c.in_err-code.ensures)

pub returns-clause-char : goal.returns-clause-char
returns-clause-char c =
    let bytes = c.args.bytes.now in
    let not : ¬ BeginsEscape c.args.slashes bytes = elim c.else-slashes-eq0.branch [
      | else-slashes-eq0-via-then-slashes-eq0+then-bytes-gt1+then-bytes-eq92+else-bytes-eq117 w ↦ λ b. w.if-bytes-eq117.false (ap (λ xs. get_or xs 1 0) b.begins)
      | else-slashes-eq0-via-then-slashes-eq0+then-bytes-gt1+else-bytes-eq92 w ↦ λ b. w.if-bytes-eq92.false (ap (λ xs. get_or xs 0 0) b.begins)
      | else-slashes-eq0-via-then-slashes-eq0+else-bytes-gt1 w ↦ λ b. long_escape c.args.slashes bytes b w.if-bytes-gt1.false
      | else-slashes-eq0-via-else-slashes-eq0 w ↦ λ b. w.if-slashes-eq0.false b.even
    ] in
    let found = c.in_ok-code.ensures in
    subst (λ w. HasChar c.args.slashes bytes w c.in_ok-code.code) (sym c.len_utf8.ensures.value) (raw_char c.args.slashes bytes found.1.0 c.in_ok-code.code not found.0 found.1.1)
