use Rattle.std.proofs.Common.{map, string_bytes}
use Rattle.apt_host.proofs.WordLemmas.{build_if_err}
use Rattle.apt_host.proofs.words.read_build.Goals as goal

pub returns-in_err-new-clause-memory : goal.returns-in_err-new-clause-memory
returns-in_err-new-clause-memory c = build_if_err c.from_residual.result (map string_bytes c.args.words.now)

pub returns-in_err-new-2-clause-memory : goal.returns-in_err-new-2-clause-memory
returns-in_err-new-2-clause-memory c = build_if_err c.from_residual-in_err-new-2.result (map string_bytes c.args.words.now)

pub returns-in_err-push-clause-memory : goal.returns-in_err-push-clause-memory
returns-in_err-push-clause-memory c = build_if_err c.from_residual-in_err-push.result (map string_bytes c.args.words.now)
