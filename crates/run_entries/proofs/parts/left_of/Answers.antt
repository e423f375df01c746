use Rattle.std.proofs.Common.{rules}
use Rattle.run_entries.proofs.RootLemmas.{files_are_left, messages_are_left}
use Rattle.run_entries.proofs.parts.left_of.Goals as goal

pub returns : goal.returns
returns c = record {
  files = files_are_left c.args.done.now c.in_ok-roots.roots c.in_ok-files.files (search rules) (search rules);
  messages = messages_are_left c.args.done.now c.in_ok-roots.roots c.in_ok-messages.messages (search rules) (search rules);
}
