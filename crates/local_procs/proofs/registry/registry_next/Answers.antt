use Rattle.std.proofs.Common.{sym, ap, ◌∙◌}
use Rattle.local_procs.specs.Plans.{sendable}
use Rattle.local_procs.specs.Stages.{registry_go}
use Rattle.local_procs.proofs.Sending.{kept_sent}
use Rattle.local_procs.proofs.registry.registry_next.Goals as goal

pub returns-in-File : goal.returns-in-File
returns-in-File c = sym (kept_sent c.in-File.kept) ∙ ap (λ stage. sendable (registry_go stage c.args.reply.now)) (sym c.in-File.is)
