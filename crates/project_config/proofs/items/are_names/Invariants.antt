use Rattle.std.proofs.Common.{◌≡◌, [], drop}
use Rattle.project_config.specs.Items.{are_names_after}
use Rattle.project_config.proofs.items.are_names.Given as goal

-- the texts that are left decide, behind those that were met
abbrev pub invariant-loop-text : goal.invariant-loop-text
invariant-loop-text l = are_names_after l.met (drop l.text-index l.texts) ≡ are_names_after [] l.texts
