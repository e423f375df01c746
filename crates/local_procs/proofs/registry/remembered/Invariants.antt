use Rattle.std.proofs.Common.{◌≡◌, drop, filter, map}
use Rattle.apt_base.specs.Names.{with_names}
use Rattle.local_procs.specs.Contents.{elements_in}
use Rattle.local_procs.specs.Registry.{is_top_level, unit_of}
use Rattle.local_procs.proofs.registry.remembered.Given as goal

-- with the rest, all are remembered
abbrev pub invariant-loop-element : goal.invariant-loop-element
invariant-loop-element l =
    with_names l.kept (map unit_of (filter is_top_level (drop l.element-index (elements_in l.reply))))
    ≡ with_names l.fn.kept (map unit_of (filter is_top_level (elements_in l.reply)))
