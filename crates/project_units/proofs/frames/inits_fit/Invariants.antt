use Rattle.std.proofs.Common.{◌≡◌, drop, map}
use Rattle.std.specs.List.{list_all}
use Rattle.apt_outside.specs.Child.{Try}
use Rattle.project_units.specs.Plans.{try_of, plan_of, init_fits, inits_fit}
use Rattle.project_units.proofs.frames.inits_fit.Given as goal

-- the rest decide
abbrev pub invariant-loop-processor : goal.invariant-loop-processor
invariant-loop-processor l =
    list_all (λ (processor : Try). init_fits (plan_of l.key) processor.0) (map try_of (drop l.processor-index l.key.processors)) ≡ inits_fit (plan_of l.key)
