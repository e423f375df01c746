use Rattle.std.proofs.Common.{◌≡◌, drop}
use Rattle.std.specs.List.{list_any}
use Rattle.apt_base.specs.Elements.{same_element}
use Rattle.type_mirror.proofs.substitution.is_among.Given as goal

-- it is among the rest exactly where it is among all
abbrev pub invariant-loop-pair : goal.invariant-loop-pair
invariant-loop-pair l = list_any (λ pair. same_element l.element pair.0) (drop l.pair-index l.by) ≡ list_any (λ pair. same_element l.element pair.0) l.by
