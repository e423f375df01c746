use Rattle.std.proofs.Common.{◌≡◌, drop, map, string_bytes, ◌∷◌}
use Rattle.apt_base.specs.Names.{with_names}
use Rattle.name_resolve.specs.QualifiedNames.{prefixes_after}
use Rattle.name_resolve.specs.Parts.{lent}
use Rattle.reach_map.specs.Candidates.{prefix_names}
use Rattle.reach_map.proofs.prefixes.add_prefixes_from.Given as goal

-- what is so far, with what is left behind the prefix, is the whole
abbrev pub invariant-loop-name : goal.invariant-loop-name
invariant-loop-name l =
    with_names l.names (map (λ p. p.joined) (prefixes_after (string_bytes l.prefix) (lent (drop l.name-index l.others))))
    ≡ with_names l.fn.names (prefix_names (l.first ∷ lent l.others))
