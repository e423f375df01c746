use Rattle.std.proofs.Common.{◌≡◌, map, string_bytes}
use Rattle.std.proofs.Common.{drop}
use Rattle.apt_base.specs.Names.{with_names}
use Rattle.name_resolve.specs.Parts.{lent}
use Rattle.name_resolve.specs.QualifiedNames.{prefixes_after}
use Rattle.named_units.specs.Named.{joined_in, prefixes_in}
use Rattle.named_units.proofs.named.add_prefixes.Given as goal

-- the prefixes that are longer than this one are still to be added
abbrev pub invariant-loop-part : goal.invariant-loop-part
invariant-loop-part l =
    with_names l.names (map joined_in (prefixes_after (string_bytes l.prefix) (lent (drop l.part-index l.others))))
    ≡ with_names l.fn.names (prefixes_in l.fn.name)
