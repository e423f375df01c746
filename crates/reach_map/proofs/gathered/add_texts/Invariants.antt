use Rattle.std.proofs.Common.{◌≡◌, drop}
use Rattle.apt_base.specs.Names.{with_names}
use Rattle.name_resolve.specs.Parts.{lent}
use Rattle.reach_map.specs.Candidates.{prefixes_of_all}
use Rattle.reach_map.proofs.gathered.add_texts.Given as goal

-- what is so far, with what is left, is the whole
abbrev pub invariant-loop-text : goal.invariant-loop-text
invariant-loop-text l =
    with_names l.names (prefixes_of_all (lent (drop l.text-index l.texts))) ≡ with_names l.initial.names (prefixes_of_all (lent l.texts))
