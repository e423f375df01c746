use Rattle.std.proofs.Common.{string_bytes, ◌≡◌, ◌∷◌, drop}
use Rattle.name_resolve.specs.QualifiedNames.{prefixes_after, prefixes}
use Rattle.name_resolve.specs.Meaning.{Members, by_prefix}
use Rattle.name_resolve.specs.Parts.{lent}
use Rattle.name_resolve.specs.Remembered.{tops_in}
use Rattle.name_resolve.proofs.member_types.MemberTypes.by_prefixes.Given as goal

-- the prefixes that are longer than what is joined
abbrev pub invariant-loop-at : goal.invariant-loop-at
invariant-loop-at l =
    (members : Members)
    → by_prefix (tops_in l.self) members l.part (prefixes_after (string_bytes l.prefix) (lent (drop l.at l.others)))
    ≡ by_prefix (tops_in l.self) members l.part (prefixes (l.first ∷ lent l.others))
