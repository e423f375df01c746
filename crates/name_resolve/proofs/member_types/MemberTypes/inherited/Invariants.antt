use Rattle.name_resolve.specs.Meaning.{members_of, supertype_found, inherited}
use Rattle.name_resolve.specs.Remembered.{tops_in}
use Rattle.name_resolve.specs.Shown.{find_of, super_of}
use Rattle.name_resolve.proofs.GatheredFinds.{FoundSoFar, WantedSoFar}
use Rattle.name_resolve.proofs.member_types.MemberTypes.inherited.Given as goal

-- what is found so far, with the supertypes that are left, or what is wanted so far
abbrev pub invariant-loop-each : goal.invariant-loop-each
invariant-loop-each l = record {
  found : FoundSoFar l.self l.levels (λ members s. members_of members (supertype_found (tops_in l.self) members (find_of l.of) (super_of s)) l.name)
      (λ members. inherited (tops_in l.self) members (find_of l.of) l.name) l.each-items l.each-index l.all;
  wanted : WantedSoFar l.self.table.now l.all;
}
