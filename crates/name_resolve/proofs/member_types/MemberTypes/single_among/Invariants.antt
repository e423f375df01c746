use Rattle.name_resolve.specs.Meaning.{single_import}
use Rattle.name_resolve.specs.Parts.{single_finds}
use Rattle.name_resolve.specs.Remembered.{tops_in}
use Rattle.name_resolve.proofs.GatheredFinds.{FoundSoFar, WantedSoFar}
use Rattle.name_resolve.proofs.member_types.MemberTypes.single_among.Given as goal

-- what is found so far, with the imports that are left, or what is wanted so far
abbrev pub invariant-loop-import : goal.invariant-loop-import
invariant-loop-import l = record {
  found : FoundSoFar l.self l.levels (λ members. single_import (tops_in l.self) members l.part l.name) (λ members. single_finds (tops_in l.self) members l.part l.name l.imports) l.imports l.import-index l.all;
  wanted : WantedSoFar l.self.table.now l.all;
}
