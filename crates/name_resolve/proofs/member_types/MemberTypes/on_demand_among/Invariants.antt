use Rattle.name_resolve.specs.Meaning.{on_demand_import}
use Rattle.name_resolve.specs.Parts.{demand_finds}
use Rattle.name_resolve.specs.Remembered.{tops_in}
use Rattle.name_resolve.specs.Shown.{finds_of}
use Rattle.name_resolve.proofs.GatheredFinds.{FoundSoFar, WantedSoFar}
use Rattle.name_resolve.proofs.member_types.MemberTypes.on_demand_among.Given as goal

-- what is found so far, with the imports that are left, or what is wanted so far
abbrev pub invariant-loop-import : goal.invariant-loop-import
invariant-loop-import l = record {
  found : FoundSoFar l.self l.levels (λ members. on_demand_import (tops_in l.self) members l.part l.name) (λ members. demand_finds (tops_in l.self) members l.part l.name (finds_of l.fn.before) l.imports) l.imports l.import-index l.all;
  wanted : WantedSoFar l.self.table.now l.all;
}
