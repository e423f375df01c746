use Rattle.std.proofs.Common.{sym, arith}
use Rattle.name_resolve.specs.Meaning.{single_import}
use Rattle.name_resolve.specs.Parts.{single_finds}
use Rattle.name_resolve.specs.Remembered.{tops_in}
use Rattle.name_resolve.proofs.GatheredFinds.{more-found, all-found, more-wanted, all-wanted}
use Rattle.name_resolve.proofs.LookSteps.{each_all}
use Rattle.name_resolve.proofs.member_types.MemberTypes.single_among.Goals as goal

pub loop-import-init : goal.loop-import-init
loop-import-init c = record { found = λ members agrees. each_all _ c.args.imports.now; wanted = tt }

pub loop-import-preserved : goal.loop-import-preserved
loop-import-preserved c =
    let memory = c.args.self.now in
    let imports = c.args.imports.now in
    let more = c.single_import-more.result in
    record {
      found = more-found memory c.args.levels (λ members. single_import (tops_in memory) members c.args.part c.args.name.now) (λ members. single_finds (tops_in memory) members c.args.part c.args.name.now imports)
          imports c.loop-import.import-index c.import-item.result c.loop-import-test.true (sym c.import-item.is) c.loop-import.all more c.in_ok-all.all c.in_ok-all.ensures c.loop-import.invariant.found
          c.single_import-more.ensures.value;
      wanted = more-wanted memory.table.now c.loop-import.all more c.in_ok-all.all c.in_ok-all.ensures c.loop-import.invariant.wanted c.single_import-more.ensures.wanted;
    }

pub returns-in-Ok-clause-value : goal.returns-in-Ok-clause-value
returns-in-Ok-clause-value c =
    let memory = c.args.self.now in
    let imports = c.args.imports.now in
    all-found memory c.args.levels (λ members. single_import (tops_in memory) members c.args.part c.args.name.now) (λ members. single_finds (tops_in memory) members c.args.part c.args.name.now imports) imports
    c.loop-import.import-index (omega arith) c.loop-import.all c.in-Ok.finds c.in-Ok.is c.loop-import.invariant.found

pub returns-in-Err-clause-wanted : goal.returns-in-Err-clause-wanted
returns-in-Err-clause-wanted c = all-wanted c.args.self.now.table.now c.loop-import.all c.in-Err.wanted c.in-Err.is c.loop-import.invariant.wanted
