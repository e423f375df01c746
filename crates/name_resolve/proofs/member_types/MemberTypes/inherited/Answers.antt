use Rattle.std.proofs.Common.{sym, ap, ◌∙◌, map, arith}
use Rattle.name_resolve.specs.Finds.{Nothing}
use Rattle.name_resolve.specs.Meaning.{members_of, supertype_found, inherited}
use Rattle.name_resolve.specs.Remembered.{tops_in}
use Rattle.name_resolve.specs.Shown.{find_of, super_of}
use Rattle.name_resolve.proofs.GatheredFinds.{more-found, all-found, more-wanted, all-wanted}
use Rattle.name_resolve.proofs.LookSteps.{supers_all, each_shown}
use Rattle.name_resolve.proofs.member_types.MemberTypes.inherited.Goals as goal

pub loop-each-init : goal.loop-each-init
loop-each-init c =
    let tops = tops_in c.args.self.now in
    let of = find_of c.args.of.now in
    let name = c.args.name.now in
    let items = c.deref-each-items.result.now in
    record {
      found = λ members agrees.
          each_shown (λ s. members_of members (supertype_found tops members of s) name) super_of Nothing items
          ∙ supers_all tops members of name (map super_of items) (ap (map super_of) c.deref-each-items.ensures.value ∙ c.in_ok-list.ensures);
      wanted = tt;
    }

pub loop-each-preserved : goal.loop-each-preserved
loop-each-preserved c =
    let memory = c.args.self.now in
    let of = find_of c.args.of.now in
    let name = c.args.name.now in
    let items = c.deref-each-items.result.now in
    let more = c.through-more.result in
    record {
      found = more-found memory c.args.levels (λ members s. members_of members (supertype_found (tops_in memory) members of (super_of s)) name) (λ members. inherited (tops_in memory) members of name)
          items c.loop-each.each-index c.each-item.result c.loop-each-test.true (sym c.each-item.is) c.loop-each.all more c.in_ok-all.all c.in_ok-all.ensures c.loop-each.invariant.found
          c.through-more.ensures.value;
      wanted = more-wanted memory.table.now c.loop-each.all more c.in_ok-all.all c.in_ok-all.ensures c.loop-each.invariant.wanted c.through-more.ensures.wanted;
    }

pub returns-in-Ok-clause-value : goal.returns-in-Ok-clause-value
returns-in-Ok-clause-value c =
    let memory = c.args.self.now in
    let of = find_of c.args.of.now in
    let name = c.args.name.now in
    all-found memory c.args.levels (λ members s. members_of members (supertype_found (tops_in memory) members of (super_of s)) name) (λ members. inherited (tops_in memory) members of name)
    c.deref-each-items.result.now c.loop-each.each-index (omega arith) c.loop-each.all c.in-Ok.finds c.in-Ok.is c.loop-each.invariant.found

pub returns-clause-wanted : goal.returns-clause-wanted
returns-clause-wanted c = all-wanted c.args.self.now.table.now c.loop-each.all c.in-Err.wanted c.in-Err.is c.loop-each.invariant.wanted
