use Rattle.std.proofs.Common.{◌≡◌, length, rules}
use Rattle.type_numbers.specs.declared.entry.Entry.{Entry}
use Rattle.type_numbers.proofs.HeldSteps.{put-held, put-stands, put-grows}
use Rattle.type_numbers.proofs.types.Types.put.Goals as goal

pub invariant_of-self-in-Ok : goal.invariant_of-self-in-Ok
invariant_of-self-in-Ok c =
    let e : Entry = record { node = c.args.node; sizes = c.args.sizes } in
    let count : c.len-number.result ≡ length c.self.inside.entries.items = search rules in
    put-held c.self.inside.entries.items c.self.inside.numbers.entries c.args.self.now e c.len-number.result c.push.new.self.items c.self.invariant c.self.view_is count c.in_ok-push.ensures.items
    c.args.key c.insert.new.self.entries c.requires.key c.requires.parts c.requires.absent (λ q. c.in-Ok.ensures.updates.0 q)

pub returns-in-Ok-clause-stands : goal.returns-in-Ok-clause-stands
returns-in-Ok-clause-stands c =
    let e : Entry = record { node = c.args.node; sizes = c.args.sizes } in
    let count : c.len-number.result ≡ length c.self.inside.entries.items = search rules in
    put-stands c.self.inside.entries.items c.self.inside.numbers.entries c.args.self.now e c.len-number.result c.push.new.self.items c.self.invariant c.self.view_is count c.in_ok-push.ensures.items

pub returns-in-Ok-clause-grows : goal.returns-in-Ok-clause-grows
returns-in-Ok-clause-grows c =
    let e : Entry = record { node = c.args.node; sizes = c.args.sizes } in
    let count : c.len-number.result ≡ length c.self.inside.entries.items = search rules in
    put-grows c.self.inside.entries.items c.self.inside.numbers.entries c.args.self.now e c.len-number.result c.push.new.self.items c.self.invariant c.self.view_is count c.in_ok-push.ensures.items
