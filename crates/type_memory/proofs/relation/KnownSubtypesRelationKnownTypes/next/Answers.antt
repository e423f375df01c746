use Rattle.std.proofs.Common.{None, Some, refl}
use Rattle.type_levels.specs.declared.answer.Answer.TheVariants.{Open}
use Rattle.type_levels.specs.declared.question.Next.TheVariants.{Decided, Supertypes}
use Rattle.type_memory.specs.Known.{type_at}
use Rattle.type_memory.proofs.GrownTypes.{decided-over, stands-over}
use Rattle.type_subtypes.specs.Subtypes.{next_of}
use Rattle.type_subtypes.proofs.AskedNext.{found, known-decided, not-decided, subtypes-decided, subtypes-open, subtypes-up}
use Rattle.type_memory.proofs.relation.KnownSubtypesRelationKnownTypes.next.Goals as goal

pub returns-in-Some-clause-next : goal.returns-in-Some-clause-next
returns-in-Some-clause-next c =
    let known = c.args.known.now in
    subtypes-decided known.table known.types c.args.pair c.in-Some.next
    (known-decided known.table known.types c.args.pair c.in_ok-next.field-0 (Some c.in-Some.next) c.in-Some.is
    (decided-over c.table.result.now known.table c.types.result.now known.types c.args.pair c.in_ok-next.field-0 c.table.ensures c.types.ensures c.in_ok-next.ensures))

pub returns-in-None-clause-next : goal.returns-in-None-clause-next
returns-in-None-clause-next c =
    let known = c.args.known.now in
    let new = c.supertypes.new.self in
    stands-over known new (Decided Open) (next_of known.table (type_at known c.args.pair.sub) (type_at known c.args.pair.sup)) c.in_ok-supertypes.ensures.grows.table
    (subtypes-open known.table known.types new.types c.args.pair
    (not-decided known.table known.types c.args.pair c.in_ok-next.field-0 c.in_default.not-Some
    (decided-over c.table.result.now known.table c.types.result.now known.types c.args.pair c.in_ok-next.field-0 c.table.ensures c.types.ensures c.in_ok-next.ensures))
    (found known.table known.table new.types (type_at known c.args.pair.sub) c.in_ok-supertypes.field-0 None refl c.in-None.is c.in_ok-supertypes.ensures.stands))

pub returns-in-Some-2-clause-next : goal.returns-in-Some-2-clause-next
returns-in-Some-2-clause-next c =
    let known = c.args.known.now in
    let new = c.supertypes.new.self in
    stands-over known new (Supertypes c.into_vec.result) (next_of known.table (type_at known c.args.pair.sub) (type_at known c.args.pair.sup)) c.in_ok-supertypes.ensures.grows.table
    (subtypes-up known.table known.types new.types c.args.pair c.in-Some-2.supertypes c.into_vec.result
    (not-decided known.table known.types c.args.pair c.in_ok-next.field-0 c.in_default.not-Some
    (decided-over c.table.result.now known.table c.types.result.now known.types c.args.pair c.in_ok-next.field-0 c.table.ensures c.types.ensures c.in_ok-next.ensures))
    (found known.table known.table new.types (type_at known c.args.pair.sub) c.in_ok-supertypes.field-0 (Some c.in-Some-2.supertypes) refl c.in-Some-2.is
    c.in_ok-supertypes.ensures.stands)
    c.into_vec.ensures)
