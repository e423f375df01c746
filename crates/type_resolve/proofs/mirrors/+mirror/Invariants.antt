use Rattle.std.proofs.Common.{◌≡◌, map, take, drop}
use Rattle.name_resolve.specs.Mirrors.{part_meant}
use Rattle.name_resolve.specs.Parts.{lent}
use Rattle.name_resolve.specs.Supertypes.{part_name}
use Rattle.type_resolve.specs.MirrorParts.{look_in, type_mirror_in, class_mirror_in, class_from, fronts_text}
use Rattle.type_resolve.proofs.mirrors.+mirror.Given as goal

-- the mirrors so far, by look-ups over the same table
abbrev pub invariant-mirrors-loop-each : goal.invariant-mirrors-loop-each
invariant-mirrors-loop-each l = (l.list ≡ map (type_mirror_in l.scope) (take l.each-index l.texts)) × (l.looks ≡ l.fn.looks)

-- the names so far, the class type from the next one on, and look-ups over the same table
abbrev pub invariant-named_type-loop-part : goal.invariant-named_type-loop-part
invariant-named_type-loop-part l =
    (lent l.names.items ≡ map part_name (take l.part-index l.parts))
    × (class_from (look_in l.scope) (map part_name (take l.part-index l.parts)) (fronts_text (take l.part-index l.parts)) l.enclosing
    (map (part_meant (look_in l.scope)) (drop l.part-index l.parts)) ≡ class_mirror_in l.scope l.parts)
    × (l.looks ≡ l.fn.looks)
