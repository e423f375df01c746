use Rattle.std.proofs.Common.{◌≡◌, drop, map}
use Rattle.name_resolve.specs.Finds.{together}
use Rattle.name_resolve.specs.Shown.{finds_of}
use Rattle.name_resolve.proofs.LookSteps.{from_each}
use Rattle.expression_names.specs.Fields.{field_by_single_import}
use Rattle.expression_names.proofs.fields.Fields.by_single_imports.Given as goal

-- with the imports that are left, all are found, over the same table
abbrev pub invariant-loop-import : goal.invariant-loop-import
invariant-loop-import l =
    (l.self ≡ l.fn.self)
    × (from_each (field_by_single_import l.fn.self l.part l.name) (finds_of l.finds) (drop l.import-index l.imports)
    ≡ together (map (field_by_single_import l.fn.self l.part l.name) l.imports))
