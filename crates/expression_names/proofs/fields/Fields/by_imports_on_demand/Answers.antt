use Rattle.std.proofs.Common.{sym, ap, ◌∙◌, refl, arith}
use Rattle.name_resolve.specs.Finds.{both}
use Rattle.name_resolve.specs.Shown.{finds_of}
use Rattle.name_resolve.proofs.LookSteps.{each_all, each_more, each_over}
use Rattle.expression_names.specs.Fields.{field_by_import_on_demand}
use Rattle.expression_names.proofs.fields.Fields.by_imports_on_demand.Goals as goal

pub loop-import-init : goal.loop-import-init
loop-import-init c = (refl, each_all (field_by_import_on_demand c.args.self.now c.args.part c.args.name.now) c.args.imports.now)

pub loop-import-preserved : goal.loop-import-preserved
loop-import-preserved c =
    let imports = c.args.imports.now in
    let item = c.import-item.result in
    let more = c.in_ok-more.ensures in (
      more.kept ∙ c.loop-import.invariant.0,
      each_more (field_by_import_on_demand c.args.self.now c.args.part c.args.name.now) imports c.loop-import.import-index item (finds_of c.loop-import.finds) (finds_of c.both-finds.result)
          c.loop-import-test.true (sym c.import-item.is)
          (c.both-finds.ensures ∙ ap (both (finds_of c.loop-import.finds)) (more.value ∙ ap (λ t. field_by_import_on_demand t c.args.part c.args.name.now item) c.loop-import.invariant.0))
          ∙ c.loop-import.invariant.1,
    )

pub returns-clause-value : goal.returns-clause-value
returns-clause-value c =
    let find = field_by_import_on_demand c.args.self.now c.args.part c.args.name.now in
    sym (each_over find c.args.imports.now c.loop-import.import-index (finds_of c.loop-import.finds) (omega arith)) ∙ c.loop-import.invariant.1
