use Rattle.std.proofs.Common.{ap, ◌∙◌}
use Rattle.apt_base.specs.Identifiers.{parts}
use Rattle.decl_tree.specs.declared.compilation.ImportKind.TheVariants as import
use Rattle.name_resolve.specs.Parts.{lent}
use Rattle.expression_names.specs.Fields.{field_by_single}
use Rattle.expression_names.proofs.NamesSplit.{single_of}
use Rattle.expression_names.proofs.fields.Fields.by_single_import.Goals as goal

pub returns-in_ok-finds-in-StaticSingle-clause-value : goal.returns-in_ok-finds-in-StaticSingle-clause-value
returns-in_ok-finds-in-StaticSingle-clause-value c =
    c.in_ok-finds-in-StaticSingle.ensures.value
    ∙ ap (λ names. field_by_single c.args.self.now c.args.part c.args.name.now names import.StaticSingle)
    (ap lent c.as_slice.ensures.value ∙ c.in_ok-names-in-StaticSingle.ensures ∙ ap parts c.as_str.ensures)
    ∙ single_of c.args.self.now c.args.part c.args.name.now c.args.import.now import.StaticSingle c.in-StaticSingle.is

pub returns-in-Single-clause-value : goal.returns-in-Single-clause-value
returns-in-Single-clause-value c = single_of c.args.self.now c.args.part c.args.name.now c.args.import.now import.Single c.in-Single.is

pub returns-in-OnDemand-clause-value : goal.returns-in-OnDemand-clause-value
returns-in-OnDemand-clause-value c = single_of c.args.self.now c.args.part c.args.name.now c.args.import.now import.OnDemand c.in-OnDemand.is

pub returns-in-StaticOnDemand-clause-value : goal.returns-in-StaticOnDemand-clause-value
returns-in-StaticOnDemand-clause-value c = single_of c.args.self.now c.args.part c.args.name.now c.args.import.now import.StaticOnDemand c.in-StaticOnDemand.is
