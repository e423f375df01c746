use Rattle.std.proofs.Common.{ap, ◌∙◌}
use Rattle.apt_base.specs.Identifiers.{parts}
use Rattle.decl_tree.specs.declared.compilation.ImportKind.TheVariants as import
use Rattle.name_resolve.specs.Meaning.{single_by}
use Rattle.name_resolve.specs.Parts.{lent, by_single_import}
use Rattle.name_resolve.specs.Remembered.{tops_in}
use Rattle.name_resolve.proofs.LookSteps.{single_of}
use Rattle.name_resolve.proofs.member_types.MemberTypes.single_import.Goals as goal

pub returns-in_ok-finds-in-Single-clause-value : goal.returns-in_ok-finds-in-Single-clause-value
returns-in_ok-finds-in-Single-clause-value c = λ members agrees.
    c.in_ok-finds-in-Single.ensures
    ∙ ap (by_single_import (tops_in c.args.self.now) c.args.part c.args.name.now) (ap lent c.as_slice.ensures.value ∙ c.in_ok-names-in-Single.ensures ∙ ap parts c.as_str.ensures)
    ∙ single_of (tops_in c.args.self.now) members c.args.part c.args.name.now c.args.import.now import.Single c.in-Single.is

pub returns-in_ok-finds-in-StaticSingle-clause-value : goal.returns-in_ok-finds-in-StaticSingle-clause-value
returns-in_ok-finds-in-StaticSingle-clause-value c = λ members agrees.
    c.in_ok-finds-in-StaticSingle.ensures.value members agrees
    ∙ ap (λ names. single_by (tops_in c.args.self.now) members c.args.part c.args.name.now names import.StaticSingle)
    (ap lent c.as_slice-in-StaticSingle.ensures.value ∙ c.in_ok-names-in-StaticSingle.ensures ∙ ap parts c.as_str-in-StaticSingle.ensures)
    ∙ single_of (tops_in c.args.self.now) members c.args.part c.args.name.now c.args.import.now import.StaticSingle c.in-StaticSingle.is

pub returns-in-OnDemand-clause-value : goal.returns-in-OnDemand-clause-value
returns-in-OnDemand-clause-value c = λ members agrees. single_of (tops_in c.args.self.now) members c.args.part c.args.name.now c.args.import.now import.OnDemand c.in-OnDemand.is

pub returns-in-StaticOnDemand-clause-value : goal.returns-in-StaticOnDemand-clause-value
returns-in-StaticOnDemand-clause-value c = λ members agrees.
    single_of (tops_in c.args.self.now) members c.args.part c.args.name.now c.args.import.now import.StaticOnDemand c.in-StaticOnDemand.is
