use Rattle.std.proofs.Common.{◌∷◌, [], ◌++◌, ap, ◌∙◌}
use Rattle.apt_base.specs.Identifiers.{parts}
use Rattle.decl_tree.specs.declared.compilation.ImportKind.TheVariants as import
use Rattle.name_resolve.specs.Meaning.{members_of, imported}
use Rattle.name_resolve.specs.Parts.{lent}
use Rattle.name_resolve.specs.Remembered.{tops_in}
use Rattle.name_resolve.proofs.LookSteps.{on_demand_of}
use Rattle.name_resolve.proofs.member_types.MemberTypes.on_demand_import.Goals as goal

pub returns-in-Single-clause-value : goal.returns-in-Single-clause-value
returns-in-Single-clause-value c = λ members agrees. on_demand_of (tops_in c.args.self.now) members c.args.part c.args.name.now c.args.import.now import.Single c.in-Single.is

pub returns-in-StaticSingle-clause-value : goal.returns-in-StaticSingle-clause-value
returns-in-StaticSingle-clause-value c = λ members agrees.
    on_demand_of (tops_in c.args.self.now) members c.args.part c.args.name.now c.args.import.now import.StaticSingle c.in-StaticSingle.is

pub returns-in_ok-finds-in-OnDemand-clause-value : goal.returns-in_ok-finds-in-OnDemand-clause-value
returns-in_ok-finds-in-OnDemand-clause-value c = λ members agrees.
    c.in_ok-finds-in-OnDemand.ensures.value
    ∙ ap (imported (tops_in c.args.self.now) c.args.part) (ap lent c.as_slice.ensures.value ∙ c.in_ok-names-in-OnDemand.ensures ∙ ap (λ n. parts n ++ c.args.name.now ∷ []) c.as_str.ensures)
    ∙ on_demand_of (tops_in c.args.self.now) members c.args.part c.args.name.now c.args.import.now import.OnDemand c.in-OnDemand.is

pub returns-in_ok-finds-in-StaticOnDemand-clause-value : goal.returns-in_ok-finds-in-StaticOnDemand-clause-value
returns-in_ok-finds-in-StaticOnDemand-clause-value c = λ members agrees.
    c.in_ok-finds-in-StaticOnDemand.ensures.value members agrees
    ∙ ap (λ names. members_of members (imported (tops_in c.args.self.now) c.args.part names) c.args.name.now)
    (ap lent c.as_slice-in-StaticOnDemand.ensures.value ∙ c.in_ok-names-in-StaticOnDemand.ensures ∙ ap parts c.as_str-in-StaticOnDemand.ensures)
    ∙ on_demand_of (tops_in c.args.self.now) members c.args.part c.args.name.now c.args.import.now import.StaticOnDemand c.in-StaticOnDemand.is
