use Rattle.std.proofs.Common.{◌≡◌, OnOk, sym, ap, subst, ◌∙◌}
use Rattle.apt_base.specs.Names.{with_names, names_in}
use Rattle.name_index.specs.Index.{or_empty}
use Rattle.element_table.specs.PackageTypes.{types_declared}
use Rattle.element_table.proofs.PackageLaws.{with_types, no_types}
use Rattle.element_table.proofs.listed.ListedUnits.add_types.Goals as goal

pub returns-in-Some : goal.returns-in-Some
returns-in-Some c =
    subst (λ names. OnOk c.insert_all.result (c.insert_all.new.self ≡ names))
    (ap (λ names. with_names c.args.all.now (names_in names)) (ap or_empty c.in-Some.ensures)
    ∙ with_types c.args.package.now c.self.inside.packages c.self.inside.units c.self.invariant c.args.all.now
    ∙ ap (λ units. with_names c.args.all.now (types_declared c.args.package.now units)) c.self.view_is)
    c.insert_all.ensures

pub returns-in-None : goal.returns-in-None
returns-in-None c =
    no_types c.args.package.now c.self.inside.packages c.self.inside.units c.self.invariant (ap or_empty (sym c.in-None.ensures)) c.args.all.now
    ∙ ap (λ units. with_names c.args.all.now (types_declared c.args.package.now units)) c.self.view_is
