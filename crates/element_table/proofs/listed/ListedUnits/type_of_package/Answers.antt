use Rattle.std.proofs.Common.{sym, ap, ◌∙◌}
use Rattle.std.specs.FinMap as fin
use Rattle.element_table.specs.TableElements.{part_has_types}
use Rattle.element_table.proofs.PackageLaws.{found_declares, some_type, no_type, found-some, found-type, found-package}
use Rattle.element_table.proofs.listed.ListedUnits.type_of_package.Goals as goal

pub returns-in-Some-clause-value : goal.returns-in-Some-clause-value
returns-in-Some-clause-value c =
    let declared = found_declares c.args.package.now c.self.inside.packages c.self.inside.units c.self.invariant c.in-Some.name.now c.in-Some.ensures.member in
    found-some c.args.package.now c.get.result (fin.get c.self.inside.units c.in-Some.name.now) c.get.ensures declared
    ∙ sym (some_type c.args.package.now c.self.inside.packages c.self.inside.units c.self.invariant c.in-Some.name.now c.in-Some.ensures.member)
    ∙ ap (part_has_types c.args.package.now) c.self.view_is

pub returns-in-Some-clause-declares : goal.returns-in-Some-clause-declares
returns-in-Some-clause-declares c =
    let declared = found_declares c.args.package.now c.self.inside.packages c.self.inside.units c.self.invariant c.in-Some.name.now c.in-Some.ensures.member in
    found-type c.args.package.now c.get.result (fin.get c.self.inside.units c.in-Some.name.now) c.get.ensures declared

pub returns-in-Some-clause-package : goal.returns-in-Some-clause-package
returns-in-Some-clause-package c =
    let declared = found_declares c.args.package.now c.self.inside.packages c.self.inside.units c.self.invariant c.in-Some.name.now c.in-Some.ensures.member in
    found-package c.args.package.now c.get.result (fin.get c.self.inside.units c.in-Some.name.now) c.get.ensures declared

pub returns-in-None-clause-value : goal.returns-in-None-clause-value
returns-in-None-clause-value c =
    sym (no_type c.args.package.now c.self.inside.packages c.self.inside.units c.self.invariant c.in-None.ensures.none) ∙ ap (part_has_types c.args.package.now) c.self.view_is
