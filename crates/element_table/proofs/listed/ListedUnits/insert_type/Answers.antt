use Rattle.std.proofs.Common.{◌≡◌, false, string_bytes, ap, ◌∙◌, rules}
use Rattle.std.specs.FinMap as fin
use Rattle.decl_tree.specs.declared.compilation.UnitText.{UnitText}
use Rattle.name_index.specs.Index.{with_name_at, without_name_at}
use Rattle.name_index.proofs.IndexLaws.{has_place}
use Rattle.element_table.proofs.PackageLaws.{grown, taken_back}
use Rattle.element_table.proofs.listed.ListedUnits.insert_type.Goals as goal

pub invariant_of-self-in-Ok-insert_with_name : goal.invariant_of-self-in-Ok-insert_with_name
invariant_of-self-in-Ok-insert_with_name c =
    let packages = c.self.inside.packages in
    let name = string_bytes c.args.name in
    let free : fin.contains_key c.self.inside.units name ≡ false = ap (λ units. fin.contains_key units name) c.self.view_is ∙ c.requires.new in
    let own : c.as_str-package.result.now ≡ c.args.unit.«package» = c.as_str-package.ensures ∙ ap (λ (u : UnitText). u.«package») c.text.ensures.value in
    let longer : c.add.new.self ≡ with_name_at packages c.args.unit.«package» name = c.in-Ok.ensures.ok ∙ ap (λ at. with_name_at packages at c.as_str.result.now) own ∙ ap (with_name_at packages c.args.unit.«package») c.as_str.ensures.value in
    grown packages c.self.inside.units c.self.invariant name c.args.unit free c.add.new.self c.insert_with_name.new.self c.requires.declared longer c.in-Ok-insert_with_name.ensures.ok

pub remove-requires : goal.remove-requires
remove-requires c =
    let packages = c.self.inside.packages in
    let name = string_bytes c.args.name in
    let own : c.as_str-package.result.now ≡ c.args.unit.«package» = c.as_str-package.ensures ∙ ap (λ (u : UnitText). u.«package») c.text.ensures.value in
    let longer : c.add.new.self ≡ with_name_at packages c.args.unit.«package» name = c.in-Ok.ensures.ok ∙ ap (λ at. with_name_at packages at c.as_str.result.now) own ∙ ap (with_name_at packages c.args.unit.«package») c.as_str.ensures.value in
    let unit_back : c.in-Err-insert_with_name.unit ≡ c.args.unit = search rules in
    let again : c.as_str-package-in-Err-insert_with_name.result.now ≡ c.args.unit.«package» = c.as_str-package-in-Err-insert_with_name.ensures ∙ ap (λ (u : UnitText). u.«package») (c.text-in-Err-insert_with_name.ensures.value ∙ unit_back) in
    ap (fin.contains_key c.add.new.self) again ∙ ap (λ index. fin.contains_key index c.args.unit.«package») longer ∙ has_place packages c.args.unit.«package» name

pub invariant_of-self-in-Err-insert_with_name : goal.invariant_of-self-in-Err-insert_with_name
invariant_of-self-in-Err-insert_with_name c =
    let packages = c.self.inside.packages in
    let name = string_bytes c.args.name in
    let free : fin.contains_key c.self.inside.units name ≡ false = ap (λ units. fin.contains_key units name) c.self.view_is ∙ c.requires.new in
    let own : c.as_str-package.result.now ≡ c.args.unit.«package» = c.as_str-package.ensures ∙ ap (λ (u : UnitText). u.«package») c.text.ensures.value in
    let longer : c.add.new.self ≡ with_name_at packages c.args.unit.«package» name = c.in-Ok.ensures.ok ∙ ap (λ at. with_name_at packages at c.as_str.result.now) own ∙ ap (with_name_at packages c.args.unit.«package») c.as_str.ensures.value in
    let unit_back : c.in-Err-insert_with_name.unit ≡ c.args.unit = search rules in
    let name_back : string_bytes c.in-Err-insert_with_name.name ≡ name = search rules in
    let again : c.as_str-package-in-Err-insert_with_name.result.now ≡ c.args.unit.«package» = c.as_str-package-in-Err-insert_with_name.ensures ∙ ap (λ (u : UnitText). u.«package») (c.text-in-Err-insert_with_name.ensures.value ∙ unit_back) in
    let shorter : c.remove.new.self ≡ without_name_at c.add.new.self c.args.unit.«package» name =
    c.remove.ensures
    ∙ ap (λ at. without_name_at c.add.new.self at c.as_str-in-Err-insert_with_name.result.now) again
    ∙ ap (without_name_at c.add.new.self c.args.unit.«package») (c.as_str-in-Err-insert_with_name.ensures.value ∙ name_back) in
    taken_back packages c.self.inside.units c.self.invariant name c.args.unit free c.args.unit.«package» c.add.new.self c.remove.new.self c.insert_with_name.new.self longer shorter c.in-Err-insert_with_name.ensures.err
