use Rattle.std.proofs.Common.{◌≡◌, true, map, sym, ap, ◌∙◌, rules}
use Rattle.decl_tree.specs.declared.compilation.UnitText.{UnitText}
use Rattle.name_resolve.specs.Finds.{Nothing, together}
use Rattle.name_resolve.specs.Shown.{find_of, finds_of}
use Rattle.expression_names.specs.Fields.{enclosing_fields, field_by_single_import, field_by_import_on_demand}
use Rattle.expression_names.proofs.NamesSplit.{simple_near, simple_single, simple_on_demand}
use Rattle.expression_names.proofs.fields.Fields.simple_field.Goals as goal

pub returns-then-not-is_nothing-clause-value : goal.returns-then-not-is_nothing-clause-value
returns-then-not-is_nothing-clause-value c =
    let near = c.in_ok-near.ensures.value in
    near ∙ simple_near c.args.self.now (find_of c.args.at.now) c.args.name.now (λ e. let yes : c.is_nothing.result ≡ true = c.is_nothing.ensures.1 (near ∙ e) in absurd (cc))

pub returns-then-not-is_nothing-2-clause-value : goal.returns-then-not-is_nothing-2-clause-value
returns-then-not-is_nothing-2-clause-value c =
    let table = c.args.self.now in
    let at = find_of c.args.at.now in
    let name = c.args.name.now in
    let imports = c.as_slice-imports.ensures ∙ c.get.ensures ∙ ap (λ (u : UnitText). u.imports) c.text.ensures.value in
    let kept = c.in_ok-near.ensures.kept in
    let single : finds_of c.in_ok-single.single ≡ together (map (field_by_single_import table at.part name) at.unit.imports) =
    c.in_ok-single.ensures.value ∙ (λ i. together (map (field_by_single_import (kept i) at.part name) (imports i))) in
    let none : enclosing_fields table at name ≡ Nothing = sym c.in_ok-near.ensures.value ∙ c.is_nothing.ensures.0 (search rules) in
    single ∙ simple_single table at name none (λ e. let yes : c.is_nothing-2.result ≡ true = c.is_nothing-2.ensures.1 (single ∙ e) in absurd (cc))

pub returns-clause-value : goal.returns-clause-value
returns-clause-value c =
    let table = c.args.self.now in
    let at = find_of c.args.at.now in
    let name = c.args.name.now in
    let imports = c.as_slice-imports.ensures ∙ c.get.ensures ∙ ap (λ (u : UnitText). u.imports) c.text.ensures.value in
    let kept = c.in_ok-near.ensures.kept in
    let single : finds_of c.in_ok-single.single ≡ together (map (field_by_single_import table at.part name) at.unit.imports) =
    c.in_ok-single.ensures.value ∙ (λ i. together (map (field_by_single_import (kept i) at.part name) (imports i))) in
    let kept_on = c.in_ok-single.ensures.kept ∙ kept in
    let none : enclosing_fields table at name ≡ Nothing = sym c.in_ok-near.ensures.value ∙ c.is_nothing.ensures.0 (search rules) in
    c.in_ok-finds.ensures.value ∙ (λ i. together (map (field_by_import_on_demand (kept_on i) at.part name) (imports i)))
    ∙ simple_on_demand table at name none (sym single ∙ c.is_nothing-2.ensures.0 (search rules))
