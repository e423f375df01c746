use Rattle.std.proofs.Common.{subst, sym, ◌∙◌}
use Rattle.name_resolve.specs.Placed.{IsPlaced}
use Rattle.name_resolve.specs.Shown.{find_of}
use Rattle.expression_names.proofs.NamedFields.{new-fields, rows-right}
use Rattle.expression_names.proofs.fields.Fields.own_fields.Goals as goal

pub invariant_of-self-in_err-add : goal.invariant_of-self-in_err-add
invariant_of-self-in_err-add c =
    let table = c.self.inside.table.now in
    let placed = subst (λ u. IsPlaced u (find_of c.args.of.now)) (sym c.self.view_is) c.requires.placed in record {
      is_table = c.self.invariant.is_table;
      over = c.self.invariant.over;
      right = c.self.invariant.right;
      known = c.add.ensures table (c.is_asked_again.ensures table c.self.invariant.known)
          (rows-right table c.in_ok-rows.rows (find_of c.args.of.now) c.in_ok-rows.ensures.of placed c.in_ok-rows.ensures.value);
    }

pub invariant_of-self-2 : goal.invariant_of-self-2
invariant_of-self-2 c =
    let table = c.self.inside.table.now in
    let placed = subst (λ u. IsPlaced u (find_of c.args.of.now)) (sym c.self.view_is) c.requires.placed in record {
      is_table = c.self.invariant.is_table;
      over = c.self.invariant.over;
      right = c.self.invariant.right;
      known = c.add.ensures table (c.is_asked_again.ensures table c.self.invariant.known)
          (rows-right table c.in_ok-rows.rows (find_of c.args.of.now) c.in_ok-rows.ensures.of placed c.in_ok-rows.ensures.value);
    }

pub returns-clause-value : goal.returns-clause-value
returns-clause-value c =
    c.in_ok-finds-2.ensures ∙ new-fields c.in_ok-rows.rows (find_of c.args.of.now) c.args.name.now c.in_ok-rows.ensures.of c.in_ok-rows.ensures.value
