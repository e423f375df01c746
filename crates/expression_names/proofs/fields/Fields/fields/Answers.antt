use Rattle.expression_names.proofs.fields.Fields.fields.Goals as goal

pub invariant_of-self : goal.invariant_of-self
invariant_of-self c = record {
  is_table = c.self.invariant.is_table;
  over = c.self.invariant.over;
  right = c.make_room.ensures c.self.inside.table.now c.self.invariant.right;
  known = c.self.invariant.known;
}
