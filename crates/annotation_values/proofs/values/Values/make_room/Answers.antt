use Rattle.annotation_values.proofs.values.Values.make_room.Goals as goal

pub invariant_of-self : goal.invariant_of-self
invariant_of-self c = record {
  is_table = c.self.invariant.is_table;
  looks = c.self.invariant.looks;
  fields = c.self.invariant.fields;
  right = c.make_room.ensures c.self.inside.table.now c.self.invariant.right;
}
