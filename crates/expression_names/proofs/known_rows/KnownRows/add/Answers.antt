use Rattle.expression_names.proofs.known_rows.KnownRows.add.Goals as goal

pub returns : goal.returns
returns c = λ table known right. c.put.ensures table (c.make_room.ensures table known) right
