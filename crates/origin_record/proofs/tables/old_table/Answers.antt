use Rattle.origin_record.specs.OldTables.{table_at}
use Rattle.origin_record.proofs.RoundTables.{table_before, no_table}
use Rattle.origin_record.proofs.tables.old_table.Goals as goal

-- the record's units all enter, so those up to a round do
pub unreachable-requires : goal.unreachable-requires
unreachable-requires c =
    no_table (table_at c.args.value.now c.args.round) (table_before c.args.value.now c.args.round c.requires.enters) (rw c.in-Err-Bad.field-0-is at c.in-Err-Bad.ensures)
