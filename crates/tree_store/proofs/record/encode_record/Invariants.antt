use Rattle.std.proofs.Common.{◌≡◌, ◌++◌, All, length, take}
use Rattle.std.specs.Int.{w32, to_be_bytes}
use Rattle.std.specs.List.{flat_map}
use Rattle.tree_store.specs.RecordFormat.{record_head, entry_form, IsEntry}
use Rattle.tree_store.proofs.record.encode_record.Given as goal

-- the head, the count and the entries so far are written, and these are read again
abbrev pub invariant-loop-file : goal.invariant-loop-file
invariant-loop-file l =
    let front = take l.file-index l.file-items in
    record {
      form : l.writer ≡ record_head ++ to_be_bytes w32 (length l.files) ++ flat_map entry_form front;
      entries : All IsEntry front;
    }
