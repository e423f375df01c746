use Rattle.std.proofs.Common.{◌≡◌, ◌++◌, ◌+◌, ◌∷◌, [], List, length, take, ap, sym, ◌∙◌}
use Rattle.std.specs.Int.{w32, to_be_bytes}
use Rattle.std.specs.List.{flat_map}
use Rattle.std.proofs.lemmas.List.{take_more, take_all, flat_map_more}
use Rattle.std.proofs.lemmas.List.Elements.{All-more}
use Rattle.tree_store.specs.declared.record.StoredFile.{StoredFile}
use Rattle.tree_store.specs.RecordFormat.{record_head, entry_form, record_form, read_record, IsEntry}
use Rattle.tree_store.proofs.RecordFormatLemmas.{read_record-spelled, read_record-record_form}
use Rattle.tree_store.proofs.record.encode_record.Goals as goal

pub loop-file-preserved : goal.loop-file-preserved
loop-file-preserved c =
    let items = c.as_slice-file-items.result.now in
    let i = c.loop-file.file-index in
    let file = c.file-item.result in
    let head = record_head ++ to_be_bytes w32 (length c.args.files.now) in
    let next : take (i + 1) items ≡ take i items ++ file ∷ [] = take_more items i file c.loop-file-test.true ∙ ap (λ (f : StoredFile). take i items ++ f ∷ []) (sym c.file-item.is) in
    record {
      form = c.in_ok-put_entry.ensures.form ∙ ap (λ (w : List _). w ++ entry_form file) c.loop-file.invariant.form ∙ flat_map_more entry_form head (take i items) file ∙ ap (λ (fs : List StoredFile). head ++ flat_map entry_form fs) (sym next);
      entries = All-more IsEntry items i file c.loop-file-test.true c.loop-file.invariant.entries (rw (← c.file-item.is) c.in_ok-put_entry.ensures.entry);
    }

pub returns-clause-form : goal.returns-clause-form
unfolding record_form
returns-clause-form c =
    let all : take c.loop-file.file-index c.as_slice-file-items.result.now ≡ c.args.files.now = take_all _ _ c.loop-file-test.false ∙ c.as_slice-file-items.ensures in
    c.into_bytes.ensures ∙ rw all at c.loop-file.invariant.form

pub returns-clause-again : goal.returns-clause-again
returns-clause-again c = λ ascending.
    let all : take c.loop-file.file-index c.as_slice-file-items.result.now ≡ c.args.files.now = take_all _ _ c.loop-file-test.false ∙ c.as_slice-file-items.ensures in
    ap read_record (returns-clause-form c) ∙ read_record-record_form c.args.files.now (record { count = c.requires.count; entries = rw all at c.loop-file.invariant.entries; ascending = ascending })

pub returns-clause-only : goal.returns-clause-only
returns-clause-only c = λ other fits reads. (read_record-spelled other c.args.files.now fits reads).0 ∙ sym (returns-clause-form c)
