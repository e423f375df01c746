-- What holds of each entry of a run, by the three sorts of entries.
use Rattle.std.proofs.Common.{Bool, true, false, List, [], ◌∷◌, map, if◌then◌else◌}
use Rattle.std.specs.List.{AllByRecursion}
use Rattle.record_forms.specs.declared.record.Entry.{Entry}
use Rattle.run_entries.specs.declared.processed.Processed.{Processed}
use Rattle.run_entries.specs.Entries.{entry_at, entry_left, whole_entry, if_some_left, isolating_entries, entries_by, entries_of}
use Rattle.run_entries.specs.Kinds.{is_isolating}
use Rattle.run_entries.specs.Maps.{Stores}
use Rattle.run_entries.specs.Outputs.{Root, leaves_some}
use Rattle.entry_laws.proofs.Ascending.{all_append, all_mapped}

module _ (stores : Stores) (P : Entry → Type 0) where
  -- it holds of the entry of each root, of that of what is left, and of that of the whole round
  pub record HoldsOf (done : Processed) : Type 0 where
    pub roots : AllByRecursion (λ (root : Root). P (entry_at stores done root)) done.annotated
    pub left : P (entry_left stores done)
    pub whole : P (whole_entry stores done)

  holds_left : (done : Processed) → P (entry_left stores done) → AllByRecursion P (if_some_left stores done)
  holds_left done left = go (leaves_some done)
    where
      go : (b : Bool) → AllByRecursion P (if b then entry_left stores done ∷ [] else [])
      go true = (left, tt)
      go false = tt

  pub each_by : (done : Processed) → HoldsOf done → AllByRecursion P (entries_by stores done)
  unfolding entries_by isolating_entries
  each_by done holds = go (is_isolating done.kind)
    where
      go : (b : Bool) → AllByRecursion P (if b then isolating_entries stores done else whole_entry stores done ∷ [])
      go true =
          all_append P (if_some_left stores done) (map (entry_at stores done) done.annotated) (holds_left done holds.left)
          (all_mapped P (entry_at stores done) done.annotated holds.roots)
      go false = (holds.whole, tt)

  pub each_entry : (processed : List Processed) → AllByRecursion HoldsOf processed → AllByRecursion P (entries_of stores processed)
  each_entry [] all = tt
  each_entry (done ∷ processed) all = all_append P (entries_by stores done) (entries_of stores processed) (each_by done all.0) (each_entry processed all.1)
