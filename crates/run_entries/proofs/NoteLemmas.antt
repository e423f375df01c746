-- Notes that are found, and those of one processor after another.
use Rattle.std.proofs.Common.{◌≡◌, ℕ, ◌+◌, ◌-◌, ◌<◌, Bool, true, false, ◌&&◌, List, [], ◌∷◌, ◌++◌, refl, sym, ap, ◌∙◌, append_assoc}
use Rattle.std.specs.List.{flat_map, range_with_len}
use Rattle.record_forms.specs.declared.record.Note.{Note}
use Rattle.record_forms.specs.declared.record.NoteKind.{NoteKind}
use Rattle.run_entries.specs.declared.processed.Processed.{Processed}
use Rattle.run_entries.specs.declared.parts.Left.{Left}
use Rattle.run_entries.specs.Kinds.{is_isolating}
use Rattle.run_entries.specs.Notes.{is_unattributed, notes_on}
use Rattle.run_entries.specs.Outputs.{leaves_some}
use Rattle.run_entries.specs.Roots.{AreLeft, has_some}
use Rattle.run_entries.proofs.PositionLemmas.{range-next}
use Rattle.run_entries.proofs.RootLemmas.{some_left}

abbrev pub note_on : ℕ → NoteKind → Note
note_on number kind = record { processor = number; kind = kind }

-- of an isolating processor it is whether something is left
pub unattributed_by : (done : Processed) (left : Left) (k b : Bool) → k ≡ is_isolating done.kind → k ≡ true → b ≡ has_some left → AreLeft done left → b ≡ is_unattributed done
unattributed_by done left k b is holds e so = e ∙ some_left done left so ∙ sym (ap (λ (i : Bool). i && leaves_some done) (sym is ∙ holds))

-- the notes of one processor more
pub notes_step : (found list new : List Note) (i n : ℕ) → i < n → new ≡ list ++ notes_on found i
    → new ++ flat_map (notes_on found) (range_with_len (i + 1) (n - (i + 1))) ≡ list ++ flat_map (notes_on found) (range_with_len i (n - i))
notes_step found list new i n lt is =
    ap (λ (l : List Note). l ++ flat_map (notes_on found) (range_with_len (i + 1) (n - (i + 1)))) is
    ∙ append_assoc list (notes_on found i) (flat_map (notes_on found) (range_with_len (i + 1) (n - (i + 1))))
    ∙ ap (λ (l : List ℕ). list ++ flat_map (notes_on found) l) (sym (range-next i n lt))
