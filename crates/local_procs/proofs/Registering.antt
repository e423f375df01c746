-- What registry sends, by what it remembers.
use Rattle.std.proofs.Common.{◌≡◌, ℕ, Bool, true, false, List, not, ◌&&◌, refl, sym, ap, ◌∙◌}
use Rattle.apt_base.specs.Names.{NameSet, names_in}
use Rattle.frame_forms.specs.declared.question_row.NameQuestion.TheVariants.{AnnotatedWith}
use Rattle.wire_frames.specs.Limits.{is_too_large}
use Rattle.wire_frames.specs.declared.frame.Frame.{Frame}
use Rattle.wire_frames.specs.declared.frame.Frame.TheVariants as frame
use Rattle.wire_frames.specs.declared.question.Question.TheVariants as question
use Rattle.local_procs.specs.Plans.{Plan, Ends, Sends, sendable, nothing}
use Rattle.local_procs.specs.Contents.{is_empty}
use Rattle.local_procs.specs.Registry.{registered, file_of, after_file, writes, after_registered, registers}
use Rattle.local_procs.proofs.Sending.{kept_sent, small_sent, large_sent}

module _ (over : Bool) (kept : NameSet) where
  pub written_before_last : over ≡ false → Ends kept ≡ sendable (writes over kept)
  unfolding writes
  written_before_last h = rw h (sym (kept_sent kept))

  pub written_without_names : (names : List (List ℕ)) → over ≡ true → names ≡ names_in kept → is_empty names ≡ true → Ends kept ≡ sendable (writes over kept)
  unfolding writes
  written_without_names names h k e = rw (h, sym k, e) (sym (kept_sent kept))

  writes_file : (names : List (List ℕ)) → over ≡ true → names ≡ names_in kept → is_empty names ≡ false → writes over kept ≡ Sends (file_of names) (after_file kept)
  unfolding writes
  writes_file names h k e = rw (h, sym k, e) refl

  module _ (names : List (List ℕ)) (of : Frame) (last : over ≡ true) (all : names ≡ names_in kept) (some : is_empty names ≡ false) (is : of ≡ file_of names) where
    pub written_too_large : is_too_large of ≡ true → Ends kept ≡ sendable (writes over kept)
    written_too_large large =
        sym (ap sendable (writes_file names last all some) ∙ large_sent (file_of names) (after_file kept) (ap is_too_large (sym is) ∙ large) ∙ kept_sent kept)

    pub written_small : is_too_large of ≡ false → Sends of (after_file kept) ≡ sendable (writes over kept)
    written_small small =
        ap (λ (f : Frame). Sends f (after_file kept)) is
        ∙ sym (ap sendable (writes_file names last all some) ∙ small_sent (file_of names) (after_file kept) (ap is_too_large (sym is) ∙ small))

abbrev pub asking : Frame
asking = frame.Ask (question.Name AnnotatedWith registered)

module _ (there over : Bool) (kept : NameSet) where
  pub not_registered : there ≡ false → writes over kept ≡ registers there over kept
  not_registered h = rw h refl

  module _ (of : Frame) (offered : there ≡ true) (is : of ≡ asking) where
    pub asked_too_large : is_too_large of ≡ true → sendable (after_registered over kept nothing) ≡ sendable (registers there over kept)
    asked_too_large large = rw offered (sym (large_sent asking (after_registered over kept) (ap is_too_large (sym is) ∙ large)))

    pub asked_small : is_too_large of ≡ false → Sends of (after_registered over kept) ≡ sendable (registers there over kept)
    asked_small small =
        rw offered (ap (λ (f : Frame). Sends f (after_registered over kept)) is
        ∙ sym (small_sent asking (after_registered over kept) (ap is_too_large (sym is) ∙ small)))
