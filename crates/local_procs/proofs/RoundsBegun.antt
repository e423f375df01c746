-- What a round begins with.
use Rattle.std.proofs.Common.{◌≡◌, ℕ, Bool, true, false, List, sym, ap, ◌∙◌}
use Rattle.wire_frames.specs.Limits.{is_too_large}
use Rattle.wire_frames.specs.declared.frame.Frame.{Frame}
use Rattle.local_procs.specs.declared.local.Local.{Local}
use Rattle.local_procs.specs.Contents.{roots_frame}
use Rattle.local_procs.specs.Plans.{Sends, done, sendable, nothing}
use Rattle.local_procs.specs.Says.{Answer, Waits, annotation_of, is_offered, goes, after_roots}
use Rattle.local_procs.proofs.Sending.{ends_sent, small_sent, large_sent}

pub offer_is : (local : Local) (offered : List (List ℕ)) (name : List ℕ) (found b : Bool)
    → found ≡ is_offered name offered → name ≡ annotation_of local → found ≡ b → is_offered (annotation_of local) offered ≡ b
offer_is local offered name found b is same test = ap (λ n. is_offered n offered) (sym same) ∙ sym is ∙ test

pub roots_test : (frame : Frame) (found b : Bool) → frame ≡ roots_frame → found ≡ is_too_large frame → found ≡ b → is_too_large roots_frame ≡ b
roots_test frame found b is same test = ap is_too_large (sym is) ∙ sym same ∙ test

abbrev pub waits_with : Local → Frame → Answer
waits_with local frame = (frame, Waits (after_roots local))

pub not_offered : (local : Local) (there : Bool) → there ≡ false → sendable (goes local there) ≡ done
not_offered local there h = rw h ends_sent

pub roots_small : (local : Local) (there : Bool) → there ≡ true → is_too_large roots_frame ≡ false → sendable (goes local there) ≡ Sends roots_frame (after_roots local)
roots_small local there h k = rw h (small_sent roots_frame (after_roots local) k)

pub roots_large : (local : Local) (there : Bool) → there ≡ true → is_too_large roots_frame ≡ true → sendable (goes local there) ≡ sendable (after_roots local nothing)
roots_large local there h k = rw h (large_sent roots_frame (after_roots local) k)
