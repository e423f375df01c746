-- What a child with one of the processors says to the frames of its host, one frame to each.
use Rattle.std.specs.Prelude.{ℕ, Bool, true, false, List, [], ◌∷◌, codes, Result, Ok, Err}
use Rattle.std.specs.List.{list_any}
use Rattle.std.specs.Str.{bytes_eq}
use Rattle.std.specs.FinMap as fin
use Rattle.apt_base.specs.Names.{NameSet}
use Rattle.apt_base.specs.declared.kinds.Claim.{Claim}
use Rattle.apt_base.specs.declared.kinds.Claim.TheVariants.{Always, Never, Varies}
use Rattle.wire_frames.specs.declared.frame.Frame.{Frame}
use Rattle.wire_frames.specs.declared.frame.Frame.TheVariants as frame
use Rattle.wire_frames.specs.declared.frame.Hello.{Hello}
use Rattle.wire_frames.specs.declared.reply.Reply.{Reply}
use Rattle.frame_breaches.specs.declared.breach.Breach.{Breach}
use Rattle.frame_breaches.specs.Breaches.{stray}
use Rattle.local_procs.specs.declared.local.Local.{Local}
use Rattle.local_procs.specs.declared.local.Local.TheVariants.{Builder, Checker, Chain, Registry}
use Rattle.local_procs.specs.Plans.{Plan, Ends, Sends, done, sendable, each_of}
use Rattle.local_procs.specs.Contents.{elements_in, roots_frame}
use Rattle.local_procs.specs.Builder.{built}
use Rattle.local_procs.specs.Chain.{chained}
use Rattle.local_procs.specs.Checker.{checked}
use Rattle.local_procs.specs.Registry.{registered, registers}
use Rattle.local_procs.specs.Stages.{plan_for}

-- ---- Hello

-- the annotation that it supports
abbrev pub annotation_of : Local → List ℕ
annotation_of Builder = built
annotation_of Checker = checked
annotation_of Chain = chained
annotation_of Registry = registered

abbrev pub options_of : Local → List (List ℕ)
options_of Builder = codes "org.gradle.annotation.processing.isolating" ∷ []
options_of Checker = []
options_of Chain = []
options_of Registry = codes "org.gradle.annotation.processing.aggregating" ∷ []

abbrev pub claim_of : Local → Claim
claim_of Builder = Always
claim_of Checker = Never
claim_of Chain = Always
claim_of Registry = Always

abbrev pub hello_of : Local → Hello
hello_of local = record { patterns = annotation_of local ∷ []; options = options_of local; claim = claim_of local }

-- what each of its Dones says
abbrev pub is_claiming : Claim → Bool
is_claiming Always = true
is_claiming Never = false
is_claiming Varies = false

-- ---- a round

abbrev pub is_offered : List ℕ → List (List ℕ) → Bool
is_offered name offered = list_any (bytes_eq name) offered

unfoldable pub after_roots : Local → Reply → Plan
after_roots local answer = each_of (plan_for local) (elements_in answer)

-- of one that goes from root to root, by whether its annotation is offered
abbrev pub goes : Local → Bool → Plan
goes local true = Sends roots_frame (after_roots local)
goes local false = done

-- by whether its annotation is offered, whether the round is the last one, and what is remembered so far
abbrev pub begins : Local → Bool → Bool → NameSet → Plan
begins Registry there over kept = registers there over kept
begins local there over kept = goes local there

-- ---- one frame after another

-- where a child stands: before Init, between rounds with the names that it remembers, or waiting for a reply
pub data At : Type 0 where
  Unbegun : At
  Rests : NameSet → At
  Waits : (Reply → Plan) → At

-- what it says, and where it stands then
abbrev pub Answer : Type 0
Answer = Frame × At

abbrev pub done_frame : Local → Frame
done_frame local = frame.Done (is_claiming (claim_of local))

abbrev pub answer_by : Local → Plan → Answer
answer_by local (Ends kept) = (done_frame local, Rests kept)
answer_by local (Sends sent go) = (sent, Waits go)

abbrev pub goes_on : Local → Plan → Result Answer Breach
goes_on local plan = Ok (answer_by local (sendable plan))

-- Init comes first, then rounds, and replies within a round. Any other frame leaves the protocol.
unfoldable pub step : Local → At → Frame → Result Answer Breach
step local Unbegun (frame.Init init) = Ok (frame.Hello (hello_of local), Rests fin.empty)
step local (Rests kept) (frame.Round number over error offered roots) =
    goes_on local (begins local (is_offered (annotation_of local) offered) over kept)
step local (Waits go) (frame.Reply answer) = goes_on local (go answer)
step local at other = Err (stray other)
