-- What a build leaves in the tree, and what its children were shown, also where the line of a refusal wants memory.
use Rattle.std.proofs.Common.{◌≡◌, ◌≢◌, Bool, Result, Ok, Err, inr, refl, sym, subst, ℕ, List, Option, true, inl}
use Rattle.apt_outside.specs.Files.{Files}
use Rattle.apt_outside.specs.Child.{State}
use Rattle.tree_store.specs.Output.{StoresStand}
use Rattle.tree_store.specs.Storing.{AddsToStore}
use Rattle.project_units.specs.Refusals.{Refusal, Object, Tree, Sink, Children}
use Rattle.project_reading.specs.Verdicts.{Verdict, Done, Errors, Refused, Failed, Input, Memory, OrMemory, is_children, fails}
use Rattle.project_reading.specs.Endings.{EndsEarly}
use Rattle.project_reading.specs.Project.{Read}
use Rattle.apt_host.specs.Texts.{Finishes}
use Rattle.apt_host.specs.Promises.{Leaves, KeepsOutput, ShowsOver}
use Rattle.apt_host.proofs.Writing.{memory_or_not}
use Rattle.apt_host.specs.Exempt.{IsExempt}

-- ---- the tree

pub adds_none : (files : Files) → AddsToStore files files
adds_none files = record {
  kept = λ q some. refl;
  inside = record { others = λ q outside. refl };
  output = λ stand. refl;
  stand = λ stand. stand;
}

pub adds_same : (old new : Files) → new ≡ old → AddsToStore old new
adds_same old new same = subst (λ files. AddsToStore old files) (sym same) (adds_none old)

-- a refusal whose line wants memory
pub leaves_memory : (v : Verdict) (old new : Files) → v ≢ Done → Leaves v old new → AddsToStore old new
leaves_memory Done old new ne leaves = absurd (ne refl)
leaves_memory (Errors count) old new ne leaves = adds_same old new leaves
leaves_memory (Refused refusal) old new ne leaves = adds_same old new leaves
leaves_memory (Failed Tree) old new ne leaves = leaves
leaves_memory (Failed Sink) old new ne leaves = leaves
leaves_memory (Failed (Children processor)) old new ne leaves = adds_same old new leaves
leaves_memory (Input fault) old new ne leaves = absurd leaves
leaves_memory Memory old new ne leaves = leaves

-- the former output stands where no other one was published
pub leaves_keep : (v : Verdict) (old new : Files) → Leaves v old new → KeepsOutput old new v
leaves_keep v old new leaves = λ undone stand. (leaves_memory v old new undone leaves).output stand

-- and each store file that the record names
pub stands_by : (v : Verdict) (old new : Files) → v ≢ Done → Leaves v old new → StoresStand old → StoresStand new
stands_by v old new ne leaves stand = (leaves_memory v old new ne leaves).stand stand

-- a part that did not do its work, and left the tree as it was
pub leaves_early : (is : Object → Bool) (v : Verdict) (old new : Files) → EndsEarly is v → new ≡ old → Leaves v old new
leaves_early is Done old new early same = absurd early
leaves_early is (Errors count) old new early same = absurd early
leaves_early is (Refused refusal) old new early same = same
leaves_early is (Failed Tree) old new early same = adds_same old new same
leaves_early is (Failed Sink) old new early same = adds_same old new same
leaves_early is (Failed (Children processor)) old new early same = same
leaves_early is (Input fault) old new early same = absurd early
leaves_early is Memory old new early same = adds_same old new same

-- out of memory stays so, behind the line of a refusal
pub finishes_memory : (expected w : Verdict) → Finishes Memory w → OrMemory expected w
finishes_memory expected w finishes = memory_or_not w (OrMemory expected w) (λ memory. inr memory) (λ ne. absurd (ne (finishes.same ne)))

-- ---- the children

-- a refusal whose line finds no memory: the child that was exempt stays so, and where one was, the count of the children's faults rose
exempt_memory : (rose : Type 0) (v : Verdict) (exempt : Option (List ℕ)) → (fails is_children v ≡ true → rose) → IsExempt rose v exempt → IsExempt rose Memory exempt
exempt_memory rose Done exempt cause is = inl is
exempt_memory rose (Errors count) exempt cause is = inl is
exempt_memory rose (Refused refusal) exempt cause is = inl is
exempt_memory rose (Failed Tree) exempt cause is = inl is
exempt_memory rose (Failed Sink) exempt cause is = inl is
exempt_memory rose (Failed (Children processor)) exempt cause is = inr (cause refl)
exempt_memory rose (Input fault) exempt cause is = inl is
exempt_memory rose Memory exempt cause is = is

module _ (rose : Type 0) where
  pub shown_memory : (read : Result Read Refusal) (v : Verdict) (old new : State) → (fails is_children v ≡ true → rose) → ShowsOver rose read old new v → ShowsOver rose read old new Memory
  shown_memory (Err refusal) v old new cause shown = shown
  shown_memory (Ok read) v old new cause shown =
      record { by = tt; exempt = shown.exempt; is_exempt = exempt_memory rose v shown.exempt cause shown.is_exempt; fronts = shown.fronts }
