-- Bytes that are added to an output one after another.
use Rattle.std.proofs.Common.{◌≡◌, ℕ, ◌+◌, ◌<◌, List, [], ◌∷◌, ◌++◌, length, take, get_or, Result, Ok, Err, refl, sym, ap, subst, ◌∙◌, append_assoc, append-nil, length-append, arith}
use Rattle.std.specs.List.{flat_map}
use Rattle.std.proofs.lemmas.List.{flat_map_more, take_more}
use Rattle.wire_frames.specs.declared.output.Output.{Output}
use Rattle.wire_frames.specs.declared.output.Output.TheVariants.{Counted, Written}
use Rattle.wire_frames.specs.Outputs.{counted, added, is_written, Adds, written_to}

counted-counted : (size a b : ℕ) → counted (counted size a) b ≡ counted size (a + b)
counted-counted size a b = omega arith

pub added-append : (o : Output) (a b : List ℕ) → added (added o a) b ≡ added o (a ++ b)
unfolding added
added-append (Counted size) a b = ap Counted (counted-counted size (length a) (length b) ∙ ap (counted size) (sym (length-append a b)))
added-append (Written written) a b = ap Written (append_assoc written a b)

pub added-nil : (o : Output) → added o [] ≡ o
unfolding added
added-nil (Counted size) = ap Counted (omega arith)
added-nil (Written written) = ap Written (append-nil written)

-- what is added to does not change whether it writes
pub is_written-added : (o : Output) (a : List ℕ) → is_written (added o a) ≡ is_written o
unfolding added is_written
is_written-added (Counted size) a = refl
is_written-added (Written written) a = refl

-- one item more
pub added_next : {A : Type 0} (f : A → List ℕ) (o p q : Output) (front : List ℕ) (items : List A) (i : ℕ) (item d : A) → i < length items → item ≡ get_or items i d → p ≡ added o (front ++ flat_map f (take i items)) → q ≡ added p (f item) → q ≡ added o (front ++ flat_map f (take (i + 1) items))
added_next f o p q front items i item d lt is e h =
    h ∙ ap (λ (x : Output). added x (f item)) e ∙ added-append o (front ++ flat_map f (take i items)) (f item) ∙ ap (added o) (flat_map_more f front (take i items) item)
    ∙ ap (λ (x : _). added o (front ++ flat_map f (take i items ++ x ∷ []))) is ∙ ap (λ (t : List _). added o (front ++ flat_map f t)) (sym (take_more items i d lt))

-- other bytes that are the same
pub same_bytes : {T E : Type 0} (r : Result T E) (o' o : Output) (a b : List ℕ) → Adds r o o' a → b ≡ a → Adds r o o' b
same_bytes r o' o a b h e = subst (λ (x : List ℕ). Adds r o o' x) (sym e) h

-- and then some more
pub more_bytes : {T E : Type 0} (r : Result T E) (o'' o' o : Output) (a b : List ℕ) → Adds r o' o'' b → o' ≡ added o a → Adds r o o'' (a ++ b)
more_bytes (Ok x) o'' o' o a b h e = h ∙ ap (λ (y : Output). added y b) e ∙ added-append o a b
more_bytes (Err x) o'' o' o a b h e = sym (is_written-added o a) ∙ ap is_written (sym e) ∙ h

-- what was added to a writer of nothing yet
pub written_added : (w a b : List ℕ) → w ≡ [] → written_to (added (added (Written w) a) b) ≡ a ++ b
unfolding added
written_added w a b e = ap (λ (t : List ℕ). (t ++ a) ++ b) e

pub ruleset adds = (added-append, added-nil, is_written-added)
