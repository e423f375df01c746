-- What was written in two steps.
use Rattle.std.proofs.Common.{◌≡◌, ℕ, List, ◌++◌, Result, Ok, Err, sym, ap, ◌∙◌, append_assoc}
use Rattle.std.specs.Prelude.{OnOk}

-- f was written before, and g by the call that returned r
pub written : {E : Type 0} (r : Result (Unit {0}) E) (old mid new f g whole : List ℕ) → mid ≡ old ++ f → whole ≡ f ++ g → OnOk r (new ≡ mid ++ g) → OnOk r (new ≡ old ++ whole)
written (Ok u) old mid new f g whole m w h = h ∙ ap (λ (t : List ℕ). t ++ g) m ∙ append_assoc old f g ∙ ap (λ (t : List ℕ). old ++ t) (sym w)
written (Err e) old mid new f g whole m w h = tt
