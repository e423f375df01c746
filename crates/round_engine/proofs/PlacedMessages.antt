-- Messages that are placed one after another.
use Rattle.std.proofs.Common.{◌≡◌, ℕ, suc, ◌+◌, List, [], ◌∷◌, ◌++◌, length, sym, ap, ◌∙◌, arith}
use Rattle.wire_frames.specs.declared.frame.Message.{Message}
use Rattle.apt_filer.specs.declared.messages.Placed.{Placed}
use Rattle.round_engine.specs.Run.{place}

abbrev pub placed : ℕ → ℕ → ℕ → Message → Placed
placed round processor number message = record { round = round; processor = processor; number = number; message = message }

-- one more message
pub place_push : (round processor number : ℕ) (messages : List Message) (message : Message) → place round processor number (messages ++ message ∷ []) ≡ place round processor number messages ++ placed round processor (number + length messages) message ∷ []
place_push round processor number [] message = let e : number + 0 ≡ number = omega arith in ap (λ n. placed round processor n message ∷ []) (sym e)
place_push round processor number (m ∷ messages) message =
    let e : suc number + length messages ≡ number + suc (length messages) = omega arith in
    ap (λ rest. placed round processor number m ∷ rest) (place_push round processor (suc number) messages message ∙ ap (λ n. place round processor (suc number) messages ++ placed round processor n message ∷ []) e)

-- one more after those that are numbered from 0
pub place_more : (round processor : ℕ) (messages : List Message) (message : Message) → place round processor 0 (messages ++ message ∷ []) ≡ place round processor 0 messages ++ placed round processor (length messages) message ∷ []
place_more round processor messages message = let e : 0 + length messages ≡ length messages = omega arith in place_push round processor 0 messages message ∙ ap (λ n. place round processor 0 messages ++ placed round processor n message ∷ []) e
