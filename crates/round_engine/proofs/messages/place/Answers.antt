use Rattle.std.proofs.Common.{◌≡◌, ◌+◌, ◌++◌, ◌∷◌, [], length, length-append, append_assoc, ap, sym, ◌∙◌, arith}
use Rattle.std.proofs.lemmas.Grind.{common_steps}
use Rattle.round_engine.specs.Run.{place}
use Rattle.round_engine.proofs.PlacedMessages.{placed, place_more}
use Rattle.round_engine.proofs.messages.place.Goals as goal

pub loop-message-preserved : goal.loop-message-preserved
loop-message-preserved c =
    let so_far = c.loop-message.yielded in
    let message = c.in-Some.message in
    let next : c.in_ok-number.number ≡ c.loop-message.number + 1 = grind (arith, common_steps) in
    let more : length (so_far ++ message ∷ []) ≡ length so_far + 1 = length-append so_far (message ∷ []) in
    record {
      placed = c.in_ok-push.ensures.ok ∙ ap (λ m. m ++ placed c.args.round c.args.processor c.loop-message.number message ∷ []) c.loop-message.invariant.placed
          ∙ append_assoc c.args.messages.now (place c.args.round c.args.processor 0 so_far) (placed c.args.round c.args.processor c.loop-message.number message ∷ [])
          ∙ ap (λ n. c.args.messages.now ++ (place c.args.round c.args.processor 0 so_far ++ placed c.args.round c.args.processor n message ∷ [])) c.loop-message.invariant.count
          ∙ ap (λ t. c.args.messages.now ++ t) (sym (place_more c.args.round c.args.processor so_far message));
      count = next ∙ ap (λ n. n + 1) c.loop-message.invariant.count ∙ sym more;
    }
