use Rattle.std.proofs.Common.{◌≡◌, ◌++◌, ◌∷◌, [], length, map, ap, ◌∙◌, rules, List, ℕ, Vec}
use Rattle.std.proofs.lemmas.List.{length-map}
use Rattle.std.specs.declared.alloc.Global.{Global}
use Rattle.apt_outside.specs.Scripted.{frames_of}
use Rattle.apt_outside.proofs.Joined.{joined_more}
use Rattle.apt_outside.proofs.scripting.add_frame.Goals as goal

pub returns-clause-joined : goal.returns-clause-joined
returns-clause-joined c =
    let shown : Vec ℕ Global → List ℕ = λ f. f.items in
    let old = c.args.started.now in
    let frames : map shown c.push_frame.new.frames.items ≡ frames_of old ++ c.args.frame.now ∷ [] = c.in_ok-push_frame.ensures.ok ∙ ap (λ sent. map shown sent.items ++ c.args.frame.now ∷ []) c.in_ok-make_room.ensures.sent in
    let joined : c.extend_from_slice.new.self.items ≡ old.joined.items ++ c.args.frame.now = search rules in
    let said : c.extend_from_slice-2.new.self.items ≡ old.said.items ++ c.answer_after-answer.result.now = search rules in
    let count : length (frames_of old) ≡ c.len.result = length-map old.sent.items shown ∙ search rules in
    joined_more c.args.scripts.now.items old _ c.in_ok-make_room.ensures.call c.requires c.args.frame.now c.answer_after-answer.result.now c.len.result frames joined said count (search rules)
