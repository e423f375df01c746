use Rattle.std.proofs.Common.{◌≡◌, map, take}
use Rattle.child_answers.specs.Replies.{root_element}
use Rattle.child_answers.proofs.answers.root_elements.Given as goal

-- the roots so far
abbrev pub invariant-loop-root : goal.invariant-loop-root
invariant-loop-root l = l.list ≡ map root_element (take l.root-index l.roots)
