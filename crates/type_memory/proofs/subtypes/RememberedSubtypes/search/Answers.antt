use Rattle.std.proofs.Common.{refl, subst}
use Rattle.type_memory.specs.Known.{Known, Grows, known_of}
use Rattle.type_memory.proofs.GrownTypes.{grows-searched}
use Rattle.type_memory.proofs.RememberedAnswers.{right-grown}
use Rattle.type_memory.proofs.subtypes.RememberedSubtypes.search.Goals as goal

pub invariant_of-self : goal.invariant_of-self
invariant_of-self c =
    right-grown c.self.inside.table.now c.self.inside.known c.related.new.types c.self.inside.answers c.related.ensures.grows.same
    (grows-searched c.self.inside.known c.related.new.types c.related.ensures.grows) c.self.invariant

pub returns-in_err-answer-clause-grows : goal.returns-in_err-answer-clause-grows
returns-in_err-answer-clause-grows c =
    subst (λ (k : Known). Grows k (known_of c.self.inside.table.now c.related.new.types.types)) c.self.view_is
    (record { table = refl; types = grows-searched c.self.inside.known c.related.new.types c.related.ensures.grows })

pub invariant_of-self-2 : goal.invariant_of-self-2
invariant_of-self-2 c =
    right-grown c.self.inside.table.now c.self.inside.known c.related.new.types c.self.inside.answers c.related.ensures.grows.same
    (grows-searched c.self.inside.known c.related.new.types c.related.ensures.grows) c.self.invariant

pub returns-clause-grows : goal.returns-clause-grows
returns-clause-grows c =
    subst (λ (k : Known). Grows k (known_of c.self.inside.table.now c.related.new.types.types)) c.self.view_is
    (record { table = refl; types = grows-searched c.self.inside.known c.related.new.types c.related.ensures.grows })
