use Rattle.std.proofs.Common.{◌≡◌, IfOk, IsTrue, ◌↔◌, Bool, Option, subst}
use Rattle.apt_base.specs.declared.element.ElementRef.{ElementRef}
use Rattle.type_queries.specs.MemberQuestion.{IsIn, is_in}
use Rattle.type_queries.proofs.member_type.is_member_of.Goals as goal

pub returns-in-Some-clause-kind : goal.returns-in-Some-clause-kind
returns-in-Some-clause-kind c =
    subst (λ (from : Option ElementRef). IfOk c.is_in.result (λ r. IsTrue r ↔ IsIn c.args.table.now from c.args.at.now))
    c.in-Some.ensures c.is_in.ensures.kind

pub returns-in-Some-clause-test : goal.returns-in-Some-clause-test
returns-in-Some-clause-test c =
    subst (λ (from : Option ElementRef). IfOk c.is_in.result (λ r. r ≡ is_in c.args.table.now from c.args.at.now))
    c.in-Some.ensures c.is_in.ensures.test
