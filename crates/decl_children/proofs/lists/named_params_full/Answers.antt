use Rattle.std.proofs.Common.{arith}
use Rattle.decl_limits.specs.Children.{generic_name}
use Rattle.decl_children.proofs.CommaRows.{unread, was-read}
use Rattle.decl_children.proofs.ParamOnes.{reads-less}
use Rattle.decl_children.proofs.WalkTells.{params-none, params-tell}
use Rattle.decl_children.proofs.lists.named_params_full.Goals as goal

pub returns-in_default : goal.returns-in_default
returns-in_default c = params-none c.args.room c.args.symbols.now c.requires.room (unread (λ x. (tt, x.now)) c.generic_name_of.result _ c.generic_name_of.ensures (rw c.in_default.is at c.in_ok-rest.ensures))

pub params_crowd-requires : goal.params_crowd-requires
params_crowd-requires c =
    let e = was-read (λ x. (tt, x.now)) c.generic_name_of.result _ _ c.generic_name_of.ensures (rw c.in-Some.is at c.in_ok-rest.ensures) in
    record { room = omega (arith, c.requires.room, reads-less generic_name c.args.room c.args.symbols.now tt c.in-Some.rest.now e) }

pub returns : goal.returns
returns c =
    let e = was-read (λ x. (tt, x.now)) c.generic_name_of.result _ _ c.generic_name_of.ensures (rw c.in-Some.is at c.in_ok-rest.ensures) in
    params-tell c.args.room c.args.symbols.now c.in-Some.rest.now c.params_crowd.result c.requires.room e c.params_crowd.ensures
