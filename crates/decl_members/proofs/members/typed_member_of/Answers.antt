use Rattle.std.proofs.Common.{◌≡◌, [], ◌∷◌, ◌++◌, sym, ap, ◌∙◌}
use Rattle.decl_tree.specs.declared.type_text.BaseType.TheVariants as base
use Rattle.decl_grammar.specs.Reading.{done}
use Rattle.decl_grammar.specs.Form.{turned}
use Rattle.decl_grammar.specs.Constants.{named_part_of, type_of}
use Rattle.decl_grammar.specs.Grammar.{rest_form}
use Rattle.decl_grammar.specs.Rule.{reads}
use Rattle.decl_types.specs.Members.{named_as}
use Rattle.decl_members.proofs.TypedMembers.{typed-joined, gives-moved}
use Rattle.decl_members.proofs.members.typed_member_of.Goals as goal

pub returns : goal.returns
returns c =
    gives-moved (λ x. (x.0, x.1.now)) c.member_rest_of.result (turned (named_as (type_of (base.Named c.from_vec.result) c.from_vec-around.result) c.in_ok-name.name) (reads c.args.room (rest_form c.args.kind) c.in_ok-name.rest.now)) _
    (typed-joined c.args.room c.args.kind c.args.first c.in_ok-name.name c.in_ok-arguments.arguments _ c.in_ok-parts.parts.items c.in_ok-dims.dims.items (type_of (base.Named c.from_vec.result) c.from_vec-around.result) c.args.symbols.now c.in_ok-arguments.rest.now c.in_ok-parts.rest.now c.in_ok-dims.rest.now c.in_ok-name.rest.now
    c.in_ok-arguments.ensures
    (c.in_ok-push.ensures.items ∙ ap (λ fs. fs ++ named_part_of c.args.first.name c.in_ok-arguments.arguments ∷ []) c.new-front.ensures.items)
    c.in_ok-parts.ensures c.in_ok-dims.ensures c.in_ok-name.ensures
    (ap (λ ps. type_of (base.Named ps) c.from_vec-around.result) c.from_vec.ensures ∙ ap (type_of (base.Named c.in_ok-parts.parts.items)) c.from_vec-around.ensures))
    c.member_rest_of.ensures
