use Rattle.std.proofs.Common.{◌≡◌, ℕ, ◌-◌, true, List, [], ◌++◌, take, sym, ap, ◌∙◌, rules}
use Rattle.name_resolve.specs.Parts.{left}
use Rattle.name_resolve.specs.Shown.{find_of}
use Rattle.name_resolve.proofs.Enclosing.{parameter-here, none-around_header, there-outside, header-out}
use Rattle.name_resolve.proofs.member_types.MemberTypes.in_header.Goals as goal

pub returns-then-not-is_nothing-clause-value : goal.returns-then-not-is_nothing-clause-value
returns-then-not-is_nothing-clause-value c = λ members agrees.
    c.in_ok-parameters.ensures
    ∙ parameter-here _ (find_of c.args.at) c.args.name.now c.requires.there (λ e. let yes : c.is_nothing.result ≡ true = c.is_nothing.ensures.1 (c.in_ok-parameters.ensures ∙ e) in absurd (cc))

pub returns-in-None-clause-value : goal.returns-in-None-clause-value
returns-in-None-clause-value c = λ members agrees.
    let path = c.args.at.path.items in
    let empty : path ≡ [] = c.in-None.ensures.items ∙ ap (λ (n : List ℕ). n ++ []) (c.in-None.ensures.rest ∙ ap (λ n. take (n - 1) path) c.in-None.ensures.cases.0) in
    none-around_header _ (find_of c.args.at) c.args.name.now c.requires.there empty (sym c.in_ok-parameters.ensures ∙ c.is_nothing.ensures.0 (search rules))

pub in_elements-requires-clause-there : goal.in_elements-requires-clause-there
in_elements-requires-clause-there c =
    there-outside (left c.args.self.now.table.now c.args.levels) (find_of c.args.at) c.args.name.now c.requires.there c.pop.new.self.items c.in-Some.field-0 c.in-Some.ensures.items

pub returns-clause-value : goal.returns-clause-value
returns-clause-value c = λ members agrees.
    c.in_ok-finds-in-Some.ensures.value members agrees
    ∙ sym (header-out _ (find_of c.args.at) c.args.name.now c.requires.there c.pop.new.self.items c.in-Some.field-0 c.in-Some.ensures.items
    (sym c.in_ok-parameters.ensures ∙ c.is_nothing.ensures.0 (search rules)))
