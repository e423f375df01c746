use Rattle.std.proofs.Common.{ap, sym, ◌∙◌}
use Rattle.std.specs.FinMap as fin
use Rattle.name_index.specs.Index.{index_of, or_empty, with_name_at}
use Rattle.name_index.proofs.TextMaps.{get-shown}
use Rattle.name_index.proofs.IndexLaws.{one_more, unchanged, on_ok, on_err}
use Rattle.name_index.proofs.index.NameIndex.add.Goals as goal

pub begin-requires : goal.begin-requires
begin-requires c =
    ap or_empty (ap (λ held. fin.get (index_of held) c.args.at.now) c.get_mut.follows.holds-at-none ∙ get-shown c.self.inside.held c.args.at.now ∙ sym c.in-None.ensures.value)

pub returns-in-Some-clause-ok : goal.returns-in-Some-clause-ok
returns-in-Some-clause-ok c =
    let now = c.insert.new.self in
    on_ok c.insert.result
    (λ is. one_more c.self.inside.held (c.get_mut.follows.lender now) c.args.at.now c.in-Some.names.now (sym c.in-Some.ensures.value) c.args.name.now now is (c.get_mut.follows.holds now).3
    ∙ ap (λ index. with_name_at index c.args.at.now c.args.name.now) c.self.view_is)
    c.insert.ensures.ok

pub returns-in-Some-clause-err : goal.returns-in-Some-clause-err
returns-in-Some-clause-err c =
    let now = c.insert.new.self in
    on_err c.insert.result
    (λ is. unchanged c.self.inside.held (c.get_mut.follows.lender now) c.args.at.now c.in-Some.names.now (sym c.in-Some.ensures.value) now is (c.get_mut.follows.holds now).3 ∙ c.self.view_is)
    c.insert.ensures.err
