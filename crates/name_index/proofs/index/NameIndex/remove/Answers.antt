use Rattle.std.proofs.Common.{ap, sym, ◌∙◌}
use Rattle.name_index.specs.Index.{index_of, without_name_at}
use Rattle.name_index.proofs.IndexLaws.{one_less, not_absent}
use Rattle.name_index.proofs.index.NameIndex.remove.Goals.{in-Some, in-None}
use Rattle.name_index.proofs.index.NameIndex.remove.Goals as goal

pub returns : goal.returns
returns c =
    elim c.match-get_mut.branch [
      | in-Some w ↦
          ap (λ a. index_of a.held) w.self-inside-is
          ∙ one_less c.self.inside.held (c.get_mut.follows.lender w.remove.new.self) c.args.at.now w.in-Some.names.now (sym w.in-Some.ensures.value) c.args.name.now w.remove.new.self w.remove.ensures
          (c.get_mut.follows.holds w.remove.new.self).3
          ∙ ap (λ index. without_name_at index c.args.at.now c.args.name.now) c.self.view_is
      | in-None w ↦ not_absent c.self.inside.held c.args.at.now c.args.self.now c.self.view_is (sym w.in-None.ensures.value) c.requires
    ]
