use Rattle.std.proofs.Common.{string_bytes, ap, ◌∙◌}
use Rattle.element_table.specs.TypeTable.{TypeTable, table_of, answer_to}
use Rattle.element_table.proofs.TableLaws.{grown-Source, grown-Stub, free_source, free_stub}
use Rattle.element_table.proofs.table.Table.put.Goals.{in-Source+in_ok-insert-in-Source, in-Stub+in_ok-insert-in-Stub}
use Rattle.element_table.proofs.table.Table.put.Goals as goal

pub insert-requires : goal.insert-requires
insert-requires c =
    let old : TypeTable = table_of c.self.inside.sources c.self.inside.stubs in
    free_source old c.args.unit c.args.types (ap (λ t. answer_to t c.args.unit) c.self.view_is ∙ c.requires.new) (string_bytes c.args.name) c.requires.named

pub insert-requires-in-Stub : goal.insert-requires-in-Stub
insert-requires-in-Stub c =
    let old : TypeTable = table_of c.self.inside.sources c.self.inside.stubs in
    free_stub old c.args.unit c.args.types (ap (λ t. answer_to t c.args.unit) c.self.view_is ∙ c.requires.new) (string_bytes c.args.name) c.requires.named

pub invariant_of-self-2 : goal.invariant_of-self-2
invariant_of-self-2 c =
    let old : TypeTable = table_of c.self.inside.sources c.self.inside.stubs in
    let new = ap (λ t. answer_to t c.args.unit) c.self.view_is ∙ c.requires.new in
    elim c.match-part.branch [
      | in-Source+in_ok-insert-in-Source w ↦ grown-Source old c.args.unit c.args.types c.self.invariant.0 new (string_bytes c.args.name) c.match-part.self-inside.sources c.match-part.self-inside.stubs c.requires.named
          (ap (λ a. a.sources) w.self-inside-is ∙ w.in_ok-insert-in-Source.ensures.ok)
          (ap (λ a. a.stubs) w.self-inside-is)
      | in-Stub+in_ok-insert-in-Stub w ↦ grown-Stub old c.args.unit c.args.types c.self.invariant.0 new (string_bytes c.args.name) c.match-part.self-inside.sources c.match-part.self-inside.stubs c.requires.named
          (ap (λ a. a.sources) w.self-inside-is)
          (ap (λ a. a.stubs) w.self-inside-is ∙ w.in_ok-insert-in-Stub.ensures.ok)
    ]
