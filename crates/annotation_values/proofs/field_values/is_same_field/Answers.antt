use Rattle.std.proofs.Common.{◌≡◌, sym, ◌∙◌, rules}
use Rattle.name_resolve.specs.Shown.{find_of}
use Rattle.name_resolve.proofs.PlacedLemmas.{same_is}
use Rattle.annotation_values.proofs.field_values.is_same_field.Goals as goal

pub returns-then-eq : goal.returns-then-eq
returns-then-eq c = λ yes table p q.
    let part : c.args.one.now.part ≡ c.args.other.now.part = search rules in
    same_is table (find_of c.args.one.now) (find_of c.args.other.now) p q part (sym c.is_same.ensures ∙ yes)
