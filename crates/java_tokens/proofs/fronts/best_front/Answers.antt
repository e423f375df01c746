use Rattle.std.proofs.Common.{◌≡◌, ◌∙◌, take, Some, ap, sym}
use Rattle.std.specs.Str.{chars}
use Rattle.java_tokens.specs.Table as table
use Rattle.java_tokens.proofs.LongestFronts.{front_boundary, front_chars, found_best}
use Rattle.java_tokens.proofs.fronts.best_front.Goals as goal

pub split_at-requires : goal.split_at-requires
split_at-requires c =
    let found = c.in-Some.ensures in
    front_boundary c.args.text.now found.0 c.in-Some.found.width c.utf8.text found.2

pub returns-in-Some : goal.returns-in-Some
returns-in-Some c =
    let found = c.in-Some.ensures in
    let front : chars c.split_at.result.0.now ≡ take found.0 (chars c.args.text.now) = ap chars c.split_at.ensures.front ∙ front_chars c.args.text.now found.0 c.in-Some.found.width c.utf8.text found.2 in
    let is : table.kind_by c.in-Some.found.class (take found.0 (chars c.args.text.now)) ≡ Some c.known_kind.result = ap (table.kind_by c.in-Some.found.class) (sym front) ∙ c.known_kind.ensures in
    (found.0, found_best (chars c.args.text.now) found.0 c.in-Some.found.class c.known_kind.result found.1 is, found.2)
