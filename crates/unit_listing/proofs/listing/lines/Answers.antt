use Rattle.std.proofs.Common.{◌++◌, ◌∙◌}
use Rattle.std.specs.List.{flat_map}
use Rattle.decl_elements.specs.Walk.{places}
use Rattle.unit_listing.specs.declared.listing.Lister.{Lister}
use Rattle.unit_listing.specs.Listing.{lines_at, unit_listing}
use Rattle.unit_listing.proofs.Lines.{all_lines}
use Rattle.unit_listing.proofs.listing.lines.Goals as goal

pub returns : goal.returns
unfolding unit_listing
returns c =
    let start : Lister = record { alloc = c.args.alloc; resolver = c.new.result; root = c.args.name; text = c.new-2.result } in
    let all = places c.args.unit.now in
    c.from_string.ensures
    ∙ (all_lines start c.walk.new.visitor all c.in_ok-walk.ensures.value).text
    ∙ (λ i. c.new-2.ensures.bytes i ++ flat_map (lines_at (c.new.ensures i) c.args.name.now) all)
