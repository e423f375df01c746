use Rattle.std.proofs.Common.{◌≡◌, List, [], ◌∷◌, ◌++◌, sym, ap, ◌∙◌, rules, append_assoc}
use Rattle.apt_base.specs.declared.element.ElementRef.{ElementRef}
use Rattle.type_listing.specs.Listings.{Listed, listing_of}
use Rattle.type_listing.proofs.members.own_listing.Goals as goal

pub loop-each-preserved : goal.loop-each-preserved
loop-each-preserved c =
    let rest : c.loop-each.each-iterator.rest.items ≡ c.in-Some.each ∷ c.next.new.self.rest.items = search rules in
    let list = c.loop-each.list in
    ap (λ (l : Listed). listing_of l.table (l.list ++ c.next.new.self.rest.items)) c.in_ok-push.ensures.ok
    ∙ ap (listing_of list.table) (append_assoc list.list (c.in-Some.each ∷ []) c.next.new.self.rest.items ∙ ap (λ (xs : List ElementRef). list.list ++ xs) (sym rest))
    ∙ c.loop-each.invariant
