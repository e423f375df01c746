use Rattle.std.proofs.Common.{ℕ, List, ◌∷◌, ◌++◌, [], string_bytes, refl, ap, ◌∙◌}
use Rattle.type_listing.proofs.PlacesByText.{first_place, same_places, refused}
use Rattle.type_listing.proofs.listing.begin_places.Goals as goal

pub returns-in_err-push-clause-err : goal.returns-in_err-push-clause-err
returns-in_err-push-clause-err c = refused c.from_residual.result (same_places c.args.places.now c.args.places.now refl)

pub returns-in_err-insert-clause-err : goal.returns-in_err-insert-clause-err
returns-in_err-insert-clause-err c = refused c.from_residual-in_err-insert.result (same_places c.args.places.now c.insert.new.self c.in_err-insert.ensures.err)

pub returns-clause-ok : goal.returns-clause-ok
returns-clause-ok c =
    first_place c.args.places.now c.insert.new.self (string_bytes c.args.key) c.push.new.self c.args.place c.requires
    (c.in_ok-push.ensures.items ∙ ap (λ (xs : List ℕ). xs ++ c.args.place ∷ []) c.new-first.ensures.items)
    c.in_ok-insert.ensures.updates
