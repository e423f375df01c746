-- What a visit of a place adds to a listing. The root is the name of the unit that is walked.
use Rattle.std.specs.Prelude.{◌≡◌, ◌++◌, string_bytes}
use Rattle.decl_elements.specs.Walk.{Place}
use Rattle.unit_listing.specs.declared.listing.Lister.{Lister}
use Rattle.unit_listing.specs.Listing.{lines_at}

pub record AddsLine (old : Lister) (at : Place) (new : Lister) : Type 0 where
  pub table : new.resolver ≡ old.resolver
  pub root : new.root.now ≡ old.root.now
  pub text : string_bytes new.text ≡ string_bytes old.text ++ lines_at old.resolver old.root.now at
