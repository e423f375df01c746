-- The measure of the readers of values: parts of an initialiser count nothing, so that its readers stand above those of values.
use Rattle.std.proofs.Common.{◌≡◌, ℕ, false, refl}
use Rattle.decl_turns.specs.declared.states.Place.{Place}
use Rattle.decl_turns.specs.declared.states.Place.TheVariants as place
use Rattle.decl_grammar.specs.Form.{is_value}
use Rattle.decl_turns.specs.States.{stands_of}

abbrev pub rank_of : Place → ℕ
rank_of place.Alone = 0
rank_of place.Paired = 0
rank_of place.Listed = 0
rank_of place.Defaulted = 0
rank_of place.Assigned = 50

pub rank-free : (p : Place) → is_value (stands_of p) ≡ false → rank_of p ≡ 50
rank-free place.Alone e = absurd cc
rank-free place.Paired e = absurd cc
rank-free place.Listed e = absurd cc
rank-free place.Defaulted e = absurd cc
rank-free place.Assigned e = refl
