-- Texts that end in none of a text.
use Rattle.std.proofs.Common.{◌≡◌, ◌≢◌, ℕ, false, List, ◌++◌, nat_eq, refl}
use Rattle.std.specs.List.{ends_with}
use Rattle.std.proofs.lemmas.Bool.{false_from_ne_true}
use Rattle.std.proofs.lemmas.Bool.Decides.{Decides-eqb}
use Rattle.std.proofs.lemmas.Slice.Eq.{ends_is}

pub ends_with-none : (text end : List ℕ) → ((front : List ℕ) → text ≢ front ++ end) → ends_with nat_eq text end ≡ false
ends_with-none text end none = false_from_ne_true _ (λ ends. none _ ((ends_is Decides-eqb text end _ refl).0 ends))
