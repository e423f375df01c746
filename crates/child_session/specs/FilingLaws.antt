-- The files of a round are those that the filer has more, and what is taken by then hangs on what was taken before alone.
use Rattle.std.specs.Prelude.{◌≡◌, List, [], ◌∷◌, ◌++◌}
use Rattle.apt_filer.specs.Filing.{Taken, Filings}
use Rattle.child_session.specs.Replies.{Exchange, taken_after, filed_all}
use Rattle.child_session.specs.Acts.{files}

-- what is taken after these exchanges
abbrev pub taken_all : Taken → List Exchange → Taken
taken_all taken [] = taken
taken_all taken (exchange ∷ others) = taken_all (taken_after taken exchange) others

pub record FiledLaws (filings : Filings) (exchanges : List Exchange) : Type 0 where
  pub made : (filed_all filings exchanges).made ≡ filings.made ++ files exchanges
  pub taken : (filed_all filings exchanges).taken ≡ taken_all filings.taken exchanges

abbrev pub FilesAreMade : Type 0
FilesAreMade = (filings : Filings) (exchanges : List Exchange) → FiledLaws filings exchanges
