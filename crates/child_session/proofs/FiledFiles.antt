-- What a filer has after exchanges, file by file.
use Rattle.std.proofs.Common.{◌≡◌, List, [], ◌∷◌, ◌++◌, Option, None, Some, refl, sym, ap, ◌∙◌, append-nil, append_assoc}
use Rattle.apt_filer.specs.Filing.{Filings}
use Rattle.wire_frames.specs.declared.frame.Creation.{Creation}
use Rattle.child_session.specs.Replies.{Exchange, file_in, filed_with, filed_after, filed_all}
use Rattle.child_session.specs.Acts.{files}
use Rattle.child_session.specs.FilingLaws.{taken_all, FiledLaws, FilesAreMade}
use Rattle.child_session.proofs.DoneExchanges.{taken_of-after}
use Rattle.child_session.proofs.FreeActs.{files_with, files_next}

made_with : (filings : Filings) (o : Option Creation) (others : List Exchange) → (filed_with filings o).made ++ files others ≡ filings.made ++ files_with o others
made_with filings None others = refl
made_with filings (Some creation) others = append_assoc filings.made (creation ∷ []) (files others)

made_all : (exchanges : List Exchange) (filings : Filings) → (filed_all filings exchanges).made ≡ filings.made ++ files exchanges
made_all [] filings = sym (append-nil filings.made)
made_all (exchange ∷ others) filings =
    made_all others (filed_after filings exchange) ∙ made_with filings (file_in exchange) others
    ∙ ap (λ (more : List Creation). filings.made ++ more) (sym (files_next exchange others))

taken_by : (exchanges : List Exchange) (filings : Filings) → (filed_all filings exchanges).taken ≡ taken_all filings.taken exchanges
taken_by [] filings = refl
taken_by (exchange ∷ others) filings = taken_by others (filed_after filings exchange) ∙ ap (λ taken. taken_all taken others) (taken_of-after filings exchange)

pub files-made : FilesAreMade
files-made filings exchanges = record { made = made_all exchanges filings; taken = taken_by exchanges filings }
