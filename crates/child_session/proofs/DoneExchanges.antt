-- What exchanges leave that are done one after another.
use Rattle.std.proofs.Common.{◌≡◌, ℕ, List, [], ◌∷◌, ◌++◌, map, Option, None, Some, refl, sym, ap, ◌∙◌, append_assoc}
use Rattle.std.proofs.lemmas.List.{map-append}
use Rattle.apt_filer.specs.Filing.{Filings}
use Rattle.wire_frames.specs.declared.frame.Creation.{Creation}
use Rattle.child_session.specs.Replies.{Shown, round_frame, Exchange, reply_frame, file_in, taken_with, taken_after, filed_with, filed_after, filed_all}
use Rattle.child_session.specs.Acts.{frames_of}

-- ---- files

taken_of-with : (filings : Filings) (file : Option Creation) → (filed_with filings file).taken ≡ taken_with filings.taken file
taken_of-with filings None = refl
taken_of-with filings (Some creation) = refl

-- what is taken goes by what was taken before
pub taken_of-after : (filings : Filings) (exchange : Exchange) → (filed_after filings exchange).taken ≡ taken_after filings.taken exchange
taken_of-after filings exchange = taken_of-with filings (file_in exchange)

pub filed_all-append : (filings : Filings) (xs ys : List Exchange) → filed_all filings (xs ++ ys) ≡ filed_all (filed_all filings xs) ys
filed_all-append filings [] ys = refl
filed_all-append filings (x ∷ xs) ys = filed_all-append (filed_after filings x) xs ys

-- ---- frames

pub frames_of-append : (shown : Shown) (xs ys : List Exchange) → frames_of shown (xs ++ ys) ≡ frames_of shown xs ++ map reply_frame ys
frames_of-append shown xs ys = ap (λ (frames : List (List ℕ)). round_frame shown.env ∷ frames) (map-append reply_frame xs ys)

-- behind these frames, those of one exchange more
pub frames_of-next : (shown : Shown) (sent : List (List ℕ)) (xs : List Exchange) (x : Exchange)
    → (sent ++ frames_of shown xs) ++ reply_frame x ∷ [] ≡ sent ++ frames_of shown (xs ++ x ∷ [])
frames_of-next shown sent xs x =
    append_assoc sent (frames_of shown xs) (reply_frame x ∷ []) ∙ ap (λ (frames : List (List ℕ)). sent ++ frames) (sym (frames_of-append shown xs (x ∷ [])))
