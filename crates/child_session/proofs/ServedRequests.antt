-- What a filer has after requests that were served one after another.
use Rattle.std.proofs.Common.{◌≡◌, ◌<◌, ◌≤◌, ◌+◌, ℕ, List, [], ◌∷◌, ◌++◌, inl, inr, refl, sym, ap, ◌∙◌, subst, length-append, arith}
use Rattle.apt_filer.specs.Filing.{Filings}
use Rattle.child_session.specs.declared.request.Request.{Request}
use Rattle.child_session.specs.Replies.{Shown, filed_after}
use Rattle.child_session.specs.Round.{exchange_with, Served, served_all, AllServed}

module _ (shown : Shown) where
  -- what the filer has once this request was served
  abbrev served_one : Filings → Request → Filings
  served_one filings request = filed_after filings (exchange_with shown filings request)

  served_last : (filings : Filings) (requests : List Request) (request : Request) → served_all shown filings (requests ++ request ∷ []) ≡ served_one (served_all shown filings requests) request
  served_last filings [] request = refl
  served_last filings (first ∷ requests) request = served_last (served_one filings first) requests request

  pub none_served : (filings : Filings) (most : ℕ) → AllServed shown most filings filings
  none_served filings most = record { requests = []; few = omega arith; is = refl }

  pub fewer_served : (most more : ℕ) (old new : Filings) → AllServed shown most old new → most ≤ more → AllServed shown more old new
  fewer_served most more old new all few = record { requests = all.requests; few = omega (arith, all.few, few); is = all.is }

  pub one_more_served : (most : ℕ) (old mid new : Filings) (request : Request) → AllServed shown most old mid → new ≡ served_one mid request → AllServed shown (most + 1) old new
  one_more_served most old mid new request all is = record {
    requests = all.requests ++ request ∷ [];
    few = omega (arith, all.few, length-append all.requests (request ∷ []));
    is = is ∙ ap (λ f. served_one f request) all.is ∙ sym (served_last old all.requests request);
  }

  pub maybe_served : (most more : ℕ) (old mid new : Filings) (request : Request) → AllServed shown most old mid → Served (exchange_with shown mid request) mid new → most < more → AllServed shown more old new
  maybe_served most more old mid new request all (inl kept) few = subst (AllServed shown more old) (sym kept) (fewer_served most more old mid all (omega (arith, few)))
  maybe_served most more old mid new request all (inr one) few = fewer_served (most + 1) more old new (one_more_served most old mid new request all one) (omega (arith, few))
