-- What the children of a run were sent, where one of them is called.
use Rattle.std.proofs.Common.{◌≡◌, ◌≢◌, ℕ, zero, suc, ◌<◌, List, [], ◌∷◌, length, set, get_or, Option, None, Some, IsSomeAnd, refl, sym, ap, subst, ◌∙◌, arith}
use Rattle.std.specs.Option.{option_map_or}
use Rattle.std.proofs.lemmas.List.{get_or-map}
use Rattle.apt_outside.specs.Child.{Try, Child, Known, OthersKept}
use Rattle.round_engine.specs.Run.{Frames}
use Rattle.round_engine.specs.Shown.{frames_to, all_sent, EachOf, IsOutside, AreDifferent}

pub outside-get : (child : ℕ) (group : List ℕ) (at : ℕ) → at < length group → IsOutside child group → get_or group at 0 ≢ child
outside-get child [] at lt out = absurd (omega (arith, lt))
outside-get child (k ∷ group) zero lt out = out.0
outside-get child (k ∷ group) (suc at) lt out = outside-get child group at (omega (arith, lt)) out.1

-- what a child was sent, of what is known of it
abbrev pub frames_in : Option Child → Frames
frames_in o = option_map_or (λ (c : Child). c.sent) o []

-- ---- what they were sent

-- a call on a child outside the group
pub all_sent-outside : (child : ℕ) (group : List ℕ) (old new : Known) → OthersKept child old new → IsOutside child group → all_sent new group ≡ all_sent old group
all_sent-outside child [] old new kept out = refl
all_sent-outside child (k ∷ group) old new kept out =
    ap (λ o. frames_in o ∷ all_sent new group) (kept k out.0) ∙ ap (λ l. frames_to old k ∷ l) (all_sent-outside child group old new kept out.1)

-- a call on the child at a place
pub all_sent-at : (group : List ℕ) (at : ℕ) (old new : Known) → at < length group → AreDifferent group → OthersKept (get_or group at 0) old new
    → all_sent new group ≡ set (all_sent old group) at (frames_to new (get_or group at 0))
all_sent-at [] at old new lt different kept = absurd (omega (arith, lt))
all_sent-at (k ∷ group) zero old new lt different kept = ap (λ l. frames_to new k ∷ l) (all_sent-outside k group old new kept different.0)
all_sent-at (k ∷ group) (suc at) old new lt different kept =
    let later : at < length group = omega (arith, lt) in
    ap (λ o. frames_in o ∷ all_sent new group) (kept k (λ e. outside-get k group at later different.0 (sym e)))
    ∙ ap (λ l. frames_to old k ∷ l) (all_sent-at group at old new later different.1 kept)

-- what the child at a place was sent
pub all_sent-get : (group : List ℕ) (at : ℕ) (known : Known) → at < length group → get_or (all_sent known group) at [] ≡ frames_to known (get_or group at 0)
all_sent-get group at known lt = get_or-map _ group at 0 [] lt

-- ---- a fact of each

module _ (P : Try → Child → Type 0) where
  pub each-get : (processors : List Try) (group : List ℕ) (at : ℕ) (known : Known) → at < length group → EachOf P processors group known
      → IsSomeAnd (known (get_or group at 0)) (P (get_or processors at ([], [])))
  each-get processors [] at known lt each = absurd (omega (arith, lt))
  each-get [] (k ∷ group) at known lt each = absurd each
  each-get (p ∷ processors) (k ∷ group) zero known lt each = each.0
  each-get (p ∷ processors) (k ∷ group) (suc at) known lt each = each-get processors group at known (omega (arith, lt)) each.1

  pub each-outside : (child : ℕ) (processors : List Try) (group : List ℕ) (old new : Known) → OthersKept child old new → IsOutside child group → EachOf P processors group old → EachOf P processors group new
  each-outside child processors [] old new kept out each = tt
  each-outside child [] (k ∷ group) old new kept out each = absurd each
  each-outside child (p ∷ processors) (k ∷ group) old new kept out each =
      (subst (λ o. IsSomeAnd o (P p)) (sym (kept k out.0)) each.0, each-outside child processors group old new kept out.1 each.1)

  -- the child at a place was called, and has the fact again
  pub each-at : (processors : List Try) (group : List ℕ) (at : ℕ) (old new : Known) → at < length group → AreDifferent group → OthersKept (get_or group at 0) old new
      → EachOf P processors group old → IsSomeAnd (new (get_or group at 0)) (P (get_or processors at ([], []))) → EachOf P processors group new
  each-at processors [] at old new lt different kept each now = absurd (omega (arith, lt))
  each-at [] (k ∷ group) at old new lt different kept each now = absurd each
  each-at (p ∷ processors) (k ∷ group) zero old new lt different kept each now = (now, each-outside k processors group old new kept different.0 each.1)
  each-at (p ∷ processors) (k ∷ group) (suc at) old new lt different kept each now =
      let later : at < length group = omega (arith, lt) in (
        subst (λ o. IsSomeAnd o (P p)) (sym (kept k (λ e. outside-get k group at later different.0 (sym e)))) each.0,
        each-at processors group at old new later different.1 kept each.1 now,
      )

-- ---- facts from facts

pub each-weaker : (P Q : Try → Child → Type 0) → ((p : Try) (c : Child) → P p c → Q p c) → (processors : List Try) (group : List ℕ) (known : Known) → EachOf P processors group known → EachOf Q processors group known
each-weaker P Q weaker processors [] known each = tt
each-weaker P Q weaker [] (k ∷ group) known each = absurd each
each-weaker P Q weaker (p ∷ processors) (k ∷ group) known each = (some (known k) each.0, each-weaker P Q weaker processors group known each.1)
  where
    some : (o : Option Child) → IsSomeAnd o (P p) → IsSomeAnd o (Q p)
    some None h = absurd h
    some (Some c) h = weaker p c h
