-- How the list of children changes, in the words of the trait.
use Rattle.std.proofs.Common.{◌≡◌, ◌≢◌, ◌⊎◌, inl, inr, ℕ, ◌<◌, List, [], ◌∷◌, ◌++◌, length, take, drop, Option, Some, None, option_map, is_none, IfSome, IsSomeAnd, eqb, true, false, refl, sym, subst, ap, ◌∙◌, slice_set, slice_index_or}
use Rattle.std.specs.List.{slice_get}
use Rattle.std.proofs.lemmas.Bool.{false≢true}
use Rattle.std.proofs.lemmas.Bool.Decides.{eqb_tells}
use Rattle.std.proofs.lemmas.Option.{slice_get_read, slice_get_within}
use Rattle.apt_outside.specs.Child.{Try, Child, State, Changes, Attends, AllKept, OthersKept, written_by, Sends, Receives, begun}
use Rattle.apt_outside.proofs.ChildLemmas.{get_set_same, get_set_other, some_inj, get_push_same, get_push_other}
use Rattle.apt_outside.proofs.Joined.{get_past}
use Rattle.local_children.specs.Streams.{says_of}
use Rattle.memory_children.specs.declared.call.Call.{Call}
use Rattle.memory_children.specs.Kept.{Kept, said_of, child_of, fresh, known_of, state_of, Takes, Gives, IsPut}

-- the child at a place
pub found_at : (started : List Kept) (i : ℕ) (old : Kept) → i < length started → old ≡ slice_index_or started i old → slice_get started i ≡ Some old
found_at started i old below is = slice_get_read started (length started) i old refl below is

-- nothing is told of the number that comes next
pub unknown_next : (started : List Kept) → known_of started (length started) ≡ None
unknown_next started = ap (option_map child_of) (get_past started)

module _ (started : List Kept) (i : ℕ) (old new : Kept) (is : slice_get started i ≡ Some old) where
  known_old : known_of started i ≡ Some (child_of old)
  known_old = ap (option_map child_of) is

  known_new : known_of (slice_set started i new) i ≡ Some (child_of new)
  known_new = ap (option_map child_of) (get_set_same started i new (slice_get_within started i old is))

  both_known : (P : Child → Child → Type 0) → P (child_of old) (child_of new) → IfSome (known_of started i) (λ before. IsSomeAnd (known_of (slice_set started i new) i) (λ after. P before after))
  both_known P h = subst (λ o. IfSome o (λ before. IsSomeAnd (known_of (slice_set started i new) i) (P before))) (sym known_old) (subst (λ n. IsSomeAnd n (P (child_of old))) (sym known_new) h)

  changes : new.name ≡ old.name → new.command ≡ old.command → Changes i (known_of started) (known_of (slice_set started i new))
  changes name command = record {
    others = λ k ne. ap (option_map child_of) (get_set_other started i k new ne);
    same_child = λ before e.
        let first : child_of old ≡ before = some_inj _ _ (sym known_old ∙ e) in
        (child_of new, known_new, name ∙ ap (λ b. b.name) first, command ∙ ap (λ b. b.command) first);
  }

  -- a call on this child, after which the same live and were tried
  pub attends : (live : List ℕ) (tried : List Call) → new.name ≡ old.name → new.command ≡ old.command → Attends i (state_of started live tried) (state_of (slice_set started i new) live tried)
  attends live tried name command = record { same_says = refl; same_tried = refl; change = changes name command }

  -- a child that is as it was
  pub kept : new ≡ old → AllKept (known_of started) (known_of (slice_set started i new))
  kept same k = cases (eqb_tells k i)
    where
      cases : ((eqb k i ≡ true) × (k ≡ i)) ⊎ ((eqb k i ≡ false) × (k ≢ i)) → known_of (slice_set started i new) k ≡ known_of started k
      cases (inl at) = ap (known_of (slice_set started i new)) at.1 ∙ known_new ∙ ap (λ c. Some (child_of c)) same ∙ sym known_old ∙ ap (known_of started) (sym at.1)
      cases (inr other) = ap (option_map child_of) (get_set_other started i k new other.1)

  pub sends : (live : List ℕ) (tried : List Call) (frame : List ℕ) → Takes frame old new → Sends i frame (state_of started live tried) (state_of (slice_set started i new) live tried)
  sends live tried frame takes = record {
    sent = both_known (λ before after. after.sent ≡ before.sent ++ frame ∷ []) takes.sent;
    waits = both_known (λ before after. (more : List ℕ) × (written_by says_of after ≡ written_by says_of before ++ more) × (after.waiting ≡ before.waiting ++ more)) takes.waits;
  }

  pub receives : (live : List ℕ) (tried : List Call) (room : List ℕ) (n : ℕ) → Gives room n old new → Receives i room (state_of started live tried) (state_of (slice_set started i new) live tried) n
  receives live tried room n gives = record {
    sent = both_known (λ before after. after.sent ≡ before.sent) (ap (λ c. c.sent) gives.rest);
    taken = both_known (λ before after. before.waiting ≡ take n room ++ after.waiting) (gives.given ∙ ap (λ said. take n room ++ drop new.taken said) (sym (ap said_of gives.rest)));
    ended = λ none. subst (λ o. IfSome o (λ before. before.waiting ≡ [])) (sym known_old) (gives.ended none);
  }

-- ---- one child more

module _ (started : List Kept) (call : Try) where
  pub known_push_same : known_of (started ++ fresh call ∷ []) (length started) ≡ Some (begun says_of call)
  known_push_same = ap (option_map child_of) (get_push_same started (fresh call))

  pub known_push_other : OthersKept (length started) (known_of started) (known_of (started ++ fresh call ∷ []))
  known_push_other = λ k ne. ap (option_map child_of) (get_push_other started (fresh call) k ne)

-- the child that was put is the one that was begun
pub put_fresh : (begun : Option Kept) (old new : List Kept) (call : Try) → is_none begun ≡ false → IsPut begun old new → IfSome begun (λ child. child ≡ fresh call) → new ≡ old ++ fresh call ∷ []
put_fresh None old new call some put is = absurd (false≢true (sym some))
put_fresh (Some child) old new call some put is = put ∙ ap (λ c. old ++ c ∷ []) is
