-- How what a child was sent, and what it said, stay joined.
use Rattle.std.proofs.Common.{◌≡◌, ◌≢◌, ◌⊎◌, ℕ, ◌+◌, List, [], ◌∷◌, ◌++◌, length, take, drop, map, flat_map, string_bytes, Some, None, Option, option_map, eqb, true, false, refl, sym, ap, ◌∙◌, subst, inl, inr, length-append, append-nil, slice_set}
use Rattle.std.specs.List.{slice_get}
use Rattle.std.proofs.Math.Seq.{take-add}
use Rattle.std.proofs.lemmas.Grind.{flat_map-append}
use Rattle.std.proofs.lemmas.Bool.Decides.{eqb_tells}
use Rattle.std.proofs.lemmas.Option.{slice_get_within}
use Rattle.apt_outside.specs.Child.{Child, AllKept}
use Rattle.apt_outside.specs.declared.script.Script.{Script}
use Rattle.apt_outside.specs.declared.script.Call.{Call}
use Rattle.apt_outside.specs.declared.script.Started.{Started}
use Rattle.apt_outside.specs.Scripted.{script_of, answer_of, answers_of, script_says, shown_call, frames_of, said_of, child_of, known_of, IsJoined}
use Rattle.apt_outside.proofs.ChildLemmas.{get_set_same, get_set_other, get_push_same, get_push_other, some_inj}

-- one answer more
pub answers_next : (o : Option Script) (n : ℕ) → answers_of o (n + 1) ≡ answers_of o n ++ answer_of o n
answers_next None n = refl
answers_next (Some s) n = ap (flat_map (λ a. a.items)) (take-add n 1 s.answers.items) ∙ flat_map-append (λ a. a.items) (take n s.answers.items) (take 1 (drop n s.answers.items))

module _ (scripts : List Script) (old new : Started) (same : new.call ≡ old.call) (was : IsJoined scripts old) where
  -- nothing was sent
  pub joined_same : new.sent.items ≡ old.sent.items → new.joined.items ≡ old.joined.items → new.said.items ≡ old.said.items → IsJoined scripts new
  joined_same sent joined said = record {
    sent = joined ∙ was.sent ∙ ap (λ fs. flat_map (λ frame. frame) (map (λ f. f.items) fs)) (sym sent);
    said = said ∙ was.said ∙ ap (λ c. script_says scripts (shown_call c).0 (shown_call c).1 (frames_of old)) (sym same) ∙ ap (λ fs. script_says scripts (shown_call new.call).0 (shown_call new.call).1 (map (λ f. f.items) fs)) (sym sent);
  }

  -- a frame was sent, and the next answer waits
  pub joined_more : (frame answer : List ℕ) (sends : ℕ) → frames_of new ≡ frames_of old ++ frame ∷ [] → new.joined.items ≡ old.joined.items ++ frame → new.said.items ≡ old.said.items ++ answer → length (frames_of old) ≡ sends → answer ≡ answer_of (script_of scripts (string_bytes old.call.name)) (sends + 1) → IsJoined scripts new
  joined_more frame answer sends frames joined said count is =
      let o : Option Script = script_of scripts (string_bytes old.call.name) in
      let longer : length (frames_of new) ≡ length (frames_of old) + 1 = ap length frames ∙ length-append (frames_of old) (frame ∷ []) in
      let says : said_of scripts new ≡ answers_of o (length (frames_of old) + 1 + 1) =
      ap (λ c. script_says scripts (shown_call c).0 (shown_call c).1 (frames_of new)) same ∙ ap (λ n. answers_of o (n + 1)) longer in
      record {
        sent = joined ∙ ap (λ bytes. bytes ++ frame) was.sent ∙ ap (λ bytes. flat_map (λ f. f) (frames_of old) ++ bytes) (sym (append-nil frame)) ∙ sym (flat_map-append (λ f. f) (frames_of old) (frame ∷ [])) ∙ ap (flat_map (λ f. f)) (sym frames);
        said = said ∙ ap (λ bytes. bytes ++ answer) was.said ∙ ap (λ bytes. said_of scripts old ++ bytes) (is ∙ ap (λ n. answer_of o (n + 1)) (sym count)) ∙ sym (answers_next o (length (frames_of old) + 1)) ∙ sym says;
      }

-- what holds of each child holds after one changed
pub each_set : (P : Started → Type 0) (started : List Started) (i : ℕ) (old new : Started) → slice_get started i ≡ Some old → ((k : ℕ) (s : Started) → slice_get started k ≡ Some s → P s) → P new → (k : ℕ) (s : Started) → slice_get (slice_set started i new) k ≡ Some s → P s
each_set P started i old new is each fits k s e = cases (eqb_tells k i)
  where
    cases : ((eqb k i ≡ true) × (k ≡ i)) ⊎ ((eqb k i ≡ false) × (k ≢ i)) → P s
    cases (inl same) = subst P (some_inj new s (sym (get_set_same started i new (slice_get_within started i old is)) ∙ ap (slice_get (slice_set started i new)) (sym same.1) ∙ e)) fits
    cases (inr other) = each k s (sym (get_set_other started i k new other.1) ∙ e)

-- what holds of each child holds after one joined
pub each_push : (P : Started → Type 0) (started : List Started) (new : Started) → ((k : ℕ) (s : Started) → slice_get started k ≡ Some s → P s) → P new → (k : ℕ) (s : Started) → slice_get (started ++ new ∷ []) k ≡ Some s → P s
each_push P started new each fits k s e = cases (eqb_tells k (length started))
  where
    cases : ((eqb k (length started) ≡ true) × (k ≡ length started)) ⊎ ((eqb k (length started) ≡ false) × (k ≢ length started)) → P s
    cases (inl same) = subst P (some_inj new s (sym (get_push_same started new) ∙ ap (slice_get (started ++ new ∷ [])) (sym same.1) ∙ e)) fits
    cases (inr other) = each k s (sym (get_push_other started new k other.1) ∙ e)

-- each child of an equal list
pub each_along : (P : Started → Type 0) (old new : List Started) → new ≡ old → ((k : ℕ) (s : Started) → slice_get old k ≡ Some s → P s) → (k : ℕ) (s : Started) → slice_get new k ≡ Some s → P s
each_along P old new is each = subst (λ xs. (k : ℕ) (s : Started) → slice_get xs k ≡ Some s → P s) (sym is) each

-- nothing is told of the number that comes next
pub get_past : {X : Type 0} (xs : List X) → slice_get xs (length xs) ≡ None
get_past [] = refl
get_past (x ∷ xs) = get_past xs

-- a child that was sent nothing is as it was
pub kept : (scripts : List Script) (started : List Started) (i : ℕ) (old new : Started) → slice_get started i ≡ Some old → new.call ≡ old.call → new.taken ≡ old.taken → frames_of new ≡ frames_of old → AllKept (known_of scripts started) (known_of scripts (slice_set started i new))
kept scripts started i old new is call taken frames k = cases (eqb_tells k i)
  where
    shown : Call → List (List ℕ) → ℕ → Child
    shown c fs n = record { name = (shown_call c).0; command = (shown_call c).1; sent = fs; waiting = drop n (script_says scripts (shown_call c).0 (shown_call c).1 fs) }

    same_child : child_of scripts new ≡ child_of scripts old
    same_child = ap (λ c. shown c (frames_of new) new.taken) call ∙ ap (λ fs. shown old.call fs new.taken) frames ∙ ap (shown old.call (frames_of old)) taken

    cases : ((eqb k i ≡ true) × (k ≡ i)) ⊎ ((eqb k i ≡ false) × (k ≢ i)) → known_of scripts (slice_set started i new) k ≡ known_of scripts started k
    cases (inl same) = ap (known_of scripts (slice_set started i new)) same.1 ∙ ap (option_map (child_of scripts)) (get_set_same started i new (slice_get_within started i old is)) ∙ ap Some same_child ∙ sym (ap (option_map (child_of scripts)) is) ∙ ap (known_of scripts started) (sym same.1)
    cases (inr other) = ap (option_map (child_of scripts)) (get_set_other started i k new other.1)
