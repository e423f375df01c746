-- What was read of a literal so far, and what is left.
use Rattle.std.proofs.Common.{◌≡◌, ℕ, zero, suc, ◌+◌, ◌*◌, ◌-◌, ◌<◌, ◌≤◌, List, [], ◌∷◌, ◌++◌, length, drop, get_or, Option, None, Some, option_map, refl, sym, ap, ◌∙◌, append_assoc, append-nil, arith}
use Rattle.std.proofs.lemmas.List.{drop_more, drop_all}
use Rattle.std.specs.Option.{option_and_then, option_to_list}
use Rattle.literal_values.specs.declared.quoted.Reading.{Reading}
use Rattle.literal_values.specs.declared.quoted.Reading.TheVariants.{Plain, Begun, Octal, Closed}
use Rattle.literal_values.specs.Quoted.{Step, read_step, at_end, unquoted}
use Rattle.literal_values.specs.QuotedParts.{IsSmall}

-- what is behind these characters
abbrev pub behind : List ℕ → Option (List ℕ) → Option (List ℕ)
behind given found = option_map (λ more. given ++ more) found

pub record IsRead (quote : ℕ) (whole : Option (List ℕ)) (cs : List ℕ) (k : ℕ) (given : List ℕ) (reading : Reading) : Type 0 where
  pub found : behind given (unquoted quote reading (drop k cs)) ≡ whole

abbrev after : ℕ → List ℕ → Option Step → Option (List ℕ)
after quote cs s = option_and_then (λ s. behind s.given (unquoted quote s.next cs)) s

unquoted-more : (quote : ℕ) (reading : Reading) (c : ℕ) (cs : List ℕ) → unquoted quote reading (c ∷ cs) ≡ after quote cs (read_step quote reading c)
unfolding unquoted
unquoted-more quote reading c cs = refl

unquoted-none : (quote : ℕ) (reading : Reading) → unquoted quote reading [] ≡ at_end reading
unfolding unquoted
unquoted-none quote reading = refl

left-is : (cs : List ℕ) (k c : ℕ) → k < length cs → c ≡ get_or cs k c → drop k cs ≡ c ∷ drop (k + 1) cs
left-is cs k c h is = drop_more cs k c h ∙ ap (λ y. y ∷ drop (k + 1) cs) (sym is)

behind-both : (a b : List ℕ) (found : Option (List ℕ)) → behind (a ++ b) found ≡ behind a (behind b found)
behind-both a b None = refl
behind-both a b (Some more) = ap Some (append_assoc a b more)

-- what a character leads to
read_on : (quote : ℕ) (whole : Option (List ℕ)) (cs : List ℕ) (k : ℕ) (given : List ℕ) (reading : Reading) (c : ℕ) (s : Option Step)
    → IsRead quote whole cs k given reading → k < length cs → c ≡ get_or cs k c → s ≡ read_step quote reading c → behind given (after quote (drop (k + 1) cs) s) ≡ whole
read_on quote whole cs k given reading c s so_far h is step =
    ap (λ o. behind given (after quote (drop (k + 1) cs) o)) step
    ∙ ap (behind given) (sym (unquoted-more quote reading c (drop (k + 1) cs)))
    ∙ ap (λ xs. behind given (unquoted quote reading xs)) (sym (left-is cs k c h is))
    ∙ so_far.found

pub read-begin : (quote : ℕ) (cs : List ℕ) (reading : Reading) → IsRead quote (unquoted quote reading cs) cs 0 [] reading
read-begin quote cs reading = record { found = behind-nothing (unquoted quote reading cs) }
  where
    behind-nothing : (found : Option (List ℕ)) → behind [] found ≡ found
    behind-nothing None = refl
    behind-nothing (Some more) = refl

pub read-nothing : (quote : ℕ) (whole : Option (List ℕ)) (cs : List ℕ) (k : ℕ) (given : List ℕ) (reading : Reading) (c : ℕ)
    → IsRead quote whole cs k given reading → k < length cs → c ≡ get_or cs k c → None ≡ read_step quote reading c → None ≡ whole
read-nothing quote whole cs k given reading c so_far h is step = read_on quote whole cs k given reading c None so_far h is step

pub read-step : (quote : ℕ) (whole : Option (List ℕ)) (cs : List ℕ) (k n : ℕ) (given : List ℕ) (reading : Reading) (c : ℕ) (s : Step) (first second : Option ℕ) (one two : List ℕ)
    → IsRead quote whole cs k given reading → k < length cs → c ≡ get_or cs k c → Some s ≡ read_step quote reading c → s.given ≡ option_to_list first ++ option_to_list second
    → one ≡ given ++ option_to_list first → two ≡ one ++ option_to_list second → n ≡ k + 1 → IsRead quote whole cs n two s.next
read-step quote whole cs k n given reading c s first second one two so_far h is step brings e f next = record {
  found =
      ap (λ n. behind two (unquoted quote s.next (drop n cs))) next
      ∙ ap (λ xs. behind xs (unquoted quote s.next (drop (k + 1) cs))) (f ∙ ap (λ xs. xs ++ option_to_list second) e ∙ append_assoc given (option_to_list first) (option_to_list second) ∙ ap (λ xs. given ++ xs) (sym brings))
      ∙ behind-both given s.given (unquoted quote s.next (drop (k + 1) cs))
      ∙ read_on quote whole cs k given reading c (Some s) so_far h is step;
}

read-end : (quote : ℕ) (whole : Option (List ℕ)) (cs : List ℕ) (k : ℕ) (given : List ℕ) (reading : Reading) → IsRead quote whole cs k given reading → length cs ≤ k
    → behind given (at_end reading) ≡ whole
read-end quote whole cs k given reading so_far end =
    ap (behind given) (sym (unquoted-none quote reading)) ∙ ap (λ xs. behind given (unquoted quote reading xs)) (sym (drop_all k cs end)) ∙ so_far.found

at_end-none : (reading : Reading) → (reading ≡ Closed → ⊥) → None ≡ at_end reading
at_end-none Plain other = refl
at_end-none Begun other = refl
at_end-none (Octal code more) other = refl
at_end-none Closed other = absurd (other refl)

pub read-closed : (quote : ℕ) (whole : Option (List ℕ)) (cs : List ℕ) (k : ℕ) (given : List ℕ) (reading : Reading) → IsRead quote whole cs k given reading → length cs ≤ k → reading ≡ Closed
    → Some given ≡ whole
read-closed quote whole cs k given reading so_far end closed =
    ap Some (sym (append-nil given)) ∙ ap (λ r. behind given (at_end r)) (sym closed) ∙ read-end quote whole cs k given reading so_far end

pub read-open : (quote : ℕ) (whole : Option (List ℕ)) (cs : List ℕ) (k : ℕ) (given : List ℕ) (reading : Reading) → IsRead quote whole cs k given reading → length cs ≤ k
    → (reading ≡ Closed → ⊥) → None ≡ whole
read-open quote whole cs k given reading so_far end other = ap (behind given) (at_end-none reading other) ∙ read-end quote whole cs k given reading so_far end

-- ---- octal escapes

pub small-value : (code more : ℕ) → IsSmall code more → code < 256
small-value code zero small = small
small-value code (suc zero) small = omega (arith, small)
small-value code (suc (suc zero)) small = omega (arith, small)
small-value code (suc (suc (suc more))) small = absurd small

pub small-digit : (code more d : ℕ) → IsSmall code more → 0 < more → d < 8 → IsSmall (code * 8 + d) (more - 1)
small-digit code zero d small some digit = absurd (omega (arith, some))
small-digit code (suc zero) d small some digit = omega (arith, small, digit)
small-digit code (suc (suc zero)) d small some digit = omega (arith, small, digit)
small-digit code (suc (suc (suc more))) d small some digit = absurd small

pub small-fits : (code more d : ℕ) → IsSmall code more → 0 < more → d < 8 → code * 8 + d < 256
small-fits code more d small some digit = small-value (code * 8 + d) (more - 1) (small-digit code more d small some digit)
