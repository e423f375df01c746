-- A text has one list of tokens or one place, and never both.
use Rattle.std.proofs.Common.{◌≡◌, ◌≢◌, ◌⊎◌, inl, inr, ℕ, zero, suc, ◌+◌, ◌-◌, ◌<◌, ◌≤◌, List, [], ◌∷◌, length, None, slice_index, true, false, refl, sym, ap, ◌∙◌, subst, arith, eqb, length-append}
use Rattle.std.proofs.lemmas.Bool.Decides.{eqb_tells}
use Rattle.java_tokens.specs.Tokens.{IsNext, HasNoNext, Element, Reads, IsEnd, Lexeme, tokens_from, AreTokens, IsTokenFault, HasTokens}
use Rattle.java_tokens.proofs.NextFronts.{Either, next_either, one_next, next_some, no_next_empty, no_next_sub}

-- where a text ends nothing begins
pub no_next_end : (rest : List ℕ) → IsEnd rest → HasNoNext rest
no_next_end rest (inl is) = subst HasNoNext (sym is) no_next_empty
no_next_end rest (inr is) = subst HasNoNext (sym is) no_next_sub

-- two readings that nothing can go on are one
same_reading : (text : List ℕ) (es fs : List Element) (rest rest' : List ℕ) → Reads text es rest → HasNoNext rest → Reads text fs rest' → HasNoNext rest' → (es ≡ fs) × (rest ≡ rest')
same_reading text [] [] rest rest' is no_more is' no_more' = (refl, sym is ∙ is')
same_reading text [] (f ∷ fs) rest rest' is no_more (after, next, more) no_more' = absurd (no_more f.1 after f.0 (subst (λ t. IsNext t f.1 after f.0) is next))
same_reading text (e ∷ es) [] rest rest' (after, next, more) no_more is no_more' = absurd (no_more' e.1 after e.0 (subst (λ t. IsNext t e.1 after e.0) is next))
same_reading text (e ∷ es) (f ∷ fs) rest rest' (after, next, more) no_more (after', next', more') no_more' =
    let one = one_next text e.1 after f.1 after' e.0 f.0 next next' in
    let others = same_reading after es fs rest rest' more no_more (subst (λ t. Reads t fs rest') (sym one.1) more') no_more' in
    (ap (λ x. (x, e.1) ∷ es) one.2 ∙ ap (λ x. (f.0, x) ∷ es) one.0 ∙ ap (λ xs. f ∷ xs) others.0, others.1)

-- at most one list of tokens
pub one_list : (all offsets : List ℕ) (ts us : List Lexeme) → AreTokens all offsets ts → AreTokens all offsets us → ts ≡ us
one_list all offsets ts us (es, (rest, reads, end), is) (fs, (rest', reads', end'), is') =
    is ∙ ap (λ xs. tokens_from all offsets 0 None xs) (same_reading all es fs rest rest' reads (no_next_end rest end) reads' (no_next_end rest' end')).0 ∙ sym is'

-- never a list and a place
pub never_both : (all offsets : List ℕ) (ts : List Lexeme) (offset : ℕ) → AreTokens all offsets ts → IsTokenFault all offsets offset → ⊥
never_both all offsets ts offset (es, (rest, reads, end), is) (place, (fs, rest', reads', no_end, no_more, count), at) =
    no_end (subst IsEnd (same_reading all es fs rest rest' reads (no_next_end rest end) reads' no_more).1 end)

-- at most one place
pub one_place : (all offsets : List ℕ) (p q : ℕ) → IsTokenFault all offsets p → IsTokenFault all offsets q → p ≡ q
one_place all offsets p q (place, (es, rest, reads, no_end, no_more, count), at) (place', (fs, rest', reads', no_end', no_more', count'), at') =
    let rests = (same_reading all es fs rest rest' reads no_more reads' no_more').1 in
    let same_place : place ≡ place' = omega (arith, count, count', ap length rests) in
    at ∙ ap (slice_index offsets) same_place ∙ sym at'

-- a text is read as far as tokens and separators go on
abbrev Read : List ℕ → Type 0
Read text = (es : List Element) × (rest : List ℕ) × Reads text es rest × HasNoNext rest × (length rest ≤ length text)

read_step : (text : List ℕ) → Either text → ((after : List ℕ) → length after < length text → Read after) → Read text
read_step text (inr none) later = ([], text, refl, none, omega arith)
read_step text (inl (front, rest, k, next)) later =
    let some = next_some text front rest k next in
    let all : length text ≡ length front + length rest = ap length next.split ∙ length-append front rest in
    let more = later rest (omega (arith, some, all)) in
    ((k, front) ∷ more.0, more.1, (rest, next, more.2), more.3, omega (arith, more.4, all))

read_all : (n : ℕ) (text : List ℕ) → length text < n → Read text
read_all zero text h = absurd (omega (arith, h))
read_all (suc n) text h = read_step text (next_either text) (λ after less. read_all n after (omega (arith, less, h)))

end_either : (rest : List ℕ) → IsEnd rest ⊎ (¬ IsEnd rest)
end_either [] = inl (inl refl)
end_either (c ∷ []) = by_test (eqb_tells c 26)
  where
    by_test : ((eqb c 26 ≡ true) × (c ≡ 26)) ⊎ ((eqb c 26 ≡ false) × (c ≢ 26)) → IsEnd (c ∷ []) ⊎ (¬ IsEnd (c ∷ []))
    by_test (inl p) = inl (inr (ap (λ x. x ∷ []) p.1))
    by_test (inr p) = inr (λ end. elim end [ inl e ↦ absurd (cc) | inr e ↦ p.1 (cc) ])
end_either (c ∷ d ∷ cs) = inr (λ end. elim end [ inl e ↦ absurd (cc) | inr e ↦ absurd (cc) ])

finished : (all offsets : List ℕ) (read : Read all) → IsEnd read.1 ⊎ (¬ IsEnd read.1) → HasTokens all offsets
finished all offsets (es, rest, reads, none, within) (inl end) = inl (tokens_from all offsets 0 None es, (es, (rest, reads, end), refl))
finished all offsets (es, rest, reads, none, within) (inr other) =
    inr (slice_index offsets (length all - length rest), (length all - length rest, (es, rest, reads, other, none, omega (arith, within)), refl))

-- a list or a place
pub list_or_place : (all offsets : List ℕ) → HasTokens all offsets
list_or_place all offsets = let read = read_all (suc (length all)) all (omega arith) in finished all offsets read (end_either read.1)
