-- A file has one list of characters or one place, and never both.
use Rattle.std.proofs.Common.{◌≡◌, ℕ, ◌+◌, List, [], ◌∷◌, ◌++◌, length, take, drop, refl, sym, ap, ◌∙◌, subst, arith, length-append}
use Rattle.std.proofs.lemmas.List.{drop_at, take_at}
use Rattle.std.proofs.lemmas.Str.{len_utf8_bounds}
use Rattle.java_tokens.specs.Characters.{Placed, Spells, Spelled, HasNoChar, slashes_after, AreChars, IsCharFault}
use Rattle.java_tokens.proofs.CharactersLemmas.{one_char, has_long}

-- an empty text has no character
pub no_char : (s : ℕ) → HasNoChar s []
no_char s width code has =
    omega (arith, has.3, ap length has.2, length-append has.0 has.1, has_long s [] width code has, len_utf8_bounds code)

-- two readings that nothing can go on are one
same_reading : (s o : ℕ) (text : List ℕ) (cs ds : List Placed) (rest rest' : List ℕ) (s' s'' : ℕ) → Spelled s o text cs rest s' → HasNoChar s' rest → Spelled s o text ds rest' s'' → HasNoChar s'' rest' → (cs ≡ ds) × (rest ≡ rest')
same_reading s o text [] [] rest rest' s' s'' (is, _) none (is', _) none' = (refl, sym is ∙ is')
same_reading s o text [] (d ∷ ds) rest rest' s' s'' (is, same) none (at, (sp, after, split, how, more)) none' =
    absurd (none (length sp) d.0 (sp, after, sym is ∙ split, refl, subst (λ n. Spells n sp after d.0) same how))
same_reading s o text (c ∷ cs) [] rest rest' s' s'' (at, (sp, after, split, how, more)) none (is, same) none' =
    absurd (none' (length sp) c.0 (sp, after, sym is ∙ split, refl, subst (λ n. Spells n sp after c.0) same how))
same_reading s o text (c ∷ cs) (d ∷ ds) rest rest' s' s'' (at, (sp, after, split, how, more)) none (at', (sp', after', split', how', more')) none' =
    let one = one_char s text (length sp) c.0 (length sp') d.0 (sp, after, split, refl, how) (sp', after', split', refl, how') in
    let spelling : sp' ≡ sp = sym (take_at sp' after' (length sp') refl) ∙ ap (take (length sp')) (sym split' ∙ split) ∙ ap (λ n. take n (sp ++ after)) (sym one.0) ∙ take_at sp after (length sp) refl in
    let left : after' ≡ after = sym (drop_at sp' after' (length sp') refl) ∙ ap (drop (length sp')) (sym split' ∙ split) ∙ ap (λ n. drop n (sp ++ after)) (sym one.0) ∙ drop_at sp after (length sp) refl in
    let later : Spelled (slashes_after s sp) (o + length sp) after ds rest' s'' =
    subst (λ x. Spelled (slashes_after s x) (o + length x) after ds rest' s'') spelling (subst (λ t. Spelled (slashes_after s sp') (o + length sp') t ds rest' s'') left more') in
    let others = same_reading (slashes_after s sp) (o + length sp) after cs ds rest rest' s' s'' more none later none' in
    (ap (λ x. (x, c.1) ∷ cs) one.1 ∙ ap (λ x. (d.0, x) ∷ cs) (at ∙ sym at') ∙ ap (λ xs. d ∷ xs) others.0, others.1)

-- at most one list of characters
pub one_list : (file : List ℕ) (cs ds : List Placed) → AreChars file cs → AreChars file ds → cs ≡ ds
one_list file cs ds (s, reading) (s', reading') = (same_reading 0 0 file cs ds [] [] s s' reading (no_char s) reading' (no_char s')).0

-- never a list and a place
pub never_both : (file : List ℕ) (cs : List Placed) (place : ℕ) → AreChars file cs → IsCharFault file place → ⊥
never_both file cs place (s, reading) (ds, rest, s', reading', ends, some, none) =
    let same = (same_reading 0 0 file cs ds [] rest s s' reading (no_char s) reading' none).1 in
    omega (arith, some, ap length same)

-- at most one place
pub one_place : (file : List ℕ) (p q : ℕ) → IsCharFault file p → IsCharFault file q → p ≡ q
one_place file p q (cs, rest, s, reading, ends, some, none) (ds, rest', s', reading', ends', some', none') =
    let same = (same_reading 0 0 file cs ds rest rest' s s' reading none reading' none').1 in
    omega (arith, ends, ends', ap length same)
