-- How the parts between which a `+` stands are gathered.
use Rattle.std.proofs.Common.{◌≡◌, ℕ, zero, suc, ◌+◌, ◌-◌, ◌<◌, ◌≤◌, Bool, true, false, cond, List, [], ◌∷◌, ◌++◌, length, take, drop, Option, Some, None, refl, sym, ap, ◌∙◌, arith, append_assoc}
use Rattle.std.specs.Prelude.{map, option_map, option_and_then, not}
use Rattle.std.specs.List.{slice_split, onto_first, position_or_len}
use Rattle.std.proofs.lemmas.List.Splits.{slice_split_first}
use Rattle.decl_tree.specs.declared.annotation.ValueText.{ValueText}
use Rattle.decl_grammar.specs.declared.symbol.Symbol.{Symbol}
use Rattle.decl_grammar.specs.Constants.{is_plus, every, plain_of, parts_of}

-- parts behind others
abbrev pub parts_behind : List ValueText → Option (List ValueText) → Option (List ValueText)
parts_behind front o = option_map (λ vs. front ++ vs) o

-- what the parts are from the value of the first on
abbrev pub parts_from : Option ValueText → Option (List ValueText) → Option (List ValueText)
parts_from v o = option_and_then (λ y. option_map (λ ys. y ∷ ys) o) v

pub parts-none : (o : Option (List ValueText)) → parts_behind [] o ≡ o
parts-none None = refl
parts-none (Some vs) = refl

-- the first part ends at the first `+`
pub parts-first : (ss : List Symbol) (at : ℕ) → at ≡ position_or_len is_plus ss → at < length ss → parts_of ss ≡ parts_from (plain_of (take at ss)) (parts_of (drop (at + 1) ss))
parts-first [] at e lt = absurd (omega arith)
parts-first (s ∷ ss) at e lt =
    let within : position_or_len is_plus (s ∷ ss) < length (s ∷ ss) = omega arith in
    ap (λ (ps : List (List Symbol)). every (map plain_of ps)) (slice_split_first is_plus (s ∷ ss) s within)
    ∙ ap (λ (n : ℕ). parts_from (plain_of (take n (s ∷ ss))) (parts_of (drop (n + 1) (s ∷ ss)))) (sym e)

-- without a `+` the symbols are the only part
pub split-alone : (ss : List Symbol) → length ss ≤ position_or_len is_plus ss → slice_split is_plus ss ≡ ss ∷ []
split-alone [] le = refl
split-alone (s ∷ ss) le = go (is_plus s) (split-alone ss) le
  where
    go : (c : Bool) → (length ss ≤ position_or_len is_plus ss → slice_split is_plus ss ≡ ss ∷ []) → suc (length ss) ≤ cond (not c) (1 + position_or_len is_plus ss) 0
        → cond c ([] ∷ slice_split is_plus ss) (onto_first s (slice_split is_plus ss)) ≡ (s ∷ ss) ∷ []
    go true same le = absurd (omega arith)
    go false same le = ap (onto_first s) (same (omega arith))

pub parts-alone : (ss : List Symbol) → length ss ≤ position_or_len is_plus ss → parts_of ss ≡ parts_from (plain_of ss) (Some [])
parts-alone ss le = ap (λ (ps : List (List Symbol)). every (map plain_of ps)) (split-alone ss le)

parts-moved : (front : List ValueText) (v : ValueText) (o : Option (List ValueText)) → parts_behind (front ++ v ∷ []) o ≡ parts_behind front (option_map (λ ys. v ∷ ys) o)
parts-moved front v None = refl
parts-moved front v (Some vs) = ap (λ (ys : List ValueText). Some ys) (append_assoc front (v ∷ []) vs)

-- one part before a `+`
pub parts-goes : (front next : List ValueText) (ss rest : List Symbol) (at : ℕ) (o : Option ValueText) (v : ValueText) (total : Option (List ValueText)) → at ≡ position_or_len is_plus ss → at < length ss → o ≡ plain_of (take at ss) → o ≡ Some v
    → next ≡ front ++ v ∷ [] → rest ≡ drop (at + 1) ss → parts_behind front (parts_of ss) ≡ total → parts_behind next (parts_of rest) ≡ total
parts-goes front next ss rest at o v total e lt is some grown behind so_far =
    ap (λ (vs : List ValueText). parts_behind vs (parts_of rest)) grown
    ∙ (ap (λ (us : List Symbol). parts_behind (front ++ v ∷ []) (parts_of us)) behind
    ∙ (parts-moved front v (parts_of (drop (at + 1) ss))
    ∙ (ap (λ (w : Option ValueText). parts_behind front (parts_from w (parts_of (drop (at + 1) ss)))) (sym (sym is ∙ some)) ∙ (ap (parts_behind front) (sym (parts-first ss at e lt)) ∙ so_far))))

-- a part that is no value
pub parts-fails : (front : List ValueText) (ss : List Symbol) (at : ℕ) (o : Option ValueText) (total : Option (List ValueText)) → at ≡ position_or_len is_plus ss → at < length ss → o ≡ plain_of (take at ss) → o ≡ None
    → parts_behind front (parts_of ss) ≡ total → None ≡ total
parts-fails front ss at o total e lt is none so_far =
    ap (λ (w : Option ValueText). parts_behind front (parts_from w (parts_of (drop (at + 1) ss)))) (sym (sym is ∙ none)) ∙ (ap (parts_behind front) (sym (parts-first ss at e lt)) ∙ so_far)

-- the last part
pub parts-ends : (front next : List ValueText) (ss : List Symbol) (o : Option ValueText) (v : ValueText) (total : Option (List ValueText)) → length ss ≤ position_or_len is_plus ss → o ≡ plain_of ss → o ≡ Some v → next ≡ front ++ v ∷ []
    → parts_behind front (parts_of ss) ≡ total → Some next ≡ total
parts-ends front next ss o v total le is some grown so_far =
    ap (λ (vs : List ValueText). Some vs) grown
    ∙ (ap (λ (w : Option ValueText). parts_behind front (parts_from w (Some []))) (sym (sym is ∙ some)) ∙ (ap (parts_behind front) (sym (parts-alone ss le)) ∙ so_far))

pub parts-lost : (front : List ValueText) (ss : List Symbol) (o : Option ValueText) (total : Option (List ValueText)) → length ss ≤ position_or_len is_plus ss → o ≡ plain_of ss → o ≡ None → parts_behind front (parts_of ss) ≡ total → None ≡ total
parts-lost front ss o total le is none so_far =
    ap (λ (w : Option ValueText). parts_behind front (parts_from w (Some []))) (sym (sym is ∙ none)) ∙ (ap (parts_behind front) (sym (parts-alone ss le)) ∙ so_far)
