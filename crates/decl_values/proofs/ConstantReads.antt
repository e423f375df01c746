-- Rows of constant forms.
use Rattle.std.proofs.Common.{◌≡◌, ℕ, Bool, true, false, cond, List, [], ◌∷◌, ◌++◌, refl, sym, ap, subst, ◌∙◌, append_assoc}
use Rattle.decl_tree.specs.declared.annotation.ValueText.{ValueText}
use Rattle.decl_grammar.specs.declared.symbol.Symbol.{Symbol}
use Rattle.decl_grammar.specs.declared.fault.ReadFault.{ReadFault}
use Rattle.decl_grammar.specs.declared.fault.ReadFault.TheVariants as faults
use Rattle.decl_grammar.specs.Reading.{starts, Outcome, done, fault, deep, ◌>>=◌, one_at, Fails}
use Rattle.decl_grammar.specs.Form.{constant_value, constant_items, turned, with_front}
use Rattle.decl_grammar.specs.Types.{no_values}
use Rattle.decl_grammar.specs.Expressions.{value_and_more, listed_end, constant_end, constant_items_form}
use Rattle.decl_grammar.specs.Rule.{read_nest}
use Rattle.decl_grammar.proofs.Loop.{turned_fails}
use Rattle.decl_grammar.proofs.Nests.{free-is}
use Rattle.decl_names.proofs.Smaller.{behind_symbol}
use Rattle.decl_values.specs.Ends.{listed_step}
use Rattle.decl_values.specs.ConstantRows.{items_from, ItemsRead}

-- ---- rows of constant forms

abbrev items_behind : ℕ → ValueText → Outcome Bool → Outcome (List ValueText)
items_behind room v (done true rest) = turned (λ vs. v ∷ vs) (items_from room rest)
items_behind room v (done false rest) = done (v ∷ []) rest
items_behind room v (fault at) = fault at
items_behind room v (deep at) = deep at

abbrev items_then : ℕ → Outcome ValueText → Outcome (List ValueText)
items_then room o =
    turned value_and_more
    (o >>= λ v rest. cond (starts (64 ∷ []) rest) (turned no_values (one_at (64 ∷ []) rest)) (turned behind_symbol (one_at (68 ∷ []) rest >>= λ s b. cond (starts (64 ∷ []) b) (turned no_values (one_at (64 ∷ []) b)) (items_from room b) >>= λ y a. done (s, y) a)) >>= λ y a. done (v, y) a)

items-are : (room : ℕ) (ts : List Symbol) → items_from room ts ≡ items_then room (read_nest room constant_value ts)
unfolding constant_items_form constant_end listed_end
items-are room ts = free-is constant_items refl room ts

items-behind-is : (room : ℕ) (v : ValueText) (rest : List Symbol) → items_then room (done v rest) ≡ items_behind room v (listed_step rest)
items-behind-is room v rest = go (starts (64 ∷ []) rest) (one_at (64 ∷ []) rest) (one_at (68 ∷ []) rest)
  where
    closing : (o : Outcome Symbol) → turned value_and_more (turned no_values o >>= λ y a. done (v, y) a) ≡ items_behind room v (o >>= λ s after. done false after)
    closing (done s after) = refl
    closing (fault at) = refl
    closing (deep at) = refl

    closing_comma : (s : Symbol) (o : Outcome Symbol) → turned value_and_more (turned behind_symbol (turned no_values o >>= λ y a. done (s, y) a) >>= λ y a. done (v, y) a) ≡ items_behind room v (o >>= λ z after. done false after)
    closing_comma s (done z after) = refl
    closing_comma s (fault at) = refl
    closing_comma s (deep at) = refl

    further : (s : Symbol) (o : Outcome (List ValueText)) → turned value_and_more (turned behind_symbol (o >>= λ y a. done (s, y) a) >>= λ y a. done (v, y) a) ≡ turned (λ vs. v ∷ vs) o
    further s (done y a) = refl
    further s (fault at) = refl
    further s (deep at) = refl

    inner : (s : Symbol) (b : List Symbol) (c : Bool)
        → turned value_and_more (turned behind_symbol (cond c (turned no_values (one_at (64 ∷ []) b)) (items_from room b) >>= λ y a. done (s, y) a) >>= λ y a. done (v, y) a)
        ≡ items_behind room v (cond c (one_at (64 ∷ []) b >>= λ z after. done false after) (done true b))
    inner s b true = closing_comma s (one_at (64 ∷ []) b)
    inner s b false = further s (items_from room b)

    comma : (o : Outcome Symbol)
        → turned value_and_more (turned behind_symbol (o >>= λ s b. cond (starts (64 ∷ []) b) (turned no_values (one_at (64 ∷ []) b)) (items_from room b) >>= λ y a. done (s, y) a) >>= λ y a. done (v, y) a)
        ≡ items_behind room v (o >>= λ s b. cond (starts (64 ∷ []) b) (one_at (64 ∷ []) b >>= λ z after. done false after) (done true b))
    comma (done s b) = inner s b (starts (64 ∷ []) b)
    comma (fault at) = refl
    comma (deep at) = refl

    go : (c : Bool) (p q : Outcome Symbol)
        → turned value_and_more (cond c (turned no_values p) (turned behind_symbol (q >>= λ s b. cond (starts (64 ∷ []) b) (turned no_values (one_at (64 ∷ []) b)) (items_from room b) >>= λ y a. done (s, y) a)) >>= λ y a. done (v, y) a)
        ≡ items_behind room v (cond c (p >>= λ s after. done false after) (q >>= λ s b. cond (starts (64 ∷ []) b) (one_at (64 ∷ []) b >>= λ z after. done false after) (done true b)))
    go true p q = closing p
    go false p q = comma q

pub item-read : (room : ℕ) (ts rest after : List Symbol) (v : ValueText) (more : Bool) → read_nest room constant_value ts ≡ done v rest → listed_step rest ≡ done more after → ItemsRead room ts v more after
item-read room ts rest after v true e s = items-are room ts ∙ (ap (items_then room) e ∙ (items-behind-is room v rest ∙ ap (items_behind room v) s))
item-read room ts rest after v false e s = items-are room ts ∙ (ap (items_then room) e ∙ (items-behind-is room v rest ∙ ap (items_behind room v) s))

pub item-fails : (room : ℕ) (ts : List Symbol) (e : ReadFault) → Fails e (read_nest room constant_value ts) → Fails e (items_from room ts)
item-fails room ts faults.Memory f = tt
item-fails room ts (faults.Bad n) f = (f.0, items-are room ts ∙ ap (items_then room) f.1, f.2)
item-fails room ts (faults.Deep n) f = (f.0, items-are room ts ∙ ap (items_then room) f.1, f.2)

pub item-ends : (room : ℕ) (ts rest : List Symbol) (v : ValueText) (e : ReadFault) → read_nest room constant_value ts ≡ done v rest → Fails e (listed_step rest) → Fails e (items_from room ts)
item-ends room ts rest v faults.Memory d f = tt
item-ends room ts rest v (faults.Bad n) d f = (f.0, items-are room ts ∙ (ap (items_then room) d ∙ (items-behind-is room v rest ∙ ap (items_behind room v) f.1)), f.2)
item-ends room ts rest v (faults.Deep n) d f = (f.0, items-are room ts ∙ (ap (items_then room) d ∙ (items-behind-is room v rest ∙ ap (items_behind room v) f.1)), f.2)

-- the loop over them
pub items-go : (room : ℕ) (front : List ValueText) (ts rest : List Symbol) (v : ValueText) (more : Bool) (total : Outcome (List ValueText)) → ItemsRead room ts v more rest → more ≡ true → with_front front (items_from room ts) ≡ total
    → with_front (front ++ v ∷ []) (items_from room rest) ≡ total
items-go room front ts rest v true total e m so_far = sym (ap (with_front front) e ∙ regroup (items_from room rest)) ∙ so_far
  where
    regroup : (o : Outcome (List ValueText)) → with_front front (turned (λ vs. v ∷ vs) o) ≡ with_front (front ++ v ∷ []) o
    regroup (done vs a) = ap (λ (ys : List ValueText). done ys a) (sym (append_assoc front (v ∷ []) vs))
    regroup (fault at) = refl
    regroup (deep at) = refl
items-go room front ts rest v false total e m so_far = absurd cc

pub items-stop : (room : ℕ) (front : List ValueText) (ts rest : List Symbol) (v : ValueText) (more : Bool) (total : Outcome (List ValueText)) → ItemsRead room ts v more rest → more ≡ false → with_front front (items_from room ts) ≡ total
    → total ≡ done (front ++ v ∷ []) rest
items-stop room front ts rest v false total e m so_far = sym so_far ∙ ap (with_front front) e
items-stop room front ts rest v true total e m so_far = absurd cc

pub items-fail : (room : ℕ) (front : List ValueText) (ts : List Symbol) (e : ReadFault) (total : Outcome (List ValueText)) → Fails e (items_from room ts) → with_front front (items_from room ts) ≡ total → Fails e total
items-fail room front ts e total f so_far = subst (λ (o : Outcome (List ValueText)). Fails e o) so_far (turned_fails (λ vs. front ++ vs) e (items_from room ts) f)
