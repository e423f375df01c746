-- Sets of names to which the candidates of name chains are added one after another.
use Rattle.std.proofs.Common.{◌≡◌, ℕ, ◌+◌, ◌<◌, List, [], ◌∷◌, ◌++◌, length, take, drop, get_or, Result, Ok, Err, OnOk, refl, sym, ap, ◌∙◌, append-nil, append_assoc, arith, suc}
use Rattle.std.specs.List.{FoldsTo, flat_map}
use Rattle.std.specs.FinMap as fin
use Rattle.std.proofs.Math.Seq.{drop-cons}
use Rattle.std.proofs.lemmas.List.{flat_map_more, take_more}
use Rattle.decl_tree.specs.declared.compilation.UnitText.{UnitText}
use Rattle.decl_elements.specs.Walk.{Place}
use Rattle.apt_base.specs.Names.{NameSet, with_name, with_names}
use Rattle.reach_map.specs.Chains.{Chains, node_chains, unit_chains}
use Rattle.reach_map.specs.Candidates.{prefix_names, first_candidates, chain_candidates, implied_names, own_names, prefixes_of_all, import_prefixes, candidates}
use Rattle.reach_map.specs.CandidateSets.{with_chains, candidate_set}

pub with_names-append : (names : NameSet) (a b : List (List ℕ)) → with_names (with_names names a) b ≡ with_names names (a ++ b)
with_names-append names [] b = refl
with_names-append names (name ∷ a) b = with_names-append (with_name names name) a b

pub flat_map-append : {A B : Type 0} (f : A → List B) (a b : List A) → flat_map f a ++ flat_map f b ≡ flat_map f (a ++ b)
flat_map-append f [] b = refl
flat_map-append {B = B} f (x ∷ a) b = append_assoc (f x) (flat_map f a) (flat_map f b) ∙ ap (λ (t : List B). f x ++ t) (flat_map-append f a b)

pub with_chains-append : (u : UnitText) (names : NameSet) (a b : Chains) → with_chains u (with_chains u names a) b ≡ with_chains u names (a ++ b)
unfolding with_chains
with_chains-append u names a b =
    with_names-append names (flat_map (chain_candidates u) a) (flat_map (chain_candidates u) b) ∙ ap (with_names names) (flat_map-append (chain_candidates u) a b)

pub with_chains-nil : (u : UnitText) (names : NameSet) → with_chains u names [] ≡ names
unfolding with_chains
with_chains-nil u names = refl

pub with_chains-one : (u : UnitText) (names : NameSet) (chain : List (List ℕ)) → with_chains u names (chain ∷ []) ≡ with_names names (chain_candidates u chain)
unfolding with_chains
with_chains-one u names chain = ap (with_names names) (append-nil (chain_candidates u chain))

-- one item more
pub with_next : {A : Type 0} (u : UnitText) (f : A → Chains) (names p q : NameSet) (items : List A) (i : ℕ) (item d : A) → i < length items → item ≡ get_or items i d
    → p ≡ with_chains u names (flat_map f (take i items)) → q ≡ with_chains u p (f item) → q ≡ with_chains u names (flat_map f (take (i + 1) items))
with_next {A = A} u f names p q items i item d lt is e h =
    h ∙ ap (λ (s : NameSet). with_chains u s (f item)) e ∙ with_chains-append u names (flat_map f (take i items)) (f item)
    ∙ ap (with_chains u names) (flat_map_more f [] (take i items) item) ∙ ap (λ (x : A). with_chains u names (flat_map f (take i items ++ x ∷ []))) is
    ∙ ap (λ (t : List A). with_chains u names (flat_map f t)) (sym (take_more items i d lt))

-- some names, and then others
pub names_both : {E : Type 0} (r : Result (Unit {0}) E) (names p q : NameSet) (a b whole : List (List ℕ)) → p ≡ with_names names a → whole ≡ a ++ b
    → OnOk r (q ≡ with_names p b) → OnOk r (q ≡ with_names names whole)
names_both (Ok x) names p q a b whole e is h = h ∙ ap (λ (s : NameSet). with_names s b) e ∙ with_names-append names a b ∙ ap (with_names names) (sym is)
names_both (Err x) names p q a b whole e is h = tt

-- the candidates of a chain by its first name
pub chain_candidates-split : (u : UnitText) (chain : List (List ℕ)) (first : List ℕ) (others : List (List ℕ)) → chain ≡ first ∷ others → chain_candidates u chain ≡ prefix_names chain ++ first_candidates u first
chain_candidates-split u chain first others e = ap (chain_candidates u) e ∙ ap (λ (c : List (List ℕ)). prefix_names c ++ first_candidates u first) (sym e)

-- a chain alone
pub chain_alone : {E : Type 0} (r : Result (Unit {0}) E) (u : UnitText) (names q : NameSet) (found chain : List (List ℕ)) → found ≡ chain
    → OnOk r (q ≡ with_names names (chain_candidates u found)) → OnOk r (q ≡ with_chains u names (chain ∷ []))
chain_alone (Ok x) u names q found chain e h = h ∙ ap (λ (c : List (List ℕ)). with_names names (chain_candidates u c)) e ∙ sym (with_chains-one u names chain)
chain_alone (Err x) u names q found chain e h = tt

-- some chains, and then others
pub with_both : {E : Type 0} (r : Result (Unit {0}) E) (u : UnitText) (names p q : NameSet) (a b whole : Chains) → p ≡ with_chains u names a → whole ≡ a ++ b
    → OnOk r (q ≡ with_chains u p b) → OnOk r (q ≡ with_chains u names whole)
with_both (Ok x) u names p q a b whole e is h = h ∙ ap (λ (s : NameSet). with_chains u s b) e ∙ with_chains-append u names a b ∙ ap (with_chains u names) (sym is)
with_both (Err x) u names p q a b whole e is h = tt

-- the same chains by another word
pub with_same : {E : Type 0} (r : Result (Unit {0}) E) (u : UnitText) (names q : NameSet) (a whole : Chains) → whole ≡ a → OnOk r (q ≡ with_chains u names a) → OnOk r (q ≡ with_chains u names whole)
with_same (Ok x) u names q a whole is h = h ∙ ap (with_chains u names) (sym is)
with_same (Err x) u names q a whole is h = tt

-- no chains
pub with_none : (u : UnitText) (names : NameSet) (whole : Chains) → whole ≡ [] → names ≡ with_chains u names whole
with_none u names whole is = sym (ap (with_chains u names) is ∙ with_chains-nil u names)

pub drop_next : {A : Type 0} (items : List A) (i : ℕ) (item d : A) → i < length items → item ≡ get_or items i d → drop i items ≡ item ∷ drop (i + 1) items
drop_next {A = A} items i item d lt is =
    let later : suc i ≡ i + 1 = omega arith in
    drop-cons items i d lt ∙ ap (λ (x : A). x ∷ drop (suc i) items) (sym is) ∙ ap (λ (n : ℕ). item ∷ drop n items) later

-- one item more of a list of which what is left is added
pub rest_next : {A : Type 0} (f : A → List (List ℕ)) (all : List A → List (List ℕ)) → ((x : A) (xs : List A) → all (x ∷ xs) ≡ f x ++ all xs) → (old new : NameSet) (items : List A) (i : ℕ) (item d : A)
    → i < length items → item ≡ get_or items i d → new ≡ with_names old (f item) → with_names new (all (drop (i + 1) items)) ≡ with_names old (all (drop i items))
rest_next f all cons old new items i item d lt is e =
    ap (λ (s : NameSet). with_names s (all (drop (i + 1) items))) e ∙ with_names-append old (f item) (all (drop (i + 1) items))
    ∙ ap (with_names old) (sym (cons item (drop (i + 1) items)) ∙ ap all (sym (drop_next items i item d lt is)))

-- those of what is written at one place after another
module _ {V : Type 0} (unit : V → UnitText) (names : V → NameSet) where
  abbrev Gathers : V → Place → V → Type 0
  Gathers old at new = (unit new ≡ unit old) × (names new ≡ with_chains (unit old) (names old) (node_chains at.node))

  pub all_added : (a b : V) (ats : List Place) → FoldsTo Gathers a ats b → names b ≡ with_chains (unit a) (names a) (flat_map (λ (at : Place). node_chains at.node) ats)
  all_added a b [] folds = sym (ap names folds) ∙ sym (with_chains-nil (unit a) (names a))
  all_added a b (at ∷ ats) folds =
      let more : Chains = flat_map (λ (at : Place). node_chains at.node) ats in
      all_added folds.0 b ats folds.2 ∙ ap (λ (u : UnitText). with_chains u (names folds.0) more) folds.1.0
      ∙ ap (λ (s : NameSet). with_chains (unit a) s more) folds.1.1 ∙ with_chains-append (unit a) (names a) (node_chains at.node) more

-- all parts of the candidates of a unit
pub all_gathered : (u : UnitText) (none own body imported all : NameSet) → none ≡ fin.empty → own ≡ with_names none (own_names u) → body ≡ with_chains u own (unit_chains u)
    → imported ≡ with_names body (import_prefixes u.imports) → all ≡ with_names imported (prefixes_of_all implied_names) → all ≡ candidate_set u
unfolding with_chains candidate_set candidates
all_gathered u none own body imported all n o b i a =
    let chains : List (List ℕ) = flat_map (chain_candidates u) (unit_chains u) in
    let imports : List (List ℕ) = import_prefixes u.imports in
    let implied : List (List ℕ) = prefixes_of_all implied_names in
    let first : own ≡ with_names fin.empty (own_names u) = o ∙ ap (λ (s : NameSet). with_names s (own_names u)) n in
    let second : body ≡ with_names (with_names fin.empty (own_names u)) chains = b ∙ ap (λ (s : NameSet). with_names s chains) first in
    let third : imported ≡ with_names (with_names fin.empty (own_names u)) (chains ++ imports) =
    i ∙ ap (λ (s : NameSet). with_names s imports) second ∙ with_names-append (with_names fin.empty (own_names u)) chains imports in
    a ∙ ap (λ (s : NameSet). with_names s implied) third ∙ with_names-append (with_names fin.empty (own_names u)) (chains ++ imports) implied

pub ruleset adds = (with_chains-append, with_chains-nil, flat_map-append, append-nil)
