-- Paths below folders.
use Rattle.std.proofs.Common.{◌≡◌, ◌≢◌, ℕ, true, false, eqb, List, [], ◌∷◌, ◌++◌, codes, refl, sym, ap, ◌∙◌, append_assoc, true≢false, nat_eq}
use Rattle.std.specs.List.{starts_with, AllByRecursion}
use Rattle.std.proofs.lemmas.Bool.{eq-eqb, eqb-true, and_parts, and_from}
use Rattle.apt_outside.specs.Files.{is_below}
use Rattle.output_store.specs.Output.{store_folder}
use Rattle.output_store.specs.Exporting.{IsApart, path_under}

-- what begins with a text begins with its front
front : (p more q : List ℕ) → starts_with nat_eq q (p ++ more) ≡ true → starts_with nat_eq q p ≡ true
front [] more q h = refl
front (x ∷ p) more [] h = absurd (true≢false (sym h))
front (x ∷ p) more (y ∷ q) h = and_from (nat_eq x y) (starts_with nat_eq q p) (and_parts (nat_eq x y) _ h).0 (front p more q (and_parts (nat_eq x y) _ h).1)

own : (p more : List ℕ) → starts_with nat_eq (p ++ more) p ≡ true
own [] more = refl
own (x ∷ p) more = and_from (nat_eq x x) _ (eq-eqb x x refl) (own p more)

-- the store is below `out`
pub below_store-below_out : (q : List ℕ) → is_below store_folder q ≡ true → is_below (codes "out") q ≡ true
below_store-below_out q below = front (codes "out/") (codes "store/") q below

-- a file of a folder is below it
pub path_under-below : (folder path : List ℕ) → is_below folder (path_under folder path) ≡ true
path_under-below folder path = ap (λ (q : List ℕ). is_below folder q) (sym (append_assoc folder (codes "/") path)) ∙ own (folder ++ codes "/") path

-- a text that begins with two folders, of which one is a single name: the other one begins with it
joint : (name folder q : List ℕ) → AllByRecursion (λ c. c ≢ 47) name → starts_with nat_eq q (folder ++ codes "/") ≡ true → starts_with nat_eq q (name ++ codes "/") ≡ true → starts_with nat_eq (folder ++ codes "/") (name ++ codes "/") ≡ true
joint [] [] q plain h k = refl
joint [] (a ∷ folder) [] plain h k = absurd (true≢false (sym h))
joint [] (a ∷ folder) (y ∷ q) plain h k =
    let here : a ≡ y = eqb-true a y (and_parts (nat_eq a y) _ h).0 in
    let slash : 47 ≡ y = eqb-true 47 y (and_parts (nat_eq 47 y) _ k).0 in
    and_from (nat_eq 47 a) _ (eq-eqb 47 a (slash ∙ sym here)) refl
joint (c ∷ name) folder [] plain h k = absurd (true≢false (sym k))
joint (c ∷ name) [] (y ∷ q) plain h k =
    let slash : 47 ≡ y = eqb-true 47 y (and_parts (nat_eq 47 y) _ h).0 in
    let here : c ≡ y = eqb-true c y (and_parts (nat_eq c y) _ k).0 in
    absurd (plain.0 (here ∙ sym slash))
joint (c ∷ name) (a ∷ folder) (y ∷ q) plain h k =
    let there : a ≡ y = eqb-true a y (and_parts (nat_eq a y) _ h).0 in
    let here : c ≡ y = eqb-true c y (and_parts (nat_eq c y) _ k).0 in
    and_from (nat_eq c a) _ (eq-eqb c a (here ∙ sym there)) (joint name folder q plain.1 (and_parts (nat_eq a y) _ h).1 (and_parts (nat_eq c y) _ k).1)

not_slash : (c : ℕ) → eqb c 47 ≡ false → c ≢ 47
not_slash c e same = true≢false (sym (eq-eqb c 47 same) ∙ e)

-- a path below `out` is not below a folder that is apart from `out`
pub apart-below : (folder q : List ℕ) → IsApart folder → is_below (codes "out") q ≡ true → is_below folder q ≡ false
apart-below folder q apart below = elim (is_below folder q) as (λ b. is_below folder q ≡ b → b ≡ false) [
  | true ↦ λ e. absurd (true≢false (sym (joint (codes "out") folder q (not_slash 111 refl, (not_slash 117 refl, (not_slash 116 refl, tt))) e below) ∙ apart))
  | false ↦ λ e. refl
] refl
