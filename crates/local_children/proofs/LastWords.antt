-- The last two words of a command.
use Rattle.std.proofs.Common.{◌≡◌, ℕ, ◌-◌, ◌<◌, ◌≤◌, Bool, List, [], ◌∷◌, length, take, drop, get_or, map, codes, String, Global, string_bytes, None, sym, ap, ◌∙◌, arith}
use Rattle.std.specs.Prelude.{if◌then◌else◌}
use Rattle.std.specs.Str.{bytes_eq}
use Rattle.std.proofs.lemmas.List.{drop-map, length-map, length-drop, take_all}
use Rattle.local_children.specs.Streams.{local_named, local_by, local_in}

two_items : {X : Type 0} (items : List X) (first second : X) → 2 ≤ length items → length items < 3 → first ≡ get_or items 0 first → second ≡ get_or items 1 second → items ≡ first ∷ second ∷ []
two_items [] first second least below one two = absurd (omega (arith, least))
two_items (x ∷ []) first second least below one two = absurd (omega (arith, least))
two_items (x ∷ y ∷ []) first second least below one two = ap (λ a. a ∷ y ∷ []) (sym one) ∙ ap (λ b. first ∷ b ∷ []) (sym two)
two_items (x ∷ y ∷ z ∷ more) first second least below one two = absurd (omega (arith, below))

-- the processor of a command that has at least two words, by these
pub by_last : (command : List (String Global)) (word name : String Global) (k : ℕ) → k ≡ length command - 2
    → 2 ≤ length (take (length command - k) (drop k command)) → length (take (length command - k) (drop k command)) < 3
    → word ≡ get_or (take (length command - k) (drop k command)) 0 word → name ≡ get_or (take (length command - k) (drop k command)) 1 name
    → (is_serve : Bool) → bytes_eq (string_bytes word) (codes "serve") ≡ is_serve
    → local_in (map string_bytes command) ≡ (if is_serve then local_named (string_bytes name) else None)
by_last command word name k is least below one two is_serve same =
    let rest = drop k command in
    let tail : take (length command - k) rest ≡ rest = take_all (length command - k) rest (omega (arith, length-drop k command)) in
    let words : rest ≡ word ∷ name ∷ [] = sym tail ∙ two_items (take (length command - k) rest) word name least below one two in
    let number : length (map string_bytes command) - 2 ≡ k = ap (λ n. n - 2) (length-map command string_bytes) ∙ sym is in
    ap (λ n. local_by (drop n (map string_bytes command))) number ∙ ap local_by (drop-map string_bytes k command) ∙ ap (λ l. local_by (map string_bytes l)) words
    ∙ ap (λ b. if b then local_named (string_bytes name) else None) same
