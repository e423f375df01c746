-- A step of a scan over the counts that the code keeps: the innermost braces stand last in its list, and no count grows by more than one.
use Rattle.std.proofs.Common.{◌≡◌, ℕ, ◌+◌, ◌<◌, ◌≤◌, Bool, true, false, List, [], ◌∷◌, ◌++◌, length, take, get_or, reverse, sym, subst, ap, ◌∙◌, arith}
use Rattle.std.proofs.lemmas.List.{reverse-append, take_more, take_all}
use Rattle.decl_grammar.specs.declared.symbol.Symbol.{Symbol}
use Rattle.decl_grammar.specs.Reading.{has}
use Rattle.decl_limits.specs.Separators.{Scan, unscanned, left_to, scan_next, scanned}
use Rattle.decl_limits.specs.ScansShown.{AreWithin, IsWithin}
use Rattle.decl_limits.proofs.Scans.{picked, none-scanned, last-scanned}

pub last-first : (ns : List ℕ) (n : ℕ) → reverse (ns ++ n ∷ []) ≡ n ∷ reverse ns
last-first ns n = reverse-append ns (n ∷ [])

within-more : (ns : List ℕ) (n m : ℕ) → n ≤ m → AreWithin n ns → AreWithin m ns
within-more [] n m le w = tt
within-more (k ∷ ks) n m le w = (omega (arith, le, w.0), within-more ks n m le w.1)

left-within : (ns : List ℕ) (count most n : ℕ) → count ≤ n → AreWithin n ns → IsWithin (n + 1) (left_to ns count most)
left-within [] count most n le w = (omega (arith, le), tt)
left-within (k ∷ ks) count most n le w = (omega (arith, w.0), within-more ks n (n + 1) (omega arith) w.1)

picked-within : (a b c : Bool) (n : ℕ) (s : Scan) → IsWithin n s → IsWithin (n + 1) (picked a b c s)
picked-within true b c n s w = (omega arith, (omega (arith, w.0), within-more s.around n (n + 1) (omega arith) w.1))
picked-within false true c n s w = left-within s.around s.count s.most n w.0 w.1
picked-within false false true n s w = (omega (arith, w.0), within-more s.around n (n + 1) (omega arith) w.1)
picked-within false false false n s w = (omega (arith, w.0), within-more s.around n (n + 1) (omega arith) w.1)

pub next-within : (n : ℕ) (s : Scan) (t : Symbol) → IsWithin n s → IsWithin (n + 1) (scan_next s t)
next-within n s t w = picked-within (has (63 ∷ []) t.sort) (has (64 ∷ []) t.sort) (has (67 ∷ 68 ∷ []) t.sort) n s w

pub less-within : (n m : ℕ) (s : Scan) → n ≤ m → IsWithin n s → IsWithin m s
less-within n m s le w = (omega (arith, le, w.0), within-more s.around n m le w.1)

-- what was counted before the first symbol
abbrev started : List ℕ → Scan
started ns = record { count = 0; around = reverse ns; most = 0 }

pub scan-start : (ns : List ℕ) → ns ≡ [] → (started ns ≡ scanned unscanned []) × IsWithin 0 (started ns)
scan-start ns e =
    subst (λ (ks : List ℕ). (started ks ≡ scanned unscanned []) × IsWithin 0 (started ks)) (sym e) (sym (none-scanned unscanned), (omega arith, tt))

-- one symbol further on
pub scan-more : (ts : List Symbol) (i : ℕ) (t : Symbol) (before after : Scan) → i < length ts → t ≡ get_or ts i t
    → before ≡ scanned unscanned (take i ts) → after ≡ scan_next before t → after ≡ scanned unscanned (take (i + 1) ts)
scan-more ts i t before after there is was step =
    let next : take (i + 1) ts ≡ take i ts ++ t ∷ [] = take_more ts i t there ∙ ap (λ (x : Symbol). take i ts ++ x ∷ []) (sym is) in
    step ∙ (ap (λ (x : Scan). scan_next x t) was ∙ (sym (last-scanned unscanned (take i ts) t) ∙ ap (λ (ss : List Symbol). scanned unscanned ss) (sym next)))

pub scan-all : (ts : List Symbol) (i : ℕ) (s : Scan) → length ts ≤ i → s ≡ scanned unscanned (take i ts) → s.most ≡ (scanned unscanned ts).most
scan-all ts i s all is = ap (λ (x : Scan). x.most) (is ∙ ap (λ (ss : List Symbol). scanned unscanned ss) (take_all i ts all))
