-- Lists of texts of which more is asked, without their values.
use Rattle.std.proofs.Common.{◌≡◌, ℕ, zero, suc, List, ◌∷◌, map, refl, sym, ap, ◌∙◌}
use Rattle.frame_forms.specs.Scans.{Scan, whole, begun, bad, and_then, mapped, run_scan, items_scan}
use Rattle.frame_reader.specs.declared.node.ListRule.{ListRule}
use Rattle.frame_reader.specs.declared.node.ListRule.TheVariants as rules
use Rattle.frame_reader.specs.Rests.{forgotten, then_read, listed_fault, plain_fault, value_rest, texts_rest}
use Rattle.frame_reader.proofs.Forgetting.{forgotten-mapped}

module _ (rule : ListRule) (none : (bytes : List ℕ) → value_rest rule bytes ≡ whole tt bytes) where
  abbrev next_text : List (List ℕ) → List ℕ → Scan (List ℕ)
  next_text before bytes = run_scan (listed_fault rule before) bytes

  pub texts_are : (before : List (List ℕ)) (count : ℕ) (bytes : List ℕ) → forgotten (items_scan next_text before count bytes) ≡ texts_rest rule before count bytes
  unfolding items_scan texts_rest
  texts_are before zero bytes = refl
  texts_are before (suc count) bytes = go (λ text rest. texts_are (text ∷ before) count rest) (next_text before bytes)
    where
      go : ((text : List ℕ) (rest : List ℕ) → forgotten (items_scan next_text (text ∷ before) count rest) ≡ texts_rest rule (text ∷ before) count rest) → (s : Scan (List ℕ))
          → forgotten (and_then s (λ first rest. mapped (λ (others : List (List ℕ)). first ∷ others) (items_scan next_text (first ∷ before) count rest)))
          ≡ and_then s (λ text rest. then_read (value_rest rule rest) (texts_rest rule (text ∷ before) count))
      go others (whole text rest) =
          forgotten-mapped (λ (more : List (List ℕ)). text ∷ more) (items_scan next_text (text ∷ before) count rest)
          ∙ others text rest
          ∙ ap (λ (s : Scan (Unit {0})). then_read s (texts_rest rule (text ∷ before) count)) (sym (none rest))
      go others begun = refl
      go others (bad rest kind) = refl

abbrev keys_of : List (List ℕ × List ℕ) → List (List ℕ)
keys_of entries = map (λ entry. entry.0) entries

abbrev next_entry : List (List ℕ × List ℕ) → List ℕ → Scan (List ℕ × List ℕ)
next_entry before bytes = and_then {B = List ℕ × List ℕ} (run_scan (listed_fault rules.AscendingOptions (keys_of before)) bytes) (λ v rest. mapped (λ w. (v, w)) (run_scan plain_fault rest))

abbrev others_scan : List (List ℕ × List ℕ) → ℕ → List ℕ × List ℕ → List ℕ → Scan (List (List ℕ × List ℕ))
others_scan before count first rest = mapped (λ (others : List (List ℕ × List ℕ)). first ∷ others) (items_scan next_entry (first ∷ before) count rest)

pub entries_are : (before : List (List ℕ × List ℕ)) (count : ℕ) (bytes : List ℕ) → forgotten (items_scan next_entry before count bytes) ≡ texts_rest rules.AscendingOptions (keys_of before) count bytes
unfolding items_scan texts_rest
entries_are before zero bytes = refl
entries_are before (suc count) bytes = go (λ entry rest. entries_are (entry ∷ before) count rest) (run_scan (listed_fault rules.AscendingOptions (keys_of before)) bytes)
  where
    behind : ((entry : List ℕ × List ℕ) (rest : List ℕ) → forgotten (items_scan next_entry (entry ∷ before) count rest) ≡ texts_rest rules.AscendingOptions (keys_of (entry ∷ before)) count rest)
        → (text : List ℕ) (s : Scan (List ℕ)) → forgotten (and_then (mapped {B = List ℕ × List ℕ} (λ w. (text, w)) s) (others_scan before count)) ≡ then_read (forgotten s) (texts_rest rules.AscendingOptions (text ∷ keys_of before) count)
    behind others text (whole w rest) = forgotten-mapped (λ (more : List (List ℕ × List ℕ)). (text, w) ∷ more) (items_scan next_entry ((text, w) ∷ before) count rest) ∙ others (text, w) rest
    behind others text begun = refl
    behind others text (bad rest kind) = refl

    go : ((entry : List ℕ × List ℕ) (rest : List ℕ) → forgotten (items_scan next_entry (entry ∷ before) count rest) ≡ texts_rest rules.AscendingOptions (keys_of (entry ∷ before)) count rest)
        → (s : Scan (List ℕ)) → forgotten (and_then (and_then {B = List ℕ × List ℕ} s (λ v rest. mapped (λ w. (v, w)) (run_scan plain_fault rest))) (others_scan before count))
        ≡ and_then s (λ text rest. then_read (value_rest rules.AscendingOptions rest) (texts_rest rules.AscendingOptions (text ∷ keys_of before) count))
    go others (whole text rest) = behind others text (run_scan plain_fault rest)
    go others begun = refl
    go others (bad rest kind) = refl
