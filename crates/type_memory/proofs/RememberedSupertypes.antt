-- Direct supertypes that are remembered are right, also when types are added.
use Rattle.std.proofs.Common.{◌≡◌, ℕ, List, Option, Some, None, sym, ap, subst, ◌∙◌}
use Rattle.std.specs.BTreeMap.{BTreeMap}
use Rattle.element_table.specs.TypeTable.{TypeTable}
use Rattle.type_memory.specs.Known.{Known, IsKnown, known_of}
use Rattle.type_memory.specs.Remembered.{AreDirect, AreSupertypes}
use Rattle.type_numbers.proofs.RememberedValues.{each-weaker}
use Rattle.type_mirror.specs.declared.mirror.Mirror.{Mirror}
use Rattle.type_numbers.specs.Numbers as numbers
use Rattle.type_numbers.specs.Numbers.{at}
use Rattle.type_numbers.proofs.NumberLaws.{grown-all_known, grown-at, grown-known, grown-types}
use Rattle.type_relations.specs.Direct.{direct}

-- what stands at a number
abbrev pub Had : Known → ℕ → Option (List ℕ) → Type 0
Had known number supertypes = IsKnown known number × AreDirect known known number supertypes

module _ (table : TypeTable) (t t' : List Mirror) (g : numbers.Grows t t') where
  abbrev old : Known
  old = known_of table t

  abbrev new : Known
  new = known_of table t'

  -- those that were found over fewer types
  pub direct-grown : (number : ℕ) (found : Option (List ℕ)) → numbers.IsKnown t number → AreDirect old new number found → AreDirect new new number found
  direct-grown number found known s = record { known = s.known; types = s.types ∙ ap (direct table) (sym (grown-at t t' number g known)) }

  direct_later : (number : ℕ) (found : Option (List ℕ)) → AreDirect old old number found → AreDirect old new number found
  direct_later number None s = record { known = tt; types = s.types }
  direct_later number (Some ns) s = record {
    known = grown-all_known t t' ns g s.known;
    types = ap (λ (ms : List Mirror). Some ms) (grown-types t t' ns g s.known) ∙ s.types;
  }

  pub supertypes-grown : (held : BTreeMap ℕ (Option (List ℕ))) → AreSupertypes old held → AreSupertypes new held
  supertypes-grown held right =
      each-weaker (Had old) (Had new) held
      (λ number found was. (grown-known t t' number g was.0, direct-grown number found was.0 (direct_later number found was.1))) right

-- the same, where the table is that of before by an equation
module _ (was table : TypeTable) (t t' : List Mirror) (kept : table ≡ was) (g : numbers.Grows t t') where
  pub direct-over : (number : ℕ) (found : Option (List ℕ)) → numbers.IsKnown t number → AreDirect (known_of was t) (known_of was t') number found
      → AreDirect (known_of table t') (known_of table t') number found
  direct-over number found known s =
      subst (λ (k : TypeTable). AreDirect (known_of k t') (known_of k t') number found) (sym kept) (direct-grown was t t' g number found known s)

  pub supertypes-over : (held : BTreeMap ℕ (Option (List ℕ))) → AreSupertypes (known_of was t) held → AreSupertypes (known_of table t') held
  supertypes-over held right = subst (λ (k : TypeTable). AreSupertypes (known_of k t') held) (sym kept) (supertypes-grown was t t' g held right)
