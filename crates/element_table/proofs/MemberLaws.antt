-- The index of member types finds those of all units, and goes on to do so where a unit comes.
use Rattle.std.proofs.Common.{◌≡◌, ℕ, Bool, true, false, cond, List, [], ◌∷◌, ◌++◌, Contains, Option, Some, None, Result, Ok, Err, OnOk, OnErr, refl, sym, ap, subst, ◌∙◌, arith}
use Rattle.std.specs.List.{AllByRecursion, FoldsTo}
use Rattle.std.specs.Option.{option_and_then}
use Rattle.std.specs.Ordering.{nat_cmp, is_eq, eq_by_cmp}
use Rattle.std.specs.Cmp.{tied_itself}
use Rattle.std.specs.Cmp.Lexicographic.{slice_cmp, nat_list_cmp_total}
use Rattle.std.specs.FinMap as fin
use Rattle.std.specs.FinMap.{get-insert, get-empty}
use Rattle.apt_base.proofs.NameSets.{same_name}
use Rattle.decl_tree.specs.declared.declaration.TypeDecl.{TypeDecl}
use Rattle.decl_tree.specs.declared.compilation.UnitText.{UnitText}
use Rattle.decl_elements.specs.Nodes.{Node, down, root}
use Rattle.decl_elements.specs.Walk.{Place, place_of, places, ArePlaces}
use Rattle.decl_elements.specs.Written.{declaration_of}
use Rattle.decl_elements.proofs.Everywhere.{each_found}
use Rattle.element_table.specs.declared.child_range.ChildRange.{ChildRange}
use Rattle.element_table.specs.declared.member_rows.Row.{Row}
use Rattle.element_table.specs.TypeTable.{Units}
use Rattle.element_table.specs.MemberTypes.{IsWithin, AreWithin, Ranges, member_key, widened, Keeps, Covers, CoversAll, shown_rows, HasRows, HasRowAt, Notes, AreRowsOf}
use Rattle.element_table.proofs.TableLaws.{at_insert}

abbrev same : List ℕ → List ℕ → Bool
same = eq_by_cmp (slice_cmp nat_cmp)

-- ---- a row more

within_own : (range : Option ChildRange) (number : ℕ) → IsWithin number (Some (widened range number))
within_own None number = (omega arith, omega arith)
within_own (Some range) number = (omega arith, omega arith)

within_wider : (range : Option ChildRange) (number n : ℕ) → IsWithin n range → IsWithin n (Some (widened range number))
within_wider None number n within = absurd within
within_wider (Some range) number n within = (omega (arith, within.0), omega (arith, within.1))

module _ (old new : Ranges) (key : List ℕ) (number : ℕ) (is : new ≡ fin.insert old key (widened (fin.get old key) number)) where
  abbrev more : ChildRange
  more = widened (fin.get old key) number

  found : (q : List ℕ) (b : Bool) → same q key ≡ b → fin.get new q ≡ cond b (Some more) (fin.get old q)
  found q b here = ap (λ ranges. fin.get ranges q) is ∙ get-insert nat_list_cmp_total old key more q ∙ ap (λ b. cond b (Some more) (fin.get old q)) here

  pub keeps-row : Keeps old new
  keeps-row q n within = by (same q key) refl
    where
      by : (b : Bool) → same q key ≡ b → IsWithin n (fin.get new q)
      by true here = subst (IsWithin n) (sym (found q true here)) (within_wider (fin.get old key) number n (subst (λ k. IsWithin n (fin.get old k)) (same_name q key here) within))
      by false here = subst (IsWithin n) (sym (found q false here)) within

  pub has-row : IsWithin number (fin.get new key)
  has-row = subst (IsWithin number) (sym (found key true (ap is_eq (tied_itself nat_list_cmp_total key)))) (within_own (fin.get old key) number)

pub keeps-same : (old new : Ranges) → new ≡ old → Keeps old new
keeps-same old new is q n within = subst (λ ranges. IsWithin n (fin.get ranges q)) (sym is) within

pub keeps-on : (old mid new : Ranges) → Keeps old mid → Keeps mid new → Keeps old new
keeps-on old mid new first second q n within = second q n (first q n within)

-- ---- the rows of one unit

module _ {V : Type 0} (unit : V → List ℕ) (rows : V → List Row) where
  abbrev Visits : V → Place → V → Type 0
  Visits old at new = Notes (unit old) (rows old) at (rows new) × (unit new ≡ unit old)

  stay_all : (a b : V) (ats : List Place) → FoldsTo Visits a ats b → (row : List ℕ × ℕ) → Contains (shown_rows (rows a)) row → Contains (shown_rows (rows b)) row
  stay_all a b [] folds row has = subst (λ v. Contains (shown_rows (rows v)) row) folds has
  stay_all a b (at ∷ ats) folds row has = stay_all folds.0 b ats folds.2 row (folds.1.0.stay row has)

  pub noted_all : (a b : V) (ats : List Place) → FoldsTo Visits a ats b → AllByRecursion (HasRowAt (unit a) (rows b)) ats
  noted_all a b [] folds = tt
  noted_all a b (at ∷ ats) folds = (
    λ path number d is declared. stay_all folds.0 b ats folds.2 (member_key (unit a) path d.name, number) (folds.1.0.noted path number d is declared),
    subst (λ name. AllByRecursion (HasRowAt name (rows b)) ats) folds.1.1 (noted_all folds.0 b ats folds.2),
  )

pub rows_of_places : (rows : List Row) (name : List ℕ) (u : UnitText) → ArePlaces u (places u) → AllByRecursion (HasRowAt name rows) (places u) → AreRowsOf rows name u
rows_of_places rows name u are noted path number d declared = by (down (path ++ number ∷ []) (root u)) refl declared
  where
    by : (o : Option Node) → down (path ++ number ∷ []) (root u) ≡ o → option_and_then declaration_of o ≡ Some d → Contains (shown_rows rows) (member_key name path d.name, number)
    by None there none = absurd (cc)
    by (Some node) there is =
        let at = are.all (path ++ number ∷ []) node there in
        each_found (HasRowAt name rows) (places u) at.0 (place_of (path ++ number ∷ []) node) noted at.1 at.2 path number d refl is

pub covers-rows : (ranges : Ranges) (rows : List Row) (name : List ℕ) (u : UnitText) → AreRowsOf rows name u → HasRows ranges rows → Covers ranges name (Some u)
covers-rows ranges rows name u are has path number d declared =
    let at = are path number d declared in
    each_found (λ row. IsWithin row.1 (fin.get ranges row.0)) (shown_rows rows) at.0 (member_key name path d.name, number) has at.1 at.2

-- ---- all units

pub covers-empty : (ranges : Ranges) (units : Units) → units ≡ fin.empty → CoversAll ranges units
covers-empty ranges units none name =
    subst (Covers ranges name) (sym (ap (λ units. fin.get units name) none ∙ get-empty (slice_cmp nat_cmp) name)) (λ path number d declared. absurd (cc))

pub covers-more : (ranges new : Ranges) (units : Units) → CoversAll ranges units → Keeps ranges new → CoversAll new units
covers-more ranges new units covers keeps name path number d declared = keeps (member_key name path d.name) number (covers name path number d declared)

module _ (ranges : Ranges) (units : Units) (covers : CoversAll ranges units) (name : List ℕ) (unit : UnitText) (own : Covers ranges name (Some unit)) where
  covers-insert : CoversAll ranges (fin.insert units name unit)
  covers-insert q = at_insert (Covers ranges q) units name unit q (λ e. subst (λ n. Covers ranges n (Some unit)) (sym e) own) (covers q)

  -- after a call that puts the unit or leaves the units as they were
  pub covers-either : {E : Type 0} (result : Result (Unit {0}) E) (new : Units) → OnOk result (new ≡ fin.insert units name unit) → OnErr result (new ≡ units) → CoversAll ranges new
  covers-either (Ok done) new ok err = subst (CoversAll ranges) (sym ok) covers-insert
  covers-either (Err fault) new ok err = subst (CoversAll ranges) (sym err) covers

-- ---- what is found

pub found_within : (ranges : Ranges) (units : Units) (covers : CoversAll ranges units) (unit path name : List ℕ) → AreWithin (fin.get ranges (member_key unit path name)) (fin.get units unit) path name
found_within ranges units covers unit path name number d declared named =
    subst (λ n. IsWithin number (fin.get ranges (member_key unit path n))) named (covers unit path number d declared)
