-- Laws of the members of types.
use Rattle.std.specs.Prelude.{◌≡◌, ℕ, suc, Some}
use Rattle.apt_base.specs.declared.element.ElementRef.{ElementRef}
use Rattle.element_table.specs.TypeTable.{TypeTable}
use Rattle.type_listing.specs.Members.{Elements, members}

-- a list that is closed stays with more levels of supertypes
abbrev pub MoreLevelsKeep : Type 0
MoreLevelsKeep =
    (table : TypeTable) (n : ℕ) (at : ElementRef) (list : Elements)
    → members table n at ≡ Some list → members table (suc n) at ≡ Some list
