-- What is remembered over a table: look-ups, what types mean where they are written, and headers.
use Rattle.std.specs.Prelude.{◌≡◌, Option, IfSome}
use Rattle.std.specs.List.{AllByRecursion}
use Rattle.element_table.specs.TypeTable.{TypeTable}
use Rattle.name_resolve.specs.Mirrors.{type_meaning, superclass, interfaces}
use Rattle.type_resolve.specs.Scopes.{find_in, scope_in}
use Rattle.type_resolve.specs.declared.known_headers.KnownHeader.{KnownHeader}
use Rattle.type_resolve.specs.declared.known_headers.KnownHeaders.{KnownHeaders}
use Rattle.type_resolve.specs.declared.known_texts.KnownText.{KnownText}
use Rattle.type_resolve.specs.declared.known_texts.KnownTexts.{KnownTexts}

-- it is what the text means in its element
abbrev pub IsText : TypeTable → KnownText → Type 0
IsText table known = known.meant ≡ type_meaning table (scope_in table known.at) known.text

abbrev pub AreTexts : TypeTable → KnownTexts → Type 0
AreTexts table texts = AllByRecursion (IsText table) texts.list.items

-- the supertypes are those of the header of its type
pub record IsHeader (table : TypeTable) (known : KnownHeader) : Type 0 where
  pub first : known.superclass ≡ superclass table (find_in table known.at)
  pub others : known.interfaces ≡ interfaces table (find_in table known.at)

abbrev pub AreHeaders : TypeTable → KnownHeaders → Type 0
AreHeaders table headers = AllByRecursion (IsHeader table) headers.list.items

-- all of it is right
pub record IsRemembered (table : TypeTable) (looks : Option TypeTable) (texts : KnownTexts) (headers : KnownHeaders) : Type 0 where
  pub looked_up : IfSome looks (λ over. over ≡ table)
  pub meant : AreTexts table texts
  pub written : AreHeaders table headers
