-- A list of members over a table, with the places of those of each name.
use Rattle.std.specs.Prelude.{◌≡◌, ℕ, suc, ◌<◌, Bool, true, false, List, [], ◌∷◌, ◌++◌, length, map, get_or, Option, None, Some, String, Vec, refl, if◌then◌else◌}
use Rattle.std.specs.BTreeMap.{BTreeMap, get_by_text}
use Rattle.std.specs.Coded.{Coded, code_by, coded×, coded_list}
use Rattle.std.specs.List.{AllByRecursion}
use Rattle.std.specs.Option.{option_map_or}
use Rattle.std.specs.Str.{bytes_eq}
use Rattle.std.specs.declared.alloc.Global.{Global}
use Rattle.apt_base.specs.contracts.element.ElementRef as element
use Rattle.apt_base.specs.declared.element.ElementRef.{ElementRef}
use Rattle.element_table.specs.Held.{table_code}
use Rattle.element_table.specs.TypeTable.{TypeTable}
use Rattle.type_listing.specs.Members.{with_member, with_members}
use Rattle.type_listing.specs.Namesakes.{has_key, namesakes}

pub record Listed : Type 0 where
  pub table : TypeTable
  pub list : List ElementRef

abbrev pub listed_code : Coded Listed
listed_code =
    code_by (TypeTable × List ElementRef) (coded× table_code (coded_list element.the_row.coded))
    (λ l. (l.table, l.list)) (λ p. record { table = p.0; list = p.1 }) (λ _. refl)

abbrev pub listing_of : TypeTable → List ElementRef → Listed
listing_of table list = record { table = table; list = list }

-- one member more, behind the others
abbrev pub listed_with : Listed → ElementRef → Listed
listed_with listed at = listing_of listed.table (listed.list ++ at ∷ [])

-- those that have the name of this one
abbrev pub of_its_name : Listed → ElementRef → List ElementRef
of_its_name listed at = namesakes listed.table listed.list at

-- the member at a place
abbrev pub member_at : Listed → ElementRef → ℕ → ElementRef
member_at listed other place = get_or listed.list place other

abbrev pub AreWithin : Listed → List ℕ → Type 0
AreWithin listed places = AllByRecursion (λ place. place < length listed.list) places

-- these are the places of the members of its name
abbrev pub ArePlacesOf : Listed → ElementRef → List ℕ → Type 0
ArePlacesOf listed at places = map (member_at listed at) places ≡ of_its_name listed at

-- ---- places by name

-- the places of the members with this key in a list whose first one has this place, ascending
abbrev pub places_from : TypeTable → List ℕ → ℕ → List ElementRef → List ℕ
places_from table key place [] = []
places_from table key place (m ∷ list) =
    if has_key table key m then place ∷ places_from table key (suc place) list
    else places_from table key (suc place) list

abbrev pub Places : Type 0
Places = BTreeMap (String Global) (Vec ℕ Global)

-- what is under a key; nothing where there is no entry
abbrev pub places_under : Places → List ℕ → List ℕ
places_under places key = option_map_or (λ found. found.items) (get_by_text places key) []

-- under each key are its places
unfoldable pub AreIndexed : TypeTable → List ElementRef → Places → Type 0
AreIndexed table list places = (key : List ℕ) → places_under places key ≡ places_from table key 0 list

-- one place more under a key
unfoldable pub HasPlaceMore : Places → Places → List ℕ → ℕ → Type 0
HasPlaceMore old new key place =
    (q : List ℕ) → places_under new q ≡ (if bytes_eq key q then places_under old q ++ place ∷ [] else places_under old q)

-- the same places under each key
unfoldable pub HaveSamePlaces : Places → Places → Type 0
HaveSamePlaces old new = (q : List ℕ) → places_under new q ≡ places_under old q

-- ---- members that are due

-- what a list has come to: this list, or none where it is open
abbrev pub ComesTo : Bool → Option (List ElementRef) → List ElementRef → Type 0
ComesTo true due list = due ≡ Some list
ComesTo false due list = due ≡ None

-- this one was added if it is due; false where that is open
abbrev pub IsDue : Bool → Listed → ElementRef → ElementRef → List ElementRef → Type 0
IsDue closed listed t c list = ComesTo closed (with_member listed.table t listed.list c) list

-- each of these was added that is due; false where one is open
abbrev pub AreDue : Bool → Listed → ElementRef → List ElementRef → List ElementRef → Type 0
AreDue closed listed t others list = ComesTo closed (with_members listed.table t listed.list others) list
