-- Numbers of store files by paths, and places of items by origins, as finite maps from names.
use Rattle.std.specs.Prelude.{ℕ, List, [], ◌∷◌, ◌++◌, Option, None, Some, String}
use Rattle.std.specs.BTreeMap.{BTreeMap}
use Rattle.std.specs.Coded.{Coded, coded_list, coded_ℕ}
use Rattle.std.specs.Ordering.{nat_cmp}
use Rattle.std.specs.Cmp.Lexicographic.{slice_cmp}
use Rattle.std.specs.FinMap as fin
use Rattle.std.specs.FinMap.{FinMap}
use Rattle.std.specs.declared.alloc.Global.{Global}
use Rattle.apt_filer.specs.Origins.{Origin, One, Several, Missing}
use Rattle.name_index.specs.ShownMaps.{shown_map}

-- ---- the numbers of store files

abbrev pub Stores : Type 0
Stores = FinMap (slice_cmp nat_cmp) ℕ

abbrev pub or_zero : Option ℕ → ℕ
or_zero None = 0
or_zero (Some number) = number

-- the number of a path, or 0 where it has none
abbrev pub number_at : Stores → List ℕ → ℕ
number_at stores path = or_zero (fin.get stores path)

abbrev pub stores_of : BTreeMap (String Global) ℕ → Stores
stores_of held = shown_map held

abbrev pub stores_code : Coded Stores
stores_code = fin.code (coded_list coded_ℕ) coded_ℕ

-- ---- places

abbrev pub PlaceMap : Type 0
PlaceMap = FinMap (slice_cmp nat_cmp) (List ℕ)

abbrev pub or_none : Option (List ℕ) → List ℕ
or_none None = []
or_none (Some places) = places

abbrev pub places_at : PlaceMap → List ℕ → List ℕ
places_at places name = or_none (fin.get places name)

-- one place more
abbrev pub with_place : PlaceMap → List ℕ → ℕ → PlaceMap
with_place places name place = fin.insert places name (places_at places name ++ place ∷ [])

-- at the one unit of an origin, if it has one
abbrev pub with_origin : PlaceMap → Origin → ℕ → PlaceMap
with_origin places (One unit) place = with_place places unit place
with_origin places Several place = places
with_origin places Missing place = places

abbrev pub places_of : BTreeMap (String Global) (List ℕ) → PlaceMap
places_of held = shown_map held

abbrev pub places_code : Coded PlaceMap
places_code = fin.code (coded_list coded_ℕ) (coded_list coded_ℕ)
