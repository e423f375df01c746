-- What becomes of a creation (JSR 269, `Filer`): its path, and the answer of a filer that has accepted others before.
use Rattle.std.specs.Prelude.{ℕ, ◌+◌, Bool, true, false, not, ◌||◌, ◌==◌, nat_lt, if◌then◌else◌, List, [], ◌∷◌, ◌++◌, length, map, codes, Option, None, Some}
use Rattle.std.specs.Option.{option_map_or}
use Rattle.std.specs.FinMap as fin
use Rattle.apt_base.specs.Names.{NameSet, with_name, with_names}
use Rattle.wire_frames.specs.declared.frame.Creation.{Creation}
use Rattle.wire_frames.specs.declared.frame.Creation.TheVariants.{Source, Resource, Class}
use Rattle.wire_frames.specs.declared.reply.Created.{Created}
use Rattle.wire_frames.specs.declared.reply.Created.TheVariants.{Accepted, Exists, Unsupported, BadName, TooLarge}
use Rattle.apt_filer.specs.Names.{is_well_named}

-- ---- paths

-- a name with its dots, which are 46, turned into `/`, which is 47
abbrev pub folders_of : List ℕ → List ℕ
folders_of name = map (λ byte. if byte == 46 then 47 else byte) name

-- a package as folders, each with the `/` that ends it; the unnamed package has none
abbrev pub package_folders : List ℕ → List ℕ
package_folders [] = []
package_folders (byte ∷ bytes) = folders_of (byte ∷ bytes) ++ codes "/"

-- the folder of a location
abbrev pub location_folder : ℕ → List ℕ
location_folder location =
    if location == 0 then codes "CLASS_OUTPUT/" else if location == 1 then codes "SOURCE_OUTPUT/" else codes "NATIVE_HEADER_OUTPUT/"

-- the path of a source with this name
abbrev pub source_path : List ℕ → List ℕ
source_path name = codes "SOURCE_OUTPUT/" ++ folders_of name ++ codes ".java"

-- the path of a resource
abbrev pub resource_path : ℕ → List ℕ → List ℕ → List ℕ
resource_path location «package» relative = location_folder location ++ package_folders «package» ++ relative

-- the path of a creation; a class file has none
unfoldable pub path_of : Creation → List ℕ
path_of (Source name content origins) = source_path name
path_of (Resource location «package» relative content origins) = resource_path location «package» relative
path_of (Class name content origins) = []

-- ---- what the tests read of a file

abbrev pub content_of : Creation → List ℕ
content_of (Source name content origins) = content
content_of (Resource location «package» relative content origins) = content
content_of (Class name content origins) = content

-- the name of a source's type
abbrev pub type_name_of : Creation → Option (List ℕ)
type_name_of (Source name content origins) = Some name
type_name_of (Resource location «package» relative content origins) = None
type_name_of (Class name content origins) = None

abbrev pub is_class : Creation → Bool
is_class (Source name content origins) = false
is_class (Resource location «package» relative content origins) = false
is_class (Class name content origins) = true

-- a file: its path, the name of its type if it is a source, and how many bytes it holds
pub record Item : Type 0 where
  pub path : List ℕ
  pub type_name : Option (List ℕ)
  pub bytes : ℕ

abbrev pub item_of : Creation → Item
item_of creation = record { path = path_of creation; type_name = type_name_of creation; bytes = length (content_of creation) }

-- the bytes that it holds, and those of its path
abbrev pub size_of : Item → ℕ
size_of item = item.bytes + length item.path

-- ---- what is taken

-- the names of the types that are there, the paths that are taken, and how many bytes the files and their paths have together
pub record Taken : Type 0 where
  pub types : NameSet
  pub paths : NameSet
  pub total : ℕ

-- before the first file the names of the initial units and of the stubs are taken
abbrev pub taken_at_first : List (List ℕ) → Taken
taken_at_first initial = record { types = with_names fin.empty initial; paths = fin.empty; total = 0 }

abbrev pub with_type : NameSet → Option (List ℕ) → NameSet
with_type types None = types
with_type types (Some name) = with_name types name

-- one file more
abbrev pub with_item : Taken → Item → Taken
with_item taken item = record { types = with_type taken.types item.type_name; paths = with_name taken.paths item.path; total = taken.total + size_of item }

-- ---- the answer

-- the path is taken, or, for a source, the name of its type
unfoldable pub is_there : Taken → Item → Bool
is_there taken item = fin.contains_key taken.paths item.path || option_map_or (λ name. fin.contains_key taken.types name) item.type_name false

-- it is longer than a file may be, or all files and paths with it are
unfoldable pub is_too_large : Taken → Item → Bool
is_too_large taken item = nat_lt 8388608 item.bytes || nat_lt 67108864 (taken.total + size_of item)

-- what is answered for a file, where this is taken
unfoldable pub item_answer : Taken → Item → Created
item_answer taken item =
    if is_there taken item then Exists
    else if is_too_large taken item then TooLarge
    else Accepted

-- what is answered for a creation: the first test that holds
unfoldable pub answer_to : Taken → Creation → Created
answer_to taken creation =
    if is_class creation then Unsupported
    else if not (is_well_named creation) then BadName
    else item_answer taken (item_of creation)

-- ---- a filer

-- what is taken, and what was created and accepted, in order
pub record Filings : Type 0 where
  pub taken : Taken
  pub made : List Creation

-- one creation more that was accepted
abbrev pub with_file : Filings → Creation → Filings
with_file filings creation = record { taken = with_item filings.taken (item_of creation); made = filings.made ++ creation ∷ [] }

-- a creation that is accepted is one more, and another changes nothing
abbrev pub filed : Filings → Creation → Created → Filings
filed filings creation Accepted = with_file filings creation
filed filings creation Exists = filings
filed filings creation Unsupported = filings
filed filings creation BadName = filings
filed filings creation TooLarge = filings
