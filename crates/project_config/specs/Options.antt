-- The options of a build: those of the configuration, and over them those of the words.
use Rattle.std.specs.Prelude.{◌≡◌, ℕ, ◌==◌, nat_lt, List, [], ◌∷◌, length, map, String, string_bytes, Option, Some, None, if◌then◌else◌}
use Rattle.std.specs.List.{position_or_len, before_first, after_first}
use Rattle.std.specs.Ordering.{nat_cmp}
use Rattle.std.specs.Cmp.Lexicographic.{slice_cmp}
use Rattle.std.specs.Option.{option_or}
use Rattle.std.specs.Str.{bytes_eq}
use Rattle.std.specs.BTreeMap.{BTreeMap}
use Rattle.std.specs.Coded.{Coded, coded_list, coded_ℕ}
use Rattle.std.specs.FinMap as fin
use Rattle.std.specs.FinMap.{FinMap}
use Rattle.std.specs.declared.alloc.Global.{Global}

-- `key=value`, whose key is not empty and does not begin with `-`. `=` is 61 and `-` is 45
abbrev pub if_key : List ℕ → List ℕ → Option (List ℕ × List ℕ)
if_key [] value = None
if_key (c ∷ cs) value = if c == 45 then None else Some (c ∷ cs, value)

unfoldable pub option_in : List ℕ → Option (List ℕ × List ℕ)
option_in word =
    if nat_lt (position_or_len (λ c. c == 61) word) (length word)
    then if_key (before_first (λ c. c == 61) word) (after_first (λ c. c == 61) word) else None

-- options by their keys. The keys ascend by their bytes
abbrev pub OptionMap : Type 0
OptionMap = FinMap (slice_cmp nat_cmp) (List ℕ)

-- options that are put in one after another, each in the place of one of the same key
abbrev pub put_all : OptionMap → List (List ℕ × List ℕ) → OptionMap
put_all map [] = map
put_all map (option ∷ more) = put_all (fin.insert map option.0 option.1) more

-- options, and over them those of the words: of one key the last word counts
abbrev pub with_options : List (List ℕ × List ℕ) → List (List ℕ × List ℕ) → List (List ℕ × List ℕ)
with_options options words = fin.entries (put_all (put_all fin.empty options) words)

-- the value of a key: the last one that options give it
abbrev pub value_of : List ℕ → List (List ℕ × List ℕ) → Option (List ℕ)
value_of key [] = None
value_of key (option ∷ more) = option_or (value_of key more) (if bytes_eq key option.0 then Some option.1 else None)

-- each key has the value of the words, and where they give it none that of the options
abbrev pub IsOver : List (List ℕ × List ℕ) → List (List ℕ × List ℕ) → List (List ℕ × List ℕ) → Type 0
IsOver options words all = (key : List ℕ) → value_of key all ≡ option_or (value_of key words) (value_of key options)

-- ---- how options in memory are seen

abbrev pub shown_entry : {X : Type 0} → String Global × X → List ℕ × X
shown_entry e = (string_bytes e.0, e.1)

abbrev pub options_held : BTreeMap (String Global) (List ℕ) → OptionMap
options_held m = fin.from_entries (map shown_entry m.entries)

abbrev pub options_code : Coded OptionMap
options_code = fin.code (coded_list coded_ℕ) (coded_list coded_ℕ)
