-- The items of `apt.json`: what each says where it is of its form.
use Rattle.std.specs.Prelude.{ℕ, Bool, true, not, ◌&&◌, ◌==◌, ◌++◌, List, [], ◌∷◌, Option, Some, None, option_map, option_and_then, if◌then◌else◌}
use Rattle.std.specs.List.{list_any}
use Rattle.std.specs.Str.{bytes_eq}
use Rattle.apt_base.specs.Identifiers.{is_dotted}
use Rattle.serde_json.specs.Data.{Data, Items, no_items, item, Members, no_members, member}
use Rattle.serde_json.specs.Find.{as_array, as_object, as_number, as_str, as_u64}

-- the level is 11, also where none is said
abbrev pub eleven : ℕ → Option ℕ
eleven n = if n == 11 then Some 11 else None

abbrev pub level_in : Option Data → Option ℕ
level_in None = Some 11
level_in (Some d) = option_and_then eleven (option_and_then as_u64 (as_number d))

-- the texts of a list of texts
abbrev pub texts_of : Items → Option (List (List ℕ))
texts_of no_items = Some []
texts_of (item d ds) = option_and_then (λ text. option_map (λ texts. text ∷ texts) (texts_of ds)) (as_str d)

abbrev pub texts_in : Data → Option (List (List ℕ))
texts_in d = option_and_then texts_of (as_array d)

-- names of classes, identifiers joined by dots, each of them none of those before it
abbrev pub are_names_after : List (List ℕ) → List (List ℕ) → Bool
are_names_after before [] = true
are_names_after before (name ∷ names) =
    is_dotted name && (not (list_any (bytes_eq name) before) && are_names_after (before ++ name ∷ []) names)

abbrev pub if_names : List (List ℕ) → Option (List (List ℕ))
if_names texts = if are_names_after [] texts then Some texts else None

-- the order of the processors, where one is said
abbrev pub order_in : Option Data → Option (Option (List (List ℕ)))
order_in None = Some None
order_in (Some d) = option_map Some (option_and_then if_names (texts_in d))

-- the texts of an object of texts, by the names of its members
abbrev pub options_of : Members → Option (List (List ℕ × List ℕ))
options_of no_members = Some []
options_of (member key d ms) =
    option_and_then (λ text. option_map (λ options. (key, text) ∷ options) (options_of ms)) (as_str d)

abbrev pub options_in : Option Data → Option (List (List ℕ × List ℕ))
options_in None = Some []
options_in (Some d) = option_and_then options_of (as_object d)

-- a command: one or more texts
abbrev pub if_some_word : List (List ℕ) → Option (List (List ℕ))
if_some_word [] = None
if_some_word (word ∷ words) = Some (word ∷ words)

abbrev pub command_in : Option Data → Option (List (List ℕ))
command_in None = None
command_in (Some d) = option_and_then if_some_word (texts_in d)

abbrev pub version_in : Option Data → Option (List ℕ)
version_in None = None
version_in (Some d) = as_str d
