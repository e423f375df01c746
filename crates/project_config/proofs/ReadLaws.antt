-- What holds of each configuration that was read.
use Rattle.std.proofs.Common.{◌≡◌, ℕ, ◌<◌, Bool, true, false, cond, ◌==◌, List, [], ◌∷◌, length, codes, Option, Some, None, option_map, is_some, Ok, Err, refl, subst, arith}
use Rattle.std.specs.List.{AllByRecursion}
use Rattle.std.specs.Option.{option_and_then}
use Rattle.serde_json.specs.Data.{Data, Members, no_members, member}
use Rattle.serde_json.specs.Find.{get, as_number, as_object, as_u64}
use Rattle.project_config.specs.declared.config.Config.{Config}
use Rattle.project_config.specs.declared.config.ProcessorRow.{ProcessorRow}
use Rattle.project_config.specs.declared.fault.ConfigFault.TheVariants.{Item}
use Rattle.project_config.specs.Answers.{Reading, ◌>>=◌}
use Rattle.project_config.specs.Items.{eleven, level_in, texts_in, are_names_after, if_names, order_in, options_in, if_some_word, command_in, version_in}
use Rattle.project_config.specs.Reading.{at, place_in_row, row_items, row_in, rows_of, rows_of_object, rows_in, config_in, object_in, text_of, config_of_object, config_of}
use Rattle.project_config.proofs.AnswerLaws.{and_more}

pub ok_same : {A : Type 0} (x y : A) → ◌≡◌ {A = Reading A} (Ok x) (Ok y) → x ≡ y
ok_same x y is = cc

some_same : {A : Type 0} (x y : A) → Some x ≡ Some y → x ≡ y
some_same x y is = cc

-- what a reading behind another comes from
pub bound : {A B : Type 0} (r : Reading A) (f : A → Reading B) (y : B) → (r >>= f) ≡ Ok y → (x : A) × (r ≡ Ok x) × (f x ≡ Ok y)
bound (Ok x) f y is = (x, refl, is)
bound (Err e) f y is = absurd (cc)

-- what one item and then more come from
pub and_more-ok : {A : Type 0} (first : Reading A) (r : Reading (List A)) (all : List A) → and_more first r ≡ Ok all → (x : A) × (more : List A) × (first ≡ Ok x) × (r ≡ Ok more) × (x ∷ more ≡ all)
and_more-ok (Err e) r all is = absurd (cc)
and_more-ok (Ok x) (Err e) all is = absurd (cc)
and_more-ok (Ok x) (Ok more) all is = (x, more, refl, refl, ok_same (x ∷ more) all is)

-- ---- the level

eleven-only : (o : Option ℕ) (n : ℕ) → option_and_then eleven o ≡ Some n → n ≡ 11
eleven-only None n is = absurd (cc)
eleven-only (Some m) n is = by (m == 11) is
  where
    by : (b : Bool) → cond b (Some 11) None ≡ Some n → n ≡ 11
    by true is = cc
    by false is = absurd (cc)

level-only : (o : Option Data) (n : ℕ) → level_in o ≡ Some n → n ≡ 11
level-only None n is = cc
level-only (Some d) n is = eleven-only (option_and_then as_u64 (as_number d)) n is

-- ---- the order

abbrev pub IsOfNames : Option (List (List ℕ)) → Type 0
IsOfNames None = Unit {0}
IsOfNames (Some names) = are_names_after [] names ≡ true

order-names : (o : Option Data) (order : Option (List (List ℕ))) → order_in o ≡ Some order → IsOfNames order
order-names None order is = subst IsOfNames (some_same None order is) tt
order-names (Some d) order is = by (texts_in d) is
  where
    chosen : (texts : List (List ℕ)) (b : Bool) → are_names_after [] texts ≡ b → option_map Some (cond b (Some texts) None) ≡ Some order → IsOfNames order
    chosen texts true e is = subst IsOfNames (some_same (Some texts) order is) e
    chosen texts false e is = absurd (cc)

    by : (texts : Option (List (List ℕ))) → option_map Some (option_and_then if_names texts) ≡ Some order → IsOfNames order
    by None is = absurd (cc)
    by (Some texts) is = chosen texts (are_names_after [] texts) refl is

-- ---- the rows

abbrev pub HasCommand : ProcessorRow → Type 0
HasCommand row = 0 < length row.command

command-some : (o : Option Data) (words : List (List ℕ)) → command_in o ≡ Some words → 0 < length words
command-some None words is = absurd (cc)
command-some (Some d) words is = by (texts_in d) is
  where
    by : (texts : Option (List (List ℕ))) → option_and_then if_some_word texts ≡ Some words → 0 < length words
    by None is = absurd (cc)
    by (Some []) is = absurd (cc)
    by (Some (x ∷ xs)) is = subst (λ (words : List (List ℕ)). 0 < length words) (some_same (x ∷ xs) words is) (omega arith)

row_chain : List ℕ → Option (List (List ℕ)) → Option (List ℕ) → Reading ProcessorRow
row_chain name command version =
    at (place_in_row name (codes "/command")) command
    >>= (λ command. at (place_in_row name (codes "/version")) version >>= (λ version. Ok (record { name = name; command = command; version = version })))

row_chain-some : (name : List ℕ) (command : Option (List (List ℕ))) (version : Option (List ℕ)) (row : ProcessorRow) → ((words : List (List ℕ)) → command ≡ Some words → 0 < length words)
    → row_chain name command version ≡ Ok row → HasCommand row
unfolding row_chain
row_chain-some name None version row some is = absurd (cc)
row_chain-some name (Some command) None row some is = absurd (cc)
row_chain-some name (Some command) (Some version) row some is =
    subst HasCommand (ok_same (record { name = name; command = command; version = version }) row is) (some command refl)

row_items-some : (name : List ℕ) (d : Data) (row : ProcessorRow) → row_items name d ≡ Ok row → HasCommand row
unfolding row_chain
row_items-some name d row is =
    row_chain-some name (command_in (get (codes "command") d)) (version_in (get (codes "version") d)) row (command-some (get (codes "command") d)) is

row-some : (name : List ℕ) (d : Data) (row : ProcessorRow) → row_in name d ≡ Ok row → HasCommand row
row-some name d row is = by (is_some (as_object d)) is
  where
    by : (b : Bool) → cond b (row_items name d) (Err (Item (place_in_row name []))) ≡ Ok row → HasCommand row
    by true is = row_items-some name d row is
    by false is = absurd (cc)

rows-some : (ms : Members) (rows : List ProcessorRow) → rows_of ms ≡ Ok rows → AllByRecursion HasCommand rows
rows-some no_members rows is = subst (AllByRecursion HasCommand) (ok_same [] rows is) tt
rows-some (member name d ms) rows is =
    let parts = and_more-ok (row_in name d) (rows_of ms) rows is in
    subst (AllByRecursion HasCommand) parts.4 (row-some name d parts.0 parts.2, rows-some ms parts.1 parts.3)

rows_in-some : (o : Option Data) (rows : List ProcessorRow) → rows_in o ≡ Ok rows → AllByRecursion HasCommand rows
rows_in-some None rows is = subst (AllByRecursion HasCommand) (ok_same [] rows is) tt
rows_in-some (Some d) rows is = by (as_object d) is
  where
    by : (ms : Option Members) → rows_of_object ms ≡ Ok rows → AllByRecursion HasCommand rows
    by None is = absurd (cc)
    by (Some ms) is = rows-some ms rows is

-- ---- the whole

pub record IsRead (config : Config) : Type 0 where
  pub level : config.level ≡ 11
  pub order : IsOfNames config.order
  pub rows : AllByRecursion HasCommand config.processors

config_chain : Option ℕ → Option (Option (List (List ℕ))) → Option (List (List ℕ × List ℕ)) → Reading (List ProcessorRow) → Reading Config
config_chain level order options rows =
    at (codes "/level") level
    >>= (λ level. at (codes "/order") order
    >>= (λ order. at (codes "/options") options
    >>= (λ options. rows >>= (λ rows. Ok (record { level = level; order = order; options = options; processors = rows })))))

config_chain-read : (level : Option ℕ) (order : Option (Option (List (List ℕ)))) (options : Option (List (List ℕ × List ℕ))) (rows : Reading (List ProcessorRow)) (config : Config)
    → ((n : ℕ) → level ≡ Some n → n ≡ 11) → ((o : Option (List (List ℕ))) → order ≡ Some o → IsOfNames o) → ((rs : List ProcessorRow) → rows ≡ Ok rs → AllByRecursion HasCommand rs)
    → config_chain level order options rows ≡ Ok config → IsRead config
unfolding config_chain
config_chain-read None order options rows config eleven names commands is = absurd (cc)
config_chain-read (Some level) None options rows config eleven names commands is = absurd (cc)
config_chain-read (Some level) (Some order) None rows config eleven names commands is = absurd (cc)
config_chain-read (Some level) (Some order) (Some options) (Err e) config eleven names commands is = absurd (cc)
config_chain-read (Some level) (Some order) (Some options) (Ok rows) config eleven names commands is =
    subst IsRead (ok_same (record { level = level; order = order; options = options; processors = rows }) config is)
    (record { level = eleven level refl; order = names order refl; rows = commands rows refl })

config_in-read : (d : Data) (config : Config) → config_in d ≡ Ok config → IsRead config
unfolding config_chain
config_in-read d config is =
    config_chain-read (level_in (get (codes "level") d)) (order_in (get (codes "order") d)) (options_in (get (codes "options") d)) (rows_in (get (codes "processors") d)) config
    (level-only (get (codes "level") d)) (order-names (get (codes "order") d)) (rows_in-some (get (codes "processors") d)) is

pub config-read : (file : Option (List ℕ)) (config : Config) → config_of file ≡ Ok config → IsRead config
config-read file config is = by (object_in (text_of file)) is
  where
    by : (object : Option Data) → config_of_object object ≡ Ok config → IsRead config
    by None is = absurd (cc)
    by (Some d) is = config_in-read d config is
