-- What holds of all settings.
use Rattle.std.proofs.Common.{◌≡◌, ℕ, ◌<◌, ◌≤◌, Bool, true, false, not, cond, ◌&&◌, ◌||◌, T, List, [], ◌∷◌, ◌++◌, length, map, filter, nat_le, Option, Some, None, Result, Ok, Err, IfOk, refl, sym, ap, subst, ◌∙◌}
use Rattle.std.specs.List.{AllByRecursion, IsDistinct, list_any}
use Rattle.std.specs.List.Sorted.{IsStrictlySortedBy}
use Rattle.std.specs.Ordering.{nat_cmp, is_lt}
use Rattle.std.specs.declared.cmp.Ordering.{Ordering}
use Rattle.std.specs.declared.cmp.Ordering.TheVariants.{Less, Equal, Greater}
use Rattle.std.specs.Cmp.Lexicographic.{slice_cmp}
use Rattle.std.specs.Str.{bytes_eq}
use Rattle.std.specs.FinMap as fin
use Rattle.std.specs.FinMap.Entries.{is_sorted, below_all}
use Rattle.std.proofs.lemmas.Bool.{leb-true}
use Rattle.std.proofs.lemmas.Bool.Decides.{same_from_decides}
use Rattle.std.proofs.lemmas.Slice.Eq.{bytes_eq-Decides}
use Rattle.std.proofs.lemmas.List.{length-map}
use Rattle.std.proofs.lemmas.List.Folds.{list_any-append}
use Rattle.apt_base.specs.Limits.{max_processors}
use Rattle.apt_base.specs.declared.kinds.Kind.{Kind}
use Rattle.processor_claims.specs.Lines.{first_bad, said_in, name_in, readings}
use Rattle.processor_claims.specs.Services.{each_once, names_of}
use Rattle.project_config.specs.declared.config.Config.{Config}
use Rattle.project_config.specs.declared.config.ProcessorRow.{ProcessorRow}
use Rattle.project_config.specs.declared.processor.Processor.{Processor}
use Rattle.project_config.specs.declared.settings.Settings.{Settings}
use Rattle.project_config.specs.declared.fault.ConfigFault.{ConfigFault}
use Rattle.project_config.specs.declared.fault.ConfigFault.TheVariants.{ServiceLine, TooManyProcessors}
use Rattle.project_config.specs.Answers.{Reading, ◌>>=◌, OrMemory}
use Rattle.project_config.specs.Items.{are_names_after}
use Rattle.project_config.specs.Reading.{config_of}
use Rattle.project_config.specs.Options.{put_all, with_options}
use Rattle.project_config.specs.Discovery.{lines_as, names_in, kinds_in, few, row_named, kind_of, processor_by, processors_of, discovered, settings_of}
use Rattle.project_config.specs.Settled.{IsSettled}
use Rattle.project_config.proofs.ReadLaws.{ok_same, bound, and_more-ok, IsOfNames, HasCommand, IsRead, config-read}

-- ---- the options ascend

front_of : (a b : Bool) → T (a && b) → T a
front_of true b t = tt
front_of false b t = t

rest_of : (a b : Bool) → T (a && b) → T b
rest_of true b t = t
rest_of false b t = absurd t

is_less : (o : Ordering) → T (is_lt o) → o ≡ Less
is_less Less t = refl
is_less Equal t = absurd t
is_less Greater t = absurd t

below-keys : (key : List ℕ) (es : List (List ℕ × List ℕ)) → T (below_all (slice_cmp nat_cmp) key es) → AllByRecursion (λ other. slice_cmp nat_cmp key other ≡ Less) (map (λ e. e.0) es)
below-keys key [] t = tt
below-keys key (e ∷ es) t = (is_less _ (front_of _ _ t), below-keys key es (rest_of _ _ t))

sorted-keys : (es : List (List ℕ × List ℕ)) → T (is_sorted (slice_cmp nat_cmp) es) → IsStrictlySortedBy (slice_cmp nat_cmp) (map (λ e. e.0) es)
unfolding IsStrictlySortedBy
sorted-keys [] t = tt
sorted-keys (e ∷ es) t = (below-keys e.0 es (front_of _ _ t), sorted-keys es (rest_of _ _ t))

-- ---- the names differ

bytes_eq-turned : (a b : List ℕ) → bytes_eq a b ≡ bytes_eq b a
bytes_eq-turned a b = same_from_decides (bytes_eq a b) (bytes_eq b a) (bytes_eq-Decides a b) ((λ e. sym ((bytes_eq-Decides b a).0 e)), (λ e. (bytes_eq-Decides b a).1 (sym e)))

and_front : (a b : Bool) → (a && b) ≡ true → a ≡ true
and_front true b e = refl
and_front false b e = e

and_rest : (a b : Bool) → (a && b) ≡ true → b ≡ true
and_rest true b e = e
and_rest false b e = absurd (cc)

or_front : (a b : Bool) → (a || b) ≡ false → a ≡ false
or_front true b e = e
or_front false b e = refl

or_rest : (a b : Bool) → (a || b) ≡ false → b ≡ false
or_rest true b e = absurd (cc)
or_rest false b e = e

is_not : (b : Bool) → not b ≡ true → b ≡ false
is_not true e = absurd (cc)
is_not false e = refl

abbrev IsNew : List (List ℕ) → List ℕ → Type 0
IsNew before name = list_any (bytes_eq name) before ≡ false

-- names that are none of those before, nor one of these
earlier : (before : List (List ℕ)) (name : List ℕ) (names : List (List ℕ)) → AllByRecursion (IsNew (before ++ name ∷ [])) names → AllByRecursion (IsNew before) names
earlier before name [] all = tt
earlier before name (x ∷ xs) all =
    (or_front _ _ (sym (list_any-append (bytes_eq x) before (name ∷ [])) ∙ all.0), earlier before name xs all.1)

other_than : (before : List (List ℕ)) (name : List ℕ) (names : List (List ℕ)) → AllByRecursion (IsNew (before ++ name ∷ [])) names → AllByRecursion (λ other. bytes_eq name other ≡ false) names
other_than before name [] all = tt
other_than before name (x ∷ xs) all =
    let last : (bytes_eq x name || false) ≡ false = or_rest _ _ (sym (list_any-append (bytes_eq x) before (name ∷ [])) ∙ all.0) in
    (bytes_eq-turned name x ∙ or_front _ _ last, other_than before name xs all.1)

order-differs : (before names : List (List ℕ)) → are_names_after before names ≡ true → AllByRecursion (IsNew before) names × IsDistinct bytes_eq names
unfolding IsDistinct
order-differs before [] is = (tt, tt)
order-differs before (name ∷ names) is =
    let rest = and_rest _ _ is in
    let later = order-differs (before ++ name ∷ []) names (and_rest _ _ rest) in
    ((is_not _ (and_front _ _ rest), earlier before name names later.0), (other_than before name names later.0, later.1))

filter-all : (P : List ℕ → Type 0) (p : List ℕ → Bool) (xs : List (List ℕ)) → AllByRecursion P xs → AllByRecursion P (filter p xs)
filter-all P p [] all = tt
filter-all P p (x ∷ xs) all = by (p x) (filter-all P p xs all.1)
  where
    by : (b : Bool) → AllByRecursion P (filter p xs) → AllByRecursion P (cond b (x ∷ filter p xs) (filter p xs))
    by true later = (all.0, later)
    by false later = later

filter-differs : (p : List ℕ → Bool) (xs : List (List ℕ)) → IsDistinct bytes_eq xs → IsDistinct bytes_eq (filter p xs)
unfolding IsDistinct
filter-differs p [] d = tt
filter-differs p (x ∷ xs) d = by (p x) (filter-differs p xs d.1)
  where
    by : (b : Bool) → IsDistinct bytes_eq (filter p xs) → IsDistinct bytes_eq (cond b (x ∷ filter p xs) (filter p xs))
    by true later = (filter-all (λ y. bytes_eq x y ≡ false) p xs d.0, later)
    by false later = later

filter-other : (name : List ℕ) (xs : List (List ℕ)) → AllByRecursion (λ other. bytes_eq name other ≡ false) (filter (λ other. not (bytes_eq name other)) xs)
filter-other name [] = tt
filter-other name (x ∷ xs) = by (bytes_eq name x) refl (filter-other name xs)
  where
    others : List (List ℕ)
    others = filter (λ other. not (bytes_eq name other)) xs

    by : (b : Bool) → bytes_eq name x ≡ b → AllByRecursion (λ other. bytes_eq name other ≡ false) others → AllByRecursion (λ other. bytes_eq name other ≡ false) (cond (not b) (x ∷ others) others)
    by true e later = later
    by false e later = (e, later)

each_once-differs : (names : List (List ℕ)) → IsDistinct bytes_eq (each_once names)
unfolding IsDistinct
each_once-differs [] = tt
each_once-differs (name ∷ names) = (filter-other name (each_once names), filter-differs _ (each_once names) (each_once-differs names))

names-differ : (order : Option (List (List ℕ))) (services : List ℕ) (names : List (List ℕ)) → IsOfNames order → names_in order services ≡ Ok names → IsDistinct bytes_eq names
names-differ (Some order) services names of is = subst (IsDistinct bytes_eq) (ok_same order names is) (order-differs [] order of).1
names-differ None services names of is = by (first_bad name_in (said_in services)) is
  where
    by : (bad : Option ℕ) → lines_as ServiceLine bad (names_of services) ≡ Ok names → IsDistinct bytes_eq names
    by None is = subst (IsDistinct bytes_eq) (ok_same (names_of services) names is) (each_once-differs (readings name_in (said_in services)))
    by (Some line) is = absurd (cc)

-- ---- the processors

few-only : (all names : List (List ℕ)) → few all ≡ Ok names → (all ≡ names) × (length all ≤ max_processors)
few-only all names is = by (nat_le (length all) max_processors) refl is
  where
    by : (b : Bool) → nat_le (length all) max_processors ≡ b → cond b (Ok all) (Err TooManyProcessors) ≡ Ok names → (all ≡ names) × (length all ≤ max_processors)
    by true e is = (ok_same all names is, leb-true (length all) max_processors e)
    by false e is = absurd (cc)

abbrev Starts : Processor → Type 0
Starts processor = 0 < length processor.command

row_named-some : (name : List ℕ) (rows : List ProcessorRow) (row : ProcessorRow) → AllByRecursion HasCommand rows → row_named name rows ≡ Some row → HasCommand row
row_named-some name [] row all is = absurd (cc)
row_named-some name (first ∷ rows) row all is = by (bytes_eq first.name name) (row_named-some name rows row all.1) is
  where
    by : (b : Bool) → (row_named name rows ≡ Some row → HasCommand row) → cond b (Some first) (row_named name rows) ≡ Some row → HasCommand row
    by true later is = let same : first ≡ row = cc in subst HasCommand same all.0
    by false later is = later is

processor-made : (name : List ℕ) (kind : Kind) (rows : List ProcessorRow) (processor : Processor) → AllByRecursion HasCommand rows → processor_by name kind (row_named name rows) ≡ Ok processor → (name ≡ processor.name) × Starts processor
processor-made name kind rows processor all is = by (row_named name rows) refl is
  where
    by : (row : Option ProcessorRow) → row_named name rows ≡ row → processor_by name kind row ≡ Ok processor → (name ≡ processor.name) × Starts processor
    by None e is = absurd (cc)
    by (Some row) e is = subst (λ (p : Processor). (name ≡ p.name) × Starts p) (ok_same _ processor is) (refl, row_named-some name rows row all e)

processors-made : (rows : List ProcessorRow) (kinds : List (List ℕ × Kind)) (names : List (List ℕ)) (processors : List Processor) → AllByRecursion HasCommand rows
    → processors_of rows kinds names ≡ Ok processors → (names ≡ map (λ (p : Processor). p.name) processors) × AllByRecursion Starts processors
processors-made rows kinds [] processors all is = subst (λ (ps : List Processor). ([] ≡ map (λ (p : Processor). p.name) ps) × AllByRecursion Starts ps) (ok_same [] processors is) (refl, tt)
processors-made rows kinds (name ∷ names) processors all is =
    let parts = and_more-ok (processor_by name (kind_of name kinds) (row_named name rows)) (processors_of rows kinds names) processors is in
    let first : Processor = parts.0 in
    let more : List Processor = parts.1 in
    let made = processor-made name (kind_of name kinds) rows first all parts.2 in
    let later = processors-made rows kinds names more all parts.3 in
    let same : name ∷ names ≡ first.name ∷ map (λ (p : Processor). p.name) more = ap (λ n. n ∷ names) made.0 ∙ ap (λ ns. first.name ∷ ns) later.0 in
    subst (λ (ps : List Processor). (name ∷ names ≡ map (λ (p : Processor). p.name) ps) × AllByRecursion Starts ps) parts.4 (same, (made.1, later.1))

record AreDiscovered (processors : List Processor) : Type 0 where
  pub few : length processors ≤ max_processors
  pub names : IsDistinct bytes_eq (map (λ (processor : Processor). processor.name) processors)
  pub commands : AllByRecursion Starts processors

discovered-holds : (config : Config) (services file : List ℕ) (processors : List Processor) → IsRead config → discovered config services file ≡ Ok processors → AreDiscovered processors
discovered-holds config services file processors read is =
    let all = bound (names_in config.order services) after_names processors is in
    let said = bound (kinds_in file) (after_kinds all.0) processors all.2 in
    let names = bound (few all.0) (processors_of config.processors said.0) processors said.2 in
    let few = few-only all.0 names.0 names.1 in
    let made = processors-made config.processors said.0 names.0 processors read.rows names.2 in
    let same : all.0 ≡ map (λ (p : Processor). p.name) processors = few.0 ∙ made.0 in
    record {
      few = subst (λ n. n ≤ max_processors) (ap length same ∙ length-map processors (λ (p : Processor). p.name)) few.1;
      names = subst (IsDistinct bytes_eq) same (names-differ config.order services all.0 read.order all.1);
      commands = made.1;
    }
  where
    after_kinds : List (List ℕ) → List (List ℕ × Kind) → Reading (List Processor)
    after_kinds all kinds = few all >>= processors_of config.processors kinds

    after_names : List (List ℕ) → Reading (List Processor)
    after_names all = kinds_in file >>= after_kinds all

-- ---- the whole

settled : (file : Option (List ℕ)) (services kinds : List ℕ) (words : List (List ℕ × List ℕ)) (settings : Settings) → settings_of file services kinds words ≡ Ok settings → IsSettled settings
settled file services kinds words settings is =
    let config = bound (config_of file) after_config settings is in
    let processors = bound (discovered config.0 services kinds) (settings_with config.0) settings config.2 in
    let read = config-read file config.0 config.1 in
    let holds = discovered-holds config.0 services kinds processors.0 read processors.1 in
    subst IsSettled (ok_same (record { level = config.0.level; options = with_options config.0.options words; processors = processors.0 }) settings processors.2) (record {
      level = read.level;
      options = sorted-keys (with_options config.0.options words) (fin.entries_sorted (put_all (put_all fin.empty config.0.options) words));
      few = holds.few;
      names = holds.names;
      commands = holds.commands;
    })
  where
    settings_with : Config → List Processor → Reading Settings
    settings_with config processors = Ok (record { level = config.level; options = with_options config.options words; processors = processors })

    after_config : Config → Reading Settings
    after_config config = discovered config services kinds >>= settings_with config

pub settled-ok : (result : Result Settings ConfigFault) (file : Option (List ℕ)) (services kinds : List ℕ) (words : List (List ℕ × List ℕ)) → OrMemory result (settings_of file services kinds words) → IfOk result IsSettled
settled-ok (Ok settings) file services kinds words is = settled file services kinds words settings is
settled-ok (Err e) file services kinds words is = tt
