-- What a form does to the brackets that are open: whole, and where it is begun.
use Rattle.std.proofs.Common.{◌≡◌, ℕ, suc, Bool, true, List, [], ◌∷◌, ◌++◌}
use Rattle.std.specs.Prelude.{if◌then◌else◌}
use Rattle.decl_grammar.specs.declared.symbol.Symbol.{Symbol}
use Rattle.decl_grammar.specs.Reading.{has, openers}
use Rattle.decl_grammar.specs.Form.{Stands, Part, Nest, alone, paired, listed, defaulted, assigned, one_of, bracketed, arguments, annotated, created, type_reference, tested, tested_name, tested_dim, type_arguments, created_arguments, array_value, nested_annotation, first_name, constant_value, expression_part, nested_type, modifiers, plain_modifiers, static_word, import_rest, enum_rest, param_rest, first_rest, value_and_rest, expression_rest, initialiser, value_end, constant_items, constant_chain, Form, terminal, pair, turn, maybe, many, either, seen, nest, over, attempt}
use Rattle.decl_grammar.proofs.OneToken.{within, disjoint}
use Rattle.decl_grammar.proofs.OpenBrackets.{lids, stops, constant_stops, reference_stops, marks, Leads}

-- Brackets stand in pairs; one is open behind it, by what closes it; it closes one that was open before it; or nothing is said.
pub data Effect : Type 0 where
  level : Effect
  opening : ℕ → Effect
  closing : ℕ → Effect
  mixed : Effect

-- where symbols stand: within brackets, within type arguments, in a constant form, or in a type with arguments before its `::`
pub data Mode : Type 0 where
  in_brackets : Mode
  in_arguments : Mode
  in_constant : Mode
  in_reference : Mode

-- what closes them
abbrev pub fits : Mode → ℕ → Bool
fits in_arguments k = has (74 ∷ []) k
fits in_brackets k = has lids k
fits in_constant k = has (200 ∷ []) k
fits in_reference k = has (201 ∷ []) k

abbrev pub sort_effect : Mode → ℕ → Effect
sort_effect in_arguments k =
    if has (75 ∷ []) k then opening 74 else if has (74 ∷ []) k then closing 74 else if has stops k then mixed else if has openers k then opening (suc k) else level
sort_effect in_brackets k = if has openers k then opening (suc k) else if has lids k then closing k else level
sort_effect in_constant k = if has (67 ∷ []) k then closing 200 else if has constant_stops k then mixed else if has openers k then opening (suc k) else level
sort_effect in_reference k =
    if has (75 ∷ []) k then opening 74 else if has (72 ∷ []) k then closing 201 else if has reference_stops k then mixed else if has openers k then opening (suc k) else level

abbrev pub terminal_effect : Mode → List ℕ → Effect
terminal_effect b [] = level
terminal_effect b (k ∷ []) = sort_effect b k
terminal_effect b (k ∷ l ∷ ks) = if disjoint (k ∷ l ∷ ks) marks then level else mixed

-- what may be passed over: within type arguments no `{`
abbrev pub passable : Mode → List ℕ
passable in_arguments = 61 ∷ 65 ∷ []
passable in_brackets = openers
passable in_constant = openers
passable in_reference = 61 ∷ 65 ∷ []

abbrev pub over_effect : Mode → List ℕ → Effect
over_effect b ks = if within ks (passable b) then level else mixed

abbrev pub part_effect : Mode → Part → Effect
part_effect b (one_of ks) = terminal_effect b ks
part_effect b (bracketed ks) = over_effect b ks
part_effect b annotated = level
part_effect b tested_name = level
part_effect b tested_dim = level
part_effect in_brackets arguments = level
part_effect in_arguments arguments = level
part_effect in_constant arguments = mixed
part_effect in_reference arguments = level
part_effect in_brackets created = level
part_effect in_arguments created = mixed
part_effect in_constant created = mixed
part_effect in_reference created = mixed
part_effect in_brackets type_reference = level
part_effect in_arguments type_reference = level
part_effect in_constant type_reference = mixed
part_effect in_reference type_reference = closing 201
part_effect in_brackets tested = level
part_effect in_arguments tested = mixed
part_effect in_constant tested = mixed
part_effect in_reference tested = mixed

-- what ends a row
abbrev pub last_end : Stands → ℕ
last_end alone = 62
last_end paired = 62
last_end listed = 64
last_end defaulted = 67
last_end assigned = 67

abbrev pub nest_effect : Mode → Nest → Effect
nest_effect b (expression_part s p) = part_effect b p
nest_effect b nested_type = mixed
nest_effect b modifiers = mixed
nest_effect b plain_modifiers = mixed
nest_effect b static_word = mixed
nest_effect b import_rest = mixed
nest_effect b enum_rest = mixed
nest_effect b param_rest = mixed
nest_effect b first_rest = mixed
nest_effect in_brackets type_arguments = level
nest_effect in_arguments type_arguments = level
nest_effect in_constant type_arguments = mixed
nest_effect in_reference type_arguments = level
nest_effect in_brackets created_arguments = level
nest_effect in_arguments created_arguments = level
nest_effect in_constant created_arguments = mixed
nest_effect in_reference created_arguments = level
nest_effect in_brackets array_value = level
nest_effect in_arguments array_value = mixed
nest_effect in_constant array_value = mixed
nest_effect in_reference array_value = mixed
nest_effect in_brackets nested_annotation = level
nest_effect in_arguments nested_annotation = level
nest_effect in_constant nested_annotation = level
nest_effect in_reference nested_annotation = level
nest_effect in_brackets first_name = level
nest_effect in_arguments first_name = level
nest_effect in_constant first_name = level
nest_effect in_reference first_name = level
nest_effect in_brackets constant_value = level
nest_effect in_arguments constant_value = mixed
nest_effect in_constant constant_value = level
nest_effect in_reference constant_value = mixed
nest_effect in_brackets (value_and_rest s) = closing (last_end s)
nest_effect in_arguments (value_and_rest s) = mixed
nest_effect in_constant (value_and_rest s) = mixed
nest_effect in_reference (value_and_rest s) = mixed
nest_effect in_brackets (expression_rest s w a) = closing (last_end s)
nest_effect in_arguments (expression_rest s w a) = mixed
nest_effect in_constant (expression_rest s w a) = mixed
nest_effect in_reference (expression_rest s w a) = mixed
nest_effect in_brackets initialiser = closing 67
nest_effect in_arguments initialiser = mixed
nest_effect in_constant initialiser = mixed
nest_effect in_reference initialiser = mixed
nest_effect in_brackets (value_end s) = closing (last_end s)
nest_effect in_arguments (value_end s) = mixed
nest_effect in_constant (value_end s) = mixed
nest_effect in_reference (value_end s) = mixed
nest_effect in_brackets constant_items = closing 64
nest_effect in_arguments constant_items = mixed
nest_effect in_constant constant_items = mixed
nest_effect in_reference constant_items = mixed
nest_effect in_brackets constant_chain = level
nest_effect in_arguments constant_chain = mixed
nest_effect in_constant constant_chain = level
nest_effect in_reference constant_chain = mixed

-- one after another
abbrev pub joined : Mode → Effect → Effect → Effect
joined b level level = level
joined b level (opening c) = opening c
joined b level (closing c) = if fits b c then closing c else mixed
joined b level mixed = mixed
joined b (opening c) level = mixed
joined b (opening c) (opening d) = mixed
joined b (opening c) (closing d) = if has (c ∷ []) d then level else mixed
joined b (opening c) mixed = mixed
joined b (closing c) level = mixed
joined b (closing c) (opening d) = mixed
joined b (closing c) (closing d) = mixed
joined b (closing c) mixed = mixed
joined b mixed level = mixed
joined b mixed (opening d) = mixed
joined b mixed (closing d) = mixed
joined b mixed mixed = mixed

-- what stands behind: within what was opened
abbrev pub inner : Mode → Effect → Mode
inner b level = b
inner b (opening c) = if has (74 ∷ []) c then in_arguments else in_brackets
inner b (closing c) = b
inner b mixed = b

abbrev pub alike : Effect → Effect → Effect
alike level level = level
alike level (opening d) = mixed
alike level (closing d) = mixed
alike level mixed = mixed
alike (opening c) level = mixed
alike (opening c) (opening d) = if has (c ∷ []) d then opening c else mixed
alike (opening c) (closing d) = mixed
alike (opening c) mixed = mixed
alike (closing c) level = mixed
alike (closing c) (opening d) = mixed
alike (closing c) (closing d) = if has (c ∷ []) d then closing c else mixed
alike (closing c) mixed = mixed
alike mixed level = mixed
alike mixed (opening d) = mixed
alike mixed (closing d) = mixed
alike mixed mixed = mixed

abbrev pub repeated : Effect → Effect
repeated level = level
repeated (opening c) = mixed
repeated (closing c) = mixed
repeated mixed = mixed

abbrev pub effect : Mode → {A : Type 0} → Form A → Effect
effect b (terminal ks) = terminal_effect b ks
effect b (pair f g) = joined b (effect b f) (effect (inner b (effect b f)) g)
effect b (turn h f) = effect b f
effect b (maybe f) = repeated (effect b f)
effect b (many f) = repeated (effect b f)
effect b (either f g) = alike (effect b f) (effect b g)
effect b (seen h f) = effect b f
effect b (nest m) = nest_effect b m
effect b (over opens) = over_effect b opens
effect b (attempt f g) = alike (effect b f) (effect b g)

-- ---- what is so of symbols of such an effect

abbrev pub Lid : Mode → ℕ → Type 0
Lid b k = fits b k ≡ true

abbrev pub Levels : Mode → Effect → List Symbol → Type 0
Levels b level us = (k : ℕ) (ks : List ℕ) → Lid b k → Leads us (k ∷ ks) (k ∷ ks)
Levels b (opening c) us = (k : ℕ) (ks : List ℕ) → Lid b k → Leads us (k ∷ ks) (c ∷ k ∷ ks)
Levels b (closing c) us = (ks : List ℕ) → Leads us (c ∷ ks) ks
Levels b mixed us = Unit {0}

-- what is begun closes none but its own
abbrev pub Opened : Mode → Effect → List Symbol → Type 0
Opened b level us = (k : ℕ) (ks : List ℕ) → Lid b k → (ms : List ℕ) × Leads us (k ∷ ks) (ms ++ k ∷ ks)
Opened b (opening c) us = (k : ℕ) (ks : List ℕ) → Lid b k → (ms : List ℕ) × Leads us (k ∷ ks) (ms ++ k ∷ ks)
Opened b (closing c) us = (ks : List ℕ) → (ms : List ℕ) × Leads us (c ∷ ks) (ms ++ ks)
Opened b mixed us = Unit {0}
