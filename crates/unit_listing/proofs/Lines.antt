-- A line word by word, and what the visits of all places of a unit come to.
use Rattle.std.proofs.Common.{◌≡◌, ℕ, Bool, true, false, List, [], ◌∷◌, ◌++◌, codes, refl, sym, ap, ◌∙◌, append-nil, append_assoc, string_bytes}
use Rattle.std.specs.Prelude.{if◌then◌else◌}
use Rattle.std.specs.List.{FoldsTo, flat_map, join_with_byte}
use Rattle.std.proofs.lemmas.Grind.{flat_map-append}
use Rattle.apt_base.specs.declared.element.ElementRef.{ElementRef}
use Rattle.decl_elements.specs.Modifiers.{modifiers}
use Rattle.decl_elements.specs.Nodes.{Node}
use Rattle.decl_elements.specs.Shown.{element_of}
use Rattle.decl_elements.specs.Walk.{Place}
use Rattle.element_table.specs.TypeTable.{TypeTable}
use Rattle.element_table.specs.TableElements.{reference}
use Rattle.type_elements.specs.TypeOf.{type_of}
use Rattle.unit_listing.specs.declared.listing.Lister.{Lister}
use Rattle.unit_listing.specs.Listing.{type_words, name_word, line_words, indent, line_of, is_parameter, lines_at}
use Rattle.unit_listing.specs.Visits.{AddsLine}
use Rattle.unit_listing.specs.Words.{kind_word, modifier_words, spaced}

-- ---- a line

-- the first word, and the others each behind a space
joined-spaced : (word : List ℕ) (words : List (List ℕ)) → join_with_byte 32 (word ∷ words) ≡ word ++ spaced words
joined-spaced word [] = sym (append-nil word)
joined-spaced word (next ∷ words) = ap (λ (t : List ℕ). word ++ (32 ∷ t)) (joined-spaced next words)

-- words behind one word and more words
spaced-named : (some : List (List ℕ)) (name : List ℕ) (more : List (List ℕ)) → spaced (some ++ name ∷ more) ≡ spaced some ++ (spaced (name ∷ []) ++ spaced more)
spaced-named some name more =
    flat_map-append (λ (word : List ℕ). 32 ∷ word) some (name ∷ more)
    ∙ ap (λ (t : List ℕ). spaced some ++ t) (ap (λ (t : List ℕ). (32 ∷ t) ++ spaced more) (sym (append-nil name)))

-- six texts one behind another
in_a_row : (old a b c d e f one two three four five six : List ℕ)
    → one ≡ old ++ a → two ≡ one ++ b → three ≡ two ++ c → four ≡ three ++ d → five ≡ four ++ e → six ≡ five ++ f
    → six ≡ old ++ (a ++ ((b ++ (c ++ (d ++ e))) ++ f))
in_a_row old a b c d e f one two three four five six first second third fourth fifth sixth =
    let inner : five ≡ (old ++ a) ++ (b ++ (c ++ (d ++ e))) =
    fifth
    ∙ ap (λ (t : List ℕ). t ++ e) (fourth ∙ ap (λ (t : List ℕ). t ++ d) (third ∙ ap (λ (t : List ℕ). t ++ c) (second ∙ ap (λ (t : List ℕ). t ++ b) first)))
    ∙ append_assoc (((old ++ a) ++ b) ++ c) d e
    ∙ append_assoc ((old ++ a) ++ b) c (d ++ e)
    ∙ append_assoc (old ++ a) b (c ++ (d ++ e)) in
    sixth ∙ ap (λ (t : List ℕ). t ++ f) inner ∙ append_assoc (old ++ a) (b ++ (c ++ (d ++ e))) f ∙ append_assoc old a ((b ++ (c ++ (d ++ e))) ++ f)

-- the line of an element was added once all its parts were
pub line-written : (table : TypeTable) (at : ElementRef) (node : Node) (old one two three four five six : List ℕ)
    → one ≡ old ++ indent at.path
    → two ≡ one ++ kind_word (element_of node)
    → three ≡ two ++ spaced (modifier_words (modifiers node))
    → four ≡ three ++ spaced (name_word table at node ∷ [])
    → five ≡ four ++ spaced (type_words table (type_of table at) (element_of node))
    → six ≡ five ++ codes "\n"
    → six ≡ old ++ line_of table at node
unfolding line_of
line-written table at node old one two three four five six first second third fourth fifth sixth =
    let kind : List ℕ = kind_word (element_of node) in
    let words : List (List ℕ) = modifier_words (modifiers node) in
    let name : List ℕ = name_word table at node in
    let types : List (List ℕ) = type_words table (type_of table at) (element_of node) in
    let joined : kind ++ (spaced words ++ (spaced (name ∷ []) ++ spaced types)) ≡ join_with_byte 32 (line_words table at node) =
    ap (λ (t : List ℕ). kind ++ t) (sym (spaced-named words name types)) ∙ sym (joined-spaced kind (words ++ name ∷ types)) in
    in_a_row old (indent at.path) kind (spaced words) (spaced (name ∷ [])) (spaced types) (codes "\n") one two three four five six first second third fourth fifth sixth
    ∙ ap (λ (t : List ℕ). old ++ (indent at.path ++ (t ++ codes "\n"))) joined

-- ---- visits

-- a parameter has no line
pub none-added : (lister : Lister) (at : Place) → is_parameter (element_of at.node) ≡ true → AddsLine lister at lister
none-added lister at is = record {
  table = refl;
  root = refl;
  text = sym (append-nil (string_bytes lister.text))
      ∙ ap (λ (b : Bool). string_bytes lister.text ++ (if b then [] else line_of lister.resolver (reference lister.root.now at.path) at.node)) (sym is);
}

-- anything else has one
pub line-added : (table : TypeTable) (unit : List ℕ) (at : Place) → is_parameter (element_of at.node) ≡ false
    → lines_at table unit at ≡ line_of table (reference unit at.path) at.node
line-added table unit at is = ap (λ (b : Bool). if b then [] else line_of table (reference unit at.path) at.node) is

pub record AddsLines (old : Lister) (places : List Place) (new : Lister) : Type 0 where
  pub table : new.resolver ≡ old.resolver
  pub root : new.root.now ≡ old.root.now
  pub text : string_bytes new.text ≡ string_bytes old.text ++ flat_map (lines_at old.resolver old.root.now) places

pub all_lines : (old new : Lister) (places : List Place) → FoldsTo AddsLine old places new → AddsLines old places new
all_lines old new [] folds =
    let same : old ≡ new = folds in
    record {
      table = ap (λ (l : Lister). l.resolver) (sym same);
      root = ap (λ (l : Lister). l.root.now) (sym same);
      text = ap (λ (l : Lister). string_bytes l.text) (sym same) ∙ sym (append-nil (string_bytes old.text));
    }
all_lines old new (at ∷ places) folds =
    let next : Lister = folds.0 in
    let step : AddsLine old at next = folds.1 in
    let rest = all_lines next new places folds.2 in
    record {
      table = rest.table ∙ step.table;
      root = rest.root ∙ step.root;
      text =
          rest.text ∙ (λ i. step.text i ++ flat_map (lines_at (step.table i) (step.root i)) places)
          ∙ append_assoc (string_bytes old.text) (lines_at old.resolver old.root.now at) (flat_map (lines_at old.resolver old.root.now) places);
    }
