-- What a reader of fields keeps, and what it means: the reading of the bytes from here on.
use Rattle.std.specs.Prelude.{◌≡◌, ℕ, suc, ◌+◌, Bool, true, not, ◌&&◌, List, [], ◌∷◌, length, Option, Some, None, if◌then◌else◌}
use Rattle.std.specs.Cmp.Lexicographic.{slice_cmp}
use Rattle.std.specs.FinMap as fin
use Rattle.std.specs.List.{list_any}
use Rattle.std.specs.Ordering.{is_lt, nat_cmp}
use Rattle.std.specs.Str.{bytes_eq}
use Rattle.apt_base.specs.Fields.{is_text}
use Rattle.frame_forms.specs.declared.bad_kind.BadKind.{BadKind}
use Rattle.frame_forms.specs.declared.bad_kind.BadKind.TheVariants as kinds
use Rattle.frame_reader.specs.declared.node.ListRule.{ListRule}
use Rattle.frame_reader.specs.declared.node.ListRule.TheVariants as rules
use Rattle.frame_reader.specs.declared.task.TextRule.{TextRule}
use Rattle.frame_reader.specs.declared.task.Then.{Then}
use Rattle.frame_reader.specs.declared.task.Then.TheVariants as thens
use Rattle.frame_reader.specs.declared.task.Gather.{Gather}
use Rattle.frame_reader.specs.declared.task.Task.{Task}
use Rattle.frame_reader.specs.declared.task.TextList.{TextList}
use Rattle.frame_reader.specs.Rests.{Reading, pattern_fault, rest_of, text_done}
use Rattle.apt_base.specs.Names.{NameSet}

-- ---- texts that were read before

-- the first one of these, where there is one
abbrev pub first_of : List (List ℕ) → Option (List ℕ)
first_of [] = None
first_of (text ∷ texts) = Some text

-- The set has these texts, where a list asks that none repeats; and the last text is the first one of these, where it asks that they ascend.
abbrev pub KeepsTexts : ListRule → List (List ℕ) → NameSet → Option (List ℕ) → Type 0
KeepsTexts rules.DistinctTexts before earlier last = (text : List ℕ) → fin.contains_key earlier text ≡ list_any (bytes_eq text) before
KeepsTexts rules.DistinctPatterns before earlier last = (text : List ℕ) → fin.contains_key earlier text ≡ list_any (bytes_eq text) before
KeepsTexts rules.AscendingTexts before earlier last = last ≡ first_of before
KeepsTexts rules.AscendingOptions before earlier last = last ≡ first_of before

abbrev pub Keeps : Option TextList → List (List ℕ) → NameSet → Option (List ℕ) → Type 0
Keeps None before earlier last = Unit {0}
Keeps (Some texts) before earlier last = KeepsTexts texts.rule before earlier last

-- the text is greater than the last one
abbrev pub is_above : Option (List ℕ) → List ℕ → Bool
is_above None text = true
is_above (Some last) text = is_lt (slice_cmp nat_cmp last text)

-- the text passes by the texts that are kept
abbrev pub passes_kept : ListRule → NameSet → Option (List ℕ) → List ℕ → Bool
passes_kept rules.DistinctTexts earlier last text = not (fin.contains_key earlier text)
passes_kept rules.DistinctPatterns earlier last text = not (fin.contains_key earlier text)
passes_kept rules.AscendingTexts earlier last text = is_above last text
passes_kept rules.AscendingOptions earlier last text = is_above last text

abbrev pub kept_fault : ListRule → NameSet → Option (List ℕ) → List ℕ → Option BadKind
kept_fault rule earlier last text = if is_text text && passes_kept rule earlier last text then pattern_fault rule text else Some kinds.Field

-- ---- bytes that are gathered

abbrev pub IsNone : {A : Type 0} → Option A → Type 0
IsNone None = Unit {0}
IsNone (Some a) = ⊥

-- a number has four bytes, and no list of texts is read where a count is
abbrev pub IsSized : Then → Option TextList → ℕ → Type 0
IsSized thens.Skip texts count = Unit {0}
IsSized (thens.Length rule) texts count = count ≡ 4
IsSized (thens.Text rule) texts count = Unit {0}
IsSized (thens.Count item room) texts count = (count ≡ 4) × IsNone texts
IsSized (thens.ListCount rule) texts count = (count ≡ 4) × IsNone texts

-- the bytes begin among those that are there
pub record Begins (gather : Gather) (texts : Option TextList) (there : ℕ) : Type 0 where
  pub have : ℕ
  pub from : gather.from + have ≡ there
  pub sized : IsSized gather.then texts (have + suc gather.more)

abbrev pub IsGathering : Option Gather → Option TextList → ℕ → Type 0
IsGathering None texts there = Unit {0}
IsGathering (Some gather) texts there = Begins gather texts there

-- ---- what is kept

-- behind these bytes what is kept means this reading of those that come
pub record Stands (gather : Option Gather) (texts : Option TextList) (stack : List Task) (earlier : NameSet) (last : Option (List ℕ)) (held : List ℕ) (reading : Reading) : Type 0 where
  pub before : List (List ℕ)
  pub keeps : Keeps texts before earlier last
  pub gathering : IsGathering gather texts (length held)
  pub same : (later : List ℕ) → reading later ≡ rest_of before gather texts stack held later

-- the byte ends this text, and what is behind it is read on by this rule
pub record IsTextEnd (earlier : NameSet) (last : Option (List ℕ)) (byte : ℕ) (reading : Reading) (rule : TextRule) (texts : Option TextList) (stack : List Task) (text : List ℕ) (before : List (List ℕ)) : Type 0 where
  pub keeps : Keeps texts before earlier last
  pub same : (later : List ℕ) → reading (byte ∷ later) ≡ text_done rule before texts stack text byte later
