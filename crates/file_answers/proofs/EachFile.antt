-- Each file reads as something, and as one thing.
use Rattle.std.proofs.Common.{◌≡◌, ℕ, Bool, true, false, List, length, Result, Ok, Err, inl, inr, refl, sym, ap, subst, ◌∙◌}
use Rattle.apt_base.specs.declared.kinds.What.TheVariants as limits
use Rattle.apt_base.specs.Limits.{max_depth}
use Rattle.decl_grammar.specs.declared.symbol.Symbol.{Symbol}
use Rattle.decl_grammar.specs.Reading.{Outcome, done, fault, deep}
use Rattle.decl_grammar.specs.Form.{Form}
use Rattle.decl_grammar.specs.Grammar.{ordinary, package_info}
use Rattle.decl_grammar.specs.File.{IsFirstFault, IsFirstDeep, phrase_at}
use Rattle.decl_grammar.proofs.Knot.{IsSound}
use Rattle.decl_grammar.proofs.Law.{ordinary-sound, package_info-sound, phrase-found, phrase-shallow, phrase-fault, phrase-deep, phrase-unique}
use Rattle.decl_parser.specs.declared.parsing.Parsed.{Parsed}
use Rattle.decl_parser.specs.declared.parsing.FileFault.{FileFault}
use Rattle.decl_parser.specs.declared.parsing.FileFault.TheVariants as faults
use Rattle.decl_limits.specs.Units.{Declared, units_of, info_units}
use Rattle.decl_limits.specs.Names.{is_named, info_named}
use Rattle.decl_limits.specs.Children.{IsCrowded}
use Rattle.decl_limits.specs.Limits.{IsWhole}
use Rattle.decl_parser.specs.Parsed.{offset_at, shown_answer, SameAnswer, Answers, gives, bad, too_deep, too_many, too_long, NoChildren, is_info, AnswersSymbols, AnswersFile, text_bad, by_symbols, text_memory}
use Rattle.file_answers.specs.Flaws.{Bad, TooLarge, Reading, parsed_of, Comes, ReadsAs}
use Rattle.file_answers.proofs.Decided.{Decided}
use Rattle.file_answers.proofs.Crowding.{crowded-decided}
use Rattle.decl_parser.proofs.OneAnswer.{one-answer}
use Rattle.file_answers.proofs.TextAnswers.{Symbolled, symbols-or-place, one-symbols, never-both, one-stop}

-- ---- symbols come to something

module _ {A : Type 0} (f : Form A) (sound : IsSound f) (units : A → Declared) (named : A → Bool) (crowded : List Symbol → Type 0) (decided : (us : List Symbol) → Decided (crowded us)) (end : ℕ) (ts : List Symbol) where
  abbrev Reads : Type 0
  Reads = (reading : Reading) × Comes (λ result. Answers f units named crowded end ts result) reading

  -- a whole file whose child lists are short enough
  by_name : (x : A) → IsWhole f ts x → (crowded ts → ⊥) → (b : Bool) → named x ≡ b → Reads
  by_name x whole few true is = (Ok (units x), gives x (parsed_of (units x)) refl whole few is refl)
  by_name x whole few false is = (Err (TooLarge limits.Name), too_long x refl whole few is)

  whole-reads : (x : A) → IsWhole f ts x → Decided (crowded ts) → Reads
  whole-reads x whole (inl full) = (Err (TooLarge limits.Children), too_many ts refl (inl (refl, (x, whole))) full)
  whole-reads x whole (inr few) = by_name x whole few (named x) refl

  fault-reads : (us at : List Symbol) → IsFirstFault f max_depth ts us at → Decided (crowded us) → Reads
  fault-reads us at first (inl full) = (Err (TooLarge limits.Children), too_many us refl (inr (inl (at, first))) full)
  fault-reads us at first (inr few) = (Err (Bad (offset_at 0 at end)), bad us at (offset_at 0 at end) refl first refl few)

  deep-reads : (us : List Symbol) (t : Symbol) (vs : List Symbol) → IsFirstDeep f max_depth ts us t vs → Decided (crowded us) → Reads
  deep-reads us t vs first (inl full) = (Err (TooLarge limits.Children), too_many us refl (inr (inr (t, vs, first))) full)
  deep-reads us t vs first (inr few) = (Err (TooLarge limits.Depth), too_deep us t vs refl first few)

  by_outcome : (o : Outcome A) → phrase_at max_depth f ts ≡ o → Reads
  by_outcome (done x rest) e = whole-reads x (phrase-found f max_depth ts x rest e, phrase-shallow f sound max_depth ts x rest e) (decided ts)
  by_outcome (fault at) e = let p = phrase-fault f sound max_depth ts at e in fault-reads p.0 at p.1 (decided p.0)
  by_outcome (deep at) e = let p = phrase-deep f sound max_depth ts at e in deep-reads p.0 p.1 p.2 p.4 (decided p.0)

  symbols-read : Reads
  symbols-read = by_outcome (phrase_at max_depth f ts) refl

no-children : (us : List Symbol) → Decided (NoChildren us)
no-children us = inr (λ none. none)

each-symbols : (info : Bool) (end : ℕ) (ts : List Symbol) → (reading : Reading) × Comes (AnswersSymbols info end ts) reading
each-symbols true end ts = symbols-read package_info package_info-sound info_units info_named NoChildren no-children end ts
each-symbols false end ts = symbols-read ordinary ordinary-sound units_of is_named IsCrowded crowded-decided end ts

-- ---- a file comes to something

-- what comes of symbols comes of their file
of_file : (P Q : Result Parsed FileFault → Type 0) → ((result : Result Parsed FileFault) → P result → Q result) → (reading : Reading) → Comes P reading → Comes Q reading
of_file P Q then (Ok declared) is = then _ is
of_file P Q then (Err (Bad place)) is = then _ is
of_file P Q then (Err (TooLarge what)) is = then _ is

by_text : (path bytes : List ℕ) → Symbolled bytes → (reading : Reading) × ReadsAs path bytes reading
by_text path bytes (inl found) =
    let read = each-symbols (is_info path) (length bytes) found.0 in
    (read.0, of_file (AnswersSymbols (is_info path) (length bytes) found.0) (AnswersFile path bytes) (λ result answers. by_symbols found.0 found.1 answers) read.0 read.1)
by_text path bytes (inr stop) = (Err (Bad stop.0), text_bad stop.0 refl stop.1)

pub each-file : (path bytes : List ℕ) → (reading : Reading) × ReadsAs path bytes reading
each-file path bytes = by_text path bytes (symbols-or-place bytes)

-- ---- and to one thing

one-of-symbols : (info : Bool) (end : ℕ) (ts : List Symbol) (r s : Result Parsed FileFault) → AnswersSymbols info end ts r → AnswersSymbols info end ts s → SameAnswer r s
one-of-symbols true end ts r s a b = one-answer package_info (phrase-unique package_info package_info-sound) info_units info_named NoChildren end ts r s a b
one-of-symbols false end ts r s a b = one-answer ordinary (phrase-unique ordinary ordinary-sound) units_of is_named IsCrowded end ts r s a b

pub one-file : (path bytes : List ℕ) (r s : Result Parsed FileFault) → AnswersFile path bytes r → AnswersFile path bytes s → SameAnswer r s
one-file path bytes r s (text_bad p e stop) (text_bad q e' stop') = inl (ap shown_answer e ∙ ap (λ (n : ℕ). Err (faults.Bad n)) (one-stop bytes p q stop stop') ∙ sym (ap shown_answer e'))
one-file path bytes r s (text_bad p e stop) (by_symbols ss has answers) = absurd (never-both bytes ss p has stop)
one-file path bytes r s (text_bad p e stop) (text_memory e') = inr (inr e')
one-file path bytes r s (by_symbols ss has answers) (text_bad q e' stop') = absurd (never-both bytes ss q has stop')
one-file path bytes r s (by_symbols ss has answers) (by_symbols ts has' answers') =
    one-of-symbols (is_info path) (length bytes) ts r s (subst (λ (xs : List Symbol). AnswersSymbols (is_info path) (length bytes) xs r) (one-symbols bytes ss ts has has') answers) answers'
one-file path bytes r s (by_symbols ss has answers) (text_memory e') = inr (inr e')
one-file path bytes r s (text_memory e) b = inr (inl e)
