-- A limit that the first symbols of a file pass is that of the file, whatever symbols stand behind them.
use Rattle.std.proofs.Common.{◌≡◌, ℕ, Bool, true, false, List, [], ◌∷◌, ◌++◌, inl, inr, Option, Some, None, Result, Ok, Err, refl, sym, ap, subst, ◌∙◌, append_assoc, arith}
use Rattle.std.proofs.lemmas.List.{append-nil}
use Rattle.std.specs.Prelude.{IfSome, is_none}
use Rattle.apt_base.specs.Limits.{max_depth}
use Rattle.apt_base.specs.declared.kinds.What.TheVariants as limits
use Rattle.java_tokens.specs.declared.token.Token.{Token}
use Rattle.java_tokens.specs.declared.token_reader.TokenReader.{TokenReader}
use Rattle.java_tokens.specs.declared.chars.Chars.{Chars}
use Rattle.java_tokens.specs.Tokens.{Lexeme}
use Rattle.java_tokens.specs.TokensShown.{AreTokensIn}
use Rattle.decl_grammar.specs.declared.symbol.Symbol.{Symbol}
use Rattle.decl_grammar.specs.declared.symbol_reader.SymbolReader.{SymbolReader}
use Rattle.decl_grammar.specs.SymbolList.{symbols_of}
use Rattle.decl_grammar.specs.SymbolReading.{Gathers, HasGathered, BeginWith}
use Rattle.decl_grammar.specs.Reading.{Outcome, done, fault, deep}
use Rattle.decl_grammar.specs.Form.{Form}
use Rattle.decl_grammar.specs.Grammar.{ordinary, package_info}
use Rattle.decl_grammar.specs.File.{IsPhrase, BeginsPhrase, IsShallow, IsFirstFault, IsFirstDeep, phrase_at}
use Rattle.decl_grammar.proofs.Knot.{IsSound}
use Rattle.decl_grammar.proofs.Law.{ordinary-sound, package_info-sound, phrase-found, phrase-shallow, phrase-fault, phrase-deep}
use Rattle.decl_grammar.proofs.Prefixes.{phrase-front, reading-front}
use Rattle.decl_limits.specs.Children.{IsCrowded}
use Rattle.decl_limits.specs.Limits.{IsWhole}
use Rattle.decl_limits.specs.Units.{Declared, units_of, info_units}
use Rattle.decl_limits.specs.Names.{is_named, info_named}
use Rattle.decl_parser.specs.declared.parsing.Parsed.{Parsed}
use Rattle.decl_parser.specs.declared.parsing.FileFault.{FileFault}
use Rattle.decl_parser.specs.declared.parsing.FileFault.TheVariants as faults
use Rattle.decl_parser.specs.Parsed.{HasFaultAt, IsDeepAt, AreSeen, Answers, gives, bad, too_deep, too_many, too_long, no_memory, NoChildren, AnswersOrdinary, AnswersInfo, AnswersSymbols, AnswersChars, by_tokens}
use Rattle.decl_parser.specs.Fronts.{SettlesOrdinary, SettlesInfo, SettlesSymbols, IsSettled}
use Rattle.decl_parser.proofs.OneAnswer.{Cut, cut, whole-no-fault, whole-no-deep, fault-no-deep}

head_of : Symbol → List Symbol → Symbol
head_of x [] = x
head_of x (y ∷ ys) = y

abbrev failed : FileFault → Result Parsed FileFault
failed e = Err e

fault_in : Result Parsed FileFault → FileFault
fault_in (Ok p) = faults.Memory
fault_in (Err e) = e

-- ---- with symbols behind them

module _ {A : Type 0} (f : Form A) where
  -- a first fault with a symbol stays the first one
  fault-stays : (us ws : List Symbol) (t : Symbol) (at vs : List Symbol) → IsFirstFault f max_depth us ws (t ∷ at) → IsFirstFault f max_depth (us ++ vs) ws (t ∷ (at ++ vs))
  unfolding head_of
  fault-stays us ws t at vs first = record {
    parts = all;
    begins = first.begins;
    wrong = λ s rest n is b. first.wrong t at n refl (subst (λ (x : Symbol). BeginsPhrase f (ws ++ x ∷ []) n) (sym (ap (head_of t) is)) b);
    none = λ x is.
        let b = reading-front f (ws ++ t ∷ []) (at ++ vs) x (subst (λ (xs : List Symbol). IsPhrase f xs x) (all ∙ sym (append_assoc ws (t ∷ []) (at ++ vs))) is) in
        first.wrong t at b.0 refl b.1;
    shallow = first.shallow;
  }
    where
      all : us ++ vs ≡ ws ++ t ∷ (at ++ vs)
      all = ap (λ (xs : List Symbol). xs ++ vs) first.parts ∙ append_assoc ws (t ∷ at) vs

  -- and so does the first symbol at which too much is open
  deep-stays : (us ws : List Symbol) (t : Symbol) (at vs : List Symbol) → IsFirstDeep f max_depth us ws t at → IsFirstDeep f max_depth (us ++ vs) ws t (at ++ vs)
  deep-stays us ws t at vs first = record {
    parts = ap (λ (xs : List Symbol). xs ++ vs) first.parts ∙ append_assoc ws (t ∷ at) vs;
    open_there = first.open_there;
    shallow = first.shallow;
  }

  -- symbols that begin a file, at none of which too much is open, are among those at which the child lists of the file are looked at
  front-seen : (us vs : List Symbol) → (n : ℕ) × BeginsPhrase f us n → IsShallow f max_depth us → (ws : List Symbol) → AreSeen f (us ++ vs) ws → (rest : List Symbol) × (ws ≡ us ++ rest)
  unfolding head_of
  front-seen us vs n shallow ws (inl whole) = (vs, whole.0)
  front-seen us vs n shallow ws (inr (inl (at, first))) = go (cut us vs ws at first.parts)
    where
      go : Cut us vs ws at → (rest : List Symbol) × (ws ≡ us ++ rest)
      go (inl c) = (c.0, c.1)
      go (inr c) =
          let b = phrase-front f (ws ++ c.0 ∷ []) c.1 n.0 (subst (λ (xs : List Symbol). BeginsPhrase f xs n.0) (c.2 ∙ sym (append_assoc ws (c.0 ∷ []) c.1)) n.1) in
          absurd (first.wrong c.0 (c.1 ++ vs) b.0 c.3 b.1)
  front-seen us vs n shallow ws (inr (inr (t, at, first))) = go (cut us vs ws (t ∷ at) first.parts)
    where
      go : Cut us vs ws (t ∷ at) → (rest : List Symbol) × (ws ≡ us ++ rest)
      go (inl c) = (c.0, c.1)
      go (inr c) =
          let o = first.open_there in
          let same : t ≡ c.0 = ap (head_of t) c.3 in
          let le = shallow (ws ++ t ∷ []) c.1 o.0 (c.2 ∙ (ap (λ (x : Symbol). ws ++ x ∷ c.1) (sym same) ∙ sym (append_assoc ws (t ∷ []) c.1))) o.2 in
          absurd (omega (arith, o.1, le))

  -- each file has symbols at which its child lists are looked at
  seen-in : IsSound f → (ts : List Symbol) → (us : List Symbol) × AreSeen f ts us
  seen-in sound ts = go (phrase_at max_depth f ts) refl
    where
      go : (o : Outcome A) → phrase_at max_depth f ts ≡ o → (us : List Symbol) × AreSeen f ts us
      go (done x rest) e = (ts, inl (refl, (x, (phrase-found f max_depth ts x rest e, phrase-shallow f sound max_depth ts x rest e))))
      go (fault at) e = let p = phrase-fault f sound max_depth ts at e in (p.0, inr (inl (at, p.1)))
      go (deep at) e = let p = phrase-deep f sound max_depth ts at e in (p.0, inr (inr (p.1, p.2, p.4)))

-- ---- what they come to stays

module _ {A : Type 0} (f : Form A) (sound : IsSound f) (units : A → Declared) (named : A → Bool) (crowded : List Symbol → Type 0) (grows : (us vs : List Symbol) → crowded us → crowded (us ++ vs)) (end : ℕ) (us : List Symbol) (e : FileFault) (vs : List Symbol) where
  abbrev Stays : Type 0
  Stays = Answers f units named crowded end (us ++ vs) (Err e)

  -- a child list that is too long in symbols that begin a file and in which not too much is open
  begun-stays : (n : ℕ) × BeginsPhrase f us n → IsShallow f max_depth us → crowded us → failed e ≡ Err (faults.TooLarge limits.Children) → Stays
  begun-stays n shallow full is =
      let seen = seen-in f sound (us ++ vs) in
      let front = front-seen f us vs n shallow seen.0 seen.1 in
      too_many seen.0 is seen.1 (subst crowded (sym front.1) (grows us front.0 full))

  -- a child list that is too long before a fault or before too much is open
  seen-stays : (ws : List Symbol) → failed e ≡ Err (faults.TooLarge limits.Children) → AreSeen f us ws → crowded ws → ((x : A) → IsWhole f us x → ⊥) → Stays
  seen-stays ws is (inl whole) full broken = absurd (broken whole.1.0 whole.1.1)
  seen-stays ws is (inr (inl ([], first))) full broken =
      let same : ws ≡ us = sym (first.parts ∙ append-nil ws) in
      begun-stays (subst (λ (xs : List Symbol). (n : ℕ) × BeginsPhrase f xs n) same first.begins) (subst (λ (xs : List Symbol). IsShallow f max_depth xs) same first.shallow) (subst crowded same full) is
  seen-stays ws is (inr (inl (t ∷ at, first))) full broken = too_many ws is (inr (inl (t ∷ (at ++ vs), fault-stays f us ws t at vs first))) full
  seen-stays ws is (inr (inr (t, at, first))) full broken = too_many ws is (inr (inr (t, at ++ vs, deep-stays f us ws t at vs first))) full

  -- all but a file and the place of a fault
  stays : Answers f units named crowded end us (Err e) → ((place : ℕ) (ws at : List Symbol) → e ≡ faults.Bad place → IsFirstFault f max_depth us ws at → ⊥) → ((x : A) → IsWhole f us x → ⊥) → Stays
  unfolding fault_in
  stays (gives x p is whole few fits shown) settled broken = absurd (broken x whole)
  stays (bad ws at place is first placed few) settled broken = absurd (settled place ws at (ap fault_in is) first)
  stays (too_deep ws t at is first few) settled broken = too_deep ws t (at ++ vs) is (deep-stays f us ws t at vs first) few
  stays (too_many ws is seen full) settled broken = seen-stays ws is seen full broken
  stays (too_long x is whole few exceeds) settled broken = absurd (broken x whole)
  stays (no_memory is) settled broken = no_memory is

-- ---- of an ordinary file, and of a file `package-info.java`

crowded-grows : (us vs : List Symbol) → IsCrowded us → IsCrowded (us ++ vs)
crowded-grows us vs (front, behind, parts, full) = (front, behind ++ vs, ap (λ (xs : List Symbol). xs ++ vs) parts ∙ append_assoc front behind vs, full)

none-grows : (us vs : List Symbol) → NoChildren us → NoChildren (us ++ vs)
none-grows us vs none = none

-- behind a fault
pub bad-settles : (end n : ℕ) (us : List Symbol) (e : FileFault) (found : Option FileFault) → HasFaultAt ordinary n us → AnswersOrdinary end us (Err e) → IfSome found (IsSettled e) → IfSome found (SettlesOrdinary end us)
bad-settles end n us e None w answer settled = tt
bad-settles end n us e (Some x) w answer settled = λ vs.
    subst (λ (y : FileFault). AnswersOrdinary end (us ++ vs) (Err y)) (sym settled.0)
    (stays ordinary ordinary-sound units_of is_named IsCrowded crowded-grows end us e vs answer (λ place ws at is first. settled.1 place is) (λ x whole. whole-no-fault ordinary us w.0 w.1 x whole w.3))

-- where too much is open
pub deep-settles : (end n : ℕ) (us : List Symbol) (e : FileFault) → IsDeepAt ordinary n us → AnswersOrdinary end us (Err e) → SettlesOrdinary end us e
deep-settles end n us e w answer = λ vs.
    stays ordinary ordinary-sound units_of is_named IsCrowded crowded-grows end us e vs answer (λ place ws at is first. fault-no-deep ordinary us ws at w.0 w.2 w.1 first w.4) (λ x whole. whole-no-deep ordinary us w.0 w.2 w.1 x whole w.4)

pub deep-settles-info : (end n : ℕ) (us : List Symbol) (e : FileFault) → IsDeepAt package_info n us → AnswersInfo end us (Err e) → SettlesInfo end us e
deep-settles-info end n us e w answer = λ vs.
    stays package_info package_info-sound info_units info_named NoChildren none-grows end us e vs answer (λ place ws at is first. fault-no-deep package_info us ws at w.0 w.2 w.1 first w.4) (λ x whole. whole-no-deep package_info us w.0 w.2 w.1 x whole w.4)

pub memory-settles : (end : ℕ) (us : List Symbol) → SettlesOrdinary end us faults.Memory
memory-settles end us = λ vs. no_memory refl

pub memory-settles-info : (end : ℕ) (us : List Symbol) → SettlesInfo end us faults.Memory
memory-settles-info end us = λ vs. no_memory refl

pub settles-info : (info : Bool) (end : ℕ) (us : List Symbol) (found : Option FileFault) → info ≡ true → IfSome found (SettlesInfo end us) → IfSome found (SettlesSymbols info end us)
settles-info true end us found is settled = settled
settles-info false end us found is settled = absurd cc

pub settles-ordinary : (info : Bool) (end : ℕ) (us : List Symbol) (found : Option FileFault) → info ≡ false → IfSome found (SettlesOrdinary end us) → IfSome found (SettlesSymbols info end us)
settles-ordinary true end us found is settled = absurd cc
settles-ordinary false end us found is settled = settled

pub memory-settles-symbols : (info : Bool) (end : ℕ) (us : List Symbol) → SettlesSymbols info end us faults.Memory
memory-settles-symbols true end us = memory-settles-info end us
memory-settles-symbols false end us = memory-settles end us

-- ---- a reader of symbols

-- it has all of them
all-gathered : (read : Chars) (tokens : TokenReader) (last : Option Token) (found : List Symbol) → is_none last ≡ true → Gathers read tokens last found → (ts : List Lexeme) × AreTokensIn read ts × (found ≡ symbols_of ts)
all-gathered read tokens None found is has = has
all-gathered read tokens (Some last) found is has = absurd cc

pub has-all : (read : Chars) (reader : SymbolReader) (ended : Bool) → ended ≡ true → ended ≡ is_none reader.last → HasGathered read reader → (ts : List Lexeme) × AreTokensIn read ts × (reader.symbols.items ≡ symbols_of ts)
has-all read reader ended is told has = all-gathered read reader.tokens reader.last reader.symbols.items (sym told ∙ is) has

-- what its symbols settle is what the file comes to
pub settled-file : (info : Bool) (end : ℕ) (read : Chars) (us : List Symbol) (e : FileFault) → BeginWith read us → SettlesSymbols info end us e → AnswersChars info end read (Err e)
settled-file info end read us e (ts, behind, are, is) settled = by_tokens ts are (subst (λ (xs : List Symbol). AnswersSymbols info end xs (Err e)) (sym is) (settled behind))
