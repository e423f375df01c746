-- What is remembered of a run: it was done by processors that there are, and its files were made.
use Rattle.std.proofs.Common.{◌≡◌, ℕ, zero, suc, ◌<◌, Bool, true, false, cond, T, ◌||◌, not, List, [], ◌∷◌, ◌++◌, length, map, Option, None, Some, IfSome, Result, Ok, Err, refl, sym, ap, ◌∙◌, subst, append_assoc}
use Rattle.std.specs.Prelude.{slice_get}
use Rattle.std.specs.List.{AllByRecursion}
use Rattle.std.specs.FinMap as fin
use Rattle.std.specs.Str.{bytes_eq}
use Rattle.std.proofs.lemmas.List.{length-map}
use Rattle.std.proofs.lemmas.Slice.Eq.{bytes_eq-Decides}
use Rattle.apt_outside.specs.Child.{Says, Try}
use Rattle.element_table.specs.TypeTable.{TypeTable}
use Rattle.unit_locations.specs.LocatedTable.{LocatedTable}
use Rattle.round_env.specs.declared.environment.RoundEnv.{RoundEnv}
use Rattle.wire_frames.specs.declared.frame.Creation.{Creation}
use Rattle.wire_frames.specs.declared.frame.Hello.{Hello}
use Rattle.frame_breaches.specs.declared.breach.Breach.{Breach}
use Rattle.processor_claims.specs.Asked.{asked, AreWithin}
use Rattle.processor_claims.proofs.AskedLaws.{asked-within}
use Rattle.apt_filer.specs.Filing.{path_of}
use Rattle.child_session.specs.declared.request.Turn.{Turn}
use Rattle.child_session.specs.declared.request.Turn.TheVariants.{Ends, Differs, Asks, Leaves}
use Rattle.child_session.specs.Replies.{Exchange}
use Rattle.child_session.specs.Acts as acts
use Rattle.child_session.proofs.FiledFiles.{files-made}
use Rattle.run_entries.specs.declared.processed.GeneratedFile.{GeneratedFile}
use Rattle.run_entries.specs.declared.processed.Processed.{Processed}
use Rattle.run_entries.specs.Outputs.{file_of}
use Rattle.project_units.specs.Refusals.{Refusal}
use Rattle.project_units.specs.Units.{Entered, enter_all, all_of}
use Rattle.project_units.specs.Creations.{creates_source, sources_among}
use Rattle.project_units.specs.Plans.{Plan}
use Rattle.round_engine.specs.declared.rounds.Round.{Round}
use Rattle.round_engine.specs.Run.{Frames, Course, Discovered, Progress, Finished, Run, supported_in, present_in, act, processed_in, with_act, after_act, env_of, offered_names, show, ask, next_asked, ask_next, asks_from, turns_of, ended, round_of, new_since, printed_since, has_error, last_of, next_of, finished, last_round, entering, after_round, rounds_from, rounds_before_last, start, hello_of, greeting, hellos_from, discovered, run_of, ◌>>=◌}
use Rattle.run_record.proofs.NumberedFiles.{is_at, is_made}
use Rattle.run_record.proofs.StoredEntries.{all_append}

-- ---- parts of a run

-- what a part of a run came to has this
abbrev pub IfGoes : {A : Type 0} → (A → Type 0) → Course A → Type 0
IfGoes P (Ok value) = P value
IfGoes P (Err stopped) = Unit {0}

then_goes : {A B : Type 0} (P : A → Type 0) (Q : B → Type 0) (first : Course A) (go : A → Course B) → IfGoes P first → ((a : A) → P a → IfGoes Q (go a)) → IfGoes Q (first >>= go)
then_goes P Q (Ok a) go p more = more a p
then_goes P Q (Err stopped) go p more = tt

pub all_weaker : {A : Type 0} (P Q : A → Type 0) → ((x : A) → P x → Q x) → (xs : List A) → AllByRecursion P xs → AllByRecursion Q xs
all_weaker P Q weaker [] all = tt
all_weaker P Q weaker (x ∷ xs) all = (weaker x all.0, all_weaker P Q weaker xs all.1)

-- ---- what was made

front_true : (a b : Bool) → T a → T (a || b)
front_true true b t = tt
front_true false b t = absurd t

behind_true : (a b : Bool) → T b → T (a || b)
behind_true true b t = tt
behind_true false b t = t

made_before : (path : List ℕ) (made more : List Creation) → T (is_made made path) → T (is_made (made ++ more) path)
made_before path [] more t = absurd t
made_before path (creation ∷ made) more t = go (is_at path creation) t (made_before path made more)
  where
    go : (b : Bool) → T (b || is_made made path) → (T (is_made made path) → T (is_made (made ++ more) path)) → T (b || is_made (made ++ more) path)
    go true here later = tt
    go false here later = later here

made_later : (path : List ℕ) (made more : List Creation) → T (is_made more path) → T (is_made (made ++ more) path)
made_later path [] more t = t
made_later path (creation ∷ made) more t = behind_true (is_at path creation) (is_made (made ++ more) path) (made_later path made more t)

-- a file of one of these
abbrev pub IsOneOf : List Creation → GeneratedFile → Type 0
IsOneOf made file = T (is_made made file.path)

itself : (path : List ℕ) → T (bytes_eq path path)
itself path = subst T (sym ((bytes_eq-Decides path path).1 refl)) tt

gained : (front more : List Creation) → AllByRecursion (IsOneOf (front ++ more)) (map file_of more)
gained front [] = tt
gained front (creation ∷ more) = (
  made_later (path_of creation) front (creation ∷ more) (front_true (is_at (path_of creation) creation) (is_made more (path_of creation)) (itself (path_of creation))),
  subst (λ made. AllByRecursion (IsOneOf made) (map file_of more)) (append_assoc front (creation ∷ []) more) (gained (front ++ creation ∷ []) more),
)

-- ---- what is remembered

-- it was done by the first of this many processors, and its files were made
pub record IsBacked (count : ℕ) (made : List Creation) (processed : List Processed) : Type 0 where
  pub few : AllByRecursion (λ (done : Processed). done.processor < count) processed
  pub files : AllByRecursion (λ (done : Processed). AllByRecursion (IsOneOf made) done.files) processed

module _ (d : Discovered) where
  abbrev count : ℕ
  count = length d.supported

  abbrev Backed : Progress → Type 0
  Backed p = IsBacked count p.filings.made p.processed

  abbrev BackedStep : Progress × Bool → Type 0
  BackedStep acted = Backed acted.0

  abbrev BackedRun : Finished → Type 0
  BackedRun run = IsBacked count run.made run.processed

  -- ---- one processor

  module _ (table : TypeTable) (env : RoundEnv) (p : Progress) (number : ℕ) (lt : number < count) (backed : Backed p) where
    with_backed : (exchanges : List Exchange) → Backed (with_act d table env p number exchanges)
    with_backed exchanges =
        let one = processed_in d table env p number exchanges in
        let all = files-made p.filings exchanges in
        record {
          few = all_append (λ (done : Processed). done.processor < count) p.processed (one ∷ []) backed.few (lt, tt);
          files = subst (λ made. AllByRecursion (λ (done : Processed). AllByRecursion (IsOneOf made) done.files) (p.processed ++ one ∷ [])) (sym all.made)
              (all_append (λ (done : Processed). AllByRecursion (IsOneOf (p.filings.made ++ acts.files exchanges)) done.files) p.processed (one ∷ [])
              (all_weaker (λ (done : Processed). AllByRecursion (IsOneOf p.filings.made) done.files) (λ (done : Processed). AllByRecursion (IsOneOf (p.filings.made ++ acts.files exchanges)) done.files)
              (λ done. all_weaker (IsOneOf p.filings.made) (IsOneOf (p.filings.made ++ acts.files exchanges)) (λ file. made_before file.path p.filings.made (acts.files exchanges)) done.files)
              p.processed backed.files)
              (gained p.filings.made (acts.files exchanges), tt));
        }

    after_backed : (exchanges : List Exchange) (turn : Turn) → IfGoes BackedStep (after_act d table env p number exchanges turn)
    after_backed exchanges (Ends claimed) = with_backed exchanges
    after_backed exchanges (Differs said) = tt
    after_backed exchanges (Asks request) = tt
    after_backed exchanges (Leaves breach) = tt

    show_backed : IfGoes BackedStep (show d table env p number)
    show_backed = after_backed (act d table env p number).exchanges (act d table env p number).last

  -- ---- one round

  -- who is asked is one of the processors
  within_at : (names : ℕ) (list : List (ℕ × List ℕ)) (i : ℕ) (next : ℕ × List ℕ) → AreWithin count names list → slice_get list i ≡ Some next → next.0 < count
  within_at names [] zero next within is = absurd cc
  within_at names [] (suc i) next within is = absurd cc
  within_at names (one ∷ list) zero next within is = subst (λ (o : Option (ℕ × List ℕ)). IfSome o (λ n. n.0 < count)) is within.0.0
  within_at names (one ∷ list) (suc i) next within is = within_at names list i next within.1 is

  module _ (r : Round) where
    next_backed : (p : Progress) → Backed p → (o : Option (ℕ × List ℕ)) (go : Progress × Bool → Course Progress) → IfSome o (λ next. next.0 < count) → ((acted : Progress × Bool) → BackedStep acted → IfGoes Backed (go acted))
        → IfGoes Backed (ask_next ask d r p o go)
    next_backed p backed None go there more = backed
    next_backed p backed (Some next) go there more = then_goes BackedStep Backed (ask d r p next) go (show_backed r.table.table (env_of r (offered_names r next.1)) p next.0 there backed) more

    some_within : (o : Option (ℕ × List ℕ)) → ((next : ℕ × List ℕ) → o ≡ Some next → next.0 < count) → IfSome o (λ next. next.0 < count)
    some_within None each = tt
    some_within (Some next) each = each next refl

    asks_backed : (contributed : List Bool) (left : ℕ) (answers : List Bool) (p : Progress) → Backed p → IfGoes Backed (asks_from ask d r contributed left answers p)
    unfolding asks_from
    asks_backed contributed zero answers p backed = backed
    asks_backed contributed (suc left) answers p backed = next_backed p backed (next_asked d r contributed answers) (λ acted. asks_from ask d r contributed left (answers ++ acted.1 ∷ []) acted.0)
        (some_within (next_asked d r contributed answers) (λ next is.
        within_at (length (present_in r)) (asked d.supported contributed (present_in r) r.over answers) (length answers) next (asked-within d.supported contributed (present_in r) r.over answers) is))
        (λ acted. asks_backed contributed left (answers ++ acted.1 ∷ []) acted.0)

    round_backed : (p : Progress) → Backed p → IfGoes Backed (round_of ask d r p)
    round_backed p backed = then_goes Backed Backed (turns_of ask d r p) (λ after. Ok (ended r after)) (asks_backed p.contributed (length d.processors) [] p backed) (λ after so. so)

  -- ---- the rounds

  last_backed : (number : ℕ) (error : Bool) (table : LocatedTable) (before : Progress) → Backed before → IfGoes BackedRun (last_round ask d number error table before)
  last_backed number error table before backed = then_goes Backed BackedRun (round_of ask d (last_of number error table) before) (λ after. Ok (finished d number table before after))
      (round_backed (last_of number error table) before backed) (λ after so. so)

  by_test : (b : Bool) (x y : Run) → IfGoes BackedRun x → IfGoes BackedRun y → IfGoes BackedRun (cond b x y)
  by_test true x y one other = one
  by_test false x y one other = other

  entering_backed : (sent : List Frames) (o : Result Entered Refusal) (go : Entered → Run) → ((e : Entered) → IfGoes BackedRun (go e)) → IfGoes BackedRun (entering sent o >>= go)
  entering_backed sent (Ok entered) go more = more entered
  entering_backed sent (Err refusal) go more = tt

  later_backed : (r : Round) (before after : Progress) (go : Entered → Run) → Backed after → ((e : Entered) → IfGoes BackedRun (go e)) → IfGoes BackedRun (after_round ask d r before after go)
  later_backed r before after go backed more =
      let error = has_error (printed_since before.messages after.messages) in
      let made = new_since before.filings after.filings in
      let outcome = enter_all r.table (fin.entries (sources_among made)) in
      by_test (error || not (creates_source made)) (last_round ask d (suc r.number) error r.table after) (entering after.sent outcome >>= go)
      (last_backed (suc r.number) error r.table after backed) (entering_backed after.sent outcome go more)

  pub rounds_backed : (left : ℕ) (r : Round) (p : Progress) → Backed p → IfGoes BackedRun (rounds_from ask d left r p)
  unfolding rounds_from
  rounds_backed zero r p backed = tt
  rounds_backed (suc left) r p backed = then_goes Backed BackedRun (round_of ask d r p) (λ after. after_round ask d r p after (λ entered. rounds_from ask d left (next_of (suc r.number) entered) after))
      (round_backed r p backed)
      (λ after so. later_backed r p after (λ entered. rounds_from ask d left (next_of (suc r.number) entered) after) so (λ entered. rounds_backed left (next_of (suc r.number) entered) after so))

-- ---- the whole

-- there is a Hello of each processor
greeted : (plan : Plan) (before : List Try) (processor : Try) (o : Result Hello Breach) → IfGoes (λ (hello : Hello). Unit {0}) (greeting plan before processor o)
greeted plan before processor (Ok hello) = tt
greeted plan before processor (Err breach) = tt

hellos_count : (says : Says) (plan : Plan) (before later : List Try) → IfGoes (λ (hellos : List Hello). length hellos ≡ length later) (hellos_from says plan before later)
hellos_count says plan before [] = refl
hellos_count says plan before (processor ∷ later) =
    then_goes (λ (hello : Hello). Unit {0}) (λ (hellos : List Hello). length hellos ≡ suc (length later)) (greeting plan before processor (hello_of says plan processor))
    (λ hello. hellos_from says plan (before ++ processor ∷ []) later >>= (λ others. Ok (hello ∷ others))) (greeted plan before processor (hello_of says plan processor))
    (λ hello so. then_goes (λ (hellos : List Hello). length hellos ≡ length later) (λ (hellos : List Hello). length hellos ≡ suc (length later)) (hellos_from says plan (before ++ processor ∷ []) later)
    (λ others. Ok (hello ∷ others)) (hellos_count says plan (before ++ processor ∷ []) later) (λ others is. ap suc is))

pub run_backed : (says : Says) (plan : Plan) (table : LocatedTable) → IfGoes (λ (run : Finished). IsBacked (length plan.processors) run.made run.processed) (run_of says plan table)
run_backed says plan table =
    then_goes (λ (hellos : List Hello). length hellos ≡ length plan.processors) (λ (run : Finished). IsBacked (length plan.processors) run.made run.processed) (hellos_from says plan [] plan.processors)
    (λ hellos. rounds_from ask (discovered says plan hellos) rounds_before_last (next_of 1 (all_of table)) (start plan table)) (hellos_count says plan [] plan.processors)
    (λ hellos is. subst (λ n. IfGoes (λ (run : Finished). IsBacked n run.made run.processed) (rounds_from ask (discovered says plan hellos) rounds_before_last (next_of 1 (all_of table)) (start plan table)))
    (length-map hellos supported_in ∙ is)
    (rounds_backed (discovered says plan hellos) rounds_before_last (next_of 1 (all_of table)) (start plan table) (record { few = tt; files = tt })))
