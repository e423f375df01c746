-- What a build does with children, from what its run does, and that nothing is done before it.
use Rattle.std.proofs.Common.{◌≡◌, ℕ, ◌+◌, ◌≤◌, Bool, true, false, List, [], length, map, None, IfSome, Contains, refl, sym, ◌∙◌, subst, append-nil, arith}
use Rattle.std.proofs.lemmas.Bool.{false≢true}
use Rattle.apt_outside.specs.Count.{Told}
use Rattle.apt_outside.specs.Files.{Files}
use Rattle.apt_outside.specs.Child.{Try, State}
use Rattle.record_forms.specs.declared.record.Key.{Key}
use Rattle.project_units.specs.Plans.{tries_in, names_in}
use Rattle.project_reading.specs.Configuration.{Options}
use Rattle.project_reading.specs.Project.{read_of}
use Rattle.project_reading.specs.Verdicts.{Verdict, Done, Memory, has_run, named_in}
use Rattle.apt_host.specs.Promises.{Uses, processors_in}
use Rattle.apt_host.specs.Builds.{UsesKey}
use Rattle.apt_host.proofs.MakingLemmas.{names_are, count_tries}

-- ---- before a run

-- nothing was started or tried
pub uses_none : (tells talks : Bool) (options : Options) (project : Files) (v : Verdict) (state : State) → has_run v ≡ false → named_in v ≡ None
    → Uses tells talks options project v state state
uses_none tells talks options project v state stops none =
    let read = processors_in (read_of options project) in
    record {
      processors = read;
      are = λ told. refl;
      finished = λ run. absurd (false≢true (sym stops ∙ run));
      least = omega arith;
      most = omega arith;
      few = omega arith;
      named = subst (λ name. IfSome name (Contains (map (λ (processor : Try). processor.0) read))) (sym none) tt;
      tried = λ told. record { count = 0; few = omega arith; tried = sym (append-nil state.tried) };
      all = λ run. absurd (false≢true (sym stops ∙ run));
      more = λ told. record { group = []; few = omega arith; tells = record { different = tt; unknown = tt; others = λ child outside. refl } };
    }

-- ---- behind a run

-- what a run did for the processors of its key was done for those of the project
module _ (tells talks : Bool) (options : Options) (project : Files) (key : Key) (old new : State) (are : Told tells (tries_in key ≡ processors_in (read_of options project))) (few : length key.processors ≤ 64) where
  most_here : length (tries_in key) ≤ 64
  most_here = subst (λ n. n ≤ 64) (sym (count_tries key)) few

  pub uses_key : (v w : Verdict) → UsesKey talks key v old new → (has_run w ≡ true → v ≡ Done) → IfSome (named_in w) (Contains (names_in key))
      → Uses tells talks options project w old new
  uses_key v w uses done named =
      let most : new.starts ≤ old.starts + length (tries_in key) = uses.most in
      record {
        processors = tries_in key;
        are = are;
        finished = λ run. uses.finished (done run);
        least = uses.least;
        most = most;
        few = omega (arith, most, most_here);
        named = subst (λ names. IfSome (named_in w) (Contains names)) (names_are key.processors) named;
        tried = uses.tried;
        all = λ run. uses.all (done run);
        more = uses.more;
      }

-- ---- behind the line of a refusal

-- which finds no memory
pub uses_memory : (tells talks : Bool) (options : Options) (project : Files) (v : Verdict) (old new : State) → Uses tells talks options project v old new → Uses tells talks options project Memory old new
uses_memory tells talks options project v old new uses = record {
  processors = uses.processors;
  are = uses.are;
  finished = λ run. absurd (false≢true run);
  least = uses.least;
  most = uses.most;
  few = uses.few;
  named = tt;
  tried = uses.tried;
  all = λ run. absurd (false≢true run);
  more = uses.more;
}
