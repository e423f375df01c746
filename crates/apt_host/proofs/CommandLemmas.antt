-- What each command keeps to where it touched nothing, where there was no memory for its words, and behind the line of its status.
use Rattle.std.proofs.Common.{◌≡◌, ℕ, ◌≤◌, Bool, true, false, List, [], Option, None, Some, refl, sym, ◌∙◌, subst, inr, arith}
use Rattle.std.proofs.lemmas.Bool.{false≢true}
use Rattle.std.proofs.lemmas.Grind.{common_steps}
use Rattle.apt_outside.specs.declared.tree.Tree as tree
use Rattle.apt_outside.specs.declared.children.Children as children
use Rattle.apt_outside.specs.declared.stream.Source as source
use Rattle.apt_outside.specs.declared.stream.Sink as sink
use Rattle.apt_outside.specs.Count.{Rose}
use Rattle.apt_outside.specs.Files.{Files}
use Rattle.apt_outside.specs.Child.{State}
use Rattle.project_units.specs.Refusals.{Object}
use Rattle.project_reading.specs.declared.status.Status.{Status}
use Rattle.project_reading.specs.Verdicts.{Verdict, Memory, verdict, is_finished, is_sink, fails, HasCause}
use Rattle.apt_host.specs.Words.{Request, Build, Serve, Help, Bad, has_line, help_text}
use Rattle.apt_host.specs.CleanBuild.{clean}
use Rattle.apt_host.specs.Report.{report_text}
use Rattle.apt_host.specs.Texts.{IsLine, Adds, WritesText, Writes, Finishes}
use Rattle.apt_host.specs.Promises as promise
use Rattle.apt_host.specs.Commands.{SameUnless, SameBut, IsOwn, Prints, touched_by}
use Rattle.apt_host.specs.Calls.{Untouched, Unread, Does}
use Rattle.apt_host.proofs.Writing.{memory_or_not, reports_nothing, reports_finish, writes_nothing, writes_all}
use Rattle.apt_host.proofs.Keeping.{builds_unread}

-- ---- what was not touched

same_unless : {T : Type 0} (touched : Bool) (x : T) → SameUnless touched x x
same_unless true x = tt
same_unless false x = refl

pub untouched_same : {T C : Type 0} (request : Request) (tree : T) (children : C) → Untouched request tree tree children children
untouched_same request tree children = (same_unless (touched_by request).tree tree, same_unless (touched_by request).children children)

pub unread_same : {R : Type 0} (request : Request) (input : R) → Unread request input input
unread_same request input = same_unless (touched_by request).source input

same_but : (folder : Option (List ℕ)) (files : Files) → SameBut folder files files
same_but None files = refl
same_but (Some folder) files = record { others = λ q outside. refl }

pub others_same : (request : Request) (files : Files) → SameBut (touched_by request).folder files files
others_same request files = same_but (touched_by request).folder files

-- ---- its answer

pub own_memory : (request : Request) → IsOwn request Memory
own_memory (Build options) = (λ at e. cc, refl)
own_memory (Serve local) = refl
own_memory Help = refl
own_memory (Bad at) = inr refl

-- behind the line of its status
pub own_finish : (request : Request) (v w : Verdict) → Finishes v w → IsOwn request v → IsOwn request w
own_finish request v w finishes own = memory_or_not w (IsOwn request w)
    (λ memory. subst (IsOwn request) (sym memory) (own_memory request))
    (λ ne. subst (IsOwn request) (sym (finishes.same ne)) own)

-- a count that rose in a part of the call rose in the whole
pub rose_before : (old mid new : ℕ) → mid ≤ new → Rose old mid → Rose old new
rose_before old mid new later rose = grind (arith, common_steps)

pub rose_behind : (old mid new : ℕ) → old ≤ mid → Rose mid new → Rose old new
rose_behind old mid new later rose = grind (arith, common_steps)

pub cause_later : (is : Object → Bool) (v : Verdict) (old mid new : ℕ) → HasCause is v old mid → mid ≤ new → HasCause is v old new
cause_later is v old mid new cause later = record { later = omega (arith, cause.later, later); rose = λ failed. rose_before old mid new later (cause.rose failed) }

-- ---- what it writes

module _ (tells talks : Bool) (old new : Files) (before after : State) where
  prints_finish : (request : Request) (v w : Verdict) → Finishes v w → (whole text : List ℕ) → Prints tells talks request old new before after v whole text → Prints tells talks request old new before after w whole text
  prints_finish (Build options) v w finishes whole text prints = reports_finish tells talks options old new before after v w finishes whole text prints
  prints_finish (Serve local) v w finishes whole text prints = absurd prints
  prints_finish Help v w finishes whole text prints = prints
  prints_finish (Bad at) v w finishes whole text prints = prints

  -- behind the line of its status
  pub writes_finish : (request : Request) (v w : Verdict) (r1 r2 s : Type 0) (out mid end : List ℕ) → Finishes v w → (r1 → s) → (r2 → s) → (fails is_sink v ≡ true → s)
      → WritesText (Prints tells talks request old new before after v) v r1 out mid → Adds (IsLine w r2) mid end → Writes (Prints tells talks request old new before after w) w s out end
  writes_finish request v w r1 r2 s out mid end finishes more more_line why written line =
      writes_all (Prints tells talks request old new before after v) (Prints tells talks request old new before after w) v w r1 r2 s out mid end finishes more more_line why (prints_finish request v w finishes) written line

module _ (tells talks : Bool) (files : Files) (state : State) where
  abbrev whole_of : Request → List ℕ
  whole_of (Build options) = report_text (clean state.says options files)
  whole_of (Serve local) = []
  whole_of Help = help_text
  whole_of (Bad at) = []

  prints_nothing : (request : Request) (v : Verdict) → has_line request ≡ true → is_finished v ≡ false → Prints tells talks request files files state state v (whole_of request) []
  prints_nothing (Build options) v line unfinished = reports_nothing tells talks options files files state state v unfinished
  prints_nothing (Serve local) v line unfinished = absurd (false≢true line)
  prints_nothing Help v line unfinished = refl
  prints_nothing (Bad at) v line unfinished = refl

  -- the line alone, where nothing was done
  pub writes_line : (request : Request) (v w : Verdict) (rose : Type 0) (out end : List ℕ) → has_line request ≡ true → is_finished v ≡ false → fails is_sink v ≡ false → Finishes v w
      → Adds (IsLine w rose) out end → Writes (Prints tells talks request files files state state w) w rose out end
  writes_line request v w rose out end line unfinished other finishes added =
      writes_finish tells talks files files state state request v w rose rose rose out out end finishes (λ r. r) (λ r. r) (λ failed. absurd (false≢true (sym other ∙ failed)))
      (writes_nothing (Prints tells talks request files files state state v) v rose (whole_of request) out unfinished other (prints_nothing request v line unfinished)) added

-- ---- what it does

-- there was no memory for the words
pub does_unread : {T C R W : Type 0} (t : tree.Ghosts T) (c : children.Ghosts C) (r : source.Ghosts R) (w : sink.Ghosts W) (request : Request) (tree : T) (children : C) (input : R) (output output' : W)
    (result : Status) → has_line request ≡ true → verdict result ≡ Memory → Does t c r w request tree tree children children input input output output' result
does_unread t c r w (Build options) tree children input output output' result line memory =
    let state = c.state children in
    let rose = Rose (c.faults children) (c.faults children) in
    subst (λ v. promise.Builds t.tells c.tells options (t.files tree) (t.files tree) state state rose v) (sym memory)
    (builds_unread t.tells c.tells options (t.files tree) (t.files tree) state rose Memory tt refl tt (λ told. tt) (λ told. refl))
does_unread t c r w (Serve local) tree children input output output' result line memory = absurd (false≢true line)
does_unread t c r w Help tree children input output output' result line memory = tt
does_unread t c r w (Bad at) tree children input output output' result line memory = tt
