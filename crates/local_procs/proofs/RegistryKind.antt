-- What registry gives in a round, and how much it sends.
use Rattle.std.proofs.Common.{◌≡◌, ℕ, suc, Bool, true, false, List, not, ◌&&◌, refl}
use Rattle.apt_base.specs.Names.{NameSet, with_names, names_in}
use Rattle.wire_frames.specs.declared.reply.Reply.{Reply}
use Rattle.local_procs.specs.Plans.{Plan, Ends, Sends}
use Rattle.local_procs.specs.Contents.{is_empty}
use Rattle.local_procs.specs.Registry.{types_in, file_of, after_file, writes, after_registered, registers}
use Rattle.local_procs.specs.Kinds.{Gathers, IsShort}
use Rattle.local_procs.proofs.BuilderKind.{either}

-- ---- what it gives

gives_rest : (over : Bool) (kept : NameSet) → Gathers over (Ends kept)
unfolding Gathers
gives_rest over kept = tt

gives_file : (over : Bool) (kept : NameSet) (names : List (List ℕ)) → over ≡ true → Gathers over (Sends (file_of names) (after_file kept))
unfolding Gathers
gives_file over kept names last = ((last, refl), λ answer. tt)

gives_written : (over : Bool) (kept : NameSet) → Gathers over (writes over kept)
unfolding writes
gives_written true kept =
    either (Gathers true) (not (is_empty (names_in kept))) (Sends (file_of (names_in kept)) (after_file kept)) (Ends kept)
    (gives_file true kept (names_in kept) refl) (gives_rest true kept)
gives_written false kept = gives_rest false kept

gives_registered : (over : Bool) (kept : NameSet) (answer : Reply) → Gathers over (after_registered over kept answer)
unfolding after_registered
gives_registered over kept answer = gives_written over (with_names kept (types_in answer))

pub gives_gathered : (there over : Bool) (kept : NameSet) → Gathers over (registers there over kept)
unfolding Gathers
gives_gathered true over kept = (tt, gives_registered over kept)
gives_gathered false over kept = gives_written over kept

-- ---- how much it sends

rest_short : (n : ℕ) (kept : NameSet) → IsShort n (Ends kept)
unfolding IsShort
rest_short n kept = tt

file_short : (n : ℕ) (kept : NameSet) (names : List (List ℕ)) → IsShort (suc n) (Sends (file_of names) (after_file kept))
unfolding IsShort
file_short n kept names = λ answer. tt

written_short : (n : ℕ) (over : Bool) (kept : NameSet) → IsShort (suc n) (writes over kept)
unfolding writes
written_short n over kept =
    either (IsShort (suc n)) (over && not (is_empty (names_in kept))) (Sends (file_of (names_in kept)) (after_file kept)) (Ends kept)
    (file_short n kept (names_in kept)) (rest_short (suc n) kept)

registered_short : (n : ℕ) (over : Bool) (kept : NameSet) (answer : Reply) → IsShort (suc n) (after_registered over kept answer)
unfolding after_registered
registered_short n over kept answer = written_short n over (with_names kept (types_in answer))

asked_short : (n : ℕ) (there over : Bool) (kept : NameSet) → IsShort (suc (suc n)) (registers there over kept)
unfolding IsShort
asked_short n true over kept = registered_short n over kept
asked_short n false over kept = written_short (suc n) over kept

pub gathered_short : (there over : Bool) (kept : NameSet) → IsShort 2 (registers there over kept)
gathered_short there over kept = asked_short 0 there over kept
