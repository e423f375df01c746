-- The members of a class that are left.
use Rattle.std.proofs.Common.{◌≡◌, ℕ, suc, ◌+◌, ◌*◌, ◌≤◌, List, ◌++◌, codes, length, drop, take, Some, None, Ok, Err, Result, IfOk, slice_get, refl, sym, ap, ◌∙◌, arith}
use Rattle.std.proofs.lemmas.List.{length-take}
use Rattle.apt_base.specs.declared.element.ElementRef.{ElementRef}
use Rattle.apt_base.specs.declared.memory.NoMemory.{NoMemory}
use Rattle.frame_forms.specs.declared.question_row.ElementQuestion.TheVariants as asked
use Rattle.wire_frames.specs.declared.frame.Frame.{Frame}
use Rattle.wire_frames.specs.declared.reply.Info.{Info}
use Rattle.wire_frames.specs.declared.reply.Reply.{Reply}
use Rattle.local_procs.specs.Plans.{Sends}
use Rattle.local_procs.specs.Contents.{about, elements_in}
use Rattle.local_procs.specs.ClassText.{package_of, package_line}
use Rattle.local_procs.specs.Builder.{members, creates, after_member, after_enclosed, heading_of}
use Rattle.local_procs.specs.Stages.{Step, Falls}
use Rattle.local_procs.proofs.Walking.{rest_none, rest_some}

module _ (root : ElementRef) (canonical : List ℕ) (xs : List ElementRef) (n : ℕ) (text : List ℕ) where
  pub one_asked : (x : ElementRef) (frame : Frame) → Some x ≡ slice_get xs n → frame ≡ about asked.Info x
      → Sends frame (after_member (members root canonical (drop (n + 1) xs)) text x) ≡ members root canonical (drop n xs) text
  unfolding members
  one_asked x frame e h =
      let one_more : n + 1 ≡ suc n = omega arith in
      rw (rest_some xs n x (sym e), one_more, h) refl

  pub all_asked : (content : List ℕ) → None ≡ slice_get xs n → content ≡ text ++ codes "}\n"
      → creates root canonical content ≡ members root canonical (drop n xs) text
  unfolding members
  all_asked content e h = rw (rest_none xs n (sym e), h) refl

pub enclosed_is : (root : ElementRef) (info : Info) (answer : Reply) (canonical : List ℕ) (xs : List ElementRef) (text : List ℕ)
    → canonical ≡ info.canonical → xs ≡ take 1000 (elements_in answer) → text ≡ heading_of info
    → members root canonical (drop 0 xs) text ≡ after_enclosed root info answer
unfolding after_enclosed
enclosed_is root info answer canonical xs text h k l = rw (h, k, l) refl

pub heading_is : (info : Info) (t0 t1 t2 t3 : List ℕ) → t0 ≡ package_line (package_of info) → t1 ≡ t0 ++ codes "public class " → t2 ≡ t1 ++ info.simple
    → t3 ≡ t2 ++ codes "Builder {\n" → t3 ≡ heading_of info
heading_is info t0 t1 t2 t3 h k l m = m ∙ ap (λ t. t ++ codes "Builder {\n") (l ∙ ap (λ t. t ++ info.simple) (k ∙ ap (λ t. t ++ codes "public class ") h))

pub few : (xs all : List ElementRef) → xs ≡ take 1000 all → 4 * length (drop 0 xs) + 2 ≤ 4002
few xs all h =
    let e = ap length h in
    let k = length-take 1000 all in
    omega (arith, e, k)

pub falls_within : {S : Type 0} (rank : S → ℕ) (a b : ℕ) → a ≤ b → (result : Result (Step S) NoMemory) → IfOk result (Falls rank a) → IfOk result (Falls rank b)
falls_within rank a b h (Ok None) k = tt
falls_within rank a b h (Ok (Some x)) k = omega (arith, h, k)
falls_within rank a b h (Err fault) k = k
