-- What builder gives for a root, and how much it sends.
use Rattle.std.proofs.Common.{ℕ, zero, suc, ◌+◌, ◌*◌, ◌≤◌, Bool, true, false, List, [], ◌∷◌, ◌++◌, codes, length, take, Option, None, Some, refl, if◌then◌else◌, arith}
use Rattle.std.specs.Prelude.{nat_lt}
use Rattle.std.proofs.lemmas.List.{length-take}
use Rattle.apt_base.specs.declared.element.ElementRef.{ElementRef}
use Rattle.type_mirror.specs.declared.mirror.Mirror.{Mirror}
use Rattle.frame_forms.specs.declared.question_row.ElementQuestion.TheVariants as asked
use Rattle.frame_forms.specs.declared.question_row.MirrorQuestion.TheVariants.{PrintType}
use Rattle.wire_frames.specs.declared.frame.Frame.{Frame}
use Rattle.wire_frames.specs.declared.frame.Frame.TheVariants as frame
use Rattle.wire_frames.specs.declared.question.Question.{Question}
use Rattle.wire_frames.specs.declared.question.Question.TheVariants as question
use Rattle.wire_frames.specs.declared.reply.Info.{Info}
use Rattle.wire_frames.specs.declared.reply.Reply.{Reply}
use Rattle.local_procs.specs.Plans.{Plan, Sends, done}
use Rattle.local_procs.specs.Contents.{elements_in, info_in, mirror_in, text_in, is_accepted, carries, about}
use Rattle.local_procs.specs.ClassText.{is_class, source_of}
use Rattle.local_procs.specs.Builder as builder
use Rattle.local_procs.specs.Kinds.{GivesFor, IsShort}

pub either : (P : Plan → Type 0) (b : Bool) (p q : Plan) → P p → P q → P (if b then p else q)
either P true p q h k = h
either P false p q h k = k

-- ---- what it gives

module _ (root : ElementRef) where
  gives_nothing : GivesFor root done
  unfolding GivesFor
  gives_nothing = tt

  gives_question : (of : Question) (go : Reply → Plan) → ((answer : Reply) → GivesFor root (go answer)) → GivesFor root (Sends (frame.Ask of) go)
  unfolding GivesFor
  gives_question of go h = (tt, h)

  gives_warning : GivesFor root (builder.warns root)
  unfolding GivesFor
  gives_warning = (refl, λ answer. tt)

  gives_after_creation : (answer : Reply) → GivesFor root (builder.after_creation root answer)
  unfolding builder.after_creation
  gives_after_creation answer = either (GivesFor root) (is_accepted answer) done (builder.warns root) gives_nothing gives_warning

  gives_source : (name content : List ℕ) → GivesFor root (Sends (source_of root name content) (builder.after_creation root))
  unfolding GivesFor
  gives_source name content = (refl, gives_after_creation)

  gives_file : (canonical content : List ℕ) → GivesFor root (builder.creates root canonical content)
  gives_file canonical content =
      either (GivesFor root) (nat_lt builder.most_bytes (length content)) (builder.warns root) _ gives_warning
      (gives_source (canonical ++ codes "Builder") content)

  gives_type : (rest : List ℕ → Plan) (text name : List ℕ) → ((t : List ℕ) → GivesFor root (rest t)) → (of : Option Mirror) → GivesFor root (builder.by_type rest text name of)
  gives_type rest text name h None = h text
  gives_type rest text name h (Some mirror) =
      gives_question (question.Mirror PrintType mirror) (builder.after_print rest text name) (λ answer. h (builder.with_line text name (text_in answer)))

  gives_member : (rest : List ℕ → Plan) (text : List ℕ) (member : ElementRef) → ((t : List ℕ) → GivesFor root (rest t)) → (info : Option Info)
      → GivesFor root (builder.by_member rest text member info)
  gives_member rest text member h None = h text
  gives_member rest text member h (Some info) =
      either (GivesFor root) (builder.is_instance_field info) _ (rest text)
      (gives_question (question.Element asked.TypeOf member) (builder.after_type rest text info.simple) (λ answer. gives_type rest text info.simple h (mirror_in answer)))
      (h text)

  gives_members : (canonical : List ℕ) (xs : List ElementRef) (text : List ℕ) → GivesFor root (builder.members root canonical xs text)
  unfolding builder.members
  gives_members canonical [] text = gives_file canonical (text ++ codes "}\n")
  gives_members canonical (x ∷ xs) text =
      gives_question (question.Element asked.Info x) (builder.after_member (builder.members root canonical xs) text x)
      (λ answer. gives_member (builder.members root canonical xs) text x (gives_members canonical xs) (info_in answer))

  gives_enclosed : (info : Info) (answer : Reply) → GivesFor root (builder.after_enclosed root info answer)
  unfolding builder.after_enclosed
  gives_enclosed info answer = gives_members info.canonical (take 1000 (elements_in answer)) (builder.heading_of info)

  gives_annotations : (info : Info) (answer : Reply) → GivesFor root (builder.after_annotations root info answer)
  unfolding builder.after_annotations
  gives_annotations info answer =
      either (GivesFor root) (carries builder.built answer) _ done
      (gives_question (question.Element asked.Enclosed root) (builder.after_enclosed root info) (gives_enclosed info)) gives_nothing

  gives_class : (info : Option Info) → GivesFor root (builder.by_info root info)
  gives_class None = gives_nothing
  gives_class (Some info) =
      either (GivesFor root) (is_class info.kind) _ done
      (gives_question (question.Element asked.Annotations root) (builder.after_annotations root info) (gives_annotations info)) gives_nothing

  gives_info : (answer : Reply) → GivesFor root (builder.after_info root answer)
  unfolding builder.after_info
  gives_info answer = gives_class (info_in answer)

pub gives_builds : (root : ElementRef) → GivesFor root (builder.builds root)
gives_builds root = gives_question root (question.Element asked.Info root) (builder.after_info root) (gives_info root)

-- ---- how much it sends, where it may send n frames or more

ends_short : (n : ℕ) → IsShort n done
unfolding IsShort
ends_short n = tt

sends_short : (n m : ℕ) (sent : Frame) (go : Reply → Plan) → 1 + m ≤ n → ((k : ℕ) → m ≤ k → (answer : Reply) → IsShort k (go answer)) → IsShort n (Sends sent go)
unfolding IsShort
sends_short zero m sent go h f = absurd (omega (arith, h))
sends_short (suc n) m sent go h f = f n (omega (arith, h))

warns_short : (root : ElementRef) (n : ℕ) → 1 ≤ n → IsShort n (builder.warns root)
warns_short root n h = sends_short n 0 _ builder.after_warning (omega (arith, h)) (λ k l answer. ends_short k)

created_short : (root : ElementRef) (n : ℕ) → 1 ≤ n → (answer : Reply) → IsShort n (builder.after_creation root answer)
unfolding builder.after_creation
created_short root n h answer = either (IsShort n) (is_accepted answer) done (builder.warns root) (ends_short n) (warns_short root n h)

file_short : (root : ElementRef) (canonical content : List ℕ) (n : ℕ) → 2 ≤ n → IsShort n (builder.creates root canonical content)
file_short root canonical content n h =
    either (IsShort n) (nat_lt builder.most_bytes (length content)) (builder.warns root) _ (warns_short root n (omega (arith, h)))
    (sends_short n 1 (source_of root (canonical ++ codes "Builder") content) (builder.after_creation root) (omega (arith, h)) (λ k l answer. created_short root k l answer))

-- rest is short with m frames
module _ (rest : List ℕ → Plan) (m : ℕ) (short : (k : ℕ) → m ≤ k → (t : List ℕ) → IsShort k (rest t)) where
  type_short : (text name : List ℕ) (of : Option Mirror) (n : ℕ) → 1 + m ≤ n → IsShort n (builder.by_type rest text name of)
  type_short text name None n h = short n (omega (arith, h)) text
  type_short text name (Some mirror) n h =
      sends_short n m (frame.Ask (question.Mirror PrintType mirror)) (builder.after_print rest text name) h (λ k l answer. short k l (builder.with_line text name (text_in answer)))

  member_short : (text : List ℕ) (member : ElementRef) (info : Option Info) (n : ℕ) → 2 + m ≤ n → IsShort n (builder.by_member rest text member info)
  member_short text member None n h = short n (omega (arith, h)) text
  member_short text member (Some info) n h =
      either (IsShort n) (builder.is_instance_field info) _ (rest text)
      (sends_short n (1 + m) (about asked.TypeOf member) (builder.after_type rest text info.simple) (omega (arith, h))
      (λ k l answer. type_short text info.simple (mirror_in answer) k l))
      (short n (omega (arith, h)) text)

members_short : (root : ElementRef) (canonical : List ℕ) (xs : List ElementRef) (n : ℕ) → 3 * length xs + 2 ≤ n → (text : List ℕ)
    → IsShort n (builder.members root canonical xs text)
unfolding builder.members
members_short root canonical [] n h text = file_short root canonical (text ++ codes "}\n") n (omega (arith, h))
members_short root canonical (x ∷ xs) n h text =
    sends_short n (2 + (3 * length xs + 2)) (about asked.Info x) (builder.after_member (builder.members root canonical xs) text x) (omega (arith, h))
    (λ k l answer. member_short (builder.members root canonical xs) (3 * length xs + 2) (λ j i t. members_short root canonical xs j i t) text x (info_in answer) k l)

few : (all : List ElementRef) (n : ℕ) → 3002 ≤ n → 3 * length (take 1000 all) + 2 ≤ n
few all n h = let k = length-take 1000 all in omega (arith, k, h)

enclosed_short : (root : ElementRef) (info : Info) (n : ℕ) → 3002 ≤ n → (answer : Reply) → IsShort n (builder.after_enclosed root info answer)
unfolding builder.after_enclosed
enclosed_short root info n h answer = members_short root info.canonical (take 1000 (elements_in answer)) n (few (elements_in answer) n h) (builder.heading_of info)

annotations_short : (root : ElementRef) (info : Info) (n : ℕ) → 3003 ≤ n → (answer : Reply) → IsShort n (builder.after_annotations root info answer)
unfolding builder.after_annotations
annotations_short root info n h answer =
    either (IsShort n) (carries builder.built answer) _ done
    (sends_short n 3002 (about asked.Enclosed root) (builder.after_enclosed root info) h (λ k l reply. enclosed_short root info k l reply)) (ends_short n)

class_short : (root : ElementRef) (info : Option Info) (n : ℕ) → 3004 ≤ n → IsShort n (builder.by_info root info)
class_short root None n h = ends_short n
class_short root (Some info) n h =
    either (IsShort n) (is_class info.kind) _ done
    (sends_short n 3003 (about asked.Annotations root) (builder.after_annotations root info) h (λ k l reply. annotations_short root info k l reply)) (ends_short n)

info_short : (root : ElementRef) (n : ℕ) → 3004 ≤ n → (answer : Reply) → IsShort n (builder.after_info root answer)
unfolding builder.after_info
info_short root n h answer = class_short root (info_in answer) n h

builds_short_in : (root : ElementRef) (n : ℕ) → 3005 ≤ n → IsShort n (builder.builds root)
builds_short_in root n h = sends_short n 3004 (about asked.Info root) (builder.after_info root) h (λ k l reply. info_short root k l reply)

pub builds_short : (root : ElementRef) → IsShort 3005 (builder.builds root)
builds_short root = builds_short_in root 3005 (omega arith)
