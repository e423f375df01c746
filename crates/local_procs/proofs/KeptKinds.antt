-- The kinds of the processors.
use Rattle.std.proofs.Common.{◌≢◌, ℕ, zero, suc, Bool, true, false, List, ◌++◌, codes, Option, None, Some, is_some, refl, if◌then◌else◌}
use Rattle.apt_base.specs.declared.element.ElementRef.{ElementRef}
use Rattle.apt_base.specs.declared.kinds.Claim.TheVariants.{Always, Never, Varies}
use Rattle.frame_forms.specs.declared.question_row.ElementQuestion.{ElementQuestion}
use Rattle.frame_forms.specs.declared.question_row.ElementQuestion.TheVariants as asked
use Rattle.wire_frames.specs.declared.reply.Info.{Info}
use Rattle.wire_frames.specs.declared.reply.Reply.{Reply}
use Rattle.local_procs.specs.declared.local.Local.TheVariants.{Builder, Chain, Checker, Registry}
use Rattle.local_procs.specs.Plans.{Plan, Sends, done}
use Rattle.local_procs.specs.Contents.{info_in, text_in, carries, about}
use Rattle.local_procs.specs.Checker as checker
use Rattle.local_procs.specs.Chain as chain
use Rattle.local_procs.specs.ClassText.{is_class, source_of}
use Rattle.local_procs.proofs.BuilderKind.{gives_builds, builds_short}
use Rattle.local_procs.proofs.RegistryKind.{gives_gathered, gathered_short}
use Rattle.local_procs.specs.Kinds.{GivesFor, IsShort, AllKeepKinds}

either : (P : Plan → Type 0) (b : Bool) (p q : Plan) → P p → P q → P (if b then p else q)
either P true p q h k = h
either P false p q h k = k

-- ---- what checker gives

gives_text : (kind : ℕ) (root : ElementRef) (text : List ℕ) → GivesFor root (checker.says_at kind root text)
unfolding GivesFor
gives_text kind root text = (refl, λ answer. tt)

gives_nothing : (root : ElementRef) → GivesFor root done
unfolding GivesFor
gives_nothing root = tt

gives_comment : (root : ElementRef) (answer : Reply) → GivesFor root (checker.after_comment root answer)
unfolding checker.after_comment
gives_comment root answer =
    either (GivesFor root) (is_some (text_in answer)) done (checker.says_at 1 root (codes "no doc comment")) (gives_nothing root)
    (gives_text 1 root (codes "no doc comment"))

gives_question : (root : ElementRef) (question : ElementQuestion) (go : Reply → Plan) → ((answer : Reply) → GivesFor root (go answer))
    → GivesFor root (Sends (about question root) go)
unfolding GivesFor
gives_question root question go h = (tt, h)

gives_annotations : (root : ElementRef) (simple : List ℕ) (answer : Reply) → GivesFor root (checker.after_annotations root simple answer)
unfolding checker.after_annotations
gives_annotations root simple answer =
    either (GivesFor root) (carries checker.checked answer) _ done
    (either (GivesFor root) (checker.begins_in_lower_case simple) (checker.says_at 0 root (codes "name begins in lower case")) _
    (gives_text 0 root (codes "name begins in lower case"))
    (gives_question root asked.DocComment (checker.after_comment root) (gives_comment root)))
    (gives_nothing root)

gives_by_info : (root : ElementRef) (info : Option Info) → GivesFor root (checker.by_info root info)
gives_by_info root None = gives_nothing root
gives_by_info root (Some info) =
    either (GivesFor root) (checker.is_type info.kind) _ done
    (gives_question root asked.AllAnnotations (checker.after_annotations root info.simple) (gives_annotations root info.simple))
    (gives_nothing root)

gives_info : (root : ElementRef) (answer : Reply) → GivesFor root (checker.after_info root answer)
unfolding checker.after_info
gives_info root answer = gives_by_info root (info_in answer)

gives_checks : (root : ElementRef) → GivesFor root (checker.checks root)
gives_checks root = gives_question root asked.Info (checker.after_info root) (gives_info root)

-- ---- how much it sends

ends_short : (n : ℕ) → IsShort n done
unfolding IsShort
ends_short n = tt

text_short : (n kind : ℕ) (root : ElementRef) (text : List ℕ) → IsShort (suc n) (checker.says_at kind root text)
unfolding IsShort
text_short n kind root text = λ answer. tt

question_short : (n : ℕ) (root : ElementRef) (question : ElementQuestion) (go : Reply → Plan) → ((answer : Reply) → IsShort n (go answer))
    → IsShort (suc n) (Sends (about question root) go)
unfolding IsShort
question_short n root question go h = h

comment_short : (root : ElementRef) (answer : Reply) → IsShort (suc zero) (checker.after_comment root answer)
unfolding checker.after_comment
comment_short root answer =
    either (IsShort (suc zero)) (is_some (text_in answer)) done (checker.says_at 1 root (codes "no doc comment")) (ends_short (suc zero))
    (text_short zero 1 root (codes "no doc comment"))

annotations_short : (root : ElementRef) (simple : List ℕ) (answer : Reply) → IsShort (suc (suc zero)) (checker.after_annotations root simple answer)
unfolding checker.after_annotations
annotations_short root simple answer =
    either (IsShort (suc (suc zero))) (carries checker.checked answer) _ done
    (either (IsShort (suc (suc zero))) (checker.begins_in_lower_case simple) (checker.says_at 0 root (codes "name begins in lower case")) _
    (text_short (suc zero) 0 root (codes "name begins in lower case"))
    (question_short (suc zero) root asked.DocComment (checker.after_comment root) (comment_short root)))
    (ends_short (suc (suc zero)))

by_info_short : (root : ElementRef) (info : Option Info) → IsShort (suc (suc (suc zero))) (checker.by_info root info)
by_info_short root None = ends_short (suc (suc (suc zero)))
by_info_short root (Some info) =
    either (IsShort (suc (suc (suc zero)))) (checker.is_type info.kind) _ done
    (question_short (suc (suc zero)) root asked.AllAnnotations (checker.after_annotations root info.simple) (annotations_short root info.simple))
    (ends_short (suc (suc (suc zero))))

info_short : (root : ElementRef) (answer : Reply) → IsShort (suc (suc (suc zero))) (checker.after_info root answer)
unfolding checker.after_info
info_short root answer = by_info_short root (info_in answer)

checks_short : (root : ElementRef) → IsShort 4 (checker.checks root)
checks_short root = question_short 3 root asked.Info (checker.after_info root) (info_short root)

-- ---- what chain gives, and how much it sends

gives_file : (root : ElementRef) (name content : List ℕ) → GivesFor root (Sends (source_of root name content) chain.after_last)
unfolding GivesFor
gives_file root name content = (refl, λ answer. tt)

gives_number : (root : ElementRef) (info : Info) (number : Option ℕ) → GivesFor root (chain.by_number root info number)
gives_number root info None = gives_nothing root
gives_number root info (Some n) = gives_file root (info.canonical ++ codes "_") (chain.text_of info n)

gives_links : (root : ElementRef) (info : Info) (answer : Reply) → GivesFor root (chain.after_annotations root info answer)
unfolding chain.after_annotations
gives_links root info answer = gives_number root info (chain.links_in answer)

gives_class : (root : ElementRef) (info : Option Info) → GivesFor root (chain.by_info root info)
gives_class root None = gives_nothing root
gives_class root (Some info) =
    either (GivesFor root) (is_class info.kind) _ done
    (gives_question root asked.Annotations (chain.after_annotations root info) (gives_links root info))
    (gives_nothing root)

gives_class_info : (root : ElementRef) (answer : Reply) → GivesFor root (chain.after_info root answer)
unfolding chain.after_info
gives_class_info root answer = gives_class root (info_in answer)

gives_chains : (root : ElementRef) → GivesFor root (chain.chains root)
gives_chains root = gives_question root asked.Info (chain.after_info root) (gives_class_info root)

file_short : (root : ElementRef) (name content : List ℕ) → IsShort (suc (suc zero)) (Sends (source_of root name content) chain.after_last)
unfolding IsShort
file_short root name content = λ answer. tt

number_short : (root : ElementRef) (info : Info) (number : Option ℕ) → IsShort (suc (suc zero)) (chain.by_number root info number)
number_short root info None = ends_short (suc (suc zero))
number_short root info (Some n) = file_short root (info.canonical ++ codes "_") (chain.text_of info n)

links_short : (root : ElementRef) (info : Info) (answer : Reply) → IsShort (suc (suc zero)) (chain.after_annotations root info answer)
unfolding chain.after_annotations
links_short root info answer = number_short root info (chain.links_in answer)

class_short : (root : ElementRef) (info : Option Info) → IsShort (suc (suc (suc zero))) (chain.by_info root info)
class_short root None = ends_short (suc (suc (suc zero)))
class_short root (Some info) =
    either (IsShort (suc (suc (suc zero)))) (is_class info.kind) _ done
    (question_short (suc (suc zero)) root asked.Annotations (chain.after_annotations root info) (links_short root info))
    (ends_short (suc (suc (suc zero))))

class_info_short : (root : ElementRef) (answer : Reply) → IsShort (suc (suc (suc zero))) (chain.after_info root answer)
unfolding chain.after_info
class_info_short root answer = class_short root (info_in answer)

chains_short : (root : ElementRef) → IsShort 4 (chain.chains root)
chains_short root = question_short 3 root asked.Info (chain.after_info root) (class_info_short root)

-- ---- all

never_varies : Never ≢ Varies
never_varies e = absurd (cc)

always_varies : Always ≢ Varies
always_varies e = absurd (cc)

pub all_keep_kinds : AllKeepKinds
all_keep_kinds Checker = record { constant = never_varies; attributed = gives_checks; short = checks_short }
all_keep_kinds Builder = record { constant = always_varies; attributed = gives_builds; short = builds_short }
all_keep_kinds Chain = record { constant = always_varies; attributed = gives_chains; short = chains_short }
all_keep_kinds Registry = record { constant = always_varies; gathered = gives_gathered; short = gathered_short }
