use Rattle.std.proofs.Common.{◌≡◌, sym, ap, ◌∙◌, subst, refl}
use Rattle.std.proofs.lemmas.Bool.{false≢true}
use Rattle.apt_outside.specs.Count.{Rose}
use Rattle.project_units.specs.Refusals.{BadWords}
use Rattle.project_reading.specs.Verdicts.{Refused, Memory, verdict, is_tree, is_sink, is_children, HasCause, HasSourceCause}
use Rattle.apt_host.specs.Words.{Build, Serve, Help, Bad, has_line}
use Rattle.apt_host.specs.Shown.{asked}
use Rattle.apt_host.specs.BuildEndings.{closed}
use Rattle.apt_host.specs.Texts as text
use Rattle.apt_host.specs.Texts.{Finishes}
use Rattle.apt_host.specs.Commands as command
use Rattle.apt_host.specs.Calls.{Untouched, Unread, KeepsOthers, Does}
use Rattle.apt_host.proofs.Writing.{or_memory, memory_stays, cause_finish}
use Rattle.apt_host.proofs.Keeping.{builds_finish}
use Rattle.apt_host.proofs.CommandLemmas.{untouched_same, unread_same, others_same, own_memory, own_finish, rose_before, rose_behind, cause_later, writes_finish, writes_line, does_unread}
use Rattle.apt_host.proofs.ServingLemmas.{served_own, served_others, served_source, served_sink, source_unread, serves_as}
use Rattle.apt_host.proofs.call.run.Goals as goal

-- ---- a build

pub returns-in-Ok-Build-clause-tree_cause : goal.returns-in-Ok-Build-clause-tree_cause
returns-in-Ok-Build-clause-tree_cause g c =
    let v = closed c.build-outcome.result in
    let w = verdict c.finish.result in
    let ends : Finishes v w = subst (λ u. Finishes u w) c.status_of.ensures c.finish.ensures.status in
    cause_finish is_tree v w _ _ ends c.build-outcome.ensures.tree_cause

pub returns-in-Ok-Build-clause-children : goal.returns-in-Ok-Build-clause-children
returns-in-Ok-Build-clause-children g c =
    let v = closed c.build-outcome.result in
    let w = verdict c.finish.result in
    let ends : Finishes v w = subst (λ u. Finishes u w) c.status_of.ensures c.finish.ensures.status in
    cause_finish is_children v w _ _ ends c.build-outcome.ensures.children

pub returns-in-Ok-Build-clause-source_cause : goal.returns-in-Ok-Build-clause-source_cause
returns-in-Ok-Build-clause-source_cause g c =
    let v = closed c.build-outcome.result in
    let w = verdict c.finish.result in
    let ends : Finishes v w = subst (λ u. Finishes u w) c.status_of.ensures c.finish.ensures.status in
    source_unread w _ (own_finish (Build c.in-Ok-Build.options) v w ends c.build-outcome.ensures.own).1

pub returns-in-Ok-Build-clause-sink_cause : goal.returns-in-Ok-Build-clause-sink_cause
returns-in-Ok-Build-clause-sink_cause g c =
    let v = closed c.build-outcome.result in
    let w = verdict c.finish.result in
    let ends : Finishes v w = subst (λ u. Finishes u w) c.status_of.ensures c.finish.ensures.status in
    cause_finish is_sink v w _ _ ends (cause_later is_sink v _ _ _ c.build-outcome.ensures.sink_cause c.finish.ensures.later)

pub returns-in-Ok-Build-clause-untouched : goal.returns-in-Ok-Build-clause-untouched
returns-in-Ok-Build-clause-untouched g c =
    let words_are : Build c.in-Ok-Build.options ≡ asked c.args.words.now = rw c.in-Ok-Build.field-0-is at c.in-Ok-Build.ensures.request in
    subst (λ request. Untouched request c.args.tree.now c.build-outcome.new.tree c.args.children.now c.build-outcome.new.children) words_are (tt, tt)

pub returns-in-Ok-Build-clause-input : goal.returns-in-Ok-Build-clause-input
returns-in-Ok-Build-clause-input g c = unread_same (asked c.args.words.now) _

pub returns-in-Ok-Build-clause-outside : goal.returns-in-Ok-Build-clause-outside
returns-in-Ok-Build-clause-outside g c =
    let words_are : Build c.in-Ok-Build.options ≡ asked c.args.words.now = rw c.in-Ok-Build.field-0-is at c.in-Ok-Build.ensures.request in
    subst (λ request. KeepsOthers g.T.Tree request c.args.tree.now c.build-outcome.new.tree) words_are c.build-outcome.ensures.outside

pub returns-in-Ok-Build-clause-own : goal.returns-in-Ok-Build-clause-own
returns-in-Ok-Build-clause-own g c =
    let words_are : Build c.in-Ok-Build.options ≡ asked c.args.words.now = rw c.in-Ok-Build.field-0-is at c.in-Ok-Build.ensures.request in
    let v = closed c.build-outcome.result in
    let w = verdict c.finish.result in
    let ends : Finishes v w = subst (λ u. Finishes u w) c.status_of.ensures c.finish.ensures.status in
    subst (λ request. command.IsOwn request w) words_are (own_finish (Build c.in-Ok-Build.options) v w ends c.build-outcome.ensures.own)

pub returns-in-Ok-Build-clause-written : goal.returns-in-Ok-Build-clause-written
returns-in-Ok-Build-clause-written g c = λ told line.
    let T = g.T.Tree in
    let C = g.C.Children in
    let W = g.W.Sink in
    let words_are : Build c.in-Ok-Build.options ≡ asked c.args.words.now = rw c.in-Ok-Build.field-0-is at c.in-Ok-Build.ensures.request in
    let v = closed c.build-outcome.result in
    let w = verdict c.finish.result in
    let ends : Finishes v w = subst (λ u. Finishes u w) c.status_of.ensures c.finish.ensures.status in
    let old = W.faults c.args.output.now in
    let mid = W.faults c.build-outcome.new.output in
    let new = W.faults c.finish.new.output in
    let sink = c.build-outcome.ensures.sink_cause in
    let later = c.finish.ensures.later in
    let files = T.files c.args.tree.now in
    let files' = T.files c.build-outcome.new.tree in
    let before = C.state c.args.children.now in
    let after = C.state c.build-outcome.new.children in
    subst (λ request. text.Writes (command.Prints T.tells C.tells request files files' before after w) w (Rose old new) (W.written c.args.output.now) (W.written c.finish.new.output)) words_are
    (writes_finish T.tells C.tells files files' before after (Build c.in-Ok-Build.options) v w (Rose old mid) (Rose mid new) (Rose old new)
    (W.written c.args.output.now) (W.written c.build-outcome.new.output) (W.written c.finish.new.output) ends
    (rose_before old mid new later) (rose_behind old mid new sink.later) (λ failed. rose_before old mid new later (sink.rose failed))
    (c.build-outcome.ensures.written told) (c.finish.ensures.line told))

pub returns-in-Ok-Build-clause-does : goal.returns-in-Ok-Build-clause-does
returns-in-Ok-Build-clause-does g c =
    let T = g.T.Tree in
    let C = g.C.Children in
    let words_are : Build c.in-Ok-Build.options ≡ asked c.args.words.now = rw c.in-Ok-Build.field-0-is at c.in-Ok-Build.ensures.request in
    let v = closed c.build-outcome.result in
    let w = verdict c.finish.result in
    let ends : Finishes v w = subst (λ u. Finishes u w) c.status_of.ensures c.finish.ensures.status in
    subst (λ request. Does T C g.R.Source g.W.Sink request c.args.tree.now c.build-outcome.new.tree c.args.children.now c.build-outcome.new.children c.args.input.now c.args.input.now
    c.args.output.now c.finish.new.output c.finish.result) words_are
    (builds_finish T.tells C.tells c.in-Ok-Build.options (T.files c.args.tree.now) (T.files c.build-outcome.new.tree) (C.state c.args.children.now) (C.state c.build-outcome.new.children)
    (Rose (C.faults c.args.children.now) (C.faults c.build-outcome.new.children)) v w c.build-outcome.ensures.children.rose ends c.build-outcome.ensures.builds)

-- ---- a child of another host

pub returns-in-Ok-Serve-clause-tree_cause : goal.returns-in-Ok-Serve-clause-tree_cause
returns-in-Ok-Serve-clause-tree_cause g c =
    let T = g.T.Tree in
    subst (λ v. HasCause is_tree v (T.faults c.args.tree.now) (T.faults c.args.tree.now)) (sym c.status_of_child.ensures) (served_others is_tree c.serve-outcome.result _ refl)

pub returns-in-Ok-Serve-clause-children : goal.returns-in-Ok-Serve-clause-children
returns-in-Ok-Serve-clause-children g c =
    let C = g.C.Children in
    subst (λ v. HasCause is_children v (C.faults c.args.children.now) (C.faults c.args.children.now)) (sym c.status_of_child.ensures) (served_others is_children c.serve-outcome.result _ refl)

pub returns-in-Ok-Serve-clause-source_cause : goal.returns-in-Ok-Serve-clause-source_cause
returns-in-Ok-Serve-clause-source_cause g c =
    let R = g.R.Source in
    subst (λ v. HasSourceCause v (R.faults c.args.input.now) (R.faults c.serve-outcome.new.input)) (sym c.status_of_child.ensures) (served_source c.serve-outcome.result _ _ c.serve-outcome.ensures.source)

pub returns-in-Ok-Serve-clause-sink_cause : goal.returns-in-Ok-Serve-clause-sink_cause
returns-in-Ok-Serve-clause-sink_cause g c =
    let W = g.W.Sink in
    subst (λ v. HasCause is_sink v (W.faults c.args.output.now) (W.faults c.serve-outcome.new.output)) (sym c.status_of_child.ensures) (served_sink c.serve-outcome.result _ _ c.serve-outcome.ensures.sink)

pub returns-in-Ok-Serve-clause-untouched : goal.returns-in-Ok-Serve-clause-untouched
returns-in-Ok-Serve-clause-untouched g c = untouched_same (asked c.args.words.now) _ _

pub returns-in-Ok-Serve-clause-input : goal.returns-in-Ok-Serve-clause-input
returns-in-Ok-Serve-clause-input g c =
    let words_are : Serve c.in-Ok-Serve.local ≡ asked c.args.words.now = rw c.in-Ok-Serve.field-0-is at c.in-Ok-Serve.ensures.request in
    subst (λ request. Unread request c.args.input.now c.serve-outcome.new.input) words_are tt

pub returns-in-Ok-Serve-clause-outside : goal.returns-in-Ok-Serve-clause-outside
returns-in-Ok-Serve-clause-outside g c = λ told. others_same (asked c.args.words.now) _

pub returns-in-Ok-Serve-clause-own : goal.returns-in-Ok-Serve-clause-own
returns-in-Ok-Serve-clause-own g c =
    let words_are : Serve c.in-Ok-Serve.local ≡ asked c.args.words.now = rw c.in-Ok-Serve.field-0-is at c.in-Ok-Serve.ensures.request in
    subst (λ request. command.IsOwn request (verdict c.status_of_child.result)) words_are (ap command.may_serve c.status_of_child.ensures ∙ served_own c.serve-outcome.result)

pub returns-in-Ok-Serve-clause-written : goal.returns-in-Ok-Serve-clause-written
returns-in-Ok-Serve-clause-written g c = λ told line.
    let words_are : Serve c.in-Ok-Serve.local ≡ asked c.args.words.now = rw c.in-Ok-Serve.field-0-is at c.in-Ok-Serve.ensures.request in
    absurd (false≢true (ap has_line words_are ∙ line))

pub returns-in-Ok-Serve-clause-does : goal.returns-in-Ok-Serve-clause-does
returns-in-Ok-Serve-clause-does g c =
    let R = g.R.Source in
    let W = g.W.Sink in
    let words_are : Serve c.in-Ok-Serve.local ≡ asked c.args.words.now = rw c.in-Ok-Serve.field-0-is at c.in-Ok-Serve.ensures.request in
    subst (λ request. Does g.T.Tree g.C.Children R W request c.args.tree.now c.args.tree.now c.args.children.now c.args.children.now c.args.input.now c.serve-outcome.new.input
    c.args.output.now c.serve-outcome.new.output c.status_of_child.result) words_are
    (serves_as R W c.in-Ok-Serve.local c.args.input.now c.serve-outcome.new.input c.args.output.now c.serve-outcome.new.output c.serve-outcome.result (verdict c.status_of_child.result)
    c.status_of_child.ensures c.serve-outcome.ensures.serves)

-- ---- the table of words

pub returns-in-Ok-Help-clause-own : goal.returns-in-Ok-Help-clause-own
returns-in-Ok-Help-clause-own g c =
    let words_are : Help ≡ asked c.args.words.now = rw c.in-Ok-Help.field-0-is at c.in-Ok-Help.ensures.request in
    let v = verdict c.help-status.result in
    let w = verdict c.finish-in-Ok-Help.result in
    subst (λ request. command.IsOwn request w) words_are (own_finish Help v w c.finish-in-Ok-Help.ensures.status c.help-status.ensures.own)

pub returns-in-Ok-Help-clause-sink_cause : goal.returns-in-Ok-Help-clause-sink_cause
returns-in-Ok-Help-clause-sink_cause g c =
    cause_finish is_sink (verdict c.help-status.result) (verdict c.finish-in-Ok-Help.result) _ _ c.finish-in-Ok-Help.ensures.status (cause_later is_sink _ _ _ _ c.help-status.ensures.sink_cause c.finish-in-Ok-Help.ensures.later)

pub returns-in-Ok-Help-clause-written : goal.returns-in-Ok-Help-clause-written
returns-in-Ok-Help-clause-written g c = λ told line.
    let T = g.T.Tree in
    let C = g.C.Children in
    let W = g.W.Sink in
    let words_are : Help ≡ asked c.args.words.now = rw c.in-Ok-Help.field-0-is at c.in-Ok-Help.ensures.request in
    let v = verdict c.help-status.result in
    let w = verdict c.finish-in-Ok-Help.result in
    let old = W.faults c.args.output.now in
    let mid = W.faults c.help-status.new.output in
    let new = W.faults c.finish-in-Ok-Help.new.output in
    let sink = c.help-status.ensures.sink_cause in
    let later = c.finish-in-Ok-Help.ensures.later in
    let files = T.files c.args.tree.now in
    let state = C.state c.args.children.now in
    subst (λ request. text.Writes (command.Prints T.tells C.tells request files files state state w) w (Rose old new) (W.written c.args.output.now) (W.written c.finish-in-Ok-Help.new.output)) words_are
    (writes_finish T.tells C.tells files files state state Help v w (Rose old mid) (Rose mid new) (Rose old new)
    (W.written c.args.output.now) (W.written c.help-status.new.output) (W.written c.finish-in-Ok-Help.new.output) c.finish-in-Ok-Help.ensures.status
    (rose_before old mid new later) (rose_behind old mid new sink.later) (λ failed. rose_before old mid new later (sink.rose failed))
    (c.help-status.ensures.written told) (c.finish-in-Ok-Help.ensures.line told))

pub returns-in-Ok-Help-clause-does : goal.returns-in-Ok-Help-clause-does
returns-in-Ok-Help-clause-does g c =
    let words_are : Help ≡ asked c.args.words.now = rw c.in-Ok-Help.field-0-is at c.in-Ok-Help.ensures.request in
    subst (λ request. Does g.T.Tree g.C.Children g.R.Source g.W.Sink request c.args.tree.now c.args.tree.now c.args.children.now c.args.children.now c.args.input.now c.args.input.now
    c.args.output.now c.finish-in-Ok-Help.new.output c.finish-in-Ok-Help.result) words_are tt

-- ---- words that are no command

pub returns-in-Ok-Bad-clause-own : goal.returns-in-Ok-Bad-clause-own
returns-in-Ok-Bad-clause-own g c =
    let words_are : Bad c.in-Ok-Bad.at ≡ asked c.args.words.now = rw c.in-Ok-Bad.field-0-is at c.in-Ok-Bad.ensures.request in
    subst (λ request. command.IsOwn request (verdict c.finish-in-Ok-Bad.result)) words_are (or_memory (Refused (BadWords c.in-Ok-Bad.at)) (verdict c.finish-in-Ok-Bad.result) c.finish-in-Ok-Bad.ensures.status)

pub returns-in-Ok-Bad-clause-written : goal.returns-in-Ok-Bad-clause-written
returns-in-Ok-Bad-clause-written g c = λ told line.
    let T = g.T.Tree in
    let C = g.C.Children in
    let W = g.W.Sink in
    writes_line T.tells C.tells (T.files c.args.tree.now) (C.state c.args.children.now) (asked c.args.words.now) (Refused (BadWords c.in-Ok-Bad.at)) (verdict c.finish-in-Ok-Bad.result)
    (Rose (W.faults c.args.output.now) (W.faults c.finish-in-Ok-Bad.new.output)) (W.written c.args.output.now) (W.written c.finish-in-Ok-Bad.new.output) line refl refl c.finish-in-Ok-Bad.ensures.status (c.finish-in-Ok-Bad.ensures.line told)

pub returns-in-Ok-Bad-clause-does : goal.returns-in-Ok-Bad-clause-does
returns-in-Ok-Bad-clause-does g c =
    let words_are : Bad c.in-Ok-Bad.at ≡ asked c.args.words.now = rw c.in-Ok-Bad.field-0-is at c.in-Ok-Bad.ensures.request in
    subst (λ request. Does g.T.Tree g.C.Children g.R.Source g.W.Sink request c.args.tree.now c.args.tree.now c.args.children.now c.args.children.now c.args.input.now c.args.input.now
    c.args.output.now c.finish-in-Ok-Bad.new.output c.finish-in-Ok-Bad.result) words_are tt

-- ---- words for which there was no memory

pub returns-in-Err-clause-own : goal.returns-in-Err-clause-own
returns-in-Err-clause-own g c = own_finish (asked c.args.words.now) Memory (verdict c.finish-in-Err.result) c.finish-in-Err.ensures.status (own_memory (asked c.args.words.now))

pub returns-in-Err-clause-written : goal.returns-in-Err-clause-written
returns-in-Err-clause-written g c = λ told line.
    let T = g.T.Tree in
    let C = g.C.Children in
    let W = g.W.Sink in
    writes_line T.tells C.tells (T.files c.args.tree.now) (C.state c.args.children.now) (asked c.args.words.now) Memory (verdict c.finish-in-Err.result)
    (Rose (W.faults c.args.output.now) (W.faults c.finish-in-Err.new.output)) (W.written c.args.output.now) (W.written c.finish-in-Err.new.output) line refl refl c.finish-in-Err.ensures.status (c.finish-in-Err.ensures.line told)

pub returns-in-Err-clause-does : goal.returns-in-Err-clause-does
returns-in-Err-clause-does g c =
    does_unread g.T.Tree g.C.Children g.R.Source g.W.Sink (asked c.args.words.now) c.args.tree.now c.args.children.now c.args.input.now c.args.output.now c.finish-in-Err.new.output c.finish-in-Err.result
    c.in-Err.ensures.memory (memory_stays (verdict c.finish-in-Err.result) c.finish-in-Err.ensures.status)
