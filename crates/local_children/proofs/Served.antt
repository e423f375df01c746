-- A call of `serve`, from one piece to the next and to each of its ends.
use Rattle.std.proofs.Common.{◌≡◌, ℕ, suc, ◌+◌, ◌≤◌, Bool, true, false, List, [], ◌∷◌, ◌++◌, length, take, Result, Ok, Err, refl, sym, ap, subst, ◌∙◌, append_assoc, append-nil, length-append, arith}
use Rattle.std.specs.Prelude.{if◌then◌else◌}
use Rattle.std.proofs.lemmas.List.{take_all, length-take-le}
use Rattle.apt_outside.specs.Count.{Told}
use Rattle.apt_outside.specs.declared.stream.Source as source
use Rattle.apt_outside.specs.declared.stream.Sink as sink
use Rattle.wire_frames.specs.declared.frame.Frame.{Frame}
use Rattle.frame_reader.specs.Stages.{wanted_in}
use Rattle.frame_breaches.specs.declared.breach.Breach.{Breach}
use Rattle.frame_breaches.specs.declared.breach.Breach.TheVariants.{Ended, Bad, Wrong}
use Rattle.frame_breaches.specs.Breaches.{Front, front_of}
use Rattle.local_procs.specs.declared.local.Local.{Local}
use Rattle.local_procs.specs.Says.{Unbegun, Answer, step}
use Rattle.local_children.specs.Streams.{Open, Session, unbegun, over, answered, heard, longer, next_by, next, after, session_of, says, has_begun, is_between, end_by, ending, Stand, open_session}
use Rattle.local_children.specs.Hearing.{stand_of}
use Rattle.local_children.specs.declared.conversation.Conversation.{Conversation}
use Rattle.local_children.specs.declared.hearing.Stands.{Stands}
use Rattle.local_children.specs.declared.hearing.Stands.TheVariants as stand
use Rattle.local_children.specs.declared.serving.ServeFault.{ServeFault}
use Rattle.local_children.specs.declared.serving.ServeFault.TheVariants as faults
use Rattle.local_children.specs.Serving.{IsCaused, StaysWithin, WritesFront, Writes, EndsBy, Serves, IsOfSource, IsOfSink, Reads, Speaks, behind, served_by, Goes}
use Rattle.local_children.proofs.Sessions.{after-append, session_is, prefixed, after_prefixed}
use Rattle.local_children.proofs.Steps.{AnswersWell, answers_well}

take-append_more : (front back : List ℕ) (n : ℕ) → take (length front + n) (front ++ back) ≡ front ++ take n back
take-append_more [] back n = ap (λ (k : ℕ). take k back) (let e : 0 + n ≡ n = omega arith in e)
take-append_more (byte ∷ front) back n =
    let on : length (byte ∷ front) + n ≡ suc (length front + n) = omega arith in
    ap (λ (k : ℕ). take k (byte ∷ (front ++ back))) on ∙ ap (λ (b : List ℕ). byte ∷ b) (take-append_more front back n)

-- ---- a piece more

module _ (local : Local) (read piece : List ℕ) (talk : Open) (stands : (session_of local read).stands ≡ Ok talk) where
  -- the session of what was read with the piece
  pub with_piece : session_of local (read ++ piece) ≡ prefixed (says local read) (after local (open_session [] talk) piece)
  with_piece =
      after-append local unbegun read piece
      ∙ ap (λ (s : Session). after local s piece) (session_is (session_of local read) (Ok talk) stands ∙ ap (λ (w : List ℕ). open_session w talk) (sym (append-nil (says local read))))
      ∙ after_prefixed local (says local read) (open_session [] talk) piece

  pub says_more : says local (read ++ piece) ≡ says local read ++ (after local (open_session [] talk) piece).written
  says_more = ap (λ (s : Session). s.written) with_piece

  pub stands_then : (session_of local (read ++ piece)).stands ≡ (after local (open_session [] talk) piece).stands
  stands_then = ap (λ (s : Session). s.stands) with_piece

  pub stays_within : length piece ≤ wanted_in talk.1 → StaysWithin local (read ++ piece) read
  stays_within within = record { piece = piece; split = refl; talk = talk; opened = stands; within = within }

pub within_read : (local : Local) (read : List ℕ) (talk : Open) → (session_of local read).stands ≡ Ok talk → StaysWithin local read read
within_read local read talk stands = record { piece = []; split = sym (append-nil read); talk = talk; opened = stands; within = omega arith }

-- ---- no session ends by an end of bytes

abbrev IsNoEnd : Result Open Breach → Type 0
IsNoEnd (Ok talk) = Unit {0}
IsNoEnd (Err (Ended got)) = ⊥
IsNoEnd (Err (Bad place kind)) = Unit {0}
IsNoEnd (Err (Wrong tag)) = Unit {0}

answered_no_end : (written : List ℕ) (frame : Frame) (answer : Result Answer Breach) → AnswersWell frame answer → IsNoEnd (answered written answer).stands
answered_no_end written frame (Ok answer) well = tt
answered_no_end written frame (Err breach) well = subst (λ (b : Breach). IsNoEnd (Err b)) (sym well) tt

heard_no_end : (local : Local) (written : List ℕ) (talk : Open) (front : Front) → IsNoEnd (heard local written talk front).stands
heard_no_end local written talk (Ok first) = answered_no_end written first.0 (step local talk.0 first.0) (answers_well local talk.0 first.0)
heard_no_end local written talk (Err (Ended got)) = tt
heard_no_end local written talk (Err (Bad place kind)) = tt
heard_no_end local written talk (Err (Wrong tag)) = tt

next_no_end : (local : Local) (written : List ℕ) (byte : ℕ) (stands : Result Open Breach) → IsNoEnd stands → IsNoEnd (next_by local written byte stands).stands
next_no_end local written byte (Ok talk) none = heard_no_end local written (longer talk byte) (front_of (talk.1 ++ byte ∷ []))
next_no_end local written byte (Err breach) none = none

after_no_end : (local : Local) (session : Session) (bytes : List ℕ) → IsNoEnd session.stands → IsNoEnd (after local session bytes).stands
unfolding after
after_no_end local session [] none = none
after_no_end local session (byte ∷ bytes) none = after_no_end local (next local session byte) bytes (next_no_end local session.written byte session.stands none)

pub never_ended : (local : Local) (read : List ℕ) → IsNoEnd (session_of local read).stands
never_ended local read = after_no_end local unbegun read tt

-- ---- how it ends

pub ends_over : (session : Session) (P : Type 0) (breach : Breach) → IsNoEnd session.stands → session.stands ≡ Err breach → EndsBy session P (Err (faults.Breach breach))
ends_over session P (Ended got) none is = absurd (subst IsNoEnd is none)
ends_over session P (Bad place kind) none is = is
ends_over session P (Wrong tag) none is = is

by_end : (session : Session) (P : Type 0) (x : Result Unit Breach) → ending session ≡ x → ((breach : Breach) → x ≡ Err breach → (got : ℕ) × (breach ≡ Ended got)) → P → EndsBy session P (served_by x)
by_end session P (Ok tt) is ended over = (is, over)
by_end session P (Err (Ended got)) is ended over = (is, over)
by_end session P (Err (Bad place kind)) is ended over = absurd (let e = (ended (Bad place kind) refl).1 in cc)
by_end session P (Err (Wrong tag)) is ended over = absurd (let e = (ended (Wrong tag) refl).1 in cc)

end_is : (talk : Open) (breach : Breach) → end_by (Ok talk) ≡ Err breach → (got : ℕ) × (breach ≡ Ended got)
end_is talk breach e = cases (is_between (has_begun talk.0) talk.1) e
  where
    cases : (b : Bool) → (if b then Ok (tt {0}) else Err (Ended (length talk.1))) ≡ Err breach → (got : ℕ) × (breach ≡ Ended got)
    cases true f = absurd (cc)
    cases false f = (length talk.1, (let same : Ended (length talk.1) ≡ breach = cc in sym same))

pub ends_there : (session : Session) (P : Type 0) (talk : Open) → session.stands ≡ Ok talk → P → EndsBy session P (served_by (end_by (Ok talk)))
ends_there session P talk is over = by_end session P (end_by (Ok talk)) (ap end_by is) (end_is talk) over

pub writes_all : (before says old new : List ℕ) (x : Result Unit Breach) → new ≡ old ++ says → Writes before says old new (served_by x)
writes_all before says old new (Ok tt) is = is
writes_all before says old new (Err breach) is = is

-- ---- the ends of a call

module _ {R W : Type 0} (r : source.Ghosts R) (w : sink.Ghosts W) (local : Local) (first : R) (out : W) where
  pub goes_begun : (child : Stand) → child ≡ (local, (Unbegun, [])) → Goes r w local first first out out child
  unfolding after
  goes_begun child is = record {
    read = [];
    taken = λ told. refl;
    counted = omega arith;
    written = λ told. sym (append-nil (w.written out));
    same_local = ap (λ (c : Stand). c.0) is;
    stands = ap (λ (c : Stand). Ok c.1) (sym is);
  }

  module _ (input : R) (output : W) (child : Stand) (goes : Goes r w local first input out output child) where
    -- the source is at its end
    pub serves_ended : (input' : R) (room : List ℕ) (got : ℕ) → Reads r input input' room (Ok got) → got ≡ 0 → (result : Result Unit ServeFault) → result ≡ served_by (end_by (Ok child.1))
        → Serves r w local first input' out output result
    serves_ended input' room got reads none result is = record {
      read = goes.read;
      front = goes.read;
      taken = λ told. goes.taken told ∙ ap (λ (b : List ℕ). goes.read ++ b) (same told);
      counted = omega (arith, goes.counted, reads.counted, none);
      within = within_read local goes.read child.1 goes.stands;
      written = λ told. subst (Writes (says local goes.read) (says local goes.read) (w.written out) (w.written output)) (sym is)
          (writes_all (says local goes.read) (says local goes.read) (w.written out) (w.written output) (end_by (Ok child.1)) (goes.written told));
      ends = subst (EndsBy (session_of local goes.read) (Told r.tells (r.left input' ≡ []))) (sym is)
          (ends_there (session_of local goes.read) (Told r.tells (r.left input' ≡ [])) child.1 goes.stands (λ told. sym (same told) ∙ reads.ended told none));
    }
      where
        same : r.tells ≡ true → r.left input ≡ r.left input'
        same told = reads.taken told ∙ ap (λ (n : ℕ). take n room ++ r.left input') none

    -- the source refused
    pub serves_unread : (input' : R) (room : List ℕ) (fault : ServeFault) → Reads r input input' room (Err fault) → Serves r w local first input' out output (Err fault)
    serves_unread input' room fault reads = record {
      read = goes.read;
      front = goes.read;
      taken = λ told. goes.taken told ∙ ap (λ (b : List ℕ). goes.read ++ b) (sym (reads.left told));
      counted = omega (arith, goes.counted, reads.supplied);
      within = within_read local goes.read child.1 goes.stands;
      written = λ told. by_writing fault reads.of_source (goes.written told);
      ends = by_ending fault reads.of_source;
    }
      where
        by_writing : (fault : ServeFault) → IsOfSource {T = ℕ} (Err fault) → w.written output ≡ w.written out ++ says local goes.read
            → Writes (says local goes.read) (says local goes.read) (w.written out) (w.written output) (Err fault)
        by_writing faults.SourceFault of is = is
        by_writing faults.Memory of is = (length (says local goes.read), omega arith, is ∙ ap (λ (b : List ℕ). w.written out ++ b) (sym (take_all (length (says local goes.read)) (says local goes.read) (omega arith))))
        by_writing faults.SinkFault of is = absurd of
        by_writing (faults.Breach breach) of is = absurd of

        by_ending : (fault : ServeFault) → IsOfSource {T = ℕ} (Err fault) → EndsBy (session_of local goes.read) (Told r.tells (r.left input' ≡ [])) (Err fault)
        by_ending faults.SourceFault of = (child.1, goes.stands)
        by_ending faults.Memory of = tt
        by_ending faults.SinkFault of = absurd of
        by_ending (faults.Breach breach) of = absurd of

    -- a piece was read
    module _ (input' : R) (room piece : List ℕ) (got : ℕ) (reads : Reads r input input' room (Ok got)) (is_piece : piece ≡ take got room) (short : length room ≤ wanted_in child.1.1) where
      size : length piece ≡ got
      size = ap length is_piece ∙ length-take-le got room reads.fits

      all_taken : Told r.tells (r.left first ≡ (goes.read ++ piece) ++ r.left input')
      all_taken = λ told. goes.taken told ∙ ap (λ (b : List ℕ). goes.read ++ b) (reads.taken told ∙ ap (λ (p : List ℕ). p ++ r.left input') (sym is_piece)) ∙ sym (append_assoc goes.read piece (r.left input'))

      all_counted : r.supply input' + length (goes.read ++ piece) ≡ r.supply first
      all_counted = omega (arith, goes.counted, reads.counted, size, length-append goes.read piece)

      all_within : StaysWithin local (goes.read ++ piece) goes.read
      all_within = stays_within local goes.read piece child.1 goes.stands (omega (arith, size, reads.fits, short))

      of_child : behind child piece ≡ after local (open_session [] child.1) piece
      of_child = ap (λ (l : Local). after l (open_session [] child.1) piece) goes.same_local

      all_said : says local (goes.read ++ piece) ≡ says local goes.read ++ (behind child piece).written
      all_said = says_more local goes.read piece child.1 goes.stands ∙ ap (λ (s : Session). says local goes.read ++ s.written) (sym of_child)

      -- the answers to it were written
      more_written : (output' : W) → w.written output ≡ w.written out ++ says local goes.read → w.written output' ≡ w.written output ++ (behind child piece).written
          → w.written output' ≡ w.written out ++ says local (goes.read ++ piece)
      more_written output' before more =
          more ∙ ap (λ (b : List ℕ). b ++ (behind child piece).written) before ∙ append_assoc (w.written out) (says local goes.read) (behind child piece).written
          ∙ ap (λ (b : List ℕ). w.written out ++ b) (sym all_said)

      pub goes_further : (output' : W) (next : Conversation) → Speaks w child piece output output' (Ok (stand.Open next)) → Goes r w local first input' out output' (stand_of next)
      goes_further output' next speaks = record {
        read = goes.read ++ piece;
        taken = all_taken;
        counted = all_counted;
        written = λ told. more_written output' (goes.written told) (speaks.all told);
        same_local = speaks.hears.0 ∙ goes.same_local;
        stands = stands_then local goes.read piece child.1 goes.stands ∙ ap (λ (s : Session). s.stands) (sym of_child ∙ speaks.hears.1);
      }

      -- the host left the protocol
      pub serves_over : (output' : W) (breach : Breach) → Speaks w child piece output output' (Ok (stand.Over breach)) → Serves r w local first input' out output' (Err (faults.Breach breach))
      serves_over output' breach speaks = record {
        read = goes.read ++ piece;
        front = goes.read;
        taken = all_taken;
        counted = all_counted;
        within = all_within;
        written = λ told. more_written output' (goes.written told) (speaks.all told);
        ends = ends_over (session_of local (goes.read ++ piece)) (Told r.tells (r.left input' ≡ [])) breach (never_ended local (goes.read ++ piece))
            (stands_then local goes.read piece child.1 goes.stands ∙ ap (λ (s : Session). s.stands) (sym of_child ∙ speaks.hears.1));
      }

      -- the sink refused, or memory ran out
      pub serves_unsent : (output' : W) (fault : ServeFault) → Speaks w child piece output output' (Err fault) → Serves r w local first input' out output' (Err fault)
      serves_unsent output' fault speaks = record {
        read = goes.read ++ piece;
        front = goes.read;
        taken = all_taken;
        counted = all_counted;
        within = all_within;
        written = λ told. by_writing fault speaks.of_sink (front told);
        ends = by_ending fault speaks.of_sink;
      }
        where
          front : w.tells ≡ true → WritesFront (length (says local goes.read)) (says local (goes.read ++ piece)) (w.written out) (w.written output')
          front told =
              let some = speaks.some told in
              let before = says local goes.read in
              let more = (behind child piece).written in (
                length before + some.0,
                omega arith,
                some.1 ∙ ap (λ (b : List ℕ). b ++ take some.0 more) (goes.written told) ∙ append_assoc (w.written out) before (take some.0 more)
                    ∙ ap (λ (b : List ℕ). w.written out ++ b) (sym (take-append_more before more some.0) ∙ ap (take (length before + some.0)) (sym all_said)),
              )

          by_writing : (fault : ServeFault) → IsOfSink {T = Stands} (Err fault)
              → WritesFront (length (says local goes.read)) (says local (goes.read ++ piece)) (w.written out) (w.written output')
              → Writes (says local goes.read) (says local (goes.read ++ piece)) (w.written out) (w.written output') (Err fault)
          by_writing faults.SinkFault of is = is
          by_writing faults.Memory of is = is
          by_writing faults.SourceFault of is = absurd of
          by_writing (faults.Breach breach) of is = absurd of

          by_ending : (fault : ServeFault) → IsOfSink {T = Stands} (Err fault) → EndsBy (session_of local (goes.read ++ piece)) (Told r.tells (r.left input' ≡ [])) (Err fault)
          by_ending faults.SinkFault of = tt
          by_ending faults.Memory of = tt
          by_ending faults.SourceFault of = absurd of
          by_ending (faults.Breach breach) of = absurd of

-- ---- faults at the end of the input

-- how the bytes end is a fault of neither object
ended_well : (fault : ServeFault) (x : Result Unit Breach) → ((breach : Breach) → faults.Breach breach ≡ fault → ⊥) → served_by x ≡ Err fault → ⊥
ended_well fault (Ok done) other is = absurd (cc)
ended_well fault (Err breach) other is = other breach (let same : faults.Breach breach ≡ fault = cc in same)

module _ (before now : ℕ) (later : before ≤ now) (x : Result Unit Breach) (result : Result Unit ServeFault) (is : result ≡ served_by x) where
  pub ended_source : IsCaused faults.SourceFault before now result
  ended_source = record { later = later; failed = λ e. absurd (ended_well faults.SourceFault x (λ breach same. cc) (sym is ∙ e)) }

  pub ended_sink : IsCaused faults.SinkFault before now result
  ended_sink = record { later = later; failed = λ e. absurd (ended_well faults.SinkFault x (λ breach same. cc) (sym is ∙ e)) }
