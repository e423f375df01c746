-- What a child says to a piece, as it is sent.
use Rattle.std.proofs.Common.{◌≡◌, ℕ, List, [], ◌++◌, take, Result, Ok, Err, refl, sym, ap, subst, ◌∙◌, append-nil}
use Rattle.apt_outside.specs.declared.stream.Sink as sink
use Rattle.local_children.specs.Streams.{Stand, Session}
use Rattle.local_children.specs.Hearing.{shown_session, Hears}
use Rattle.local_children.specs.declared.hearing.Stands.{Stands}
use Rattle.local_children.specs.declared.hearing.Stands.TheVariants as stand
use Rattle.local_children.specs.declared.serving.ServeFault.{ServeFault}
use Rattle.local_children.specs.declared.serving.ServeFault.TheVariants as faults
use Rattle.local_children.specs.Serving.{Sends, Speaks, IsOfSink, behind}

written_in : (said : List ℕ) (stands : Stands) → (shown_session said stands).written ≡ said
written_in said (stand.Open conversation) = refl
written_in said (stand.Over breach) = refl

module _ {W : Type 0} (w : sink.Ghosts W) (child : Stand) (bytes : List ℕ) (output output' : W) where
  -- memory ran out before any of it was sent
  pub speaks_none : (fault : ServeFault) (result : Result Stands ServeFault) → result ≡ Err fault → fault ≡ faults.Memory → Speaks w child bytes output output result
  speaks_none fault result is memory = subst (Speaks w child bytes output output) (sym (is ∙ ap (λ (f : ServeFault). Err f) memory)) (record {
    hears = tt;
    all = λ told. tt;
    some = λ told. (0, sym (append-nil (w.written output)));
    of_sink = tt;
  })

  module _ (said sent : List ℕ) (stands : Stands) (same : sent ≡ said) (hears : Hears child [] bytes said stands) where
    is_said : (behind child bytes).written ≡ said
    is_said = ap (λ (s : Session). s.written) hears.1 ∙ written_in said stands

    is_sent : sent ≡ (behind child bytes).written
    is_sent = same ∙ sym is_said

    pub speaks_all : Sends w sent output output' (Ok tt) → Speaks w child bytes output output' (Ok stands)
    speaks_all sends = record {
      hears = (hears.0, hears.1 ∙ ap (λ (b : List ℕ). shown_session b stands) (sym is_said));
      all = λ told. sends.all told ∙ ap (λ (b : List ℕ). w.written output ++ b) is_sent;
      some = λ told. tt;
      of_sink = tt;
    }

    pub speaks_some : (fault : ServeFault) → Sends w sent output output' (Err fault) → Speaks w child bytes output output' (Err fault)
    speaks_some fault sends = record {
      hears = tt;
      all = λ told. tt;
      some = λ told. ((sends.some told).0, (sends.some told).1 ∙ ap (λ (b : List ℕ). w.written output ++ take (sends.some told).0 b) is_sent);
      of_sink = of_sink_too fault sends.of_sink;
    }
      where
        of_sink_too : (fault : ServeFault) → IsOfSink {T = Unit {0}} (Err fault) → IsOfSink {T = Stands} (Err fault)
        of_sink_too faults.SourceFault of = of
        of_sink_too faults.SinkFault of = of
        of_sink_too (faults.Breach breach) of = of
        of_sink_too faults.Memory of = of
