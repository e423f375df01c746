use Rattle.std.proofs.Common.{◌≡◌, ◌+◌, ◌<◌, ◌≤◌, suc, List, [], ◌∷◌, ◌++◌, length, take, drop, get_or, Contains, Err, refl, sym, ap, ◌∙◌, subst, append-nil, append_assoc, length-append, inl, arith, rules}
use Rattle.std.proofs.Math.ListN.{drop_of_length-le}
use Rattle.std.proofs.lemmas.Result.{err_from_is_err_and}
use Rattle.std.proofs.lemmas.List.Elements.{Contains-append_right}
use Rattle.apt_outside.specs.Child.{State, without}
use Rattle.apt_outside.proofs.Live.{without_last}
use Rattle.record_forms.specs.declared.record.KeyProcessor.{KeyProcessor}
use Rattle.project_units.specs.declared.refusal.Refusal.TheVariants as code
use Rattle.project_units.specs.Refusals as stop
use Rattle.project_units.specs.Faults.{stop_of}
use Rattle.project_units.specs.Plans.{plan_of, try_of, tries_in}
use Rattle.round_engine.specs.Shown.{AreFresh, IsCounted, BeginsEach}
use Rattle.round_engine.proofs.StoppedChildren.{fresh_more}
use Rattle.round_engine.proofs.StartedChildren.{Begun, begun_none, begun_all}
use Rattle.round_engine.proofs.ProcessorsInOrder.{try_at, tries_count, names_one, begun_next, tried_next, tried_refused, begun_refused, begun_full, begun_unlisted}
use Rattle.round_engine.proofs.CountedStarts.{counted_by, counted_same, stops_later, starts_memory, starts_later}
use Rattle.round_engine.proofs.beginning.begin_each.Goals as goal

pub loop-processor-init : goal.loop-processor-init
loop-processor-init g c =
    let k0 = g.C.Children.state c.args.children.now in
    let plan = plan_of c.args.key.now in
    let none : c.args.group.now ≡ [] = search rules in
    let empty : c.new-list.result ≡ [] = search rules in
    record {
      bound = omega arith;
      later = omega arith;
      starts = omega arith;
      live = sym (append-nil k0.live) ∙ ap (λ xs. k0.live ++ xs) (sym none);
      fresh = subst (AreFresh k0.live) (sym none) tt;
      count = ap length none;
      many = ap length empty ∙ ap length (sym none);
      says = λ told. refl;
      begun = λ told. subst (λ list. Begun plan [] c.args.group.now list plan.processors k0 k0) (sym empty)
          (subst (λ group. Begun plan [] group [] plan.processors k0 k0) (sym none) (begun_none plan k0));
    }

pub returns-in_err-begun-clause-starts : goal.returns-in_err-begun-clause-starts
returns-in_err-begun-clause-starts g c =
    let lt : c.loop-processor.processor-index < length c.args.key.now.processors = subst (λ (xs : List KeyProcessor). c.loop-processor.processor-index < length xs) c.as_slice-processor-items.ensures c.loop-processor-test.true in
    let C = g.C.Children in
    let tries = tries_in c.args.key.now in
    let lt_tries : c.loop-processor.processor-index < length tries = omega (arith, lt, tries_count c.args.key.now) in
    let e = err_from_is_err_and c.from_residual.result c.from_residual.ensures.1 in
    rw (e.1, e.2) (starts_later (length tries) c.loop-processor.processor-index (stop_of c.in_err-begun.field-0.0) (C.state c.args.children.now) (C.state c.loop-processor.children) (C.state c.begin_one.new.children)
    lt_tries c.loop-processor.invariant.starts c.in_err-begun.ensures.hello c.in_err-begun.ensures.starts)

pub returns-in_err-begun-clause-hello : goal.returns-in_err-begun-clause-hello
returns-in_err-begun-clause-hello g c =
    let e = err_from_is_err_and c.from_residual.result c.from_residual.ensures.1 in
    rw (e.1, e.2) c.in_err-begun.ensures.hello

pub returns-in_err-begun-clause-named : goal.returns-in_err-begun-clause-named
returns-in_err-begun-clause-named g c =
    let key = c.args.key.now in
    let i = c.loop-processor.processor-index in
    let p = c.processor-item.result in
    let lt : i < length key.processors = subst (λ (xs : List KeyProcessor). i < length xs) c.as_slice-processor-items.ensures c.loop-processor-test.true in
    let is : p ≡ get_or key.processors i p = subst (λ xs. p ≡ get_or xs i p) c.as_slice-processor-items.ensures c.processor-item.is in
    let e = err_from_is_err_and c.from_residual.result c.from_residual.ensures.1 in
    rw (e.1, e.2) (names_one key i p (stop_of c.in_err-begun.field-0.0) lt is c.in_err-begun.ensures.named)

pub returns-in_err-begun-clause-live : goal.returns-in_err-begun-clause-live
returns-in_err-begun-clause-live g c = c.in_err-begun.ensures.live ∙ c.loop-processor.invariant.live

pub returns-in_err-begun-clause-tried : goal.returns-in_err-begun-clause-tried
returns-in_err-begun-clause-tried g c = λ told.
    let C = g.C.Children in
    let key = c.args.key.now in
    let i = c.loop-processor.processor-index in
    let p = c.processor-item.result in
    let lt : i < length key.processors = subst (λ (xs : List KeyProcessor). i < length xs) c.as_slice-processor-items.ensures c.loop-processor-test.true in
    let is : p ≡ get_or key.processors i p = subst (λ xs. p ≡ get_or xs i p) c.as_slice-processor-items.ensures c.processor-item.is in
    let lt_tries : i < length (tries_in key) = omega (arith, lt, tries_count key) in
    tried_refused (plan_of key) i (try_of p) lt_tries (try_at key i p lt is) c.loop-processor.group c.loop-processor.list (C.state c.args.children.now) (C.state c.loop-processor.children) (c.loop-processor.invariant.begun told)
    (stop_of c.in_err-begun.field-0.0) (C.state c.begin_one.new.children) (c.in_err-begun.ensures.begins told)

pub returns-in_err-begun-clause-begins : goal.returns-in_err-begun-clause-begins
returns-in_err-begun-clause-begins g c = λ told.
    let C = g.C.Children in
    let key = c.args.key.now in
    let i = c.loop-processor.processor-index in
    let p = c.processor-item.result in
    let k0 = C.state c.args.children.now in
    let k = C.state c.loop-processor.children in
    let lt : i < length key.processors = subst (λ (xs : List KeyProcessor). i < length xs) c.as_slice-processor-items.ensures c.loop-processor-test.true in
    let is : p ≡ get_or key.processors i p = subst (λ xs. p ≡ get_or xs i p) c.as_slice-processor-items.ensures c.processor-item.is in
    let lt_tries : i < length (tries_in key) = omega (arith, lt, tries_count key) in
    let starts : k.starts ≡ k0.starts + length c.loop-processor.group = c.loop-processor.invariant.starts ∙ ap (λ n. k0.starts + n) (sym c.loop-processor.invariant.count) in
    let e = err_from_is_err_and c.from_residual.result c.from_residual.ensures.1 in
    rw (e.1, e.2) (begun_refused (plan_of key) i (try_of p) lt_tries (try_at key i p lt is) c.loop-processor.group c.loop-processor.list k0 k (c.loop-processor.invariant.begun told)
    c.in_err-begun.field-0.0 (C.state c.begin_one.new.children) (c.in_err-begun.ensures.begins told) starts)

pub add_child-requires : goal.add_child-requires
add_child-requires g c =
    let k = g.C.Children.state c.loop-processor.children in
    let child = c.in_ok-begun.begun.0 in
    record { lives = subst (λ live. Contains live child) (sym c.in_ok-begun.ensures.live.0) (Contains-append_right k.live (child ∷ []) child (0, omega arith, refl)) }

pub returns-in_err-add_child-clause-starts : goal.returns-in_err-add_child-clause-starts
returns-in_err-add_child-clause-starts g c =
    let lt : c.loop-processor.processor-index < length c.args.key.now.processors = subst (λ (xs : List KeyProcessor). c.loop-processor.processor-index < length xs) c.as_slice-processor-items.ensures c.loop-processor-test.true in
    let k0 = g.C.Children.state c.args.children.now in
    let k2 = g.C.Children.state c.add_child.new.children in
    let e = err_from_is_err_and c.from_residual-in_err-add_child.result c.from_residual-in_err-add_child.ensures.1 in
    rw (e.1, e.2) (starts_memory (length (tries_in c.args.key.now)) stop.Memory k0 k2 refl (omega (arith, c.add_child.ensures.starts, c.in_ok-begun.ensures.starts, c.loop-processor.invariant.starts))
    (omega (arith, c.add_child.ensures.starts, c.in_ok-begun.ensures.starts, c.loop-processor.invariant.starts, lt, tries_count c.args.key.now)))

pub returns-in_err-add_child-clause-live : goal.returns-in_err-add_child-clause-live
returns-in_err-add_child-clause-live g c =
    let k0 = g.C.Children.state c.args.children.now in
    let k = g.C.Children.state c.loop-processor.children in
    let child = c.in_ok-begun.begun.0 in
    c.in_err-add_child.ensures.stopped ∙ ap (without child) c.in_ok-begun.ensures.live.0 ∙ without_last child k.live c.in_ok-begun.ensures.live.1
    ∙ c.loop-processor.invariant.live ∙ ap (λ xs. k0.live ++ xs) (sym c.in_err-add_child.ensures.kept)

pub returns-in_err-add_child-clause-fresh : goal.returns-in_err-add_child-clause-fresh
returns-in_err-add_child-clause-fresh g c = subst (AreFresh (g.C.Children.state c.args.children.now).live) (sym c.in_err-add_child.ensures.kept) c.loop-processor.invariant.fresh

pub returns-in_err-add_child-clause-tried : goal.returns-in_err-add_child-clause-tried
returns-in_err-add_child-clause-tried g c = λ told.
    let C = g.C.Children in
    let key = c.args.key.now in
    let i = c.loop-processor.processor-index in
    let p = c.processor-item.result in
    let lt : i < length key.processors = subst (λ (xs : List KeyProcessor). i < length xs) c.as_slice-processor-items.ensures c.loop-processor-test.true in
    let is : p ≡ get_or key.processors i p = subst (λ xs. p ≡ get_or xs i p) c.as_slice-processor-items.ensures c.processor-item.is in
    let lt_tries : i < length (tries_in key) = omega (arith, lt, tries_count key) in
    tried_next (plan_of key) i (try_of p) lt_tries (try_at key i p lt is) c.loop-processor.group c.loop-processor.list (C.state c.args.children.now) (C.state c.loop-processor.children) (c.loop-processor.invariant.begun told)
    (C.state c.add_child.new.children) ((c.add_child.ensures.attends told).same_tried ∙ (c.in_ok-begun.ensures.begins told).tried)

pub returns-in_err-add_child-clause-begins : goal.returns-in_err-add_child-clause-begins
returns-in_err-add_child-clause-begins g c = λ told.
    let C = g.C.Children in
    let key = c.args.key.now in
    let i = c.loop-processor.processor-index in
    let p = c.processor-item.result in
    let k0 = C.state c.args.children.now in
    let k = C.state c.loop-processor.children in
    let k2 = C.state c.add_child.new.children in
    let lt : i < length key.processors = subst (λ (xs : List KeyProcessor). i < length xs) c.as_slice-processor-items.ensures c.loop-processor-test.true in
    let is : p ≡ get_or key.processors i p = subst (λ xs. p ≡ get_or xs i p) c.as_slice-processor-items.ensures c.processor-item.is in
    let lt_tries : i < length (tries_in key) = omega (arith, lt, tries_count key) in
    let e = err_from_is_err_and c.from_residual-in_err-add_child.result c.from_residual-in_err-add_child.ensures.1 in
    rw (e.1, e.2) (subst (λ group. BeginsEach (plan_of key) group k0 k2 (Err code.Memory)) (sym c.in_err-add_child.ensures.kept)
    (begun_full (plan_of key) i (try_of p) lt_tries (try_at key i p lt is) c.loop-processor.group c.loop-processor.list k0 k (c.loop-processor.invariant.begun told)
    c.in_ok-begun.begun.0 c.in_ok-begun.begun.1 (C.state c.begin_one.new.children) k2 (c.in_ok-begun.ensures.begins told) (c.add_child.ensures.attends told) (c.add_child.ensures.sent told) code.Memory refl))

pub returns-in_err-push-clause-starts : goal.returns-in_err-push-clause-starts
returns-in_err-push-clause-starts g c =
    let lt : c.loop-processor.processor-index < length c.args.key.now.processors = subst (λ (xs : List KeyProcessor). c.loop-processor.processor-index < length xs) c.as_slice-processor-items.ensures c.loop-processor-test.true in
    let k0 = g.C.Children.state c.args.children.now in
    let k2 = g.C.Children.state c.add_child.new.children in
    let e = err_from_is_err_and c.from_residual-in_err-push.result c.from_residual-in_err-push.ensures.1 in
    rw (e.1, e.2) (starts_memory (length (tries_in c.args.key.now)) stop.Memory k0 k2 refl (omega (arith, c.add_child.ensures.starts, c.in_ok-begun.ensures.starts, c.loop-processor.invariant.starts))
    (omega (arith, c.add_child.ensures.starts, c.in_ok-begun.ensures.starts, c.loop-processor.invariant.starts, lt, tries_count c.args.key.now)))

pub returns-in_err-push-clause-live : goal.returns-in_err-push-clause-live
returns-in_err-push-clause-live g c =
    let k0 = g.C.Children.state c.args.children.now in
    let child = c.in_ok-begun.begun.0 in
    ap (λ (s : State). s.live) c.in_ok-add_child.ensures.same ∙ c.in_ok-begun.ensures.live.0 ∙ ap (λ xs. xs ++ child ∷ []) c.loop-processor.invariant.live
    ∙ append_assoc k0.live c.loop-processor.group (child ∷ []) ∙ ap (λ xs. k0.live ++ xs) (sym c.in_ok-add_child.ensures.added)

pub returns-in_err-push-clause-fresh : goal.returns-in_err-push-clause-fresh
returns-in_err-push-clause-fresh g c =
    let k0 = g.C.Children.state c.args.children.now in
    let child = c.in_ok-begun.begun.0 in
    subst (AreFresh k0.live) (sym c.in_ok-add_child.ensures.added)
    (fresh_more k0.live c.loop-processor.group child c.loop-processor.invariant.fresh (subst (λ live. ¬ Contains live child) c.loop-processor.invariant.live c.in_ok-begun.ensures.live.1))

pub returns-in_err-push-clause-tried : goal.returns-in_err-push-clause-tried
returns-in_err-push-clause-tried g c = λ told.
    let C = g.C.Children in
    let key = c.args.key.now in
    let i = c.loop-processor.processor-index in
    let p = c.processor-item.result in
    let lt : i < length key.processors = subst (λ (xs : List KeyProcessor). i < length xs) c.as_slice-processor-items.ensures c.loop-processor-test.true in
    let is : p ≡ get_or key.processors i p = subst (λ xs. p ≡ get_or xs i p) c.as_slice-processor-items.ensures c.processor-item.is in
    let lt_tries : i < length (tries_in key) = omega (arith, lt, tries_count key) in
    tried_next (plan_of key) i (try_of p) lt_tries (try_at key i p lt is) c.loop-processor.group c.loop-processor.list (C.state c.args.children.now) (C.state c.loop-processor.children) (c.loop-processor.invariant.begun told)
    (C.state c.add_child.new.children) ((c.add_child.ensures.attends told).same_tried ∙ (c.in_ok-begun.ensures.begins told).tried)

pub returns-in_err-push-clause-begins : goal.returns-in_err-push-clause-begins
returns-in_err-push-clause-begins g c = λ told.
    let C = g.C.Children in
    let key = c.args.key.now in
    let i = c.loop-processor.processor-index in
    let p = c.processor-item.result in
    let k0 = C.state c.args.children.now in
    let k = C.state c.loop-processor.children in
    let k1 = C.state c.begin_one.new.children in
    let lt : i < length key.processors = subst (λ (xs : List KeyProcessor). i < length xs) c.as_slice-processor-items.ensures c.loop-processor-test.true in
    let is : p ≡ get_or key.processors i p = subst (λ xs. p ≡ get_or xs i p) c.as_slice-processor-items.ensures c.processor-item.is in
    let lt_tries : i < length (tries_in key) = omega (arith, lt, tries_count key) in
    let next = begun_next (plan_of key) i (try_of p) lt_tries (try_at key i p lt is) c.loop-processor.group c.loop-processor.list k0 k (c.loop-processor.invariant.begun told)
    c.in_ok-begun.begun.0 c.in_ok-begun.begun.1 k1 (c.in_ok-begun.ensures.begins told) (c.in_ok-begun.ensures.says told) in
    let e = err_from_is_err_and c.from_residual-in_err-push.result c.from_residual-in_err-push.ensures.1 in
    rw (e.1, e.2) (subst (λ group. BeginsEach (plan_of key) group k0 (C.state c.add_child.new.children) (Err code.Memory)) (sym c.in_ok-add_child.ensures.added)
    (subst (λ s. BeginsEach (plan_of key) (c.loop-processor.group ++ c.in_ok-begun.begun.0 ∷ []) k0 s (Err code.Memory)) (sym c.in_ok-add_child.ensures.same)
    (begun_unlisted (plan_of key) _ _ _ _ k0 k1 next code.Memory refl)))

pub loop-processor-preserved : goal.loop-processor-preserved
loop-processor-preserved g c =
    let C = g.C.Children in
    let key = c.args.key.now in
    let i = c.loop-processor.processor-index in
    let p = c.processor-item.result in
    let k0 = C.state c.args.children.now in
    let k = C.state c.loop-processor.children in
    let k1 = C.state c.begin_one.new.children in
    let child = c.in_ok-begun.begun.0 in
    let one = c.in_ok-begun.begun.1 in
    let group = c.loop-processor.group in
    let list = c.loop-processor.list in
    let lt : i < length key.processors = subst (λ (xs : List KeyProcessor). i < length xs) c.as_slice-processor-items.ensures c.loop-processor-test.true in
    let is : p ≡ get_or key.processors i p = subst (λ xs. p ≡ get_or xs i p) c.as_slice-processor-items.ensures c.processor-item.is in
    let lt_tries : i < length (tries_in key) = omega (arith, lt, tries_count key) in
    let added = c.in_ok-add_child.ensures.added in
    let pushed : c.push.new.self ≡ list ++ one ∷ [] = search rules in
    record {
      bound = omega (arith, lt);
      later = omega (arith, c.loop-processor.invariant.later, c.begin_one.ensures.reason.later, c.add_child.ensures.count);
      starts = omega (arith, c.add_child.ensures.starts, c.in_ok-begun.ensures.starts, c.loop-processor.invariant.starts);
      live = ap (λ (s : State). s.live) c.in_ok-add_child.ensures.same ∙ c.in_ok-begun.ensures.live.0 ∙ ap (λ xs. xs ++ child ∷ []) c.loop-processor.invariant.live
          ∙ append_assoc k0.live group (child ∷ []) ∙ ap (λ xs. k0.live ++ xs) (sym added);
      fresh = subst (AreFresh k0.live) (sym added) (fresh_more k0.live group child c.loop-processor.invariant.fresh (subst (λ live. ¬ Contains live child) c.loop-processor.invariant.live c.in_ok-begun.ensures.live.1));
      count = omega (arith, ap length added, length-append group (child ∷ []), c.loop-processor.invariant.count);
      many = omega (arith, ap length pushed, length-append list (one ∷ []), ap length added, length-append group (child ∷ []), c.loop-processor.invariant.many);
      says = λ told. (c.add_child.ensures.attends told).same_says ∙ c.in_ok-begun.ensures.says told ∙ c.loop-processor.invariant.says told;
      begun = λ told.
          let more : suc i ≡ i + 1 = omega arith in
          let next = subst (λ n. Begun (plan_of key) (take n (tries_in key)) (group ++ child ∷ []) (list ++ one ∷ []) (drop n (tries_in key)) k0 k1) more
          (begun_next (plan_of key) i (try_of p) lt_tries (try_at key i p lt is) group list k0 k (c.loop-processor.invariant.begun told) child one k1 (c.in_ok-begun.ensures.begins told) (c.in_ok-begun.ensures.says told)) in
          subst (λ all. Begun (plan_of key) (take (i + 1) (tries_in key)) c.add_child.new.group all (drop (i + 1) (tries_in key)) k0 (C.state c.add_child.new.children)) (sym pushed)
          (subst (λ all. Begun (plan_of key) (take (i + 1) (tries_in key)) all (list ++ one ∷ []) (drop (i + 1) (tries_in key)) k0 (C.state c.add_child.new.children)) (sym added)
          (subst (λ s. Begun (plan_of key) (take (i + 1) (tries_in key)) (group ++ child ∷ []) (list ++ one ∷ []) (drop (i + 1) (tries_in key)) k0 s) (sym c.in_ok-add_child.ensures.same) next));
    }

pub returns-clause-starts : goal.returns-clause-starts
returns-clause-starts g c =
    let all : length c.args.key.now.processors ≤ c.loop-processor.processor-index = omega (arith, c.loop-processor-test.false, ap length c.as_slice-processor-items.ensures) in
    omega (arith, c.loop-processor.invariant.starts, c.loop-processor.invariant.bound, all, tries_count c.args.key.now)

pub returns-clause-all : goal.returns-clause-all
returns-clause-all g c =
    let all : length c.args.key.now.processors ≤ c.loop-processor.processor-index = omega (arith, c.loop-processor-test.false, ap length c.as_slice-processor-items.ensures) in
    omega (arith, c.loop-processor.invariant.count, c.loop-processor.invariant.bound, all)

pub returns-clause-tried : goal.returns-clause-tried
returns-clause-tried g c = λ told.
    let all : length c.args.key.now.processors ≤ c.loop-processor.processor-index = omega (arith, c.loop-processor-test.false, ap length c.as_slice-processor-items.ensures) in
    record { count = c.loop-processor.processor-index; few = omega (arith, c.loop-processor.invariant.bound, tries_count c.args.key.now); tried = (c.loop-processor.invariant.begun told).tried }

pub returns-clause-begins : goal.returns-clause-begins
returns-clause-begins g c = λ told.
    let C = g.C.Children in
    let key = c.args.key.now in
    let i = c.loop-processor.processor-index in
    let k0 = C.state c.args.children.now in
    let k = C.state c.loop-processor.children in
    let all : length (tries_in key) ≤ i = omega (arith, c.loop-processor-test.false, ap length c.as_slice-processor-items.ensures, tries_count key) in
    begun_all (plan_of key) (take i (tries_in key)) c.loop-processor.group c.loop-processor.list k0 k
    (subst (λ later. Begun (plan_of key) (take i (tries_in key)) c.loop-processor.group c.loop-processor.list later k0 k) (drop_of_length-le (tries_in key) all) (c.loop-processor.invariant.begun told))

pub returns-in_err-begun-clause-counted : goal.returns-in_err-begun-clause-counted
returns-in_err-begun-clause-counted g c = λ told.
    let C = g.C.Children in
    let k0 = C.state c.args.children.now in
    let k = C.state c.loop-processor.children in
    let begun = c.loop-processor.invariant.begun told in
    let so_far : IsCounted k0 k = counted_by (take c.loop-processor.processor-index (tries_in c.args.key.now)) k0 k begun.tried (omega (arith, c.loop-processor.invariant.starts, c.loop-processor.invariant.count, begun.count)) in
    let e = err_from_is_err_and c.from_residual.result c.from_residual.ensures.1 in
    rw (e.1, e.2) (stops_later (stop_of c.in_err-begun.field-0.0) k0 k (C.state c.begin_one.new.children) so_far (c.in_err-begun.ensures.counted told))

pub returns-in_err-add_child-clause-counted : goal.returns-in_err-add_child-clause-counted
returns-in_err-add_child-clause-counted g c = λ told.
    let C = g.C.Children in
    let k0 = C.state c.args.children.now in
    let k = C.state c.loop-processor.children in
    let begun = c.loop-processor.invariant.begun told in
    let so_far : IsCounted k0 k = counted_by (take c.loop-processor.processor-index (tries_in c.args.key.now)) k0 k begun.tried (omega (arith, c.loop-processor.invariant.starts, c.loop-processor.invariant.count, begun.count)) in
    let k1 = C.state c.begin_one.new.children in
    let k2 = C.state c.add_child.new.children in
    let one : IsCounted k k1 = c.in_ok-begun.ensures.counted told in
    let both : IsCounted k0 k1 = omega (arith, so_far, one) in
    let e = err_from_is_err_and c.from_residual-in_err-add_child.result c.from_residual-in_err-add_child.ensures.1 in
    rw (e.1, e.2) (inl (counted_same k0 k1 k2 (c.add_child.ensures.attends told).same_tried c.add_child.ensures.starts both))

pub returns-in_err-push-clause-counted : goal.returns-in_err-push-clause-counted
returns-in_err-push-clause-counted g c = λ told.
    let C = g.C.Children in
    let k0 = C.state c.args.children.now in
    let k = C.state c.loop-processor.children in
    let begun = c.loop-processor.invariant.begun told in
    let so_far : IsCounted k0 k = counted_by (take c.loop-processor.processor-index (tries_in c.args.key.now)) k0 k begun.tried (omega (arith, c.loop-processor.invariant.starts, c.loop-processor.invariant.count, begun.count)) in
    let k1 = C.state c.begin_one.new.children in
    let k2 = C.state c.add_child.new.children in
    let one : IsCounted k k1 = c.in_ok-begun.ensures.counted told in
    let both : IsCounted k0 k1 = omega (arith, so_far, one) in
    let e = err_from_is_err_and c.from_residual-in_err-push.result c.from_residual-in_err-push.ensures.1 in
    rw (e.1, e.2) (inl (counted_same k0 k1 k2 (c.add_child.ensures.attends told).same_tried c.add_child.ensures.starts both))

pub returns-clause-counted : goal.returns-clause-counted
returns-clause-counted g c = λ told.
    let C = g.C.Children in
    let k0 = C.state c.args.children.now in
    let k = C.state c.loop-processor.children in
    let begun = c.loop-processor.invariant.begun told in
    let so_far : IsCounted k0 k = counted_by (take c.loop-processor.processor-index (tries_in c.args.key.now)) k0 k begun.tried (omega (arith, c.loop-processor.invariant.starts, c.loop-processor.invariant.count, begun.count)) in
    so_far
