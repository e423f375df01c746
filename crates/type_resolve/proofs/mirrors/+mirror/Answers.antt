use Rattle.std.proofs.Common.{◌≡◌, ◌+◌, ◌<◌, ◌≤◌, length, take, drop, List, map, Some, Option, option_map, sym, ap, ◌∙◌, arith, rules}
use Rattle.std.proofs.lemmas.Result.{IfOk-at_ok}
use Rattle.decl_tree.specs.declared.type_text.TypeText.{TypeText}
use Rattle.type_mirror.specs.declared.mirror.Mirror.{Mirror}
use Rattle.name_resolve.specs.Mirrors.{meant, part_meant}
use Rattle.name_resolve.specs.Parts.{lent}
use Rattle.name_resolve.specs.Supertypes.{part_name}
use Rattle.type_resolve.specs.MirrorParts.{look_in, whole_mirror, next_enclosing, fronts_text, class_from}
use Rattle.type_resolve.specs.Spelling.{parts_spelled}
use Rattle.type_resolve.proofs.MirrorLemmas.{arguments-is, class-last, class-next, names-more, counted, gives_as}
use Rattle.type_resolve.proofs.mirrors.+mirror.Goals as goal

pub arguments_of-returns-in_ok-mirrors-in-Some-clause-value : goal.arguments_of-returns-in_ok-mirrors-in-Some-clause-value
arguments_of-returns-in_ok-mirrors-in-Some-clause-value t c =
    let look = look_in c.args.scope.now in
    let each : List TypeText → List Mirror = map (λ t. (meant look t).mirror) in
    ap (λ (ms : List Mirror). Some ms) (c.in_ok-mirrors-in-Some.ensures.value ∙ ap each c.as_slice.ensures) ∙ ap (option_map each) (sym c.in-Some.is) ∙ sym (arguments-is look c.args.part.now)

-- the last name
pub named_type-returns-then-len-parts-clause-value : goal.named_type-returns-then-len-parts-clause-value
named_type-returns-then-len-parts-clause-value t c =
    let look = look_in c.args.scope.now in
    let parts = c.args.parts.now in
    let i = c.loop-part.part-index in
    let part = c.part-item.result in
    let within = c.loop-part-test.true in
    let names : lent c.push.new.self.items ≡ map part_name (take (i + 1) parts) =
    names-more look parts i part within c.part-item.is c.loop-part.names.items c.push.new.self.items c.as_str.result c.loop-part.invariant.0 c.in_ok-push.ensures.items c.as_str.ensures in
    let bound : i + 1 ≤ length parts = omega (arith, within) in
    let many : length c.push.new.self.items ≡ i + 1 = counted look c.push.new.self.items parts (i + 1) names bound in
    let front : c.len.result ≡ length c.push.new.self.items = search rules in
    let tested : c.len-in-loop-part.result ≡ length c.push.new.self.items = search rules in
    let size : c.len.result ≡ i + 1 = front ∙ many in
    let last : i + 1 ≡ length parts = omega (arith, many, tested, c.if-len-parts.true) in
    let slice : lent c.as_slice.result.now ≡ map part_name (take (i + 1) parts) = ap lent c.as_slice.ensures.value ∙ names in
    let outer : c.in_ok-outer.outer ≡ c.loop-part.enclosing = c.in_ok-outer.ensures.one in
    let arguments : c.in_ok-outer.arguments ≡ (part_meant look part).arguments =
    IfOk-at_ok (λ (a : Option (List Mirror)). a ≡ (part_meant look part).arguments) c.in_ok-outer.ensures.other c.arguments_of-arguments.ensures.value in
    gives_as c.whole_type.result _ _
    ((λ k. whole_mirror look (slice k) (parts_spelled (take (size k) parts)) (outer k) (arguments k)) ∙ sym (class-last look parts i part within c.part-item.is c.loop-part.enclosing last)
    ∙ c.loop-part.invariant.1)
    c.whole_type.ensures.value

-- any other name
pub named_type-loop-part-preserved : goal.named_type-loop-part-preserved
named_type-loop-part-preserved t c =
    let look = look_in c.args.scope.now in
    let parts = c.args.parts.now in
    let i = c.loop-part.part-index in
    let part = c.part-item.result in
    let within = c.loop-part-test.true in
    let names : lent c.push.new.self.items ≡ map part_name (take (i + 1) parts) =
    names-more look parts i part within c.part-item.is c.loop-part.names.items c.push.new.self.items c.as_str.result c.loop-part.invariant.0 c.in_ok-push.ensures.items c.as_str.ensures in
    let bound : i + 1 ≤ length parts = omega (arith, within) in
    let many : length c.push.new.self.items ≡ i + 1 = counted look c.push.new.self.items parts (i + 1) names bound in
    let front : c.len.result ≡ length c.push.new.self.items = search rules in
    let tested : c.len-in-loop-part.result ≡ length c.push.new.self.items = search rules in
    let size : c.len.result ≡ i + 1 = front ∙ many in
    let more : i + 1 < length parts = omega (arith, within, many, tested, c.if-len-parts.false) in
    let slice : lent c.as_slice-front.result.now ≡ map part_name (take (i + 1) parts) = ap lent c.as_slice-front.ensures.value ∙ names in
    let outer : c.in_ok-outer.outer ≡ c.loop-part.enclosing = c.in_ok-outer.ensures.one in
    let arguments : c.in_ok-outer.arguments ≡ (part_meant look part).arguments =
    IfOk-at_ok (λ (a : Option (List Mirror)). a ≡ (part_meant look part).arguments) c.in_ok-outer.ensures.other c.arguments_of-arguments.ensures.value in
    let enclosing : c.in_ok-enclosing.enclosing ≡ next_enclosing look (map part_name (take (i + 1) parts)) (parts_spelled (take (i + 1) parts)) c.loop-part.enclosing (part_meant look part).arguments =
    c.in_ok-enclosing.ensures.value ∙ (λ k. next_enclosing look (slice k) (parts_spelled (take (size k) parts)) (outer k) (arguments k)) in (
      names,
      ap (λ (o : Option Mirror). class_from look (map part_name (take (i + 1) parts)) (fronts_text (take (i + 1) parts)) o (map (part_meant look) (drop (i + 1) parts))) enclosing
          ∙ sym (class-next look parts i part within c.part-item.is c.loop-part.enclosing more) ∙ c.loop-part.invariant.1,
      cc (c.in_ok-enclosing.ensures.kept, c.arguments_of-arguments.ensures.kept, c.loop-part.invariant.2),
    )
