use Rattle.std.proofs.Common.{◌∙◌, ℕ, List, option_map, Option, None, refl, ap, sym, subst, arith}
use Rattle.std.proofs.lemmas.Str.{IsUtf8-take, IsUtf8-drop}
use Rattle.std.specs.Str.{chars, IsUtf8}
use Rattle.java_tokens.specs.declared.token_reader.TokenReader.{TokenReader}
use Rattle.case_table.specs.Rows.{shown}
use Rattle.java_tokens.specs.Table.{IsFront}
use Rattle.java_tokens.proofs.TokensGathered.{front_cut, front_some}
use Rattle.java_tokens.proofs.TokensRead.{IsStart, behind_near, separator_behind, token_behind, end_behind, fault_behind}
use Rattle.java_tokens.proofs.Blanks.{blank_front, blank_taken, blank_doc}
use Rattle.java_tokens.proofs.token_reader.TokenReader.next.Goals as goal

pub split_at-requires : goal.split_at-requires
split_at-requires c =
    let rest = c.separators.rest.now in
    let blank = blank_taken rest _ c.if-begins_with_blank.true c.begins_with_blank.ensures in
    front_cut rest 1 None c.separators.invariant.utf8 (blank_front rest c.separators.invariant.utf8 blank)

pub place_after-place-requires-clause-narrow : goal.place_after-place-requires-clause-narrow
place_after-place-requires-clause-narrow c =
    let rest = c.separators.rest.now in
    let blank = blank_taken rest _ c.if-begins_with_blank.true c.begins_with_blank.ensures in
    let some = front_some rest 1 None c.separators.invariant.utf8 (blank_front rest c.separators.invariant.utf8 blank) in
    let near = behind_near c.args.self.now.chars.now _ _ _ _ _ _ (c.separators.invariant.behind c.requires.0 c.requires.1) in
    omega (arith, near.0, some.1, c.split_at.ensures.front_len)

pub place_after-place-requires-clause-line : goal.place_after-place-requires-clause-line
place_after-place-requires-clause-line c = (behind_near c.args.self.now.chars.now _ _ _ _ _ _ (c.separators.invariant.behind c.requires.0 c.requires.1)).1

pub separators-preserved-then-begins_with_blank : goal.separators-preserved-then-begins_with_blank
separators-preserved-then-begins_with_blank c =
    let rest = c.separators.rest.now in
    let utf8 : IsUtf8 rest = c.separators.invariant.utf8 in
    let text = c.split_at.result.0.now in
    let doc : Option (List ℕ) = option_map (λ d. d.now) c.separators.doc in
    let blank = blank_taken rest _ c.if-begins_with_blank.true c.begins_with_blank.ensures in
    let front : IsFront (chars rest) 1 None = blank_front rest utf8 blank in
    let cut = front_cut rest 1 None utf8 front in
    let text_utf8 : IsUtf8 text = subst IsUtf8 (sym c.split_at.ensures.front) (IsUtf8-take rest 1 utf8 cut) in
    record {
      utf8 = subst IsUtf8 (sym c.split_at.ensures.back) (IsUtf8-drop rest 1 utf8 cut);
      same = c.separators.invariant.same;
      left = omega (arith, c.separators.invariant.left, c.split_at.ensures.back_len);
      behind = λ ts has.
          separator_behind c.args.self.now.chars.now ts rest text c.split_at.result.1.now 1 _ _ _ _ _ _ doc doc utf8
          (record { text_is = c.split_at.ensures.front; back_is = c.split_at.ensures.back; width_is = c.place_after-place.ensures.width; line_is = c.place_after-place.ensures.line; return_is = c.place_after-place.ensures.after_return })
          front (blank_doc text doc text_utf8 (c.split_at.ensures.front ∙ blank)) (c.separators.invariant.behind ts has);
    }

pub offset_at-start-requires : goal.offset_at-start-requires
offset_at-start-requires c =
    let near = behind_near c.args.self.now.chars.now _ _ _ _ _ _ (c.separators.invariant.behind c.requires.0 c.requires.1) in
    omega (arith, near.0)

pub returns-in_default : goal.returns-in_default
returns-in_default c = λ ts has.
    let read = c.args.self.now.chars.now in
    let width = c.separators.place.width in
    let begins : IsStart read width c.offset_at-start.result = subst (λ (s : TokenReader). IsStart s.chars.now width c.offset_at-start.result) c.separators.invariant.same c.offset_at-start.ensures in
    (c.offset_at-start.result, refl, fault_behind read ts c.separators.rest.now width _ c.offset_at-start.result _ _ c.separators-test.ensures c.in_default.ensures begins (c.separators.invariant.behind ts has), c.separators.invariant.same)

pub split_at-requires-in-separators : goal.split_at-requires-in-separators
split_at-requires-in-separators c = front_cut c.separators.rest.now c.in-Some.front.width c.in-Some.front.kind c.separators.invariant.utf8 c.in-Some.ensures

pub offset_at-start-requires-in-Some-kind : goal.offset_at-start-requires-in-Some-kind
offset_at-start-requires-in-Some-kind c =
    let near = behind_near c.args.self.now.chars.now _ _ _ _ _ _ (c.separators.invariant.behind c.requires.0 c.requires.1) in
    omega (arith, near.0)

pub place_after-self-requires-clause-narrow : goal.place_after-self-requires-clause-narrow
place_after-self-requires-clause-narrow c =
    let some = front_some c.separators.rest.now c.in-Some.front.width c.in-Some.front.kind c.separators.invariant.utf8 c.in-Some.ensures in
    let near = behind_near c.args.self.now.chars.now _ _ _ _ _ _ (c.separators.invariant.behind c.requires.0 c.requires.1) in
    omega (arith, near.0, some.1, c.split_at-in-separators.ensures.front_len)

pub place_after-self-requires-clause-line : goal.place_after-self-requires-clause-line
place_after-self-requires-clause-line c = (behind_near c.args.self.now.chars.now _ _ _ _ _ _ (c.separators.invariant.behind c.requires.0 c.requires.1)).1

pub returns-in-Some-kind : goal.returns-in-Some-kind
returns-in-Some-kind c = λ ts has.
    let read = c.args.self.now.chars.now in
    let rest = c.separators.rest.now in
    let width = c.separators.place.width in
    let w = c.in-Some.front.width in
    let start = c.offset_at-start-in-Some-kind.result in
    let begins : IsStart read width start = subst (λ (s : TokenReader). IsStart s.chars.now width start) c.separators.invariant.same c.offset_at-start-in-Some-kind.ensures in
    let behind =
    token_behind read ts rest c.split_at-in-separators.result.0.now c.split_at-in-separators.result.1.now w width _ c.separators.place.line _ start _ _ (option_map (λ d. d.now) c.separators.doc) c.in-Some-kind.kind c.separators.invariant.utf8
    (record { text_is = c.split_at-in-separators.ensures.front; back_is = c.split_at-in-separators.ensures.back; width_is = c.place_after-self.ensures.width; line_is = c.place_after-self.ensures.line; return_is = c.place_after-self.ensures.after_return })
    (subst (IsFront (chars rest) w) c.in-Some-kind.is c.in-Some.ensures) c.separators-test.ensures begins (c.separators.invariant.behind ts has) in
    let some = front_some rest w c.in-Some.front.kind c.separators.invariant.utf8 c.in-Some.ensures in (
      record {
        file = ap (λ (s : TokenReader). s.chars.now) c.separators.invariant.same;
        reserved = ap (λ (s : TokenReader). shown s.words.rows.now) c.separators.invariant.same ∙ has.reserved;
        signs = ap (λ (s : TokenReader). shown s.operators.rows.now) c.separators.invariant.same ∙ has.signs;
        before = behind.0;
        lexing = behind.1;
      },
      omega (arith, some.0, c.split_at-in-separators.ensures.back_len, c.separators.invariant.left),
    )

pub place_after-place-requires-in-separators-clause-narrow : goal.place_after-place-requires-in-separators-clause-narrow
place_after-place-requires-in-separators-clause-narrow c =
    let some = front_some c.separators.rest.now c.in-Some.front.width c.in-Some.front.kind c.separators.invariant.utf8 c.in-Some.ensures in
    let near = behind_near c.args.self.now.chars.now _ _ _ _ _ _ (c.separators.invariant.behind c.requires.0 c.requires.1) in
    omega (arith, near.0, some.1, c.split_at-in-separators.ensures.front_len)

pub place_after-place-requires-in-separators-clause-line : goal.place_after-place-requires-in-separators-clause-line
place_after-place-requires-in-separators-clause-line c = (behind_near c.args.self.now.chars.now _ _ _ _ _ _ (c.separators.invariant.behind c.requires.0 c.requires.1)).1

pub separators-smaller : goal.separators-smaller
separators-smaller c =
    let some = front_some c.separators.rest.now c.in-Some.front.width c.in-Some.front.kind c.separators.invariant.utf8 c.in-Some.ensures in
    omega (arith, some.0, c.split_at-in-separators.ensures.back_len)

pub separators-preserved : goal.separators-preserved
separators-preserved c =
    let rest = c.separators.rest.now in
    let w = c.in-Some.front.width in
    let utf8 : IsUtf8 rest = c.separators.invariant.utf8 in
    let front : IsFront (chars rest) w c.in-Some.front.kind = c.in-Some.ensures in
    let doc : Option (List ℕ) = option_map (λ d. d.now) c.separators.doc in
    record {
      utf8 = subst IsUtf8 (sym c.split_at-in-separators.ensures.back) (IsUtf8-drop rest w utf8 (front_cut rest w c.in-Some.front.kind utf8 front));
      same = c.separators.invariant.same;
      left = omega (arith, c.separators.invariant.left, c.split_at-in-separators.ensures.back_len);
      behind = λ ts has.
          separator_behind c.args.self.now.chars.now ts rest c.split_at-in-separators.result.0.now c.split_at-in-separators.result.1.now w _ _ _ _ _ _ doc _ utf8
          (record { text_is = c.split_at-in-separators.ensures.front; back_is = c.split_at-in-separators.ensures.back; width_is = c.place_after-place-in-separators.ensures.width; line_is = c.place_after-place-in-separators.ensures.line; return_is = c.place_after-place-in-separators.ensures.after_return })
          (subst (IsFront (chars rest) w) c.in_default-kind.is front) c.doc_after-doc.ensures (c.separators.invariant.behind ts has);
    }

pub returns : goal.returns
returns c = λ ts has. (end_behind c.args.self.now.chars.now ts c.separators.rest.now _ _ _ _ c.separators-test.ensures (c.separators.invariant.behind ts has), c.separators.invariant.same)
