use Rattle.std.proofs.Common.{◌≡◌, ◌∙◌, ◌∷◌, ◌++◌, [], sym, ap, subst}
use Rattle.java_tokens.specs.declared.chars.Chars.{Chars}
use Rattle.java_tokens.specs.CharsShown.{FaultAt}
use Rattle.java_tokens.specs.TokensShown.{codes_in, offsets_in, shown_token, shown_tokens, AreTokensIn, IsTokenFaultIn}
use Rattle.java_tokens.specs.TokenReading.{HasRead}
use Rattle.java_tokens.proofs.Lists.{one_list, never_both, one_place, list_or_place}
use Rattle.java_tokens.proofs.TokensRead.{own_file, one_more, no_more, shown_push}
use Rattle.java_tokens.proofs.lexing.tokens.Goals as goal

pub tokens-smaller : goal.tokens-smaller
tokens-smaller c = (one_more c.tokens.reader _ _ _ _ c.in-Ok-Some.field-0-is (c.in-Ok-Some.ensures (shown_tokens c.tokens.tokens.items) (own_file _ _ c.tokens.reader c.tokens.invariant))).1

pub tokens-preserved : goal.tokens-preserved
tokens-preserved c =
    let reader = c.tokens.reader in
    let before = c.tokens.tokens.items in
    let has = (one_more reader _ _ _ _ c.in-Ok-Some.field-0-is (c.in-Ok-Some.ensures (shown_tokens before) (own_file _ _ reader c.tokens.invariant))).0 in
    let all : shown_tokens before ++ shown_token c.in-Ok-Some.token ∷ [] ≡ shown_tokens c.push.new.self.items = sym (ap shown_tokens c.in_ok-push-in-Ok-Some.ensures.items ∙ shown_push before c.in-Ok-Some.token) in
    subst (λ ts. HasRead c.args.chars.now ts c.next.new.self) all (subst (λ (r : Chars). HasRead r (shown_tokens before ++ shown_token c.in-Ok-Some.token ∷ []) c.next.new.self) c.tokens.invariant.file has)

pub returns-in_err-push-in-Ok-Some-clause-decided : goal.returns-in_err-push-in-Ok-Some-clause-decided
returns-in_err-push-in-Ok-Some-clause-decided c = list_or_place (codes_in c.args.chars.now) (offsets_in c.args.chars.now)

pub returns-in-Ok-None-clause-tokens : goal.returns-in-Ok-None-clause-tokens
returns-in-Ok-None-clause-tokens c =
    let ts = shown_tokens c.tokens.tokens.items in
    subst (λ (r : Chars). AreTokensIn r ts) c.tokens.invariant.file (no_more c.tokens.reader ts _ _ c.in-Ok-None.field-0-is (c.in-Ok-None.ensures ts (own_file _ _ c.tokens.reader c.tokens.invariant)))

pub returns-in-Ok-None-clause-list : goal.returns-in-Ok-None-clause-list
returns-in-Ok-None-clause-list c = λ all are.
    let ts = shown_tokens c.tokens.tokens.items in
    let have = subst (λ (r : Chars). AreTokensIn r ts) c.tokens.invariant.file (no_more c.tokens.reader ts _ _ c.in-Ok-None.field-0-is (c.in-Ok-None.ensures ts (own_file _ _ c.tokens.reader c.tokens.invariant))) in
    one_list (codes_in c.args.chars.now) (offsets_in c.args.chars.now) ts all have are

pub returns-in-Ok-None-clause-decided : goal.returns-in-Ok-None-clause-decided
returns-in-Ok-None-clause-decided c = list_or_place (codes_in c.args.chars.now) (offsets_in c.args.chars.now)

pub returns-in-Ok-None-clause-place : goal.returns-in-Ok-None-clause-place
returns-in-Ok-None-clause-place c = λ place is.
    let ts = shown_tokens c.tokens.tokens.items in
    let have = subst (λ (r : Chars). AreTokensIn r ts) c.tokens.invariant.file (no_more c.tokens.reader ts _ _ c.in-Ok-None.field-0-is (c.in-Ok-None.ensures ts (own_file _ _ c.tokens.reader c.tokens.invariant))) in
    never_both (codes_in c.args.chars.now) (offsets_in c.args.chars.now) ts place have is

pub returns-in-Err-clause-tokens : goal.returns-in-Err-clause-tokens
returns-in-Err-clause-tokens c =
    let stop = c.in-Err.ensures (shown_tokens c.tokens.tokens.items) (own_file _ _ c.tokens.reader c.tokens.invariant) in
    subst (FaultAt (IsTokenFaultIn c.args.chars.now)) (sym stop.1) (subst (λ (r : Chars). IsTokenFaultIn r stop.0) c.tokens.invariant.file stop.2)

pub returns-in-Err-clause-list : goal.returns-in-Err-clause-list
returns-in-Err-clause-list c = λ all are.
    let stop = c.in-Err.ensures (shown_tokens c.tokens.tokens.items) (own_file _ _ c.tokens.reader c.tokens.invariant) in
    absurd (never_both (codes_in c.args.chars.now) (offsets_in c.args.chars.now) all stop.0 are (subst (λ (r : Chars). IsTokenFaultIn r stop.0) c.tokens.invariant.file stop.2))

pub returns-in-Err-clause-decided : goal.returns-in-Err-clause-decided
returns-in-Err-clause-decided c = list_or_place (codes_in c.args.chars.now) (offsets_in c.args.chars.now)

pub returns-in-Err-clause-place : goal.returns-in-Err-clause-place
returns-in-Err-clause-place c = λ place is.
    let stop = c.in-Err.ensures (shown_tokens c.tokens.tokens.items) (own_file _ _ c.tokens.reader c.tokens.invariant) in
    subst (FaultAt (λ at. at ≡ place)) (sym stop.1) (one_place (codes_in c.args.chars.now) (offsets_in c.args.chars.now) stop.0 place (subst (λ (r : Chars). IsTokenFaultIn r stop.0) c.tokens.invariant.file stop.2) is)
