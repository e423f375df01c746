use Rattle.std.proofs.Common.{◌≡◌, ◌++◌, ◌∷◌, [], Some, string_bytes, ap, sym, ◌∙◌}
use Rattle.serde_json.specs.View.{view, members_view}
use Rattle.serde_json.specs.Find.{as_str}
use Rattle.project_config.specs.Items.{options_of}
use Rattle.project_config.proofs.AnswerLaws.{put_on, put_on-more}
use Rattle.project_config.proofs.texts.options_of.Goals as goal

pub loop-key-preserved : goal.loop-key-preserved
loop-key-preserved c =
    let name = string_bytes c.in-Some.key.now in
    let text = c.in-Some-as_str.text.now in
    let rest = options_of (members_view c.next.new.self) in
    let left : c.loop-key.key-iterator ≡ (c.in-Some.key.now, c.in-Some.value.now) ∷ c.next.new.self = c.in-Some.ensures.steps in
    let key : c.in_ok-key-in-Some-as_str.key ≡ name = c.in_ok-key-in-Some-as_str.ensures ∙ c.as_str-in-Some-as_str.ensures.value in
    let first : as_str (view c.in-Some.value.now) ≡ Some text = sym c.in-Some-as_str.ensures in
    ap (λ options. put_on options rest) c.in_ok-push-in-Some-as_str.ensures.ok
    ∙ ap (λ key. put_on (c.loop-key.options ++ (key, c.in_ok-new-in-Some-as_str.field-0) ∷ []) rest) key
    ∙ ap (λ value. put_on (c.loop-key.options ++ (name, value) ∷ []) rest) c.in_ok-new-in-Some-as_str.ensures
    ∙ put_on-more (λ value. (name, value)) c.loop-key.options (as_str (view c.in-Some.value.now)) text rest first
    ∙ ap (λ left. put_on c.loop-key.options (options_of (members_view left))) (sym left)
    ∙ c.loop-key.invariant
