use Rattle.std.proofs.Common.{[], ◌∷◌, ◌++◌, string_bytes, lit<, ap, ◌∙◌, sym}
use Rattle.apt_base.proofs.Dotted.{utf8_after}
use Rattle.apt_filer.proofs.Folders.{folders_of-without, one_folder_more}
use Rattle.apt_filer.proofs.paths.push_folders.Goals as goal

pub loop-first-preserved : goal.loop-first-preserved
loop-first-preserved c =
    let parts = c.in-Some.ensures in (
      utf8_after c.loop-first.rest.now c.in-Some.first.now c.in-Some.after.now parts.0 c.loop-first.invariant.0,
      one_folder_more (string_bytes c.loop-first.path) c.in-Some.first.now c.in-Some.after.now c.loop-first.rest.now (string_bytes c.push.new.self) parts.0 parts.1
          (c.in_ok-push.ensures.bytes ∙ ap (λ byte. string_bytes c.push_str.new.self ++ byte) (c.push.ensures.ascii (lit< tt)) ∙ ap (λ p. p ++ (47 ∷ [])) c.in_ok-push_str.ensures.bytes)
          ∙ c.loop-first.invariant.1,
    )

pub returns : goal.returns
returns c =
    c.in_ok-push_str-2.ensures.bytes
    ∙ ap (λ t. string_bytes c.loop-first.path ++ t) (sym (folders_of-without c.loop-first.rest.now c.in_default.ensures))
    ∙ c.loop-first.invariant.1
