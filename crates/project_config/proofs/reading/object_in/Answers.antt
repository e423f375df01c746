use Rattle.std.proofs.Common.{rules, sym, ◌∙◌}
use Rattle.serde_json.specs.View.{view}
use Rattle.project_config.proofs.ObjectLaws.{object_in-read, object_in-none}
use Rattle.project_config.proofs.reading.object_in.Goals as goal

pub returns-in-Ok : goal.returns-in-Ok
returns-in-Ok c =
    c.if_object.ensures ∙ sym (object_in-read c.args.bytes.now (view c.in-Ok.value) c.in-Ok.ensures.ok.0 c.in-Ok.ensures.ok.1)

pub returns-else-is_memory : goal.returns-else-is_memory
returns-else-is_memory c = sym (object_in-none c.args.bytes.now (c.in-Err.ensures.err (search rules)))
