use Rattle.std.proofs.Common.{List, ℕ, ◌++◌, sym, ap, ◌∙◌}
use Rattle.std.specs.Int.{w16, to_be_bytes}
use Rattle.apt_base.specs.Fields.{bytes_form}
use Rattle.wire_frames.specs.Spellings.{list_spelled}
use Rattle.wire_frames.proofs.Added.{same_bytes, more_bytes}
use Rattle.wire_frames.proofs.Parts.{element_spelled-is}
use Rattle.wire_frames.proofs.form_writing.put_element.Goals as goal

pub returns : goal.returns
returns c =
    same_bytes _ _ _ _ _ (more_bytes _ _ _ _ _ _ c.put_path.ensures c.in_ok-text.ensures)
    (element_spelled-is c.args.element.now ∙ ap (λ (p : List ℕ). bytes_form c.args.element.now.unit ++ list_spelled (to_be_bytes w16) p) (sym c.as_slice.ensures))
