-- `checker`: each type on which `apt.demo.Checked` is present, inherited or written, has a name that does not begin in lower case, and a
-- documentation comment.
use Rattle.std.specs.Prelude.{ℕ, Bool, false, ◌&&◌, nat_le, List, [], ◌∷◌, codes, Option, None, Some, is_some, if◌then◌else◌}
use Rattle.apt_base.specs.declared.element.ElementRef.{ElementRef}
use Rattle.frame_forms.specs.declared.question_row.ElementQuestion.TheVariants as asked
use Rattle.wire_frames.specs.declared.reply.Info.{Info}
use Rattle.wire_frames.specs.declared.reply.Reply.{Reply}
use Rattle.local_procs.specs.Plans.{Plan, Sends, done}
use Rattle.local_procs.specs.Contents.{info_in, text_in, carries, about, message_at}

abbrev pub checked : List ℕ
checked = codes "apt.demo.Checked"

-- an enum, a class, an annotation interface or an interface
abbrev pub is_type : ℕ → Bool
is_type kind = nat_le 1 kind && nat_le kind 4

-- with a letter from a to z
abbrev pub begins_in_lower_case : List ℕ → Bool
begins_in_lower_case [] = false
begins_in_lower_case (byte ∷ others) = nat_le 97 byte && nat_le byte 122

-- what is asked or said last
abbrev pub after_last : Reply → Plan
after_last answer = done

abbrev pub says_at : ℕ → ElementRef → List ℕ → Plan
says_at kind root text = Sends (message_at kind root text) after_last

unfoldable pub after_comment : ElementRef → Reply → Plan
after_comment root answer = if is_some (text_in answer) then done else says_at 1 root (codes "no doc comment")

unfoldable pub after_annotations : ElementRef → List ℕ → Reply → Plan
after_annotations root simple answer =
    if carries checked answer then
    (if begins_in_lower_case simple then says_at 0 root (codes "name begins in lower case") else Sends (about asked.DocComment root) (after_comment root))
    else done

abbrev pub by_info : ElementRef → Option Info → Plan
by_info root None = done
by_info root (Some info) = if is_type info.kind then Sends (about asked.AllAnnotations root) (after_annotations root info.simple) else done

unfoldable pub after_info : ElementRef → Reply → Plan
after_info root answer = by_info root (info_in answer)

-- what it does for a root
abbrev pub checks : ElementRef → Plan
checks root = Sends (about asked.Info root) (after_info root)
