-- `builder`: for each class on which `apt.demo.Builder` is written, a source with a public field for each of its instance fields.
use Rattle.std.specs.Prelude.{ℕ, ◌==◌, Bool, ◌&&◌, not, nat_lt, bit_and, List, [], ◌∷◌, ◌++◌, length, take, codes, Option, None, Some, if◌then◌else◌}
use Rattle.apt_base.specs.declared.element.ElementRef.{ElementRef}
use Rattle.type_mirror.specs.declared.mirror.Mirror.{Mirror}
use Rattle.frame_forms.specs.declared.question_row.ElementQuestion.TheVariants as asked
use Rattle.frame_forms.specs.declared.question_row.MirrorQuestion.TheVariants.{PrintType}
use Rattle.wire_frames.specs.declared.frame.Frame.TheVariants as frame
use Rattle.wire_frames.specs.declared.question.Question.TheVariants as question
use Rattle.wire_frames.specs.declared.reply.Info.{Info}
use Rattle.wire_frames.specs.declared.reply.Reply.{Reply}
use Rattle.local_procs.specs.Plans.{Plan, Sends, done}
use Rattle.local_procs.specs.Contents.{elements_in, info_in, mirror_in, text_in, is_accepted, carries, about, message_at}
use Rattle.local_procs.specs.ClassText.{is_class, package_of, package_line, source_of}

abbrev pub built : List ℕ
built = codes "apt.demo.Builder"

-- ---- the text

-- what the file begins with
abbrev pub heading_of : Info → List ℕ
heading_of info = package_line (package_of info) ++ codes "public class " ++ info.simple ++ codes "Builder {\n"

-- the line of a field behind the text so far, where its type was printed
abbrev pub with_line : List ℕ → List ℕ → Option (List ℕ) → List ℕ
with_line text name None = text
with_line text name (Some type) = text ++ codes "  public " ++ type ++ codes " " ++ name ++ codes ";\n"

-- ---- the plan

abbrev pub after_warning : Reply → Plan
after_warning answer = done

abbrev pub warns : ElementRef → Plan
warns root = Sends (message_at 1 root (codes "builder not created")) after_warning

unfoldable pub after_creation : ElementRef → Reply → Plan
after_creation root answer = if is_accepted answer then done else warns root

-- the most bytes of a source
abbrev pub most_bytes : ℕ
most_bytes = 8388608

abbrev pub creates : ElementRef → List ℕ → List ℕ → Plan
creates root canonical content =
    if nat_lt most_bytes (length content) then warns root
    else Sends (source_of root (canonical ++ codes "Builder") content) (after_creation root)

abbrev pub is_static : ℕ → Bool
is_static modifiers = not (bit_and modifiers 32 == 0)

-- a field that is not static
abbrev pub is_instance_field : Info → Bool
is_instance_field info = (info.kind == 6) && not (is_static info.modifiers)

-- rest says how it goes on with the text
module _ (rest : List ℕ → Plan) (text : List ℕ) where
  abbrev pub after_print : List ℕ → Reply → Plan
  after_print name answer = rest (with_line text name (text_in answer))

  abbrev pub by_type : List ℕ → Option Mirror → Plan
  by_type name None = rest text
  by_type name (Some mirror) = Sends (frame.Ask (question.Mirror PrintType mirror)) (after_print name)

  abbrev pub after_type : List ℕ → Reply → Plan
  after_type name answer = by_type name (mirror_in answer)

  abbrev pub by_member : ElementRef → Option Info → Plan
  by_member member None = rest text
  by_member member (Some info) = if is_instance_field info then Sends (about asked.TypeOf member) (after_type info.simple) else rest text

  abbrev pub after_member : ElementRef → Reply → Plan
  after_member member answer = by_member member (info_in answer)

-- one member after another, and then the file
unfoldable pub members : ElementRef → List ℕ → List ElementRef → List ℕ → Plan
members root canonical [] text = creates root canonical (text ++ codes "}\n")
members root canonical (member ∷ others) text =
    Sends (about asked.Info member) (after_member (members root canonical others) text member)

-- of the first thousand
unfoldable pub after_enclosed : ElementRef → Info → Reply → Plan
after_enclosed root info answer = members root info.canonical (take 1000 (elements_in answer)) (heading_of info)

unfoldable pub after_annotations : ElementRef → Info → Reply → Plan
after_annotations root info answer = if carries built answer then Sends (about asked.Enclosed root) (after_enclosed root info) else done

abbrev pub by_info : ElementRef → Option Info → Plan
by_info root None = done
by_info root (Some info) = if is_class info.kind then Sends (about asked.Annotations root) (after_annotations root info) else done

unfoldable pub after_info : ElementRef → Reply → Plan
after_info root answer = by_info root (info_in answer)

-- what it does for a root
abbrev pub builds : ElementRef → Plan
builds root = Sends (about asked.Info root) (after_info root)
