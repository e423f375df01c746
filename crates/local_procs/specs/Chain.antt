-- `chain`: beside each class on which `apt.demo.Chain(n)` is written with n from 1 to 1,000, a class on which
-- `apt.demo.Chain(n - 1)` is.
use Rattle.std.specs.Prelude.{ℕ, ◌-◌, ◌&&◌, nat_le, ℤ, pos, negsuc, List, ◌++◌, filter_map, codes, decimal, Option, None, Some, if◌then◌else◌}
use Rattle.std.specs.Str.{bytes_eq}
use Rattle.apt_base.specs.declared.element.ElementRef.{ElementRef}
use Rattle.type_mirror.specs.declared.value.Annotation.{Annotation, out-Annotation}
use Rattle.type_mirror.specs.declared.value.NamedValue.{NamedValue, out-NamedValue}
use Rattle.type_mirror.specs.declared.value.Value.{Value, out-Value}
use Rattle.type_mirror.specs.declared.value.Value.TheOpen.{Value-F}
use Rattle.frame_forms.specs.declared.question_row.ElementQuestion.TheVariants as asked
use Rattle.wire_frames.specs.declared.reply.Info.{Info}
use Rattle.wire_frames.specs.declared.reply.Reply.{Reply}
use Rattle.local_procs.specs.Plans.{Plan, Sends, done}
use Rattle.local_procs.specs.Contents.{first_in, info_in, annotations_in, is_annotation_of, about}
use Rattle.local_procs.specs.ClassText.{is_class, package_of, package_line, source_of}

abbrev pub chained : List ℕ
chained = codes "apt.demo.Chain"

-- ---- the number

abbrev pub number_in : ℤ → Option ℕ
number_in (pos n) = if nat_le 1 n && nat_le n 1000 then Some n else None
number_in (negsuc n) = None

abbrev pub whole_in : Value-F Value Annotation NamedValue → Option ℕ
whole_in (Value-F.Whole kind number) = number_in number
whole_in _ = None

-- of a value whose element is `value`
abbrev pub count_of : NamedValue → Option ℕ
count_of named = if bytes_eq (out-NamedValue named).name (codes "value") then whole_in (out-Value (out-NamedValue named).value) else None

-- of an annotation, the first one
abbrev pub count_in : Annotation → Option ℕ
count_in annotation = if is_annotation_of chained annotation then first_in (filter_map count_of (out-Annotation annotation).values) else None

-- the first number from 1 to 1,000 that such an annotation has
unfoldable pub links_in : Reply → Option ℕ
links_in answer = first_in (filter_map count_in (annotations_in answer))

-- ---- the plan

abbrev pub text_of : Info → ℕ → List ℕ
text_of info n =
    package_line (package_of info) ++ codes "@apt.demo.Chain(" ++ decimal (n - 1) ++ codes ")\npublic class " ++ info.simple ++ codes "_ {\n}\n"

-- what is asked or said last
abbrev pub after_last : Reply → Plan
after_last answer = done

abbrev pub by_number : ElementRef → Info → Option ℕ → Plan
by_number root info None = done
by_number root info (Some n) = Sends (source_of root (info.canonical ++ codes "_") (text_of info n)) after_last

unfoldable pub after_annotations : ElementRef → Info → Reply → Plan
after_annotations root info answer = by_number root info (links_in answer)

abbrev pub by_info : ElementRef → Option Info → Plan
by_info root None = done
by_info root (Some info) = if is_class info.kind then Sends (about asked.Annotations root) (after_annotations root info) else done

unfoldable pub after_info : ElementRef → Reply → Plan
after_info root answer = by_info root (info_in answer)

-- what it does for a root
abbrev pub chains : ElementRef → Plan
chains root = Sends (about asked.Info root) (after_info root)
