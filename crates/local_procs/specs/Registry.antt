-- `registry`: in the last round, one file with the names of all types on which `apt.demo.Registered` was present in a round.
use Rattle.std.specs.Prelude.{ℕ, Bool, true, false, ◌&&◌, ◌||◌, not, nat_eq, filter, flat_map, List, [], ◌++◌, map, codes, if◌then◌else◌}
use Rattle.std.specs.List.{ends_with}
use Rattle.std.specs.Str.{bytes_eq}
use Rattle.apt_base.specs.Names.{NameSet, with_names, names_in}
use Rattle.apt_base.specs.declared.element.ElementRef.{ElementRef}
use Rattle.frame_forms.specs.declared.question_row.NameQuestion.TheVariants.{AnnotatedWith}
use Rattle.wire_frames.specs.declared.frame.Frame.{Frame}
use Rattle.wire_frames.specs.declared.frame.Frame.TheVariants as frame
use Rattle.wire_frames.specs.declared.frame.Creation.TheVariants as creation
use Rattle.wire_frames.specs.declared.question.Question.TheVariants as question
use Rattle.wire_frames.specs.declared.reply.Reply.{Reply}
use Rattle.local_procs.specs.Plans.{Plan, Ends, Sends}
use Rattle.local_procs.specs.Contents.{is_empty, elements_in}

abbrev pub registered : List ℕ
registered = codes "apt.demo.Registered"

-- ---- what it remembers

-- `package-info` itself, or that of a package
abbrev pub is_info_name : List ℕ → Bool
is_info_name name = bytes_eq name (codes "package-info") || ends_with nat_eq name (codes ".package-info")

-- a top-level type: no element within a unit, and no package
abbrev pub is_top_level : ElementRef → Bool
is_top_level element = is_empty element.path && not (is_info_name element.unit)

abbrev pub unit_of : ElementRef → List ℕ
unit_of element = element.unit

-- the units of the top-level types among the elements of a reply
unfoldable pub types_in : Reply → List (List ℕ)
types_in answer = map unit_of (filter is_top_level (elements_in answer))

-- ---- the file

abbrev pub line_of : List ℕ → List ℕ
line_of name = name ++ codes "\n"

-- a line for each name
abbrev pub lines_of : List (List ℕ) → List ℕ
lines_of names = flat_map line_of names

-- a resource of the unnamed package in the class output, of no element
abbrev pub file_of : List (List ℕ) → Frame
file_of names = frame.Create (creation.Resource 0 [] (codes "META-INF/registry.txt") (lines_of names) [])

-- ---- the plan: by whether the round is the last one, and what is remembered so far

abbrev pub after_file : NameSet → Reply → Plan
after_file kept answer = Ends kept

-- the last round writes the file, if there is a name
unfoldable pub writes : Bool → NameSet → Plan
writes over kept = if over && not (is_empty (names_in kept)) then Sends (file_of (names_in kept)) (after_file kept) else Ends kept

unfoldable pub after_registered : Bool → NameSet → Reply → Plan
after_registered over kept answer = writes over (with_names kept (types_in answer))

-- what it does in a round, by whether its annotation is offered
abbrev pub registers : Bool → Bool → NameSet → Plan
registers true over kept = Sends (frame.Ask (question.Name AnnotatedWith registered)) (after_registered over kept)
registers false over kept = writes over kept
