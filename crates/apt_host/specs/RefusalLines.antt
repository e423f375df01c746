-- The line of a call that ended early.
use Rattle.std.specs.Prelude.{◌≡◌, ℕ, Bool, true, false, List, [], ◌++◌, String, codes, decimal, string_bytes}
use Rattle.std.specs.declared.alloc.Global.{Global}
use Rattle.apt_base.specs.declared.kinds.Claim.{Claim}
use Rattle.apt_base.specs.declared.kinds.Claim.TheVariants as claim
use Rattle.apt_base.specs.declared.kinds.What.{What}
use Rattle.apt_base.specs.declared.kinds.What.TheVariants as what
use Rattle.frame_forms.specs.declared.bad_kind.BadKind.{BadKind}
use Rattle.frame_forms.specs.declared.bad_kind.BadKind.TheVariants as kind
use Rattle.frame_breaches.specs.declared.breach.Breach.{Breach}
use Rattle.frame_breaches.specs.declared.breach.Breach.TheVariants as breach
use Rattle.project_units.specs.Refusals as stop
use Rattle.project_units.specs.Refusals.{Refusal, BadWords, BadConfig, UnknownProcessor, BadStub, BadSource, DuplicateType, BadGenerated, LeavesProtocol, TooManyQuestions, ClaimBroken, GeneratedDuplicate, TooManyRounds, TooLarge, Place, Object, Tree, Sink, Children}
use Rattle.project_reading.specs.Verdicts.{InputFault, SourceFails, HostLeaves, Verdict, Done, Errors, Refused, Failed, Input, Memory}

-- the name of a limit
abbrev pub what_text : What → List ℕ
what_text what.Files = codes "Files"
what_text what.FileBytes = codes "FileBytes"
what_text what.SourceBytes = codes "SourceBytes"
what_text what.StubBytes = codes "StubBytes"
what_text what.ConfigBytes = codes "ConfigBytes"
what_text what.Processors = codes "Processors"
what_text what.Types = codes "Types"
what_text what.Name = codes "Name"
what_text what.Children = codes "Children"
what_text what.Depth = codes "Depth"
what_text what.Frame = codes "Frame"
what_text what.Record = codes "Record"
what_text what.Script = codes "Script"
what_text what.Rounds = codes "Rounds"

abbrev pub claim_text : Claim → List ℕ
claim_text claim.Always = codes "always"
claim_text claim.Never = codes "never"
claim_text claim.Varies = codes "varies"

abbrev pub truth_text : Bool → List ℕ
truth_text true = codes "true"
truth_text false = codes "false"

-- a place in a file of the configuration: the file as a whole, an item as it is, or the number of a line
abbrev pub place_text : Place → List ℕ
place_text stop.Json = codes "json"
place_text (stop.Item item) = item
place_text (stop.Line line) = decimal line

-- what is wrong with a bad byte
abbrev pub bad_kind_text : BadKind → List ℕ
bad_kind_text kind.Length = codes "Length"
bad_kind_text kind.Tag = codes "Tag"
bad_kind_text kind.Field = codes "Field"
bad_kind_text kind.Pattern = codes "Pattern"
bad_kind_text kind.Rest = codes "Rest"

-- the line of a child's leaving the protocol
abbrev pub breach_line : List ℕ → Breach → List ℕ
breach_line processor (breach.Ended got) = codes "refused: ChildEnded(" ++ (processor ++ (codes ", " ++ (decimal got ++ codes ")\n")))
breach_line processor (breach.Bad place kind) =
    codes "refused: BadFrame(" ++ (processor ++ (codes ", " ++ (decimal place ++ (codes ", " ++ (bad_kind_text kind ++ codes ")\n")))))
breach_line processor (breach.Wrong tag) = codes "refused: WrongFrame(" ++ (processor ++ (codes ", " ++ (decimal tag ++ codes ")\n")))

-- the same of the host of a child
abbrev pub host_line : Breach → List ℕ
host_line (breach.Ended got) = codes "refused: InputEnded(" ++ (decimal got ++ codes ")\n")
host_line (breach.Bad place kind) = breach_line (codes "host") (breach.Bad place kind)
host_line (breach.Wrong tag) = breach_line (codes "host") (breach.Wrong tag)

-- the line of a refusal
abbrev pub line_of : Refusal → List ℕ
line_of (BadWords at) = codes "refused: BadWords(" ++ (decimal at ++ codes ")\n")
line_of (BadConfig path place) = codes "refused: BadConfig(" ++ (path ++ (codes ", " ++ (place_text place ++ codes ")\n")))
line_of (UnknownProcessor name) = codes "refused: UnknownProcessor(" ++ (name ++ codes ")\n")
line_of (BadStub path place) = codes "refused: BadStub(" ++ (path ++ (codes ", " ++ (decimal place ++ codes ")\n")))
line_of (BadSource path place) = codes "refused: BadSource(" ++ (path ++ (codes ", " ++ (decimal place ++ codes ")\n")))
line_of (DuplicateType name first second) =
    codes "refused: DuplicateType(" ++ (name ++ (codes ", " ++ (first ++ (codes ", " ++ (second ++ codes ")\n")))))
line_of (BadGenerated path place) = codes "refused: BadGenerated(" ++ (path ++ (codes ", " ++ (decimal place ++ codes ")\n")))
line_of (LeavesProtocol processor breach) = breach_line processor breach
line_of (TooManyQuestions processor most) = codes "refused: TooManyQuestions(" ++ (processor ++ (codes ", " ++ (decimal most ++ codes ")\n")))
line_of (ClaimBroken processor declared said) =
    codes "refused: ClaimBroken(" ++ (processor ++ (codes ", " ++ (claim_text declared ++ (codes ", " ++ (truth_text said ++ codes ")\n")))))
line_of (GeneratedDuplicate name) = codes "refused: GeneratedDuplicate(" ++ (name ++ codes ")\n")
line_of TooManyRounds = codes "refused: TooManyRounds(64)\n"
line_of (TooLarge what limit) = codes "refused: TooLarge(" ++ (what_text what ++ (codes ", " ++ (decimal limit ++ codes ")\n")))

-- a text is the line of this refusal
abbrev pub IsLineOf : Refusal → String Global → Type 0
IsLineOf refusal text = string_bytes text ≡ line_of refusal

abbrev pub line_of_failure : Object → List ℕ
line_of_failure Tree = codes "refused: TreeFault\n"
line_of_failure Sink = codes "refused: SinkFault\n"
line_of_failure (Children processor) = codes "refused: ChildFault(" ++ (processor ++ codes ")\n")

abbrev pub line_of_input : InputFault → List ℕ
line_of_input SourceFails = codes "refused: SourceFault\n"
line_of_input (HostLeaves breach) = host_line breach

-- the line of a call that ended early, where its command has lines; one that ended with a report has none
abbrev pub refusal_of : Verdict → List ℕ
refusal_of Done = []
refusal_of (Errors count) = []
refusal_of (Refused refusal) = line_of refusal
refusal_of (Failed object) = line_of_failure object
refusal_of (Input fault) = line_of_input fault
refusal_of Memory = codes "refused: Memory\n"
