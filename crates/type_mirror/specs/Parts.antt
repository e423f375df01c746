-- What mirrors are made of, and what they hold directly, from left to right.
use Rattle.std.specs.Prelude.{List, [], ◌∷◌, ◌++◌}
use Rattle.std.specs.Option.{option_to_list}
use Rattle.apt_base.specs.declared.around.Around.{Around}
use Rattle.type_mirror.specs.declared.mirror.BaseMirror.{BaseMirror}
use Rattle.type_mirror.specs.declared.mirror.BaseMirror.TheOpen.{BaseMirror-F, DeclaredMirror-F, ExecutableMirror-F}
use Rattle.type_mirror.specs.declared.mirror.Mirror.{Mirror, roll-Mirror, out-Mirror}

-- a mirror around whose base nothing stands
abbrev pub plain : BaseMirror → Mirror
plain base = roll-Mirror (record { around = []; base = base })

-- a mirror with more around it, further out
abbrev pub wrapped : List Around → Mirror → Mirror
wrapped around inner = roll-Mirror (record { around = around ++ (out-Mirror inner).around; base = (out-Mirror inner).base })

-- ---- what is known of each mirror that a base holds

-- the enclosing type, where there is one, and the type arguments
abbrev pub declared_parts : {A : Type 0} → DeclaredMirror-F A (List A) (List A) A → List A
declared_parts declared = option_to_list declared.enclosing ++ declared.arguments

-- the types of the parameters, of the result and of what is thrown
abbrev pub executable_parts : {A : Type 0} → ExecutableMirror-F A (List A) (List A) A → List A
executable_parts executable = executable.parameters ++ executable.result ∷ executable.thrown

abbrev pub base_parts : {A : Type 0} → BaseMirror-F A (List A) (List A) A → List A
base_parts (BaseMirror-F.Declared parts) = parts
base_parts (BaseMirror-F.Executable parts) = parts
base_parts other = []
