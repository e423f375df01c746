-- Limits that several crates keep.
use Rattle.std.specs.Prelude.{ℕ}

-- the bytes of one `.java` file
abbrev pub max_file_bytes : ℕ
max_file_bytes = 8388608

-- the bytes of the canonical name of a type or a package
abbrev pub max_name_bytes : ℕ
max_name_bytes = 1024

-- the children of one element, the implicit ones included
abbrev pub max_children : ℕ
max_children = 65535

-- the nested types, lists of type arguments and values that are open at once, counted together
abbrev pub max_depth : ℕ
max_depth = 200

-- the processors of a project
abbrev pub max_processors : ℕ
max_processors = 64

-- the steps that a question on types goes: each to a supertype, to a bound, or into an argument
abbrev pub max_type_steps : ℕ
max_type_steps = 64
