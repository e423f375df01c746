-- Which files have no name that is too long: the canonical names of the package and of each type, nested ones too (JLS 6.7), have at most 1,024 bytes.
use Rattle.std.specs.Prelude.{ℕ, suc, ◌+◌, Bool, true, ◌&&◌, List, [], ◌∷◌, length, nat_le, Option, None, Some, if◌then◌else◌}
use Rattle.std.specs.List.{list_all}
use Rattle.apt_base.specs.Limits.{max_name_bytes}
use Rattle.decl_tree.specs.declared.declaration.TypeDecl.{TypeDecl}
use Rattle.decl_tree.specs.declared.declaration.Member.TheOpen.{Member-F, TypeDecl-F}
use Rattle.decl_tree.specs.declared.declaration.Member.TheFolds.{fold-TypeDecl, fold-Member}
use Rattle.decl_tree.specs.declared.declaration.Member.{Member}
use Rattle.decl_tree.specs.Legal.{package_start}
use Rattle.decl_grammar.specs.declared.written.TypeAt.{TypeAt}
use Rattle.decl_grammar.specs.Grammar.{Ordinary, Info}
use Rattle.decl_limits.specs.Units.{package_name, PackagePart}

abbrev pub greatest : List ℕ → ℕ
greatest [] = 0
greatest (n ∷ ns) = if nat_le n (greatest ns) then greatest ns else n

-- a dot stands before the name of a member type
abbrev pub member_step : Member-F ℕ ℕ → ℕ
member_step (Member-F.Field field) = 0
member_step (Member-F.Method method) = 0
member_step (Member-F.Constructor constructor) = 0
member_step (Member-F.Constant constant) = 0
member_step (Member-F.Nested bytes) = suc bytes

abbrev pub declaration_step : TypeDecl-F ℕ ℕ → ℕ
declaration_step d = length d.name + greatest d.members

-- the bytes of the longest canonical name of a type and the types in it, from the type's simple name on
unfoldable pub longest : TypeDecl → ℕ
longest = fold-TypeDecl ℕ ℕ member_step declaration_step

unfoldable pub longest_member : Member → ℕ
longest_member = fold-Member ℕ ℕ member_step declaration_step

-- with this many bytes before its simple name no name in a type is too long
abbrev pub fits_behind : ℕ → TypeDecl → Bool
fits_behind start d = nat_le (start + longest d) max_name_bytes

abbrev pub type_named : ℕ → Option TypeAt → Bool
type_named start None = true
type_named start (Some d) = fits_behind start d.declaration

-- the package counts also where the file has no type
abbrev pub is_named : Ordinary → Bool
is_named x = nat_le (length (package_name x.0)) max_name_bytes && list_all (type_named (package_start (package_name x.0))) x.1.1

abbrev pub named_package : Option PackagePart → List ℕ
named_package None = []
named_package (Some p) = p.1.1.name

abbrev pub info_named : Info → Bool
info_named x = nat_le (length (named_package x.0)) max_name_bytes
