-- Names in one member of a type, as functions that go over members look at them.
use Rattle.std.specs.Prelude.{ℕ, ◌+◌, Bool, nat_le}
use Rattle.apt_base.specs.Limits.{max_name_bytes}
use Rattle.decl_tree.specs.declared.declaration.Member.{Member}
use Rattle.decl_limits.specs.Names.{longest_member}

-- with this many bytes before the dot behind the type's name no name in the member is too long
abbrev pub member_fits_behind : ℕ → Member → Bool
member_fits_behind start m = nat_le (start + longest_member m) max_name_bytes
