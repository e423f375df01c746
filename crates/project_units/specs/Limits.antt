-- The limits of a build. A quantity that passes one is refused.
use Rattle.std.specs.Prelude.{ℕ}
use Rattle.apt_base.specs.Limits.{max_children, max_depth, max_file_bytes, max_name_bytes, max_processors}
use Rattle.apt_base.specs.declared.kinds.What.{What}
use Rattle.apt_base.specs.declared.kinds.What.TheVariants as what

abbrev pub limit_of : What → ℕ
limit_of what.Files = 20000
limit_of what.FileBytes = max_file_bytes
limit_of what.SourceBytes = 67108864
limit_of what.StubBytes = 16777216
limit_of what.ConfigBytes = 1048576
limit_of what.Processors = max_processors
limit_of what.Types = 50000
limit_of what.Name = max_name_bytes
limit_of what.Children = max_children
limit_of what.Depth = max_depth
limit_of what.Frame = 134217728
limit_of what.Record = 1073741824
limit_of what.Script = 67108864
limit_of what.Rounds = 64
