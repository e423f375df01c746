-- What comparing signatures may take.
use Rattle.std.specs.Prelude.{ℕ}

-- how many steps there are
abbrev pub most_steps : ℕ
most_steps = 1048576
