use Rattle.std.proofs.Common.{◌≡◌, ◌+◌, drop, map, string_bytes}
use Rattle.apt_host.specs.Words.{build_from, build_of}
use Rattle.apt_host.proofs.words.read_build.Given as goal

-- the words that are left decide
abbrev pub invariant-loop-index : goal.invariant-loop-index
invariant-loop-index l = build_from (l.index + 1) l.full l.options (map string_bytes (drop l.index l.words)) ≡ build_of (map string_bytes l.words)
