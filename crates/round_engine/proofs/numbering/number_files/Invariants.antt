use Rattle.std.proofs.Common.{◌≡◌, ◌++◌, All, map}
use Rattle.std.specs.FinMap as fin
use Rattle.apt_outside.specs.Held.{shown_file}
use Rattle.round_engine.specs.Numbered.{shown_made, number_of, HasText, IsWritten, Fits}
use Rattle.round_engine.proofs.NumberingLemmas.{Stands}
use Rattle.round_engine.proofs.numbering.number_files.Given as goal

-- the files so far, and what is left of the map
abbrev pub invariant-loop-path : goal.invariant-loop-path
invariant-loop-path l = record {
  files : map shown_made l.files ++ map shown_file l.path-iterator ≡ fin.entries l.fn.made;
  numbers : Stands l.taken (map number_of l.files) l.numbers.taken.now l.numbers.next;
  texts : All HasText l.files;
  written : All IsWritten l.files;
  sizes : All Fits l.files;
}
