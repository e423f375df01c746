-- How a filer is told from another, as a value: by what is taken, and by what it accepted.
use Rattle.std.specs.Prelude.{ℕ, List, refl}
use Rattle.std.specs.Coded.{Coded, code_by, coded×, coded_list, coded_ℕ}
use Rattle.apt_base.specs.Names.{NameSet, names_code}
use Rattle.wire_frames.specs.contracts.frame.Creation as creation
use Rattle.wire_frames.specs.declared.frame.Creation.{Creation}
use Rattle.apt_filer.specs.Filing.{Taken, Filings}

abbrev pub taken_of : NameSet → NameSet → ℕ → Taken
taken_of types paths total = record { types = types; paths = paths; total = total }

abbrev pub taken_code : Coded Taken
taken_code = code_by (NameSet × (NameSet × ℕ)) (coded× names_code (coded× names_code coded_ℕ)) (λ t. (t.types, (t.paths, t.total))) (λ p. taken_of p.0 p.1.0 p.1.1) (λ _. refl)

abbrev pub filings_of : Taken → List Creation → Filings
filings_of taken made = record { taken = taken; made = made }

abbrev pub filings_code : Coded Filings
filings_code = code_by (Taken × List Creation) (coded× taken_code (coded_list creation.the_row.coded)) (λ f. (f.taken, f.made)) (λ p. filings_of p.0 p.1) (λ _. refl)
