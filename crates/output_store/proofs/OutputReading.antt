-- The published output as a build reads it, from what is read of the tree.
use Rattle.std.proofs.Common.{◌≡◌, ℕ, List, Option, None, Some, IfSome, ap, ◌∙◌}
use Rattle.apt_outside.specs.Files.{Files}
use Rattle.output_store.specs.declared.recorded.RecordFile.{RecordFile}
use Rattle.output_store.specs.declared.recorded.RecordFile.TheVariants.{Absent, Damaged, Present}
use Rattle.output_store.specs.Output.{files_named}
use Rattle.output_store.specs.Reading.{record_file, record_held, named_by, missing_of, stored_of, output_with, raw_output, IsReadable, FitNamed, KeepsToRecord}
use Rattle.output_store.proofs.RecordReading.{named_by-file}

-- the file of the record of a tree names what its record names
pub named_as_read : (files : Files) (file : RecordFile) → file ≡ record_file files → named_by file ≡ files_named files
named_as_read files file is = ap named_by is ∙ named_by-file files

-- the file of the record, and the store files that it names, are the output
pub raw_as_read : (files : Files) (file : RecordFile) (missing : Option (List ℕ)) (stored : List (ℕ × List ℕ)) → file ≡ record_file files → missing ≡ missing_of files (named_by file) → stored ≡ stored_of files (named_by file)
    → output_with file missing stored ≡ raw_output files
raw_as_read files file missing stored is is_missing is_stored =
    let named : named_by file ≡ files_named files = named_as_read files file is in
    let here : missing ≡ missing_of files (files_named files) = is_missing ∙ ap (missing_of files) named in
    let there : stored ≡ stored_of files (files_named files) = is_stored ∙ ap (stored_of files) named in
    λ i. output_with (is i) (here i) (there i)

-- what fits the files of a record that is read is an output that keeps to it
pub keeps_to_record : (file : RecordFile) (missing : Option (List ℕ)) (stored : List (ℕ × List ℕ)) → IfSome (record_held file) IsReadable → FitNamed (named_by file) missing stored → KeepsToRecord (output_with file missing stored)
keeps_to_record Absent missing stored readable fit = tt
keeps_to_record Damaged missing stored readable fit = tt
keeps_to_record (Present old) None stored readable fit = (readable, fit)
keeps_to_record (Present old) (Some path) stored readable fit = (readable, fit)
