-- Which files, and which sources of them, a run has made, by its creations.
use Rattle.std.specs.Prelude.{ℕ, Bool, true, false, List, [], ◌∷◌}
use Rattle.std.specs.List.{list_any}
use Rattle.std.specs.FinMap as fin
use Rattle.apt_outside.specs.Files.{Files}
use Rattle.wire_frames.specs.declared.frame.Creation.{Creation}
use Rattle.wire_frames.specs.declared.frame.Creation.TheVariants as creation
use Rattle.apt_filer.specs.Filing.{path_of, content_of}
use Rattle.apt_base.specs.Names.{NameSet, with_name, names_in}

-- files, or names, to which each creation adds what it adds
abbrev pub gathered : {A : Type 0} → (A → Creation → A) → A → List Creation → A
gathered add all [] = all
gathered add all (creation ∷ others) = gathered add (add all creation) others

abbrev pub with_source : Files → Creation → Files
with_source files (creation.Source name content origins) = fin.insert files (path_of (creation.Source name content origins)) content
with_source files (creation.Resource location folder relative content origins) = files
with_source files (creation.Class name content origins) = files

-- the sources among files that were made, by their paths
abbrev pub sources_among : List Creation → Files
sources_among made = gathered with_source fin.empty made

abbrev pub is_source : Creation → Bool
is_source (creation.Source name content origins) = true
is_source (creation.Resource location folder relative content origins) = false
is_source (creation.Class name content origins) = false

-- a source is among files that were made
abbrev pub creates_source : List Creation → Bool
creates_source made = list_any is_source made

-- a source by its name alone
abbrev pub with_unread : NameSet → Creation → NameSet
with_unread names (creation.Source name content origins) = with_name names name
with_unread names (creation.Resource location folder relative content origins) = names
with_unread names (creation.Class name content origins) = names

-- the names of the sources among files that were made, ascending
abbrev pub unread_among : List Creation → List (List ℕ)
unread_among made = names_in (gathered with_unread fin.empty made)

abbrev pub with_file : Files → Creation → Files
with_file files creation = fin.insert files (path_of creation) (content_of creation)

-- the files of a run, by their paths
abbrev pub files_among : List Creation → Files
files_among made = gathered with_file fin.empty made
