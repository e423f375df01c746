-- A file that was read, as the grammar has it.
use Rattle.std.specs.Prelude.{ℕ, List, Option, option_map}
use Rattle.decl_tree.specs.declared.annotation.AnnotationText.{AnnotationText}
use Rattle.decl_grammar.specs.declared.written.NameAt.{NameAt}
use Rattle.decl_parser.specs.declared.info_file.PackageText.{PackageText}
use Rattle.decl_parser.specs.declared.info_file.InfoFile.{InfoFile}
use Rattle.decl_parser.specs.declared.file.OrdinaryFile.{OrdinaryFile}
use Rattle.decl_grammar.specs.Form.{Form, maybe}
use Rattle.decl_grammar.specs.Grammar.{Ordinary, Info, annotated_package}

abbrev pub package_view : PackageText → Option (List ℕ) × (List AnnotationText × NameAt)
package_view p = (p.doc, (p.annotations, p.name))

abbrev pub package_seen : Option PackageText → Option (Option (List ℕ) × (List AnnotationText × NameAt))
package_seen p = option_map package_view p

-- a package declaration with its annotations and its doc comment, where there is one
abbrev pub package_or_none : Form (Option (Option (List ℕ) × (List AnnotationText × NameAt)))
package_or_none = maybe annotated_package

abbrev pub info_view : InfoFile → Info
info_view f = (package_seen f.«package», (f.imports, tt))

abbrev pub ordinary_view : OrdinaryFile → Ordinary
ordinary_view f = (f.«package», (f.imports, f.types))
