use Rattle.std.proofs.Common.{refl, ◌∙◌, sym, string_bytes}
use Rattle.decl_names.proofs.ImportRests.{import-none}
use Rattle.decl_names.proofs.imports.deeper_import_of.Goals as goal

pub returns : goal.returns
returns c = (c.args.symbols.now, import-none c.args.room (string_bytes c.args.front) c.args.symbols.now (sym c.is_next.ensures ∙ c.if-is_next.false), refl)
