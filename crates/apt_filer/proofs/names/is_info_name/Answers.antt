use Rattle.std.proofs.Common.{sym, codes}
use Rattle.std.proofs.lemmas.Bool.{and_left}
use Rattle.apt_filer.proofs.NamesLemmas.{ends_with-none}
use Rattle.apt_filer.proofs.names.is_info_name.Goals as goal

pub returns-in-None : goal.returns-in-None
returns-in-None c = sym (and_left _ _ (ends_with-none c.args.text.now (codes ".package-info") c.in-None.ensures.cases))
