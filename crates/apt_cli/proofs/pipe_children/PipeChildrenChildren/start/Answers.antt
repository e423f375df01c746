use Rattle.std.proofs.Common.{rules}
use Rattle.std.proofs.lemmas.List.{map-append}
use Rattle.apt_cli.proofs.Numbers.{fresh_above}
use Rattle.apt_cli.proofs.pipe_children.PipeChildrenChildren.start.Goals as goal

pub returns-clause-live : goal.returns-clause-live
returns-clause-live g c = record {
  joined = search (rules, map-append);
  fresh = fresh_above (λ r. r.number) c.args.self.now.starts c.args.self.now.running.items c.args.self.now.numbered;
  refused = tt;
}
