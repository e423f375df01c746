use Rattle.std.proofs.Common.{refl}
use Rattle.frame_reader.proofs.Following.{kept_distinct, kept_patterns}
use Rattle.frame_reader.proofs.fields.FieldsReader.keep.Goals as goal

pub returns-in_ok-insert-in-DistinctTexts-clause-ok : goal.returns-in_ok-insert-in-DistinctTexts-clause-ok
returns-in_ok-insert-in-DistinctTexts-clause-ok c = record { gather = refl; rest = refl; stack = refl; keeps = kept_distinct c.args.rule c.in-DistinctTexts.is c.args.text.now _ _ _ c.in_ok-insert-in-DistinctTexts.ensures.ok }

pub returns-in_ok-insert-in-DistinctPatterns-clause-ok : goal.returns-in_ok-insert-in-DistinctPatterns-clause-ok
returns-in_ok-insert-in-DistinctPatterns-clause-ok c = record { gather = refl; rest = refl; stack = refl; keeps = kept_patterns c.args.rule c.in-DistinctPatterns.is c.args.text.now _ _ _ c.in_ok-insert-in-DistinctPatterns.ensures.ok }
