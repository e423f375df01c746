-- Files in the order of their paths are read one after another, so the one that stops the reading is the least that is refused.
use Rattle.std.proofs.Common.{◌≡◌, ℕ, List, [], ◌∷◌, ◌++◌, Result, Ok, Err, refl, sym, ap, ◌∙◌}
use Rattle.std.specs.List.{AllByRecursion}
use Rattle.std.specs.Ordering.{nat_cmp, ordering_reverse}
use Rattle.std.specs.Cmp.Lexicographic.{slice_cmp, nat_list_cmp_total}
use Rattle.std.specs.declared.cmp.Ordering.TheVariants.{Less, Greater}
use Rattle.element_table.specs.declared.part.Part.{Part}
use Rattle.element_table.specs.declared.part.Part.TheVariants.{Source, Stub}
use Rattle.tree_store.specs.declared.sources.RawSource.{RawSource}
use Rattle.tree_store.specs.Sources.{IsBefore, Ascend}
use Rattle.tree_store.proofs.Ascending.{files_ascend}
use Rattle.project_units.specs.Refusals.{Refusal}
use Rattle.project_units.specs.Units.{and_then}
use Rattle.project_reading.specs.declared.sources.ReadSource.{ReadSource}
use Rattle.project_reading.specs.Project.{read_source, read_from, IsRead, IsLeast, LeastIsRefused}

-- no path is before one that is before it, and none before itself
not_both : (path other : List ℕ) → IsBefore path other → IsBefore other path → ⊥
not_both path other is back =
    let turned : slice_cmp nat_cmp path other ≡ ordering_reverse (slice_cmp nat_cmp other path) = nat_list_cmp_total.antisymm path other in
    let same : Less ≡ Greater = sym is ∙ turned ∙ ap ordering_reverse back in
    cc

module _ (part : Part) (refusal : Refusal) where
  abbrev Lesser : RawSource → RawSource → Type 0
  Lesser source other = IsBefore other.path source.path → IsRead part other

  -- those behind the one that is refused have no lesser path
  behind : (source : RawSource) (sources : List RawSource) → AllByRecursion (λ (later : RawSource). IsBefore source.path later.path) sources → AllByRecursion (Lesser source) sources
  behind source [] all = tt
  behind source (later ∷ sources) all = ((λ is. absurd (not_both source.path later.path all.0 is)), behind source sources all.1)

  at_least : (source : RawSource) (sources : List RawSource) → Ascend (source ∷ sources) → read_source part source ≡ Err refusal → IsLeast part (source ∷ sources) refusal
  at_least source sources ascend is = record {
    before = [];
    source = source;
    after = sources;
    split = refl;
    refused = is;
    lesser = ((λ less. absurd (not_both source.path source.path less less)), behind source sources ascend.0);
  }

  further : (source : RawSource) (sources : List RawSource) → IsRead part source → IsLeast part sources refusal → IsLeast part (source ∷ sources) refusal
  further source sources read least = record {
    before = source ∷ least.before;
    source = least.source;
    after = least.after;
    split = ap (λ rest. source ∷ rest) least.split;
    refused = least.refused;
    lesser = ((λ less. read), least.lesser);
  }

  abbrev why_of : Result (List ReadSource) Refusal → Refusal
  why_of (Ok read) = refusal
  why_of (Err why) = why

  by_source : (done : List ReadSource) (source : RawSource) (sources : List RawSource) (outcome : Result ReadSource Refusal) → read_source part source ≡ outcome → Ascend (source ∷ sources)
      → ((read : ReadSource) → read_from part (done ++ read ∷ []) sources ≡ Err refusal → IsLeast part sources refusal)
      → and_then outcome (λ r. read_from part (done ++ r ∷ []) sources) ≡ Err refusal → IsLeast part (source ∷ sources) refusal
  by_source done source sources (Err why) is ascend then e = at_least source sources ascend (is ∙ ap Err (ap why_of e))
  by_source done source sources (Ok read) is ascend then e = further source sources (read, is) (then read e)

  least_of : (done : List ReadSource) (sources : List RawSource) → Ascend sources → read_from part done sources ≡ Err refusal → IsLeast part sources refusal
  least_of done [] ascend is = absurd (let e : Ok done ≡ Err refusal = is in cc)
  least_of done (source ∷ sources) ascend is = by_source done source sources (read_source part source) refl ascend (λ read. least_of (done ++ read ∷ []) sources ascend.1) is

pub least_is_refused : LeastIsRefused
least_is_refused = record {
  stubs = λ files raw refusal are is. least_of Stub refusal [] raw.stubs (files_ascend files raw are).1 is;
  sources = λ files raw refusal are is. least_of Source refusal [] raw.sources (files_ascend files raw are).0 is;
}
