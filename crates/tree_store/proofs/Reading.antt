-- How the sources of a project come path by path.
use Rattle.std.proofs.Common.{◌≡◌, ℕ, ◌+◌, ◌<◌, List, [], ◌∷◌, ◌++◌, length, get_or, map, take, filter_map, Option, None, Some, option_to_list, string_bytes, String, refl, sym, ap, ◌∙◌, append-nil}
use Rattle.std.specs.declared.alloc.Global.{Global}
use Rattle.std.proofs.lemmas.List.{take_more, map-append}
use Rattle.std.proofs.lemmas.List.Elements.{filter_map-append}
use Rattle.tree_store.specs.declared.sources.RawSource.{RawSource}

filter_map-one : (h : List ℕ → Option RawSource) (path : List ℕ) (found : Option RawSource) → found ≡ h path → filter_map h (path ∷ []) ≡ option_to_list found
filter_map-one h path None is = rw (← is) refl
filter_map-one h path (Some source) is = rw (← is) refl

module _ (h : List ℕ → Option RawSource) (paths : List (String Global)) (i : ℕ) (path : String Global) (below : i < length paths) (at : path ≡ get_or paths i path) (sources : List RawSource) (so_far : sources ≡ filter_map h (map string_bytes (take i paths))) where
  -- what one path more gives
  one_more : (found : Option RawSource) → found ≡ h (string_bytes path) → sources ++ option_to_list found ≡ filter_map h (map string_bytes (take (i + 1) paths))
  one_more found is =
      let next : take (i + 1) paths ≡ take i paths ++ path ∷ [] = take_more paths i path below ∙ ap (λ (p : String Global). take i paths ++ p ∷ []) (sym at) in
      rw (next, map-append, filter_map-append) (ap (λ (rs : List RawSource). rs ++ option_to_list found) so_far ∙ ap (λ (rs : List RawSource). filter_map h (map string_bytes (take i paths)) ++ rs) (sym (filter_map-one h (string_bytes path) found is)))

  pub source_more : (source : RawSource) → Some source ≡ h (string_bytes path) → sources ++ source ∷ [] ≡ filter_map h (map string_bytes (take (i + 1) paths))
  source_more source is = one_more (Some source) is

  pub none_more : None ≡ h (string_bytes path) → sources ≡ filter_map h (map string_bytes (take (i + 1) paths))
  none_more is = sym (append-nil sources) ∙ one_more None is
