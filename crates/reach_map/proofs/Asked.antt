-- What a look-up asks for is a candidate.
use Rattle.std.proofs.Common.{◌≡◌, ℕ, zero, suc, Bool, true, false, List, [], ◌∷◌, ◌++◌, Option, None, Some, take, if◌then◌else◌, eqb, refl, sym, ap, subst, ◌∙◌}
use Rattle.std.proofs.lemmas.Bool.{eqb-true}
use Rattle.std.specs.List.{AllByRecursion, flat_map}
use Rattle.apt_base.specs.Identifiers.{to_first, parts}
use Rattle.decl_tree.specs.declared.type_text.TypeText.{TypeText}
use Rattle.decl_tree.specs.declared.declaration.TypeKind.{TypeKind}
use Rattle.decl_tree.specs.declared.declaration.TypeKind.TheVariants as kind
use Rattle.decl_tree.specs.declared.declaration.TypeDecl.{TypeDecl}
use Rattle.decl_tree.specs.declared.compilation.ImportKind.{ImportKind}
use Rattle.decl_tree.specs.declared.compilation.ImportKind.TheVariants as import
use Rattle.decl_tree.specs.declared.compilation.UnitText.{UnitText}
use Rattle.name_resolve.specs.Ways.{type_at}
use Rattle.name_resolve.specs.QualifiedNames.{Prefix, prefixes_after, prefixes}
use Rattle.name_resolve.specs.Finds.{Find}
use Rattle.name_resolve.specs.Supertypes.{Supertype, Written, is_object, written_or_object, superclass_in, interfaces_in, supertypes_in, supertypes}
use Rattle.name_resolve.specs.Meaning.{but_last}
use Rattle.name_resolve.proofs.Agreement.{ImportAsks, Asks, SupertypeAsks}
use Rattle.reach_map.specs.Chains.{of_option, type_chains, unit_chains}
use Rattle.reach_map.specs.Candidates.{prefix_names, on_demand_name, chain_candidates, implied_names, candidates}
use Rattle.decl_elements.proofs.Everywhere.{OfSome, each_left, each_right, each_append, each_of_map, each_map, each_of_flat_map, each_to, each_both}
use Rattle.reach_map.proofs.WrittenChains.{OfHeader, of_type, of_superclass, of_interfaces, in_type_at}

-- ---- the parts of a name, joined again

joined : List ℕ → List (List ℕ) → List ℕ
joined before [] = before
joined before (name ∷ names) = joined (before ++ 46 ∷ name) names

abbrev JoinsTo : List (List ℕ) → List ℕ → Type 0
JoinsTo [] text = ⊥
JoinsTo (name ∷ names) text = joined name names ≡ text

joined_cons : (c : ℕ) (before : List ℕ) (names : List (List ℕ)) → joined (c ∷ before) names ≡ c ∷ joined before names
unfolding joined
joined_cons c before [] = refl
joined_cons c before (name ∷ names) = joined_cons c (before ++ 46 ∷ name) names

behind_dot : (ps : List (List ℕ)) (cs : List ℕ) → JoinsTo ps cs → JoinsTo ([] ∷ ps) (46 ∷ cs)
unfolding joined
behind_dot [] cs j = absurd j
behind_dot (name ∷ names) cs j = joined_cons 46 name names ∙ ap (λ t. 46 ∷ t) j

behind : (c : ℕ) (ps : List (List ℕ)) (cs : List ℕ) → JoinsTo ps cs → JoinsTo (to_first c ps) (c ∷ cs)
unfolding joined
behind c [] cs j = absurd j
behind c (name ∷ names) cs j = joined_cons c name names ∙ ap (λ t. c ∷ t) j

parts-join : (text : List ℕ) → JoinsTo (parts text) text
unfolding joined
parts-join [] = refl
parts-join (c ∷ cs) = at (eqb c 46) refl (parts-join cs)
  where
    at : (b : Bool) → eqb c 46 ≡ b → JoinsTo (parts cs) cs → JoinsTo (if b then [] ∷ parts cs else to_first c (parts cs)) (c ∷ cs)
    at true e j = let P : ℕ → Type 0 = λ n. JoinsTo ([] ∷ parts cs) (n ∷ cs) in subst P (sym (eqb-true c 46 e)) (behind_dot (parts cs) cs j)
    at false e j = behind c (parts cs) cs j

-- ---- prefixes

module _ (P : List ℕ → Type 0) where
  abbrev EachPrefix : List Prefix → Type 0
  EachPrefix ps = AllByRecursion (λ p. P p.joined) ps

  front_after : (before : List ℕ) (names : List (List ℕ)) → EachPrefix (prefixes_after before names) → EachPrefix (prefixes_after before (but_last names))
  front_after before [] a = tt
  front_after before (last ∷ []) a = tt
  front_after before (first ∷ next ∷ more) a = (a.0, front_after (before ++ 46 ∷ first) (next ∷ more) a.1)

  pub front : (names : List (List ℕ)) → EachPrefix (prefixes names) → EachPrefix (prefixes (but_last names))
  front [] a = tt
  front (last ∷ []) a = tt
  front (first ∷ next ∷ more) a = (a.0, front_after first (next ∷ more) a.1)

  longer_after : (name before : List ℕ) (names : List (List ℕ)) → EachPrefix (prefixes_after before names) → P (joined before names ++ 46 ∷ name) → EachPrefix (prefixes_after before (names ++ name ∷ []))
  unfolding joined
  longer_after name before [] a p = (p, tt)
  longer_after name before (first ∷ more) a p = (a.0, longer_after name (before ++ 46 ∷ first) more a.1 p)

  longer : (name text : List ℕ) → EachPrefix (prefixes (parts text)) → P (text ++ 46 ∷ name) → EachPrefix (prefixes (parts text ++ name ∷ []))
  longer name text a p = at (parts text) (parts-join text) a
    where
      at : (ps : List (List ℕ)) → JoinsTo ps text → EachPrefix (prefixes ps) → EachPrefix (prefixes (ps ++ name ∷ []))
      at [] j a = absurd j
      at (first ∷ more) j a = let Q : List ℕ → Type 0 = λ t. P (t ++ 46 ∷ name) in (a.0, longer_after name first more a.1 (subst Q (sym j) p))

  -- a whole name is the last of its prefixes
  whole_after : (before : List ℕ) (names : List (List ℕ)) → P before → EachPrefix (prefixes_after before names) → P (joined before names)
  unfolding joined
  whole_after before [] p a = p
  whole_after before (name ∷ names) p a = whole_after (before ++ 46 ∷ name) names a.0 a.1

  whole : (text : List ℕ) → EachPrefix (prefixes (parts text)) → P text
  whole text a = at (parts text) (parts-join text) a
    where
      at : (ps : List (List ℕ)) → JoinsTo ps text → EachPrefix (prefixes ps) → P text
      at [] j a = absurd j
      at (first ∷ more) j a = subst P j (whole_after first more a.0 a.1)

  -- ---- imports, simple and qualified names

  import_asks : (name text : List ℕ) (kind : ImportKind) → EachPrefix (prefixes (parts text)) → AllByRecursion P (on_demand_name text name kind) → ImportAsks P name (parts text) kind
  import_asks name text import.Single a d = a
  import_asks name text import.StaticSingle a d = front (parts text) a
  import_asks name text import.OnDemand a d = longer name text a d.0
  import_asks name text import.StaticOnDemand a d = a

  abbrev OfImports : UnitText → Type 0
  OfImports u = AllByRecursion (λ i. EachPrefix (prefixes (parts i.name))) u.imports

  chain_asks : (u : UnitText) → OfImports u → (chain : List (List ℕ)) → AllByRecursion P (chain_candidates u chain) → Asks P u chain
  chain_asks u imports [] a = tt
  chain_asks u imports (first ∷ others) a =
      let own = each_of_map P (λ p. p.joined) (prefixes (first ∷ others)) (each_left P (prefix_names (first ∷ others)) _ a) in
      let other = each_right P (prefix_names (first ∷ others)) _ a in (
        record {
          beside = other.0;
          lang = other.1.0;
          imports = each_both _ _ _ (λ i. import_asks first i.name i.kind) u.imports imports (each_of_flat_map P (λ i. on_demand_name i.name first i.kind) u.imports other.1.1);
        },
        own,
      )

  -- the first names of a chain ask for no more than the chain
  shorter_after : (before : List ℕ) (names : List (List ℕ)) (k : ℕ) → EachPrefix (prefixes_after before names) → EachPrefix (prefixes_after before (take k names))
  shorter_after before [] zero a = tt
  shorter_after before [] (suc k) a = tt
  shorter_after before (first ∷ more) zero a = tt
  shorter_after before (first ∷ more) (suc k) a = (a.0, shorter_after (before ++ 46 ∷ first) more k a.1)

  pub shorter_asks : (u : UnitText) (chain : List (List ℕ)) (k : ℕ) → Asks P u chain → Asks P u (take k chain)
  shorter_asks u [] zero a = tt
  shorter_asks u [] (suc k) a = tt
  shorter_asks u (first ∷ others) zero a = tt
  shorter_asks u (first ∷ others) (suc k) a = (a.0, (a.1.0, shorter_after first others k a.1.1))

  -- ---- a unit whose candidates all have P

  module _ (u : UnitText) (each_candidate : AllByRecursion P (candidates u)) where
    after_own : AllByRecursion P (flat_map (chain_candidates u) (unit_chains u) ++ flat_map (λ i. prefix_names (parts i.name)) u.imports ++ flat_map (λ name. prefix_names (parts name)) implied_names)
    unfolding candidates
    after_own = each_candidate.1.1

    of_imports : OfImports u
    of_imports =
        each_to _ (λ i. EachPrefix (prefixes (parts i.name))) (λ i a. each_of_map P (λ p. p.joined) (prefixes (parts i.name)) a) u.imports
        (each_of_flat_map P (λ i. prefix_names (parts i.name)) u.imports (each_right P (flat_map (chain_candidates u) (unit_chains u)) _ (each_left P _ _ after_own)))

    -- each chain of the unit asks for candidates alone
    pub chains_ask : AllByRecursion (Asks P u) (unit_chains u)
    chains_ask =
        each_to _ (Asks P u) (chain_asks u of_imports) (unit_chains u)
        (each_of_flat_map P (chain_candidates u) (unit_chains u) (each_left P _ _ (each_left P _ _ after_own)))

    pub of_implied : AllByRecursion P implied_names
    of_implied =
        each_to _ P (λ name a. whole name (each_of_map P (λ p. p.joined) (prefixes (parts name)) a)) implied_names
        (each_of_flat_map P (λ name. prefix_names (parts name)) implied_names
        (each_right P (flat_map (chain_candidates u) (unit_chains u) ++ flat_map (λ i. prefix_names (parts i.name)) u.imports) _ after_own))

    abbrev Asks-of : Supertype → Type 0
    Asks-of = SupertypeAsks P u

    of_written : (t : Option TypeText) → AllByRecursion (Asks P u) (of_option type_chains t) → AllByRecursion Asks-of (written_or_object t)
    of_written None a = (of_implied.0, tt)
    of_written (Some text) a = (of_type (Asks P u) tt text a, tt)

    of_superclass_in : (of_object : Bool) (k : TypeKind) (d : TypeDecl) → OfHeader (Asks P u) d → AllByRecursion Asks-of (superclass_in of_object k d)
    of_superclass_in true kind.Class d a = tt
    of_superclass_in false kind.Class d a = of_written d.superclass (of_superclass (Asks P u) tt d a)
    of_superclass_in b kind.Enum d a = (of_implied.1.0, tt)
    of_superclass_in b kind.AnnotationType d a = tt
    of_superclass_in b kind.Interface d a = tt

    of_interfaces_in : (k : TypeKind) (d : TypeDecl) → OfHeader (Asks P u) d → AllByRecursion Asks-of (interfaces_in k d)
    of_interfaces_in kind.Class d a = each_map Asks-of Written d.interfaces (of_interfaces (Asks P u) tt d a)
    of_interfaces_in kind.Enum d a = each_map Asks-of Written d.interfaces (of_interfaces (Asks P u) tt d a)
    of_interfaces_in kind.AnnotationType d a = (of_implied.1.1.0, tt)
    of_interfaces_in kind.Interface d a = each_map Asks-of Written d.interfaces (of_interfaces (Asks P u) tt d a)

    of_supertypes_in : (of_object : Bool) (d : Option TypeDecl) → OfSome (λ d. OfHeader (Asks P u) d) d → AllByRecursion Asks-of (supertypes_in of_object d)
    of_supertypes_in b None a = tt
    of_supertypes_in b (Some d) a = each_append Asks-of _ _ (of_superclass_in b d.kind d a) (of_interfaces_in d.kind d a)

  -- the supertypes of a type ask for candidates of its unit alone
  pub supertypes_ask : (f : Find) → AllByRecursion P (candidates f.unit) → AllByRecursion (SupertypeAsks P f.unit) (supertypes f)
  unfolding supertypes
  supertypes_ask f a = of_supertypes_in f.unit a (is_object f) (type_at f.unit f.path) (in_type_at (Asks P f.unit) tt f.unit (chains_ask f.unit a) f.path)
