-- Where two tables agree on the names that a look-up asks for, it finds the same in both.
use Rattle.std.proofs.Common.{◌≡◌, ℕ, zero, suc, Bool, true, false, List, [], ◌∷◌, ◌++◌, map, Option, None, Some, codes, if◌then◌else◌, refl, subst}
use Rattle.std.specs.List.{AllByRecursion, fold, list_any, enumerate_from}
use Rattle.std.specs.Str.{bytes_eq}
use Rattle.apt_base.specs.Identifiers.{parts}
use Rattle.decl_tree.specs.declared.compilation.ImportKind.{ImportKind}
use Rattle.decl_tree.specs.declared.compilation.ImportKind.TheVariants as import
use Rattle.decl_tree.specs.declared.compilation.Import.{Import}
use Rattle.decl_tree.specs.declared.compilation.UnitText.{UnitText}
use Rattle.element_table.specs.declared.part.Part.{Part}
use Rattle.decl_elements.specs.Nodes.{Node, children}
use Rattle.decl_elements.specs.Walk.{Place}
use Rattle.name_resolve.specs.Ways.{around, node_at}
use Rattle.name_resolve.specs.QualifiedNames.{Prefix, prefixes}
use Rattle.element_table.specs.UnitNames.{in_package}
use Rattle.name_resolve.specs.Finds.{Find, Finds, Nothing, One, Several, same_find, both, first_of, one_if, is_type_named, is_parameter_named, parameters_at, types_at, types_in, declared_types}
use Rattle.name_resolve.specs.Supertypes.{Supertype, Written, Implied, supertypes, names_in}
use Rattle.name_resolve.specs.Meaning.{Tops, Members, Scope, Within, Header, scope_at, members_of, along, along_or, by_prefix, imported, ends_in, but_last, single_by, on_demand_by, single_import, on_demand_import, in_element, in_elements, in_header, in_scope, in_unit, simple, qualifier, found, supertype_found, inherited, members_within}

-- a fact of each name that an import is looked up by, for a simple name
abbrev pub ImportAsks : (List ℕ → Type 0) → List ℕ → List (List ℕ) → ImportKind → Type 0
ImportAsks P name names import.Single = AllByRecursion (λ p. P p.joined) (prefixes names)
ImportAsks P name names import.StaticSingle = AllByRecursion (λ p. P p.joined) (prefixes (but_last names))
ImportAsks P name names import.OnDemand = AllByRecursion (λ p. P p.joined) (prefixes (names ++ name ∷ []))
ImportAsks P name names import.StaticOnDemand = AllByRecursion (λ p. P p.joined) (prefixes names)

-- a fact of each name of a unit that a look-up of a simple name asks for
pub record SimpleAsks (P : List ℕ → Type 0) (u : UnitText) (name : List ℕ) : Type 0 where
  pub beside : P (in_package u.«package» name)
  pub lang : P (in_package (codes "java.lang") name)
  pub imports : AllByRecursion (λ i. ImportAsks P name (parts i.name) i.kind) u.imports

-- the same of a qualified name
abbrev pub Asks : (List ℕ → Type 0) → UnitText → List (List ℕ) → Type 0
Asks P u [] = Unit {0}
Asks P u (name ∷ names) = SimpleAsks P u name × AllByRecursion (λ p. P p.joined) (prefixes (name ∷ names))

abbrev pub SupertypeAsks : (List ℕ → Type 0) → UnitText → Supertype → Type 0
SupertypeAsks P u (Written text) = Asks P u (names_in text)
SupertypeAsks P u (Implied name) = P name

-- ---- the finds are of good units, at which the tables agree

module _ (tops tops' : Tops) (Good : Part → UnitText → Type 0) where
  abbrev pub IsGood : Find → Type 0
  IsGood f = Good f.part f.unit

  abbrev pub AreGood : Finds → Type 0
  AreGood Nothing = Unit {0}
  AreGood (One f) = IsGood f
  AreGood Several = Unit {0}

  pub record Same (one other : Finds) : Type 0 where
    pub equal : one ≡ other
    pub good : AreGood one

  abbrev pub SameTops : Part → List ℕ → Type 0
  SameTops part name = Same (tops part name) (tops' part name)

  abbrev pub SameMembers : Members → Members → Type 0
  SameMembers m m' = (f : Find) → IsGood f → (name : List ℕ) → Same (m f name) (m' f name)

  -- ---- finds

  same_none : Same Nothing Nothing
  same_none = record { equal = refl; good = tt }

  -- what is made of the same finds on both sides is the same, if it is of the finds of one side
  of_equal : (F F' : Finds → Finds) (x y : Finds) → Same x y → (AreGood x → Same (F x) (F' x)) → Same (F x) (F' y)
  of_equal F F' x y s t = let P : Finds → Type 0 = λ z. Same (F x) (F' z) in subst P s.equal (t s.good)

  both-good : (x y : Finds) → AreGood x → AreGood y → AreGood (both x y)
  both-good Nothing y p q = q
  both-good (One f) Nothing p q = p
  both-good (One f) (One g) p q = elim (same_find f g) as (λ b. AreGood (if b then One f else Several)) [ true ↦ p | false ↦ tt ]
  both-good (One f) Several p q = tt
  both-good Several y p q = tt

  both-same : (x x' y y' : Finds) → Same x x' → Same y y' → Same (both x y) (both x' y')
  both-same x x' y y' s t = record { equal = rw (s.equal, t.equal) refl; good = both-good x y s.good t.good }

  fold-same : {A : Type 0} (P : A → Type 0) (h h' : A → Finds) → ((x : A) → P x → Same (h x) (h' x)) → (xs : List A) → AllByRecursion P xs
      → (a a' : Finds) → Same a a' → Same (fold both a (map h xs)) (fold both a' (map h' xs))
  fold-same P h h' s [] all a a' t = t
  fold-same P h h' s (x ∷ xs) all a a' t = fold-same P h h' s xs all.1 (both a (h x)) (both a' (h' x)) (both-same a a' (h x) (h' x) t (s x all.0))

  first-same : (x x' y y' : Finds) → Same x x' → Same y y' → Same (first_of (x ∷ y ∷ [])) (first_of (x' ∷ y' ∷ []))
  first-same x x' y y' s t = of_equal (λ z. first_of (z ∷ y ∷ [])) (λ z. first_of (z ∷ y' ∷ [])) x x' s (at x)
    where
      second : (y y' : Finds) → Same y y' → Same (first_of (y ∷ [])) (first_of (y' ∷ []))
      second y y' t = of_equal (λ z. first_of (z ∷ [])) (λ z. first_of (z ∷ [])) y y' t (alone y)
        where
          alone : (z : Finds) → AreGood z → Same (first_of (z ∷ [])) (first_of (z ∷ []))
          alone Nothing g = same_none
          alone (One f) g = record { equal = refl; good = g }
          alone Several g = record { equal = refl; good = tt }

      at : (z : Finds) → AreGood z → Same (first_of (z ∷ y ∷ [])) (first_of (z ∷ y' ∷ []))
      at Nothing g = second y y' t
      at (One f) g = record { equal = refl; good = g }
      at Several g = record { equal = refl; good = tt }

  first_more : (x x' : Finds) (ys ys' : List Finds) → Same x x' → Same (first_of ys) (first_of ys') → Same (first_of (x ∷ ys)) (first_of (x' ∷ ys'))
  first_more x x' ys ys' s t = of_equal (λ z. first_of (z ∷ ys)) (λ z. first_of (z ∷ ys')) x x' s (at x)
    where
      at : (z : Finds) → AreGood z → Same (first_of (z ∷ ys)) (first_of (z ∷ ys'))
      at Nothing g = t
      at (One f) g = record { equal = refl; good = g }
      at Several g = record { equal = refl; good = tt }

  -- ---- members

  members_of-same : (m m' : Members) → SameMembers m m' → (x x' : Finds) → Same x x' → (name : List ℕ) → Same (members_of m x name) (members_of m' x' name)
  members_of-same m m' mm x x' s name = of_equal (λ z. members_of m z name) (λ z. members_of m' z name) x x' s (at x)
    where
      at : (z : Finds) → AreGood z → Same (members_of m z name) (members_of m' z name)
      at Nothing g = same_none
      at (One f) g = mm f g name
      at Several g = same_none

  along-same : (m m' : Members) → SameMembers m m' → (names : List (List ℕ)) (x x' : Finds) → Same x x' → Same (along m x names) (along m' x' names)
  along-same m m' mm [] x x' s = s
  along-same m m' mm (name ∷ names) x x' s = along-same m m' mm names (members_of m x name) (members_of m' x' name) (members_of-same m m' mm x x' s name)

  along_or-same : (m m' : Members) → SameMembers m m' → (names : List (List ℕ)) (o o' : Finds) → Same o o' → (x x' : Finds) → Same x x'
      → Same (along_or m names o x) (along_or m' names o' x')
  along_or-same m m' mm names o o' so x x' s = of_equal (along_or m names o) (along_or m' names o') x x' s (at x)
    where
      at : (z : Finds) → AreGood z → Same (along_or m names o z) (along_or m' names o' z)
      at Nothing g = so
      at (One f) g = along-same m m' mm names (One f) (One f) (record { equal = refl; good = g })
      at Several g = along-same m m' mm names Several Several (record { equal = refl; good = tt })

  by_prefix-same : (m m' : Members) → SameMembers m m' → (part : Part) (ps : List Prefix) → AllByRecursion (λ p. SameTops part p.joined) ps
      → Same (by_prefix tops m part ps) (by_prefix tops' m' part ps)
  by_prefix-same m m' mm part [] a = same_none
  by_prefix-same m m' mm part (p ∷ ps) a =
      along_or-same m m' mm p.after (by_prefix tops m part ps) (by_prefix tops' m' part ps) (by_prefix-same m m' mm part ps a.1) (tops part p.joined) (tops' part p.joined) a.0

  -- ---- what is declared

  children-good : (part : Part) (u : UnitText) → Good part u → (test : Node → Bool) (path : List ℕ) (xs : List (ℕ × Node)) (a : Finds) → AreGood a
      → AreGood (fold both a (map (λ child. one_if (test child.1) (record { part = part; unit = u; path = path ++ child.0 ∷ [] })) xs))
  children-good part u g test path [] a p = p
  children-good part u g test path (x ∷ xs) a p = children-good part u g test path xs _ (both-good a _ p (at (test x.1)))
    where
      at : (b : Bool) → AreGood (one_if b (record { part = part; unit = u; path = path ++ x.0 ∷ [] }))
      at true = g
      at false = tt

  types_at-same : (part : Part) (u : UnitText) → Good part u → (name : List ℕ) (at : Place) → Same (types_at part u name at) (types_at part u name at)
  unfolding types_at
  types_at-same part u g name at = record { equal = refl; good = children-good part u g (is_type_named name) at.path (enumerate_from 0 (children at.node)) Nothing tt }

  parameters_at-same : (part : Part) (u : UnitText) → Good part u → (name : List ℕ) (at : Place) → Same (parameters_at part u name at) (parameters_at part u name at)
  unfolding parameters_at
  parameters_at-same part u g name at = record { equal = refl; good = children-good part u g (is_parameter_named name) at.path (enumerate_from 0 (children at.node)) Nothing tt }

  types_in-same : (part : Part) (u : UnitText) → Good part u → (name path : List ℕ) (node : Option Node) → Same (types_in part u name path node) (types_in part u name path node)
  types_in-same part u g name path None = same_none
  types_in-same part u g name path (Some node) = types_at-same part u g name (record { path = path; node = node })

  pub declared-same : SameMembers declared_types declared_types
  unfolding declared_types
  declared-same f g name = types_in-same f.part f.unit g name f.path (node_at f.unit f.path)

  pub imported-same : (part : Part) (names : List (List ℕ)) → AllByRecursion (λ p. SameTops part p.joined) (prefixes names) → Same (imported tops part names) (imported tops' part names)
  unfolding imported
  imported-same part names a = by_prefix-same declared_types declared_types declared-same part (prefixes names) a

  -- ---- simple names

  module _ (m m' : Members) (mm : SameMembers m m') (part : Part) (name : List ℕ) where
    single_by-same : (names : List (List ℕ)) (kind : ImportKind) → ImportAsks (SameTops part) name names kind → Same (single_by tops m part name names kind) (single_by tops' m' part name names kind)
    single_by-same names import.Single a =
        elim (ends_in name names) as (λ b. Same (if b then imported tops part names else Nothing) (if b then imported tops' part names else Nothing)) [
          | true ↦ imported-same part names a
          | false ↦ same_none
        ]
    single_by-same names import.StaticSingle a =
        elim (ends_in name names) as (λ b. Same (if b then members_of m (imported tops part (but_last names)) name else Nothing) (if b then members_of m' (imported tops' part (but_last names)) name else Nothing)) [
          | true ↦ members_of-same m m' mm _ _ (imported-same part (but_last names) a) name
          | false ↦ same_none
        ]
    single_by-same names import.OnDemand a = same_none
    single_by-same names import.StaticOnDemand a = same_none

    on_demand_by-same : (names : List (List ℕ)) (kind : ImportKind) → ImportAsks (SameTops part) name names kind → Same (on_demand_by tops m part name names kind) (on_demand_by tops' m' part name names kind)
    on_demand_by-same names import.OnDemand a = imported-same part (names ++ name ∷ []) a
    on_demand_by-same names import.StaticOnDemand a = members_of-same m m' mm _ _ (imported-same part names a) name
    on_demand_by-same names import.Single a = same_none
    on_demand_by-same names import.StaticSingle a = same_none

    single-same : (i : Import) → ImportAsks (SameTops part) name (parts i.name) i.kind → Same (single_import tops m part name i) (single_import tops' m' part name i)
    unfolding single_import
    single-same i a = single_by-same (parts i.name) i.kind a

    on_demand-same : (i : Import) → ImportAsks (SameTops part) name (parts i.name) i.kind → Same (on_demand_import tops m part name i) (on_demand_import tops' m' part name i)
    unfolding on_demand_import
    on_demand-same i a = on_demand_by-same (parts i.name) i.kind a

    in_element-same : (u : UnitText) → Good part u → (at : Place) → Same (in_element m part u name at) (in_element m' part u name at)
    unfolding in_element
    in_element-same u g at =
        first_more _ _ _ _ (types_at-same part u g name at)
        (first-same _ _ _ _ (parameters_at-same part u g name at) (mm (record { part = part; unit = u; path = at.path }) g name))

    in_elements-same : (u : UnitText) → Good part u → (above : List Place) → Same (in_elements m part u name above) (in_elements m' part u name above)
    in_elements-same u g [] = same_none
    in_elements-same u g (at ∷ above) = first-same _ _ _ _ (in_element-same u g at) (in_elements-same u g above)

    in_header-same : (u : UnitText) → Good part u → (above : List Place) → Same (in_header m part u name above) (in_header m' part u name above)
    in_header-same u g [] = same_none
    in_header-same u g (at ∷ above) = first-same _ _ _ _ (parameters_at-same part u g name at) (in_elements-same u g above)

    in_unit-same : (u : UnitText) → SimpleAsks (SameTops part) u name → Same (in_unit tops m part u name) (in_unit tops' m' part u name)
    unfolding in_unit
    in_unit-same u a =
        first_more _ _ _ _ (elim (list_any (bytes_eq name) u.siblings) as (λ b. Same (if b then tops part (in_package u.«package» name) else Nothing) (if b then tops' part (in_package u.«package» name) else Nothing)) [ true ↦ a.beside | false ↦ same_none ])
        (first_more _ _ _ _ (fold-same _ _ _ single-same u.imports a.imports Nothing Nothing same_none)
        (first-same _ _ _ _ a.beside (fold-same _ _ _ on_demand-same u.imports a.imports _ _ (both-same Nothing Nothing _ _ same_none a.lang))))

  module _ (m m' : Members) (mm : SameMembers m m') where
    in_scope-same : (scope : Scope) → IsGood (scope_at scope) → (name : List ℕ) → Same (in_scope m name scope) (in_scope m' name scope)
    in_scope-same (Within at) g name = in_elements-same m m' mm at.part name at.unit g (around at.unit at.path)
    in_scope-same (Header at) g name = in_header-same m m' mm at.part name at.unit g (around at.unit at.path)

    pub simple-same : (scope : Scope) → IsGood (scope_at scope) → (name : List ℕ) → SimpleAsks (SameTops (scope_at scope).part) (scope_at scope).unit name
        → Same (simple tops m scope name) (simple tops' m' scope name)
    unfolding simple
    simple-same scope g name a = first-same _ _ _ _ (in_scope-same scope g name) (in_unit-same m m' mm (scope_at scope).part name (scope_at scope).unit a)

    pub qualifier-same : (scope : Scope) → IsGood (scope_at scope) → (names : List (List ℕ)) → Asks (SameTops (scope_at scope).part) (scope_at scope).unit names
        → Same (qualifier tops m scope names) (qualifier tops' m' scope names)
    unfolding qualifier
    qualifier-same scope g [] a = same_none
    qualifier-same scope g (name ∷ more) a =
        along_or-same m m' mm more _ _ (by_prefix-same m m' mm (scope_at scope).part (prefixes (name ∷ more)) a.1) _ _ (simple-same scope g name a.0)

    pub found-same : (scope : Scope) → IsGood (scope_at scope) → (names : List (List ℕ)) → Asks (SameTops (scope_at scope).part) (scope_at scope).unit names
        → Same (found tops m scope names) (found tops' m' scope names)
    unfolding found
    found-same scope g [] a = same_none
    found-same scope g (name ∷ []) a = simple-same scope g name a.0
    found-same scope g (name ∷ next ∷ more) a = qualifier-same scope g (name ∷ next ∷ more) a

    pub supertype-same : (f : Find) → IsGood f → (s : Supertype) → SupertypeAsks (SameTops f.part) f.unit s → Same (supertype_found tops m f s) (supertype_found tops' m' f s)
    unfolding supertype_found
    supertype-same f g (Written text) a = found-same (Header f) g (names_in text) a
    supertype-same f g (Implied name) a = a

    member-same : (f : Find) → IsGood f → (name : List ℕ) (s : Supertype) → SupertypeAsks (SameTops f.part) f.unit s
        → Same (members_of m (supertype_found tops m f s) name) (members_of m' (supertype_found tops' m' f s) name)
    member-same f g name s a = members_of-same m m' mm _ _ (supertype-same f g s a) name

    inherited-same : (f : Find) → IsGood f → (name : List ℕ) → AllByRecursion (SupertypeAsks (SameTops f.part) f.unit) (supertypes f) → Same (inherited tops m f name) (inherited tops' m' f name)
    unfolding inherited
    inherited-same f g name a = fold-same _ _ _ (member-same f g name) (supertypes f) a Nothing Nothing same_none

  -- ---- member types, by induction on the levels

  -- the tables agree on what the supertypes of a good type ask for
  abbrev pub IsClosed : Type 0
  IsClosed = (f : Find) → IsGood f → AllByRecursion (SupertypeAsks (SameTops f.part) f.unit) (supertypes f)

  pub members-same : IsClosed → (levels : ℕ) → SameMembers (members_within tops levels) (members_within tops' levels)
  unfolding members_within
  members-same closed zero f g name = declared-same f g name
  members-same closed (suc levels) f g name =
      first-same _ _ _ _ (declared-same f g name) (inherited-same _ _ (members-same closed levels) f g name (closed f g))
