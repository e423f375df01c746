-- What a class type puts in the place of type parameters, entry by entry.
use Rattle.std.proofs.Common.{◌≡◌, ◌<◌, ◌≤◌, ◌+◌, ℕ, zero, suc, length, take, get_or, Bool, true, false, cond, ◌||◌, List, [], ◌∷◌, ◌++◌, map, Option, None, Some, refl, sym, ap, ap₂, subst, ◌∙◌, arith}
use Rattle.std.proofs.lemmas.List.{map-append}
use Rattle.std.proofs.lemmas.List.Sums.{fold-append}
use Rattle.std.specs.List.{zip, IsDistinct, AllByRecursion}
use Rattle.std.specs.Option.{option_map}
use Rattle.apt_base.specs.Elements.{same_element}
use Rattle.apt_base.specs.declared.element.ElementRef.{ElementRef}
use Rattle.element_table.specs.TypeTable.{TypeTable}
use Rattle.type_mirror.specs.declared.mirror.PrimitiveKind.{PrimitiveKind}
use Rattle.apt_base.specs.declared.around.Around.{Around}
use Rattle.apt_base.specs.declared.around.Around.TheVariants as around
use Rattle.type_mirror.specs.declared.mirror.Mirror.{Mirror, out-Mirror, out-roll-Mirror}
use Rattle.type_mirror.specs.declared.mirror.BaseMirror.{BaseMirror}
use Rattle.type_mirror.specs.declared.mirror.BaseMirror.TheVariants as base
use Rattle.type_mirror.specs.declared.mirror.DeclaredMirror.{DeclaredMirror, out-DeclaredMirror}
use Rattle.type_mirror.specs.declared.mirror.ExecutableMirror.{ExecutableMirror}
use Rattle.type_mirror.specs.Parts.{plain}
use Rattle.type_mirror.specs.Substitution.{Replacements, AreDistinct}
use Rattle.type_layers.specs.Layers.{Layer, layer, layer_in, map_layer, declared_layer, by_parts}
use Rattle.type_layers.proofs.LayerLaws.{MirrorLayer}
use Rattle.type_layers.proofs.BaseLayers.{layer-Primitive, layer-Declared, layer-Error, layer-Variable, layer-Wildcard, layer-Executable, layer-Nothing, layer-Void, layer-Null, layer-Package}
use Rattle.type_relations.specs.Elements.{type_parameters}
use Rattle.type_relations.specs.RawTypes.{has_entry, added, once_behind, entries, entries_in, of_enclosing}
use Rattle.type_relations.proofs.PartsByLayers.{held, held-mirrors, by_parts-layer}

-- ---- one entry more

pub added-there : (by : Replacements) (at : ElementRef) (m : Mirror) → has_entry by at ≡ true → by ≡ added by (at, m)
added-there by at m e = sym (ap (λ (b : Bool). cond b by (by ++ (at, m) ∷ [])) e)

pub added-new : (by : Replacements) (at : ElementRef) (m : Mirror) → has_entry by at ≡ false → by ++ (at, m) ∷ [] ≡ added by (at, m)
added-new by at m e = sym (ap (λ (b : Bool). cond b by (by ++ (at, m) ∷ [])) e)

left : (a b : Bool) → (a || b) ≡ false → a ≡ false
left false b e = refl
left true b e = e

right : (a b : Bool) → (a || b) ≡ false → b ≡ false
right false b e = e
right true b e = absurd cc

all_before : (one : ElementRef) (ks : List ElementRef) (at : ElementRef) → AllByRecursion (λ k. same_element one k ≡ false) ks → same_element one at ≡ false
    → AllByRecursion (λ k. same_element one k ≡ false) (ks ++ at ∷ [])
all_before one [] at all e = (e, tt)
all_before one (k ∷ ks) at all e = (all.0, all_before one ks at all.1 e)

distinct_more : (by : Replacements) (at : ElementRef) (m : Mirror) → AreDistinct by → has_entry by at ≡ false
    → IsDistinct same_element (map (λ (pair : ElementRef × Mirror). pair.0) by ++ at ∷ [])
unfolding IsDistinct
distinct_more [] at m d e = (tt, tt)
distinct_more (pair ∷ by) at m d e = (
  all_before pair.0 (map (λ (p : ElementRef × Mirror). p.0) by) at d.0 (left (same_element pair.0 at) (has_entry by at) e),
  distinct_more by at m d.1 (right (same_element pair.0 at) (has_entry by at) e),
)

pub added-distinct : (by : Replacements) (at : ElementRef) (m : Mirror) → AreDistinct by → has_entry by at ≡ false → AreDistinct (by ++ (at, m) ∷ [])
added-distinct by at m d e =
    subst (λ (ks : List ElementRef). IsDistinct same_element ks) (sym (map-append (λ (p : ElementRef × Mirror). p.0) by ((at, m) ∷ []))) (distinct_more by at m d e)

pub distinct-none : (by : Replacements) → by ≡ [] → AreDistinct by
unfolding IsDistinct
distinct-none by e = subst AreDistinct (sym e) tt

pub ruleset adding = (added-there, added-new, added-distinct)

-- ---- the entries of a type

module _ (table : TypeTable) where
  by_layer : (m : Mirror) (l : Layer Mirror) → layer m ≡ l → entries table m ≡ entries_in table (map_layer (held (entries_in table)) l)
  unfolding entries
  by_layer m l e = by_parts-layer (entries_in table) m ∙ ap (λ (k : Layer Mirror). entries_in table (map_layer (held (entries_in table)) k)) e

  abbrev pub enclosing_entries : Option Mirror → Replacements
  enclosing_entries None = []
  enclosing_entries (Some m) = entries table m

  enclosing-is : (o : Option Mirror) → of_enclosing (option_map (held (entries_in table)) o) ≡ enclosing_entries o
  unfolding entries by_parts
  enclosing-is None = refl
  enclosing-is (Some m) = refl

  pub entries-declared : (d : DeclaredMirror) → entries table (plain (base.Declared d))
      ≡ zip (type_parameters table (out-DeclaredMirror d).element) (out-DeclaredMirror d).arguments ++ enclosing_entries (out-DeclaredMirror d).enclosing
  entries-declared d =
      let o = out-DeclaredMirror d in
      by_layer (plain (base.Declared d)) (declared_layer d) (layer-Declared d)
      ∙ ap (λ (ms : List Mirror). zip (type_parameters table o.element) ms ++ of_enclosing (option_map (held (entries_in table)) o.enclosing)) (held-mirrors (entries_in table) o.arguments)
      ∙ ap (λ (rest : Replacements). zip (type_parameters table o.element) o.arguments ++ rest) (enclosing-is o.enclosing)

  pub behind-alone : (d : DeclaredMirror) (before : Replacements) → None ≡ (out-DeclaredMirror d).enclosing
      → once_behind before (zip (type_parameters table (out-DeclaredMirror d).element) (out-DeclaredMirror d).arguments)
      ≡ once_behind before (entries table (plain (base.Declared d)))
  behind-alone d before e =
      let o = out-DeclaredMirror d in
      let own = zip (type_parameters table o.element) o.arguments in
      sym (ap (λ (es : Replacements). once_behind before es) (entries-declared d)
      ∙ fold-append added before own (enclosing_entries o.enclosing)
      ∙ ap (λ (more : Option Mirror). once_behind (once_behind before own) (enclosing_entries more)) (sym e))

  pub behind-enclosed : (d : DeclaredMirror) (before : Replacements) (m : Mirror) → Some m ≡ (out-DeclaredMirror d).enclosing
      → once_behind (once_behind before (zip (type_parameters table (out-DeclaredMirror d).element) (out-DeclaredMirror d).arguments)) (entries table m)
      ≡ once_behind before (entries table (plain (base.Declared d)))
  behind-enclosed d before m e =
      let o = out-DeclaredMirror d in
      let own = zip (type_parameters table o.element) o.arguments in
      sym (ap (λ (es : Replacements). once_behind before es) (entries-declared d)
      ∙ fold-append added before own (enclosing_entries o.enclosing)
      ∙ ap (λ (more : Option Mirror). once_behind (once_behind before own) (enclosing_entries more)) (sym e))

  -- ---- of all else none

  pub entries-Primitive : (before : Replacements) (kind : PrimitiveKind) → once_behind before (entries table (plain (base.Primitive kind))) ≡ before
  entries-Primitive before kind = ap (λ (es : Replacements). once_behind before es) (by_layer (plain (base.Primitive kind)) _ (layer-Primitive kind))

  pub entries-Error : (before : Replacements) (text : List ℕ) → once_behind before (entries table (plain (base.Error text))) ≡ before
  entries-Error before text = ap (λ (es : Replacements). once_behind before es) (by_layer (plain (base.Error text)) _ (layer-Error text))

  pub entries-Variable : (before : Replacements) (at : ElementRef) → once_behind before (entries table (plain (base.Variable at))) ≡ before
  entries-Variable before at = ap (λ (es : Replacements). once_behind before es) (by_layer (plain (base.Variable at)) _ (layer-Variable at))

  pub entries-Wildcard : (before : Replacements) → once_behind before (entries table (plain base.Wildcard)) ≡ before
  entries-Wildcard before = ap (λ (es : Replacements). once_behind before es) (by_layer (plain base.Wildcard) _ layer-Wildcard)

  pub entries-Executable : (before : Replacements) (e : ExecutableMirror) → once_behind before (entries table (plain (base.Executable e))) ≡ before
  entries-Executable before e = ap (λ (es : Replacements). once_behind before es) (by_layer (plain (base.Executable e)) _ (layer-Executable e))

  pub entries-Nothing : (before : Replacements) → once_behind before (entries table (plain base.Nothing)) ≡ before
  entries-Nothing before = ap (λ (es : Replacements). once_behind before es) (by_layer (plain base.Nothing) _ layer-Nothing)

  pub entries-Void : (before : Replacements) → once_behind before (entries table (plain base.Void)) ≡ before
  entries-Void before = ap (λ (es : Replacements). once_behind before es) (by_layer (plain base.Void) _ layer-Void)

  pub entries-Null : (before : Replacements) → once_behind before (entries table (plain base.Null)) ≡ before
  entries-Null before = ap (λ (es : Replacements). once_behind before es) (by_layer (plain base.Null) _ layer-Null)

  pub entries-Package : (before : Replacements) (name : List ℕ) → once_behind before (entries table (plain (base.Package name))) ≡ before
  entries-Package before name = ap (λ (es : Replacements). once_behind before es) (by_layer (plain (base.Package name)) _ (layer-Package name))

  around_none : (a : Around) (more : List Around) (b : BaseMirror) → entries_in table (map_layer (held (entries_in table)) (layer_in (a ∷ more) b)) ≡ []
  around_none around.Array more b = refl
  around_none around.Extends more b = refl
  around_none around.Super more b = refl

  entries-around : (before : Replacements) (m : Mirror) (a : Around) (more : List Around) → (out-Mirror m).around ≡ a ∷ more → once_behind before (entries table m) ≡ before
  unfolding layer
  entries-around before m a more e =
      ap (λ (es : Replacements). once_behind before es)
      (by_layer m _ (ap (λ (forms : List Around). layer_in forms (out-Mirror m).base) e) ∙ around_none a more (out-Mirror m).base)

  entries_with : (before : Replacements) (m : Mirror) (forms : List Around) → (out-Mirror m).around ≡ forms → 1 ≤ length forms → before ≡ once_behind before (entries table m)
  entries_with before m [] e p = absurd (omega (arith, p))
  entries_with before m (a ∷ more) e p = sym (entries-around before m a more e)

  -- something stands around its base
  pub entries-many : (before : Replacements) (m : Mirror) → 1 ≤ length (out-Mirror m).around → before ≡ once_behind before (entries table m)
  entries-many before m p = entries_with before m (out-Mirror m).around refl p

  bare-layer : (b : BaseMirror) → layer (plain b) ≡ layer_in [] b
  unfolding layer
  bare-layer b = ap (λ (o : MirrorLayer). layer_in o.around o.base) (out-roll-Mirror (record { around = []; base = b }))

  pub entries-bare : (m : Mirror) → (out-Mirror m).around ≡ [] → entries table (plain (out-Mirror m).base) ≡ entries table m
  unfolding layer
  entries-bare m e =
      by_layer (plain (out-Mirror m).base) _ (bare-layer (out-Mirror m).base)
      ∙ sym (by_layer m _ (ap (λ (forms : List Around). layer_in forms (out-Mirror m).base) e))

  pub behind-bare : (before after : Replacements) (m : Mirror) → (out-Mirror m).around ≡ [] → after ≡ once_behind before (entries table (plain (out-Mirror m).base))
      → after ≡ once_behind before (entries table m)
  behind-bare before after m e h = h ∙ ap (λ (es : Replacements). once_behind before es) (entries-bare m e)

pub ruleset entered = (
  behind-alone,
  behind-enclosed,
  entries-Primitive,
  entries-Error,
  entries-Variable,
  entries-Wildcard,
  entries-Executable,
  entries-Nothing,
  entries-Void,
  entries-Null,
  entries-Package,
  behind-bare,
)

-- ---- the entries of a row of parameters with their arguments

zip_more : (ks : List ElementRef) (vs : List Mirror) (n : ℕ) (k : ElementRef) (v : Mirror) → n < length ks → n < length vs
    → zip (take (suc n) ks) (take (suc n) vs) ≡ zip (take n ks) (take n vs) ++ (get_or ks n k, get_or vs n v) ∷ []
zip_more [] vs n k v p q = absurd (omega (arith, p))
zip_more (x ∷ ks) [] n k v p q = absurd (omega (arith, q))
zip_more (x ∷ ks) (y ∷ vs) zero k v p q = refl
zip_more (x ∷ ks) (y ∷ vs) (suc n) k v p q = ap (λ (es : Replacements). (x, y) ∷ es) (zip_more ks vs n k v (omega (arith, p)) (omega (arith, q)))

-- one of them more
pub own-step : (before so_far after : Replacements) (ks : List ElementRef) (vs : List Mirror) (n : ℕ) (k x : ElementRef) (v y : Mirror) → n < length ks → n < length vs
    → so_far ≡ once_behind before (zip (take n ks) (take n vs)) → x ≡ get_or ks n k → y ≡ get_or vs n v → after ≡ added so_far (x, y)
    → after ≡ once_behind before (zip (take (n + 1) ks) (take (n + 1) vs))
own-step before so_far after ks vs n k x v y p q e f g h =
    let one : suc n ≡ n + 1 = omega arith in
    h
    ∙ ap₂ (λ (a : ElementRef) (m : Mirror). added so_far (a, m)) f g
    ∙ ap (λ (by : Replacements). added by (get_or ks n k, get_or vs n v)) e
    ∙ sym (ap (λ (es : Replacements). once_behind before es) (zip_more ks vs n k v p q)
    ∙ fold-append added before (zip (take n ks) (take n vs)) ((get_or ks n k, get_or vs n v) ∷ []))
    ∙ ap (λ (i : ℕ). once_behind before (zip (take i ks) (take i vs))) one

zip_keys : (ks : List ElementRef) (vs : List Mirror) (n : ℕ) → length ks ≤ n → zip (take n ks) (take n vs) ≡ zip ks vs
zip_keys [] vs zero p = refl
zip_keys [] vs (suc n) p = refl
zip_keys (x ∷ ks) vs zero p = absurd (omega (arith, p))
zip_keys (x ∷ ks) [] (suc n) p = refl
zip_keys (x ∷ ks) (y ∷ vs) (suc n) p = ap (λ (es : Replacements). (x, y) ∷ es) (zip_keys ks vs n (omega (arith, p)))

zip_values : (ks : List ElementRef) (vs : List Mirror) (n : ℕ) → length vs ≤ n → zip (take n ks) (take n vs) ≡ zip ks vs
zip_values [] vs zero p = refl
zip_values [] vs (suc n) p = refl
zip_values (x ∷ ks) [] zero p = refl
zip_values (x ∷ ks) [] (suc n) p = refl
zip_values (x ∷ ks) (y ∷ vs) zero p = absurd (omega (arith, p))
zip_values (x ∷ ks) (y ∷ vs) (suc n) p = ap (λ (es : Replacements). (x, y) ∷ es) (zip_values ks vs n (omega (arith, p)))

-- all of them
pub own-keys : (before after : Replacements) (ks : List ElementRef) (vs : List Mirror) (n : ℕ) → after ≡ once_behind before (zip (take n ks) (take n vs)) → length ks ≤ n
    → after ≡ once_behind before (zip ks vs)
own-keys before after ks vs n e p = e ∙ ap (λ (es : Replacements). once_behind before es) (zip_keys ks vs n p)

pub own-values : (before after : Replacements) (ks : List ElementRef) (vs : List Mirror) (n : ℕ) → after ≡ once_behind before (zip (take n ks) (take n vs)) → length vs ≤ n
    → after ≡ once_behind before (zip ks vs)
own-values before after ks vs n e p = e ∙ ap (λ (es : Replacements). once_behind before es) (zip_values ks vs n p)

pub ruleset owned = (own-step, own-keys, own-values)
