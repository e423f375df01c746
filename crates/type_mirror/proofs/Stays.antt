-- A mirror in which no variable of the list stands is not changed.
use Rattle.std.proofs.Common.{◌≡◌, List, [], ◌∷◌, ◌++◌, map, unwrap_or, Option, Some, None, refl, sym, ap, subst, ◌∙◌}
use Rattle.std.proofs.lemmas.List.{append-nil}
use Rattle.std.specs.List.{AllByRecursion, flat_map}
use Rattle.apt_base.specs.declared.element.ElementRef.{ElementRef}
use Rattle.apt_base.specs.declared.around.Around.{Around}
use Rattle.type_mirror.specs.declared.mirror.BaseMirror.{BaseMirror, roll-BaseMirror}
use Rattle.type_mirror.specs.declared.mirror.BaseMirror.TheVariants as base
use Rattle.type_mirror.specs.declared.mirror.BaseMirror.TheOpen.{BaseMirror-F, Mirror-F, DeclaredMirror-F, ExecutableMirror-F}
use Rattle.type_mirror.specs.declared.mirror.BaseMirror.TheFolds.{map-BaseMirror, map-Mirror, map-DeclaredMirror, map-ExecutableMirror, fold-BaseMirror, fold-DeclaredMirror, fold-ExecutableMirror, fold-roll-BaseMirror, fold-roll-Mirror, fold-roll-DeclaredMirror, fold-roll-ExecutableMirror, ind-Mirror}
use Rattle.type_mirror.specs.declared.mirror.Mirror.{Mirror, roll-Mirror, out-Mirror, out-roll-Mirror}
use Rattle.type_mirror.specs.declared.mirror.DeclaredMirror.{DeclaredMirror, roll-DeclaredMirror}
use Rattle.type_mirror.specs.declared.mirror.ExecutableMirror.{ExecutableMirror, roll-ExecutableMirror}
use Rattle.type_mirror.specs.Parts.{plain, wrapped, declared_parts, executable_parts}
use Rattle.type_mirror.specs.Substitution.{Replacements, replacement, replaced_base, replaced_mirror, replaced_declared, replaced_executable, substituted, substituted_base, substituted_declared, substituted_executable, Variables, base_variables_step, variables_step, variables, HasNone}
use Rattle.type_mirror.proofs.Replaced.{substituted_base-roll, substituted_declared-roll, substituted_executable-roll}

-- ---- lists of parts

each_left : (Q : ElementRef → Type 0) (xs ys : Variables) → AllByRecursion Q (xs ++ ys) → AllByRecursion Q xs
each_left Q [] ys a = tt
each_left Q (x ∷ xs) ys a = (a.0, each_left Q xs ys a.1)

each_right : (Q : ElementRef → Type 0) (xs ys : Variables) → AllByRecursion Q (xs ++ ys) → AllByRecursion Q ys
each_right Q [] ys a = a
each_right Q (x ∷ xs) ys a = each_right Q xs ys a.1

each_part : (Q : ElementRef → Type 0) (parts : List Variables) → AllByRecursion Q (flat_map (λ part. part) parts) → AllByRecursion (AllByRecursion Q) parts
each_part Q [] a = tt
each_part Q (part ∷ parts) a = (each_left Q part _ a, each_part Q parts (each_right Q part _ a))

parts_left : (Q : Variables → Type 0) (xs ys : List Variables) → AllByRecursion Q (xs ++ ys) → AllByRecursion Q xs
parts_left Q [] ys a = tt
parts_left Q (x ∷ xs) ys a = (a.0, parts_left Q xs ys a.1)

parts_right : (Q : Variables → Type 0) (xs ys : List Variables) → AllByRecursion Q (xs ++ ys) → AllByRecursion Q ys
parts_right Q [] ys a = a
parts_right Q (x ∷ xs) ys a = parts_right Q xs ys a.1

abbrev pub BaseLayer : Type 0
BaseLayer = BaseMirror-F BaseMirror DeclaredMirror ExecutableMirror Mirror

abbrev pub MirrorLayer : Type 0
MirrorLayer = Mirror-F BaseMirror DeclaredMirror ExecutableMirror Mirror

abbrev pub DeclaredLayer : Type 0
DeclaredLayer = DeclaredMirror-F BaseMirror DeclaredMirror ExecutableMirror Mirror

abbrev pub ExecutableLayer : Type 0
ExecutableLayer = ExecutableMirror-F BaseMirror DeclaredMirror ExecutableMirror Mirror

-- what stands around a base alone is what stands around it
wrapped-plain : (around : List Around) (b : BaseMirror) → wrapped around (plain b) ≡ roll-Mirror (record { around = around; base = b })
wrapped-plain around b =
    ap (λ (o : MirrorLayer). roll-Mirror (record { around = around ++ o.around; base = o.base })) (out-roll-Mirror (record { around = []; base = b }))
    ∙ ap (λ (all : List Around). roll-Mirror (record { around = all; base = b })) (append-nil around)

-- ---- the variables of what these hold

unfoldable pub base_variables : BaseMirror → Variables
base_variables = fold-BaseMirror Variables (List Variables) (List Variables) Variables base_variables_step declared_parts executable_parts variables_step

unfoldable pub declared_variables : DeclaredMirror → List Variables
declared_variables = fold-DeclaredMirror Variables (List Variables) (List Variables) Variables base_variables_step declared_parts executable_parts variables_step

unfoldable pub executable_variables : ExecutableMirror → List Variables
executable_variables = fold-ExecutableMirror Variables (List Variables) (List Variables) Variables base_variables_step declared_parts executable_parts variables_step

pub base_variables-roll : (x : BaseLayer) → base_variables (roll-BaseMirror x)
    ≡ base_variables_step (map-BaseMirror BaseMirror DeclaredMirror ExecutableMirror Mirror Variables (List Variables) (List Variables) Variables
    base_variables declared_variables executable_variables variables x)
unfolding variables base_variables declared_variables executable_variables
base_variables-roll = fold-roll-BaseMirror Variables (List Variables) (List Variables) Variables base_variables_step declared_parts executable_parts variables_step

pub variables-roll : (x : MirrorLayer) → variables (roll-Mirror x) ≡ base_variables x.base
unfolding variables base_variables
variables-roll = fold-roll-Mirror Variables (List Variables) (List Variables) Variables base_variables_step declared_parts executable_parts variables_step

pub declared_variables-roll : (x : DeclaredLayer) → declared_variables (roll-DeclaredMirror x)
    ≡ declared_parts (map-DeclaredMirror BaseMirror DeclaredMirror ExecutableMirror Mirror Variables (List Variables) (List Variables) Variables
    base_variables declared_variables executable_variables variables x)
unfolding variables base_variables declared_variables executable_variables
declared_variables-roll = fold-roll-DeclaredMirror Variables (List Variables) (List Variables) Variables base_variables_step declared_parts executable_parts variables_step

pub executable_variables-roll : (x : ExecutableLayer) → executable_variables (roll-ExecutableMirror x)
    ≡ executable_parts (map-ExecutableMirror BaseMirror DeclaredMirror ExecutableMirror Mirror Variables (List Variables) (List Variables) Variables
    base_variables declared_variables executable_variables variables x)
unfolding variables base_variables declared_variables executable_variables
executable_variables-roll = fold-roll-ExecutableMirror Variables (List Variables) (List Variables) Variables base_variables_step declared_parts executable_parts variables_step

-- ---- a mirror in which no variable of the list stands

module _ (by : Replacements) where
  pub substituted-roll : (x : MirrorLayer) → substituted by (roll-Mirror x) ≡ wrapped x.around (substituted_base by x.base)
  unfolding substituted substituted_base
  substituted-roll = fold-roll-Mirror Mirror DeclaredMirror ExecutableMirror Mirror (replaced_base by) replaced_declared replaced_executable replaced_mirror

  abbrev Free : Variables → Type 0
  Free = HasNone by

  abbrev AllFree : List Variables → Type 0
  AllFree parts = AllByRecursion Free parts

  abbrev BaseStays : BaseMirror → Type 0
  BaseStays b = Free (base_variables b) → substituted_base by b ≡ plain b

  abbrev Stays : Mirror → Type 0
  Stays m = Free (variables m) → substituted by m ≡ m

  abbrev DeclaredStays : DeclaredMirror → Type 0
  DeclaredStays d = AllFree (declared_variables d) → substituted_declared by d ≡ d

  abbrev ExecutableStays : ExecutableMirror → Type 0
  ExecutableStays e = AllFree (executable_variables e) → substituted_executable by e ≡ e

  abbrev KeptBase : Type 0
  KeptBase = (b : BaseMirror) × BaseStays b

  abbrev Kept : Type 0
  Kept = (m : Mirror) × Stays m

  abbrev KeptDeclared : Type 0
  KeptDeclared = (d : DeclaredMirror) × DeclaredStays d

  abbrev KeptExecutable : Type 0
  KeptExecutable = (e : ExecutableMirror) × ExecutableStays e

  abbrev mirrors_of : List Kept → List Mirror
  mirrors_of = map (λ kept. kept.0)

  each_stays : (all : List Kept) → AllFree (map variables (mirrors_of all)) → map (substituted by) (mirrors_of all) ≡ mirrors_of all
  each_stays [] free = refl
  each_stays (one ∷ others) free =
      ap (λ (m : Mirror). m ∷ map (substituted by) (mirrors_of others)) (one.1 free.0) ∙ ap (λ (rest : List Mirror). one.0 ∷ rest) (each_stays others free.1)

  abbrev base_layer : BaseMirror-F KeptBase KeptDeclared KeptExecutable Kept → BaseLayer
  base_layer = map-BaseMirror KeptBase KeptDeclared KeptExecutable Kept BaseMirror DeclaredMirror ExecutableMirror Mirror (λ e. e.0) (λ e. e.0) (λ e. e.0) (λ e. e.0)

  abbrev mirror_layer : Mirror-F KeptBase KeptDeclared KeptExecutable Kept → MirrorLayer
  mirror_layer = map-Mirror KeptBase KeptDeclared KeptExecutable Kept BaseMirror DeclaredMirror ExecutableMirror Mirror (λ e. e.0) (λ e. e.0) (λ e. e.0) (λ e. e.0)

  abbrev declared_layer : DeclaredMirror-F KeptBase KeptDeclared KeptExecutable Kept → DeclaredLayer
  declared_layer = map-DeclaredMirror KeptBase KeptDeclared KeptExecutable Kept BaseMirror DeclaredMirror ExecutableMirror Mirror (λ e. e.0) (λ e. e.0) (λ e. e.0) (λ e. e.0)

  abbrev executable_layer : ExecutableMirror-F KeptBase KeptDeclared KeptExecutable Kept → ExecutableLayer
  executable_layer = map-ExecutableMirror KeptBase KeptDeclared KeptExecutable Kept BaseMirror DeclaredMirror ExecutableMirror Mirror (λ e. e.0) (λ e. e.0) (λ e. e.0) (λ e. e.0)

  -- that the parts are free of the variables of the list
  free_parts : (whole : Variables) (parts : List Variables) → whole ≡ flat_map (λ part. part) parts → Free whole → AllFree parts
  free_parts whole parts same free = each_part (λ element. replacement by element ≡ None) parts (subst Free same free)

  base_stays : (y : BaseMirror-F KeptBase KeptDeclared KeptExecutable Kept) → BaseStays (roll-BaseMirror (base_layer y))
  base_stays (BaseMirror-F.Primitive kind) free = substituted_base-roll by (BaseMirror-F.Primitive kind) ∙ ap plain (sym (base.rolls-Primitive kind))
  base_stays (BaseMirror-F.Declared d) free =
      let parts = free_parts (base_variables (roll-BaseMirror (BaseMirror-F.Declared d.0))) (declared_variables d.0) (base_variables-roll (BaseMirror-F.Declared d.0)) free in
      substituted_base-roll by (BaseMirror-F.Declared d.0)
      ∙ ap (λ (x : DeclaredMirror). plain (base.Declared x)) (d.1 parts)
      ∙ ap plain (sym (base.rolls-Declared d.0))
  base_stays (BaseMirror-F.Error text) free = substituted_base-roll by (BaseMirror-F.Error text) ∙ ap plain (sym (base.rolls-Error text))
  base_stays (BaseMirror-F.Variable element) free =
      let has_none = subst Free (base_variables-roll (BaseMirror-F.Variable element)) free in
      substituted_base-roll by (BaseMirror-F.Variable element)
      ∙ ap (λ (found : Option Mirror). unwrap_or found (plain (base.Variable element))) has_none.0
      ∙ ap plain (sym (base.rolls-Variable element))
  base_stays BaseMirror-F.Wildcard free = substituted_base-roll by BaseMirror-F.Wildcard ∙ ap plain (sym base.rolls-Wildcard)
  base_stays (BaseMirror-F.Executable e) free =
      let parts = free_parts (base_variables (roll-BaseMirror (BaseMirror-F.Executable e.0))) (executable_variables e.0) (base_variables-roll (BaseMirror-F.Executable e.0)) free in
      substituted_base-roll by (BaseMirror-F.Executable e.0)
      ∙ ap (λ (x : ExecutableMirror). plain (base.Executable x)) (e.1 parts)
      ∙ ap plain (sym (base.rolls-Executable e.0))
  base_stays BaseMirror-F.Nothing free = substituted_base-roll by BaseMirror-F.Nothing ∙ ap plain (sym base.rolls-Nothing)
  base_stays BaseMirror-F.Void free = substituted_base-roll by BaseMirror-F.Void ∙ ap plain (sym base.rolls-Void)
  base_stays BaseMirror-F.Null free = substituted_base-roll by BaseMirror-F.Null ∙ ap plain (sym base.rolls-Null)
  base_stays (BaseMirror-F.Package name) free = substituted_base-roll by (BaseMirror-F.Package name) ∙ ap plain (sym (base.rolls-Package name))

  mirror_stays : (y : Mirror-F KeptBase KeptDeclared KeptExecutable Kept) → Stays (roll-Mirror (mirror_layer y))
  mirror_stays y free =
      let x = mirror_layer y in
      substituted-roll x
      ∙ ap (λ (m : Mirror). wrapped y.around m) (y.base.1 (subst Free (variables-roll x) free))
      ∙ wrapped-plain y.around y.base.0

  declared_stays_with : (element : ElementRef) (enclosing : Option Kept) (arguments : List Kept)
      → DeclaredStays (roll-DeclaredMirror (declared_layer (record { element = element; enclosing = enclosing; arguments = arguments })))
  declared_stays_with element None arguments free =
      let x : DeclaredLayer = record { element = element; enclosing = None; arguments = mirrors_of arguments } in
      substituted_declared-roll by x
      ∙ ap (λ (list : List Mirror). roll-DeclaredMirror (record { element = element; enclosing = None; arguments = list }))
      (each_stays arguments (subst AllFree (declared_variables-roll x) free))
  declared_stays_with element (Some m) arguments free =
      let x : DeclaredLayer = record { element = element; enclosing = Some m.0; arguments = mirrors_of arguments } in
      let parts = subst AllFree (declared_variables-roll x) free in
      substituted_declared-roll by x
      ∙ ap (λ (one : Mirror). roll-DeclaredMirror (record { element = element; enclosing = Some one; arguments = map (substituted by) (mirrors_of arguments) })) (m.1 parts.0)
      ∙ ap (λ (list : List Mirror). roll-DeclaredMirror (record { element = element; enclosing = Some m.0; arguments = list })) (each_stays arguments parts.1)

  declared_stays : (y : DeclaredMirror-F KeptBase KeptDeclared KeptExecutable Kept) → DeclaredStays (roll-DeclaredMirror (declared_layer y))
  declared_stays y = declared_stays_with y.element y.enclosing y.arguments

  executable_stays : (y : ExecutableMirror-F KeptBase KeptDeclared KeptExecutable Kept) → ExecutableStays (roll-ExecutableMirror (executable_layer y))
  executable_stays y free =
      let x = executable_layer y in
      let parts = subst AllFree (executable_variables-roll x) free in
      let front = map variables (mirrors_of y.parameters) in
      let back = parts_right Free front (variables y.result.0 ∷ map variables (mirrors_of y.thrown)) parts in
      substituted_executable-roll by x
      ∙ ap (λ (list : List Mirror). roll-ExecutableMirror (record { variables = y.variables; parameters = list; result = substituted by y.result.0; thrown = map (substituted by) (mirrors_of y.thrown) }))
      (each_stays y.parameters (parts_left Free front (variables y.result.0 ∷ map variables (mirrors_of y.thrown)) parts))
      ∙ ap (λ (one : Mirror). roll-ExecutableMirror (record { variables = y.variables; parameters = mirrors_of y.parameters; result = one; thrown = map (substituted by) (mirrors_of y.thrown) })) (y.result.1 back.0)
      ∙ ap (λ (list : List Mirror). roll-ExecutableMirror (record { variables = y.variables; parameters = mirrors_of y.parameters; result = y.result.0; thrown = list })) (each_stays y.thrown back.1)

  pub substituted-HasNone : (m : Mirror) → HasNone by (variables m) → substituted by m ≡ m
  substituted-HasNone = ind-Mirror BaseStays DeclaredStays ExecutableStays Stays
      (λ x y same. subst (λ (x : BaseLayer). BaseStays (roll-BaseMirror x)) same (base_stays y))
      (λ x y same. subst (λ (x : DeclaredLayer). DeclaredStays (roll-DeclaredMirror x)) same (declared_stays y))
      (λ x y same. subst (λ (x : ExecutableLayer). ExecutableStays (roll-ExecutableMirror x)) same (executable_stays y))
      (λ x y same. subst (λ (x : MirrorLayer). Stays (roll-Mirror x)) same (mirror_stays y))
