-- The variables of a mirror after others were put in: those of what stands in the place of each.
use Rattle.std.proofs.Common.{◌≡◌, List, [], ◌∷◌, ◌++◌, map, Option, Some, None, refl, sym, ap, subst, ◌∙◌}
use Rattle.std.specs.List.{flat_map}
use Rattle.std.proofs.lemmas.Grind.{flat_map-append}
use Rattle.std.proofs.lemmas.List.{append-nil}
use Rattle.apt_base.specs.declared.element.ElementRef.{ElementRef}
use Rattle.apt_base.specs.declared.around.Around.{Around}
use Rattle.type_mirror.specs.declared.mirror.BaseMirror.{BaseMirror, roll-BaseMirror}
use Rattle.type_mirror.specs.declared.mirror.BaseMirror.TheVariants as base
use Rattle.type_mirror.specs.declared.mirror.BaseMirror.TheOpen.{BaseMirror-F, Mirror-F, DeclaredMirror-F, ExecutableMirror-F}
use Rattle.type_mirror.specs.declared.mirror.BaseMirror.TheFolds.{map-BaseMirror, map-Mirror, map-DeclaredMirror, map-ExecutableMirror, ind-Mirror}
use Rattle.type_mirror.specs.declared.mirror.Mirror.{Mirror, roll-Mirror, out-Mirror, roll-out-Mirror}
use Rattle.type_mirror.specs.declared.mirror.DeclaredMirror.{DeclaredMirror, roll-DeclaredMirror}
use Rattle.type_mirror.specs.declared.mirror.ExecutableMirror.{ExecutableMirror, roll-ExecutableMirror}
use Rattle.type_mirror.specs.Parts.{plain, wrapped}
use Rattle.type_mirror.specs.Substitution.{Replacements, in_place, substituted, substituted_base, substituted_declared, substituted_executable, Variables, variables, variables_in_place}
use Rattle.type_mirror.proofs.Replaced.{substituted_base-roll, substituted_declared-roll, substituted_executable-roll}
use Rattle.type_mirror.proofs.Stays.{BaseLayer, MirrorLayer, DeclaredLayer, ExecutableLayer, base_variables, declared_variables, executable_variables, base_variables-roll, variables-roll, declared_variables-roll, executable_variables-roll, substituted-roll, substituted-HasNone}

variables-plain : (b : BaseMirror) → variables (plain b) ≡ base_variables b
variables-plain b = variables-roll (record { around = []; base = b })

variables-wrapped : (around : List Around) (m : Mirror) → variables (wrapped around m) ≡ variables m
variables-wrapped around m =
    variables-roll (record { around = around ++ (out-Mirror m).around; base = (out-Mirror m).base }) ∙ sym (variables-roll (out-Mirror m)) ∙ ap variables (roll-out-Mirror m)

module _ (by : Replacements) where
  abbrev into : ElementRef → Variables
  into element = variables (in_place by element)

  abbrev all_into : Variables → Variables
  all_into = flat_map into

  abbrev joined : List Variables → Variables
  joined = flat_map (λ part. part)

  joined-map : (parts : List Variables) → joined (map all_into parts) ≡ all_into (joined parts)
  joined-map [] = refl
  joined-map (part ∷ parts) = ap (λ (t : Variables). all_into part ++ t) (joined-map parts) ∙ sym (flat_map-append into part (joined parts))

  abbrev BaseHas : BaseMirror → Type 0
  BaseHas b = variables (substituted_base by b) ≡ all_into (base_variables b)

  abbrev Has : Mirror → Type 0
  Has m = variables (substituted by m) ≡ all_into (variables m)

  abbrev DeclaredHas : DeclaredMirror → Type 0
  DeclaredHas d = declared_variables (substituted_declared by d) ≡ map all_into (declared_variables d)

  abbrev ExecutableHas : ExecutableMirror → Type 0
  ExecutableHas e = executable_variables (substituted_executable by e) ≡ map all_into (executable_variables e)

  abbrev KeptBase : Type 0
  KeptBase = (b : BaseMirror) × BaseHas b

  abbrev Kept : Type 0
  Kept = (m : Mirror) × Has m

  abbrev KeptDeclared : Type 0
  KeptDeclared = (d : DeclaredMirror) × DeclaredHas d

  abbrev KeptExecutable : Type 0
  KeptExecutable = (e : ExecutableMirror) × ExecutableHas e

  abbrev mirrors_of : List Kept → List Mirror
  mirrors_of = map (λ kept. kept.0)

  -- those of several mirrors, and of what stands behind them
  each_has : (all : List Kept) (after before : List Variables) → after ≡ map all_into before
      → map variables (map (substituted by) (mirrors_of all)) ++ after ≡ map all_into (map variables (mirrors_of all) ++ before)
  each_has [] after before e = e
  each_has (one ∷ others) after before e =
      ap (λ (v : Variables). v ∷ (map variables (map (substituted by) (mirrors_of others)) ++ after)) one.1
      ∙ ap (λ (rest : List Variables). all_into (variables one.0) ∷ rest) (each_has others after before e)

  all_have : (all : List Kept) → map variables (map (substituted by) (mirrors_of all)) ≡ map all_into (map variables (mirrors_of all))
  all_have [] = refl
  all_have (one ∷ others) =
      ap (λ (v : Variables). v ∷ map variables (map (substituted by) (mirrors_of others))) one.1 ∙ ap (λ (rest : List Variables). all_into (variables one.0) ∷ rest) (all_have others)

  -- a base without parts
  leaf : (b : BaseMirror) → substituted_base by b ≡ plain b → base_variables b ≡ [] → BaseHas b
  leaf b same none = ap variables same ∙ variables-plain b ∙ none ∙ sym (ap all_into none)

  abbrev base_layer : BaseMirror-F KeptBase KeptDeclared KeptExecutable Kept → BaseLayer
  base_layer = map-BaseMirror KeptBase KeptDeclared KeptExecutable Kept BaseMirror DeclaredMirror ExecutableMirror Mirror (λ e. e.0) (λ e. e.0) (λ e. e.0) (λ e. e.0)

  abbrev mirror_layer : Mirror-F KeptBase KeptDeclared KeptExecutable Kept → MirrorLayer
  mirror_layer = map-Mirror KeptBase KeptDeclared KeptExecutable Kept BaseMirror DeclaredMirror ExecutableMirror Mirror (λ e. e.0) (λ e. e.0) (λ e. e.0) (λ e. e.0)

  abbrev declared_layer : DeclaredMirror-F KeptBase KeptDeclared KeptExecutable Kept → DeclaredLayer
  declared_layer = map-DeclaredMirror KeptBase KeptDeclared KeptExecutable Kept BaseMirror DeclaredMirror ExecutableMirror Mirror (λ e. e.0) (λ e. e.0) (λ e. e.0) (λ e. e.0)

  abbrev executable_layer : ExecutableMirror-F KeptBase KeptDeclared KeptExecutable Kept → ExecutableLayer
  executable_layer = map-ExecutableMirror KeptBase KeptDeclared KeptExecutable Kept BaseMirror DeclaredMirror ExecutableMirror Mirror (λ e. e.0) (λ e. e.0) (λ e. e.0) (λ e. e.0)

  base_has : (y : BaseMirror-F KeptBase KeptDeclared KeptExecutable Kept) → BaseHas (roll-BaseMirror (base_layer y))
  base_has (BaseMirror-F.Primitive kind) =
      let x : BaseLayer = BaseMirror-F.Primitive kind in leaf (roll-BaseMirror x) (substituted_base-roll by x ∙ ap plain (sym (base.rolls-Primitive kind))) (base_variables-roll x)
  base_has (BaseMirror-F.Declared d) =
      let after : DeclaredMirror = substituted_declared by d.0 in
      ap variables (substituted_base-roll by (BaseMirror-F.Declared d.0))
      ∙ variables-plain (base.Declared after)
      ∙ ap base_variables (sym (base.rolls-Declared after))
      ∙ base_variables-roll (BaseMirror-F.Declared after)
      ∙ ap joined d.1
      ∙ joined-map (declared_variables d.0)
      ∙ sym (ap all_into (base_variables-roll (BaseMirror-F.Declared d.0)))
  base_has (BaseMirror-F.Error text) =
      let x : BaseLayer = BaseMirror-F.Error text in leaf (roll-BaseMirror x) (substituted_base-roll by x ∙ ap plain (sym (base.rolls-Error text))) (base_variables-roll x)
  base_has (BaseMirror-F.Variable element) =
      ap variables (substituted_base-roll by (BaseMirror-F.Variable element))
      ∙ sym (append-nil (into element))
      ∙ sym (ap all_into (base_variables-roll (BaseMirror-F.Variable element)))
  base_has BaseMirror-F.Wildcard =
      let x : BaseLayer = BaseMirror-F.Wildcard in leaf (roll-BaseMirror x) (substituted_base-roll by x ∙ ap plain (sym base.rolls-Wildcard)) (base_variables-roll x)
  base_has (BaseMirror-F.Executable e) =
      let after : ExecutableMirror = substituted_executable by e.0 in
      ap variables (substituted_base-roll by (BaseMirror-F.Executable e.0))
      ∙ variables-plain (base.Executable after)
      ∙ ap base_variables (sym (base.rolls-Executable after))
      ∙ base_variables-roll (BaseMirror-F.Executable after)
      ∙ ap joined e.1
      ∙ joined-map (executable_variables e.0)
      ∙ sym (ap all_into (base_variables-roll (BaseMirror-F.Executable e.0)))
  base_has BaseMirror-F.Nothing =
      let x : BaseLayer = BaseMirror-F.Nothing in leaf (roll-BaseMirror x) (substituted_base-roll by x ∙ ap plain (sym base.rolls-Nothing)) (base_variables-roll x)
  base_has BaseMirror-F.Void =
      let x : BaseLayer = BaseMirror-F.Void in leaf (roll-BaseMirror x) (substituted_base-roll by x ∙ ap plain (sym base.rolls-Void)) (base_variables-roll x)
  base_has BaseMirror-F.Null =
      let x : BaseLayer = BaseMirror-F.Null in leaf (roll-BaseMirror x) (substituted_base-roll by x ∙ ap plain (sym base.rolls-Null)) (base_variables-roll x)
  base_has (BaseMirror-F.Package name) =
      let x : BaseLayer = BaseMirror-F.Package name in leaf (roll-BaseMirror x) (substituted_base-roll by x ∙ ap plain (sym (base.rolls-Package name))) (base_variables-roll x)

  mirror_has : (y : Mirror-F KeptBase KeptDeclared KeptExecutable Kept) → Has (roll-Mirror (mirror_layer y))
  mirror_has y =
      let x = mirror_layer y in
      ap variables (substituted-roll by x)
      ∙ variables-wrapped y.around (substituted_base by y.base.0)
      ∙ y.base.1
      ∙ sym (ap all_into (variables-roll x))

  declared_has_with : (element : ElementRef) (enclosing : Option Kept) (arguments : List Kept)
      → DeclaredHas (roll-DeclaredMirror (declared_layer (record { element = element; enclosing = enclosing; arguments = arguments })))
  declared_has_with element None arguments =
      let x : DeclaredLayer = record { element = element; enclosing = None; arguments = mirrors_of arguments } in
      let after : DeclaredLayer = record { element = element; enclosing = None; arguments = map (substituted by) (mirrors_of arguments) } in
      ap declared_variables (substituted_declared-roll by x)
      ∙ declared_variables-roll after
      ∙ all_have arguments
      ∙ sym (ap (λ (parts : List Variables). map all_into parts) (declared_variables-roll x))
  declared_has_with element (Some m) arguments =
      let x : DeclaredLayer = record { element = element; enclosing = Some m.0; arguments = mirrors_of arguments } in
      let after : DeclaredLayer = record { element = element; enclosing = Some (substituted by m.0); arguments = map (substituted by) (mirrors_of arguments) } in
      ap declared_variables (substituted_declared-roll by x)
      ∙ declared_variables-roll after
      ∙ all_have (m ∷ arguments)
      ∙ sym (ap (λ (parts : List Variables). map all_into parts) (declared_variables-roll x))

  declared_has : (y : DeclaredMirror-F KeptBase KeptDeclared KeptExecutable Kept) → DeclaredHas (roll-DeclaredMirror (declared_layer y))
  declared_has y = declared_has_with y.element y.enclosing y.arguments

  executable_has : (y : ExecutableMirror-F KeptBase KeptDeclared KeptExecutable Kept) → ExecutableHas (roll-ExecutableMirror (executable_layer y))
  executable_has y =
      let x = executable_layer y in
      let after : ExecutableLayer = record {
        variables = y.variables;
        parameters = map (substituted by) (mirrors_of y.parameters);
        result = substituted by y.result.0;
        thrown = map (substituted by) (mirrors_of y.thrown);
      } in
      let behind = map variables (map (substituted by) (mirrors_of (y.result ∷ y.thrown))) in
      ap executable_variables (substituted_executable-roll by x)
      ∙ executable_variables-roll after
      ∙ each_has y.parameters behind (map variables (mirrors_of (y.result ∷ y.thrown))) (all_have (y.result ∷ y.thrown))
      ∙ sym (ap (λ (parts : List Variables). map all_into parts) (executable_variables-roll x))

  pub variables-substituted : (m : Mirror) → variables (substituted by m) ≡ variables_in_place by (variables m)
  variables-substituted = ind-Mirror BaseHas DeclaredHas ExecutableHas Has
      (λ x y same. subst (λ (x : BaseLayer). BaseHas (roll-BaseMirror x)) same (base_has y))
      (λ x y same. subst (λ (x : DeclaredLayer). DeclaredHas (roll-DeclaredMirror x)) same (declared_has y))
      (λ x y same. subst (λ (x : ExecutableLayer). ExecutableHas (roll-ExecutableMirror x)) same (executable_has y))
      (λ x y same. subst (λ (x : MirrorLayer). Has (roll-Mirror x)) same (mirror_has y))

pub ruleset laws = (substituted-HasNone, variables-substituted)
