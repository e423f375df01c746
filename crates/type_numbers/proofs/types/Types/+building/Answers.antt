use Rattle.std.proofs.Common.{◌≡◌, ◌<◌, ℕ, List, map, IfOk, rules, sym, ap, subst, ◌∙◌, arith}
use Rattle.std.specs.List.{AllByRecursion}
use Rattle.std.specs.Option.{option_map}
use Rattle.apt_base.specs.declared.element.ElementRef.{ElementRef}
use Rattle.type_mirror.specs.declared.mirror.Mirror.{Mirror}
use Rattle.type_mirror.specs.declared.mirror.BaseMirror.TheVariants as base
use Rattle.type_mirror.specs.Parts.{plain}
use Rattle.type_layers.specs.Layers.{declared_mirror, executable_mirror, mirror_of}
use Rattle.type_numbers.specs.declared.node.Node.TheVariants as node
use Rattle.type_numbers.specs.Numbers.{at}
use Rattle.type_numbers.proofs.AddedTypes.{node-is, executable-split}
use Rattle.type_numbers.proofs.types.Types.+building.Goals as goal

pub built-built_executable-requires : goal.built-built_executable-requires
built-built_executable-requires t c =
    let parts = executable-split (λ part. part < c.args.number) c.node.result.now c.in-Executable.variables c.in-Executable.parameters c.in-Executable.outcome c.in-Executable.thrown
    c.in-Executable.is c.node.ensures.below in (
      omega (arith, c.decreases),
      (
        search rules,
        (
          subst (AllByRecursion (λ part. part < c.args.number)) (sym c.as_slice-parameters.ensures) parts.0,
          (parts.1.0, subst (AllByRecursion (λ part. part < c.args.number)) (sym c.as_slice-in-Executable-2.ensures) parts.1.1),
        ),
      ),
    )

pub built-returns-in-Primitive : goal.built-returns-in-Primitive
unfolding mirror_of
built-returns-in-Primitive t c =
    c.plain.ensures ∙ node-is c.args.self.now c.args.number c.node.result.now (node.Primitive c.in-Primitive.kind) c.node.ensures.exact c.in-Primitive.is

pub built-returns-in-Declared : goal.built-returns-in-Declared
unfolding mirror_of
built-returns-in-Declared t c =
    let ms = at c.args.self.now in
    let made = λ (xs : List ℕ). declared_mirror c.in-Declared.element (option_map ms c.in-Declared.enclosing) (map ms xs) in
    subst (λ (m : Mirror). IfOk c.built_declared.result (λ r. r ≡ m))
    (ap made c.as_slice.ensures
    ∙ node-is c.args.self.now c.args.number c.node.result.now (node.Declared c.in-Declared.element c.in-Declared.enclosing c.in-Declared.arguments) c.node.ensures.exact c.in-Declared.is)
    c.built_declared.ensures

pub built-returns-in_ok-copy-in-Error : goal.built-returns-in_ok-copy-in-Error
unfolding mirror_of
built-returns-in_ok-copy-in-Error t c =
    c.plain-in-Error.ensures
    ∙ ap (λ (x : List ℕ). plain (base.Error x)) c.in_ok-copy-in-Error.ensures
    ∙ node-is c.args.self.now c.args.number c.node.result.now (node.Error c.in-Error.text) c.node.ensures.exact c.in-Error.is

pub built-returns-in_ok-element-in-Variable : goal.built-returns-in_ok-element-in-Variable
unfolding mirror_of
built-returns-in_ok-element-in-Variable t c =
    c.plain-in-Variable.ensures
    ∙ ap (λ (x : ElementRef). plain (base.Variable x)) c.in_ok-element-in-Variable.ensures
    ∙ node-is c.args.self.now c.args.number c.node.result.now (node.Variable c.in-Variable.element) c.node.ensures.exact c.in-Variable.is

pub built-returns-in-Array : goal.built-returns-in-Array
unfolding mirror_of
built-returns-in-Array t c =
    subst (λ (m : Mirror). IfOk c.built_form.result (λ r. r ≡ m))
    (node-is c.args.self.now c.args.number c.node.result.now (node.Array c.in-Array.item) c.node.ensures.exact c.in-Array.is) c.built_form.ensures

pub built-returns-in-Unbounded : goal.built-returns-in-Unbounded
unfolding mirror_of
built-returns-in-Unbounded t c =
    c.plain-in-Unbounded.ensures ∙ node-is c.args.self.now c.args.number c.node.result.now node.Unbounded c.node.ensures.exact c.in-Unbounded.is

pub built-returns-in-Extends : goal.built-returns-in-Extends
unfolding mirror_of
built-returns-in-Extends t c =
    subst (λ (m : Mirror). IfOk c.built_form-in-Extends.result (λ r. r ≡ m))
    (node-is c.args.self.now c.args.number c.node.result.now (node.Extends c.in-Extends.bound) c.node.ensures.exact c.in-Extends.is) c.built_form-in-Extends.ensures

pub built-returns-in-Super : goal.built-returns-in-Super
unfolding mirror_of
built-returns-in-Super t c =
    subst (λ (m : Mirror). IfOk c.built_form-in-Super.result (λ r. r ≡ m))
    (node-is c.args.self.now c.args.number c.node.result.now (node.Super c.in-Super.bound) c.node.ensures.exact c.in-Super.is) c.built_form-in-Super.ensures

pub built-returns-in_ok-variables-in-Executable : goal.built-returns-in_ok-variables-in-Executable
unfolding mirror_of
built-returns-in_ok-variables-in-Executable t c =
    let ms = at c.args.self.now in
    let outcome = ms c.in-Executable.outcome in
    let first = λ (vs : List ElementRef). executable_mirror vs (map ms c.as_slice-parameters.result.now) outcome (map ms c.as_slice-in-Executable-2.result.now) in
    let second = λ (ps : List ℕ). executable_mirror c.in-Executable.variables (map ms ps) outcome (map ms c.as_slice-in-Executable-2.result.now) in
    let third = λ (ts : List ℕ). executable_mirror c.in-Executable.variables (map ms c.in-Executable.parameters) outcome (map ms ts) in
    subst (λ (m : Mirror). IfOk c.built_executable.result (λ r. r ≡ m))
    (ap first (c.in_ok-variables-in-Executable.ensures ∙ c.as_slice-in-Executable.ensures)
    ∙ ap second c.as_slice-parameters.ensures
    ∙ ap third c.as_slice-in-Executable-2.ensures
    ∙ node-is c.args.self.now c.args.number c.node.result.now
    (node.Executable c.in-Executable.variables c.in-Executable.parameters c.in-Executable.outcome c.in-Executable.thrown) c.node.ensures.exact c.in-Executable.is)
    c.built_executable.ensures

pub built-returns-in-Nothing : goal.built-returns-in-Nothing
unfolding mirror_of
built-returns-in-Nothing t c =
    c.plain-in-Nothing.ensures ∙ node-is c.args.self.now c.args.number c.node.result.now node.Nothing c.node.ensures.exact c.in-Nothing.is

pub built-returns-in-Void : goal.built-returns-in-Void
unfolding mirror_of
built-returns-in-Void t c =
    c.plain-in-Void.ensures ∙ node-is c.args.self.now c.args.number c.node.result.now node.Void c.node.ensures.exact c.in-Void.is

pub built-returns-in-Null : goal.built-returns-in-Null
unfolding mirror_of
built-returns-in-Null t c =
    c.plain-in-Null.ensures ∙ node-is c.args.self.now c.args.number c.node.result.now node.Null c.node.ensures.exact c.in-Null.is

pub built-returns-in_ok-copy-in-Package : goal.built-returns-in_ok-copy-in-Package
unfolding mirror_of
built-returns-in_ok-copy-in-Package t c =
    c.plain-in-Package.ensures
    ∙ ap (λ (x : List ℕ). plain (base.Package x)) c.in_ok-copy-in-Package.ensures
    ∙ node-is c.args.self.now c.args.number c.node.result.now (node.Package c.in-Package.name) c.node.ensures.exact c.in-Package.is
