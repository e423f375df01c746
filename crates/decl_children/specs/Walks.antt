-- What a walk over symbols says of child lists in them.
use Rattle.std.specs.Prelude.{List}
use Rattle.decl_grammar.specs.declared.symbol.Symbol.{Symbol}
use Rattle.decl_limits.specs.Children.{IsFull, NextTypeParam, NextConstant}
use Rattle.decl_children.specs.Fronts.{SomeFront}

-- type parameters, and constants of an enum, are too many
abbrev pub TypeParamsCrowd : List Symbol → Type 0
TypeParamsCrowd ts = SomeFront (IsFull NextTypeParam 0) ts

abbrev pub ConstantsCrowd : List Symbol → Type 0
ConstantsCrowd ts = SomeFront (IsFull NextConstant 0) ts
