-- What is whole or begun at one height is so at each greater one.
use Rattle.std.proofs.Common.{ℕ, zero, suc}
use Rattle.decl_grammar.specs.Rule.{rule, WholeAt, BegunAt}
use Rattle.decl_grammar.proofs.Rivals.{WholeUp, BegunUp, Is-up, Begins-up}

pub whole-next : (h : ℕ) → WholeUp (WholeAt h) (WholeAt (suc h))
whole-next zero m ts x is = absurd is
whole-next (suc h) m ts x is = Is-up (WholeAt h) (WholeAt (suc h)) (whole-next h) (rule m) ts x is

pub begun-next : (h : ℕ) → BegunUp (BegunAt h) (BegunAt (suc h))
begun-next zero m ts n b = absurd b
begun-next (suc h) m ts n b = Begins-up (WholeAt h) (WholeAt (suc h)) (BegunAt h) (BegunAt (suc h)) (whole-next h) (begun-next h) (rule m) ts n b

-- one height above another
abbrev pub above : ℕ → ℕ → ℕ
above zero g = g
above (suc h) g = suc (above h g)

pub whole-first : (h g : ℕ) → WholeUp (WholeAt h) (WholeAt (above h g))
whole-first zero g m ts x is = absurd is
whole-first (suc h) g m ts x is = Is-up (WholeAt h) (WholeAt (above h g)) (whole-first h g) (rule m) ts x is

pub begun-first : (h g : ℕ) → BegunUp (BegunAt h) (BegunAt (above h g))
begun-first zero g m ts n b = absurd b
begun-first (suc h) g m ts n b = Begins-up (WholeAt h) (WholeAt (above h g)) (BegunAt h) (BegunAt (above h g)) (whole-first h g) (begun-first h g) (rule m) ts n b

pub whole-second : (h g : ℕ) → WholeUp (WholeAt g) (WholeAt (above h g))
whole-second zero g m ts x is = is
whole-second (suc h) g m ts x is = whole-next (above h g) m ts x (whole-second h g m ts x is)

pub begun-second : (h g : ℕ) → BegunUp (BegunAt g) (BegunAt (above h g))
begun-second zero g m ts n b = b
begun-second (suc h) g m ts n b = begun-next (above h g) m ts n (begun-second h g m ts n b)
