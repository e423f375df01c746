-- What the question on the type of a member comes to, by what stands against it.
use Rattle.std.proofs.Common.{◌≡◌, ◌↔◌, Bool, true, false, None, Some, Ok, Err, sym, ◌∙◌}
use Rattle.std.proofs.lemmas.Bool.{false≢true}
use Rattle.std.specs.Prelude.{IsTrue}
use Rattle.apt_base.specs.declared.element.ElementRef.{ElementRef}
use Rattle.apt_base.specs.Limits.{max_type_steps}
use Rattle.element_table.specs.TypeTable.{TypeTable}
use Rattle.type_mirror.specs.declared.mirror.Mirror.{Mirror}
use Rattle.type_members.specs.MemberOf.{member_of}
use Rattle.type_queries.specs.MemberQuestion.{AreOfKind, GivesMember, IsMember, both_there}
use Rattle.type_queries.specs.declared.fault.QueryFault.TheVariants as fault

module _ (table : TypeTable) (container : Mirror) (at : ElementRef) (there : both_there table container at ≡ true) (r : Bool)
    (kinds : IsTrue r ↔ AreOfKind table container at) where
  pub member-other : r ≡ false → GivesMember (Err fault.WrongKind) table container at
  member-other fails = (there, λ (m : IsMember table container at). false≢true (sym fails ∙ kinds.1 m.kinds))

  is_member : r ≡ true → IsMember table container at
  is_member passes = record { there = there; kinds = kinds.0 passes }

  pub member-deep : r ≡ true → member_of table max_type_steps container at ≡ None → GivesMember (Err fault.TooDeep) table container at
  member-deep passes none = (is_member passes, none)

  pub member-given : (m : Mirror) → r ≡ true → member_of table max_type_steps container at ≡ Some m → GivesMember (Ok m) table container at
  member-given m passes some = (is_member passes, some)

pub ruleset answering = (member-other, member-deep, member-given)
