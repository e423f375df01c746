-- Members are gathered one by one, and what is read of a part is that of the whole.
use Rattle.std.proofs.Common.{◌≡◌, List, [], ◌++◌, refl, sym, append_assoc}
use Rattle.std.proofs.lemmas.List.{append-nil}
use Rattle.decl_grammar.specs.Reading.{Outcome, done, fault, deep}
use Rattle.decl_grammar.specs.Form.{turned}
use Rattle.decl_grammar.specs.Grammar.{joined_lists}
use Rattle.decl_types.specs.Members.{with_members, behind_members}
use Rattle.decl_grammar.proofs.Loop.{Folds}

pub members_fold : Folds behind_members with_members
members_fold = record { none = λ s. append-nil s; more = λ s x xs. sym (append_assoc s x (joined_lists xs)) }

pub none_behind : {A : Type 0} (front : List A) → front ++ [] ≡ front
none_behind front = append-nil front

-- one meaning and then another
pub turned_twice : {A B C : Type 0} (g : B → C) (h : A → B) (o : Outcome A) → turned (λ x. g (h x)) o ≡ turned g (turned h o)
turned_twice g h (done x rest) = refl
turned_twice g h (fault at) = refl
turned_twice g h (deep at) = refl
