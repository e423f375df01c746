-- What is read of a member of a class type behind the first name of the type.
use Rattle.std.proofs.Common.{◌≡◌, ℕ, List, [], ◌∷◌, ◌++◌, Option, Result, Ok, Err, refl, sym, ap, ◌∙◌}
use Rattle.decl_tree.specs.declared.type_text.TypeText.{TypeText}
use Rattle.apt_base.specs.declared.around.Around.{Around}
use Rattle.decl_tree.specs.declared.type_text.NamedPart.{NamedPart}
use Rattle.decl_tree.specs.declared.type_text.BaseType.TheVariants as base
use Rattle.decl_grammar.specs.declared.symbol.Symbol.{Symbol}
use Rattle.decl_grammar.specs.declared.fault.ReadFault.{ReadFault}
use Rattle.decl_grammar.specs.declared.written.NameAt.{NameAt}
use Rattle.decl_grammar.specs.declared.written.Unmodified.{Unmodified}
use Rattle.decl_grammar.specs.declared.written.MemberRest.{MemberRest}
use Rattle.decl_grammar.specs.Reading.{Outcome, done, fault, deep, ◌>>=◌, Gives}
use Rattle.decl_grammar.specs.Form.{type_arguments, maybe, many, nest, turned, with_front}
use Rattle.decl_grammar.specs.Constants.{named_part_of, type_of}
use Rattle.decl_grammar.specs.Types.{next_part, dim, name_at}
use Rattle.decl_grammar.specs.Grammar.{Named, rest_form, typed_as, typed_member}
use Rattle.decl_grammar.specs.Rule.{reads}
use Rattle.decl_types.specs.Members.{named_as, named_at}
use Rattle.decl_grammar.proofs.Loop.{turned_done}

typed-read : (n nm : NameAt) (targs : Option (List TypeText)) (xs : List NamedPart) (ds : List Around) (o : Outcome Named)
    → turned (named_as (type_of (base.Named (named_part_of n.name targs ∷ xs)) ds) nm) o
    ≡ turned (named_at n) (turned typed_as ((((o >>= λ y a. done (nm, y) a) >>= λ y a. done (ds, y) a) >>= λ y a. done (xs, y) a) >>= λ y a. done (targs, y) a))
typed-read n nm targs xs ds (done f rest) = refl
typed-read n nm targs xs ds (fault at) = refl
typed-read n nm targs xs ds (deep at) = refl

typed-parts : (room : ℕ) (k : MemberRest) (n nm : NameAt) (targs : Option (List TypeText)) (xs : List NamedPart) (ds : List Around) (ts r1 r2 r3 r4 : List Symbol)
    → reads room (maybe (nest type_arguments)) ts ≡ done targs r1 → reads room (many next_part) r1 ≡ done xs r2 → reads room (many dim) r2 ≡ done ds r3 → reads room name_at r3 ≡ done nm r4
    → turned (named_as (type_of (base.Named (named_part_of n.name targs ∷ xs)) ds) nm) (reads room (rest_form k) r4) ≡ turned (named_at n) (reads room (typed_member k) ts)
unfolding typed_member
typed-parts room k n nm targs xs ds ts r1 r2 r3 r4 a b c d = rw (a, b, c, d) (typed-read n nm targs xs ds (reads room (rest_form k) r4))

pub typed-joined : (room : ℕ) (k : MemberRest) (n nm : NameAt) (targs : Option (List TypeText)) (front parts : List NamedPart) (ds : List Around) (of : TypeText) (ts r1 r2 r3 r4 : List Symbol)
    → reads room (maybe (nest type_arguments)) ts ≡ done targs r1 → front ≡ named_part_of n.name targs ∷ [] → with_front front (reads room (many next_part) r1) ≡ done parts r2 → reads room (many dim) r2 ≡ done ds r3 → reads room name_at r3 ≡ done nm r4
    → of ≡ type_of (base.Named parts) ds → turned (named_as of nm) (reads room (rest_form k) r4) ≡ turned (named_at n) (reads room (typed_member k) ts)
typed-joined room k n nm targs front parts ds of ts r1 r2 r3 r4 a first b c d is =
    let p = turned_done (λ xs. front ++ xs) (reads room (many next_part) r1) parts r2 b in
    let whole : parts ≡ named_part_of n.name targs ∷ p.0 = p.2 ∙ ap (λ (fs : List NamedPart). fs ++ p.0) first in
    ap (λ (t : TypeText). turned (named_as t nm) (reads room (rest_form k) r4)) (is ∙ ap (λ (ps : List NamedPart). type_of (base.Named ps) ds) whole)
    ∙ typed-parts room k n nm targs p.0 ds ts r1 r2 r3 r4 a p.1 c d

-- the same result for a whole of which this is a part
pub gives-moved : {X Y : Type 0} (view : X → Y × List Symbol) (r : Result X ReadFault) (part total : Outcome Y) → part ≡ total → Gives view r part → Gives view r total
gives-moved view r part total same p = rw (sym same) p
