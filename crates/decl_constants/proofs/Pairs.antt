-- Symbols that are read two by two.
use Rattle.std.proofs.Common.{◌≡◌, ℕ, suc, ◌<◌, ◌≤◌, ◌+◌, Bool, true, false, cond, List, [], ◌∷◌, ◌++◌, length, Option, Some, None, Result, Ok, Err, refl, sym, ap, ◌∙◌, arith, codes}
use Rattle.std.specs.Prelude.{MatchResult}
use Rattle.apt_base.specs.declared.around.Around.{Around}
use Rattle.apt_base.specs.declared.around.Around.TheVariants as around
use Rattle.decl_tree.specs.declared.type_text.BaseType.{BaseType}
use Rattle.decl_tree.specs.declared.type_text.BaseType.TheVariants as base
use Rattle.decl_tree.specs.declared.type_text.TypeText.{TypeText}
use Rattle.decl_tree.specs.declared.type_text.NamedPart.{NamedPart}
use Rattle.decl_grammar.specs.declared.symbol.Symbol.{Symbol}
use Rattle.decl_grammar.specs.Constants.{is_dot_name, dotted_name, behind_two, text_alone, dim_here, class_here, chain_from, class_end, class_named, name_part, type_of}

-- ---- what is behind two is fewer

pub dotted-fewer : (ss rest : List Symbol) (o : Option Symbol) (n : Symbol) → o ≡ dotted_name ss → o ≡ Some n → rest ≡ behind_two ss → length rest < length ss
dotted-fewer [] rest o n is some behind = absurd cc
dotted-fewer (s ∷ []) rest o n is some behind = absurd cc
dotted-fewer (s ∷ m ∷ us) rest o n is some behind = omega (arith, ap length behind)

pub dims-fewer : (ss rest : List Symbol) (c : Bool) → c ≡ dim_here ss → c ≡ true → rest ≡ behind_two ss → length rest < length ss
dims-fewer [] rest c is there behind = absurd cc
dims-fewer (s ∷ []) rest c is there behind = absurd cc
dims-fewer (s ∷ m ∷ us) rest c is there behind = omega (arith, ap length behind)

-- ---- names that dots join

pub chain-goes : (t next : List ℕ) (ss rest : List Symbol) (o : Option Symbol) (n : Symbol) (total : Option (List ℕ)) → o ≡ dotted_name ss → o ≡ Some n → rest ≡ behind_two ss → next ≡ (t ++ codes ".") ++ n.text → chain_from t ss ≡ total → chain_from next rest ≡ total
chain-goes t next [] rest o n total is some behind grown so_far = absurd cc
chain-goes t next (s ∷ []) rest o n total is some behind grown so_far = absurd cc
chain-goes t next (s ∷ m ∷ us) rest o n total is some behind grown so_far = go (is_dot_name s m) (sym is ∙ some) so_far
  where
    go : (c : Bool) → cond c (Some m) None ≡ Some n → cond c (chain_from ((t ++ codes ".") ++ m.text) us) None ≡ total → chain_from next rest ≡ total
    go true e f =
        let same : m ≡ n = cc in
        ap (λ (x : List ℕ). chain_from x rest) grown ∙ (ap (chain_from ((t ++ codes ".") ++ n.text)) behind ∙ (ap (λ (x : Symbol). chain_from ((t ++ codes ".") ++ x.text) us) (sym same) ∙ f))
    go false e f = absurd cc

pub chain-ends : (t : List ℕ) (ss : List Symbol) (o : Option Symbol) (total : Option (List ℕ)) → o ≡ dotted_name ss → o ≡ None → chain_from t ss ≡ total → text_alone t ss ≡ total
chain-ends t [] o total is none so_far = so_far
chain-ends t (s ∷ []) o total is none so_far = so_far
chain-ends t (s ∷ m ∷ us) o total is none so_far = go (is_dot_name s m) (sym is ∙ none) so_far
  where
    go : (c : Bool) → cond c (Some m) None ≡ None → cond c (chain_from ((t ++ codes ".") ++ m.text) us) None ≡ total → None ≡ total
    go true e f = absurd cc
    go false e f = f

-- ---- class literals

pub class-goes : (of : BaseType) (items next : List Around) (ss rest : List Symbol) (c : Bool) (total : Option TypeText) → c ≡ dim_here ss → c ≡ true → rest ≡ behind_two ss → next ≡ items ++ around.Array ∷ [] → class_end of items ss ≡ total → class_end of next rest ≡ total
class-goes of items next [] rest c total is there behind grown so_far = absurd cc
class-goes of items next (s ∷ []) rest c total is there behind grown so_far = absurd cc
class-goes of items next (s ∷ m ∷ us) rest c total is there behind grown so_far = go (dim_here (s ∷ m ∷ us)) (sym is ∙ there) so_far
  where
    go : (d : Bool) → d ≡ true → cond d (class_end of (items ++ around.Array ∷ []) us) (cond (class_here (s ∷ m ∷ us)) (Some (type_of of items)) None) ≡ total → class_end of next rest ≡ total
    go true e f = ap (λ (x : List Around). class_end of x rest) grown ∙ (ap (class_end of (items ++ around.Array ∷ [])) behind ∙ f)
    go false e f = absurd cc

pub class-ends : (of : BaseType) (items : List Around) (ss : List Symbol) (c : Bool) (total : Option TypeText) → c ≡ dim_here ss → c ≡ false → class_end of items ss ≡ total → cond (class_here ss) (Some (type_of of items)) None ≡ total
class-ends of items [] c total is none so_far = so_far
class-ends of items (s ∷ []) c total is none so_far = so_far
class-ends of items (s ∷ m ∷ us) c total is none so_far = go (dim_here (s ∷ m ∷ us)) (sym is ∙ none) so_far
  where
    go : (d : Bool) → d ≡ false → cond d (class_end of (items ++ around.Array ∷ []) us) (cond (class_here (s ∷ m ∷ us)) (Some (type_of of items)) None) ≡ total → cond (class_here (s ∷ m ∷ us)) (Some (type_of of items)) None ≡ total
    go true e f = absurd cc
    go false e f = f

pub named-goes : (parts next : List NamedPart) (ss rest : List Symbol) (o : Option Symbol) (n : Symbol) (total : Option TypeText) → o ≡ dotted_name ss → o ≡ Some n → rest ≡ behind_two ss → next ≡ parts ++ name_part n.text ∷ [] → class_named parts ss ≡ total → class_named next rest ≡ total
named-goes parts next [] rest o n total is some behind grown so_far = absurd cc
named-goes parts next (s ∷ []) rest o n total is some behind grown so_far = absurd cc
named-goes parts next (s ∷ m ∷ us) rest o n total is some behind grown so_far = go (is_dot_name s m) (sym is ∙ some) so_far
  where
    go : (c : Bool) → cond c (Some m) None ≡ Some n → cond c (class_named (parts ++ name_part m.text ∷ []) us) (class_end (base.Named parts) [] (s ∷ m ∷ us)) ≡ total → class_named next rest ≡ total
    go true e f =
        let same : m ≡ n = cc in
        ap (λ (x : List NamedPart). class_named x rest) grown ∙ (ap (class_named (parts ++ name_part n.text ∷ [])) behind ∙ (ap (λ (x : Symbol). class_named (parts ++ name_part x.text ∷ []) us) (sym same) ∙ f))
    go false e f = absurd cc

pub named-ends : (parts : List NamedPart) (ss : List Symbol) (o : Option Symbol) (total : Option TypeText) → o ≡ dotted_name ss → o ≡ None → class_named parts ss ≡ total → class_end (base.Named parts) [] ss ≡ total
named-ends parts [] o total is none so_far = so_far
named-ends parts (s ∷ []) o total is none so_far = so_far
named-ends parts (s ∷ m ∷ us) o total is none so_far = go (is_dot_name s m) (sym is ∙ none) so_far
  where
    go : (c : Bool) → cond c (Some m) None ≡ None → cond c (class_named (parts ++ name_part m.text ∷ []) us) (class_end (base.Named parts) [] (s ∷ m ∷ us)) ≡ total → class_end (base.Named parts) [] (s ∷ m ∷ us) ≡ total
    go true e f = absurd cc
    go false e f = f

-- what one is, the other is
pub class-moved : {E : Type 0} (r : Result (Option TypeText) E) (P : E → Type 0) (x y : Option TypeText) → x ≡ y → MatchResult r (λ t. t ≡ x) P → MatchResult r (λ t. t ≡ y) P
class-moved (Ok t) P x y e p = p ∙ e
class-moved (Err f) P x y e p = p
