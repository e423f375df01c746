-- The longest of several names, and of those in a type.
use Rattle.std.proofs.Common.{◌≡◌, ℕ, suc, ◌+◌, ◌≤◌, true, false, Bool, List, [], ◌∷◌, ◌++◌, length, map, refl, sym, ap, arith, ◌∙◌}
use Rattle.std.specs.Prelude.{nat_le}
use Rattle.decl_tree.specs.declared.declaration.Member.TheFolds.{fold-roll-Member, fold_out-TypeDecl}
use Rattle.decl_tree.specs.declared.declaration.Member.TheOpen.{Member-F}
use Rattle.decl_tree.specs.declared.declaration.Member.TheVariants as member
use Rattle.decl_tree.specs.declared.declaration.TypeDecl.{TypeDecl}
use Rattle.decl_tree.specs.declared.member.ConstantDecl.{ConstantDecl}
use Rattle.decl_tree.specs.declared.member.ConstructorDecl.{ConstructorDecl}
use Rattle.decl_tree.specs.declared.member.FieldDecl.{FieldDecl}
use Rattle.decl_tree.specs.declared.member.MethodDecl.{MethodDecl}
use Rattle.decl_limits.specs.Names.{greatest, member_step, declaration_step, longest, longest_member}

pub greatest-first : (n : ℕ) (ns : List ℕ) → n ≤ greatest (n ∷ ns)
greatest-first n ns = go (nat_le n (greatest ns)) refl
  where
    go : (b : Bool) → nat_le n (greatest ns) ≡ b → n ≤ greatest (n ∷ ns)
    go true e = rw e (grind (arith, e))
    go false e = rw e (omega arith)

pub greatest-rest : (n : ℕ) (ns : List ℕ) → greatest ns ≤ greatest (n ∷ ns)
greatest-rest n ns = go (nat_le n (greatest ns)) refl
  where
    go : (b : Bool) → nat_le n (greatest ns) ≡ b → greatest ns ≤ greatest (n ∷ ns)
    go true e = rw e (omega arith)
    go false e = rw e (grind (arith, e))

greatest-bound : (m : ℕ) (ns : List ℕ) (n : ℕ) → n ≤ m → greatest ns ≤ m → greatest (n ∷ ns) ≤ m
greatest-bound m ns n a b = go (nat_le n (greatest ns)) refl
  where
    go : (c : Bool) → nat_le n (greatest ns) ≡ c → greatest (n ∷ ns) ≤ m
    go true e = rw e b
    go false e = rw e a

-- one item behind others
pub greatest-push : (ns : List ℕ) (n m : ℕ) → greatest ns ≤ m → n ≤ m → greatest (ns ++ n ∷ []) ≤ m
greatest-push [] n m a b = greatest-bound m [] n b a
greatest-push (k ∷ ns) n m a b =
    greatest-bound m (ns ++ n ∷ []) k (omega (arith, greatest-first k ns, a)) (greatest-push ns n m (omega (arith, greatest-rest k ns, a)) b)

-- an item that is too long makes the whole too long
pub greatest-has : (ns : List ℕ) (n : ℕ) (ks : List ℕ) → n ≤ greatest (ns ++ n ∷ ks)
greatest-has [] n ks = greatest-first n ks
greatest-has (k ∷ ns) n ks = omega (arith, greatest-has ns n ks, greatest-rest k (ns ++ n ∷ ks))

-- ---- the longest name in a type and in each kind of member

pub longest_member-Field : (field : FieldDecl) → longest_member (member.Field field) ≡ 0
unfolding longest_member
longest_member-Field field = ap longest_member (sym (member.rolls-Field field)) ∙ fold-roll-Member ℕ ℕ member_step declaration_step (Member-F.Field field)

pub longest_member-Method : (method : MethodDecl) → longest_member (member.Method method) ≡ 0
unfolding longest_member
longest_member-Method method = ap longest_member (sym (member.rolls-Method method)) ∙ fold-roll-Member ℕ ℕ member_step declaration_step (Member-F.Method method)

pub longest_member-Constructor : (constructor : ConstructorDecl) → longest_member (member.Constructor constructor) ≡ 0
unfolding longest_member
longest_member-Constructor constructor = ap longest_member (sym (member.rolls-Constructor constructor)) ∙ fold-roll-Member ℕ ℕ member_step declaration_step (Member-F.Constructor constructor)

pub longest_member-Constant : (constant : ConstantDecl) → longest_member (member.Constant constant) ≡ 0
unfolding longest_member
longest_member-Constant constant = ap longest_member (sym (member.rolls-Constant constant)) ∙ fold-roll-Member ℕ ℕ member_step declaration_step (Member-F.Constant constant)

pub longest_member-Nested : (declaration : TypeDecl) → longest_member (member.Nested declaration) ≡ suc (longest declaration)
unfolding longest_member longest
longest_member-Nested declaration = ap longest_member (sym (member.rolls-Nested declaration)) ∙ fold-roll-Member ℕ ℕ member_step declaration_step (Member-F.Nested declaration)

pub longest-is : (d : TypeDecl) → longest d ≡ length d.name + greatest (map longest_member d.members)
unfolding longest longest_member
longest-is d = fold_out-TypeDecl ℕ ℕ member_step declaration_step d
