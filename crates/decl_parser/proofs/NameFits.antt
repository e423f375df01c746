-- Names of the members of a type that are short enough: one member at a time, and all of them behind the type's name.
use Rattle.std.proofs.Common.{◌≡◌, ℕ, suc, ◌+◌, ◌<◌, ◌≤◌, Bool, true, false, List, [], ◌∷◌, length, map, ◌⊎◌, inl, inr, refl, sym, ap, ◌∙◌, arith}
use Rattle.std.specs.Prelude.{nat_le, ◌&&◌}
use Rattle.std.specs.List.{list_all}
use Rattle.std.proofs.lemmas.Bool.{lt-leb, le-leb}
use Rattle.apt_base.specs.Limits.{max_name_bytes}
use Rattle.decl_tree.specs.declared.declaration.Member.{Member}
use Rattle.decl_tree.specs.declared.declaration.Member.TheVariants as member
use Rattle.decl_tree.specs.declared.declaration.TypeDecl.{TypeDecl}
use Rattle.decl_tree.specs.declared.member.ConstantDecl.{ConstantDecl}
use Rattle.decl_tree.specs.declared.member.ConstructorDecl.{ConstructorDecl}
use Rattle.decl_tree.specs.declared.member.FieldDecl.{FieldDecl}
use Rattle.decl_tree.specs.declared.member.MethodDecl.{MethodDecl}
use Rattle.decl_limits.specs.Names.{greatest, longest, longest_member, fits_behind}
use Rattle.decl_limits.proofs.NameRows.{greatest-first, longest_member-Field, longest_member-Method, longest_member-Constructor, longest_member-Constant, longest_member-Nested, longest-is}
use Rattle.decl_parser.specs.NamesShown.{member_fits_behind}

-- ---- one member

-- what a member is that is no type
abbrev pub IsNoType : Member → Type 0
IsNoType m =
    ((x : FieldDecl) × (m ≡ member.Field x)) ⊎ ((x : MethodDecl) × (m ≡ member.Method x)) ⊎ ((x : ConstructorDecl) × (m ≡ member.Constructor x)) ⊎ ((x : ConstantDecl) × (m ≡ member.Constant x))

no-names : (m : Member) → IsNoType m → longest_member m ≡ 0
no-names m (inl is) = ap longest_member is.1 ∙ longest_member-Field is.0
no-names m (inr (inl is)) = ap longest_member is.1 ∙ longest_member-Method is.0
no-names m (inr (inr (inl is))) = ap longest_member is.1 ∙ longest_member-Constructor is.0
no-names m (inr (inr (inr is))) = ap longest_member is.1 ∙ longest_member-Constant is.0

pub no-type-fits : (start : ℕ) (m : Member) → IsNoType m → start ≤ max_name_bytes → true ≡ member_fits_behind start m
no-type-fits start m is within =
    let none : longest_member m ≡ 0 = no-names m is in
    let fits : start + longest_member m ≤ max_name_bytes = omega arith in
    sym (le-leb (start + longest_member m) max_name_bytes fits)

pub nested-fits : (start : ℕ) (m : Member) (d : TypeDecl) (r : Bool) → m ≡ member.Nested d → r ≡ fits_behind (start + 1) d → r ≡ member_fits_behind start m
nested-fits start m d r is fits =
    let nested : longest_member m ≡ suc (longest d) = ap longest_member is ∙ longest_member-Nested d in
    let same : start + 1 + longest d ≡ start + longest_member m = omega arith in
    fits ∙ ap (λ (n : ℕ). nat_le n max_name_bytes) same

-- ---- all members

fits-first : (start n : ℕ) (ns : List ℕ) → nat_le (start + n) max_name_bytes ≡ true → nat_le (start + greatest ns) max_name_bytes ≡ nat_le (start + greatest (n ∷ ns)) max_name_bytes
fits-first start n ns fits = go (nat_le n (greatest ns)) refl
  where
    go : (b : Bool) → nat_le n (greatest ns) ≡ b → nat_le (start + greatest ns) max_name_bytes ≡ nat_le (start + greatest (n ∷ ns)) max_name_bytes
    go true e = rw e refl
    go false e =
        let below : greatest ns ≤ n = grind (arith, e) in
        let there : start + n ≤ max_name_bytes = grind (arith, fits) in
        let within : start + greatest ns ≤ max_name_bytes = omega arith in
        rw e (le-leb (start + greatest ns) max_name_bytes within ∙ sym fits)

fits-none : (start n : ℕ) (ns : List ℕ) → nat_le (start + n) max_name_bytes ≡ false → false ≡ nat_le (start + greatest (n ∷ ns)) max_name_bytes
fits-none start n ns long =
    let first : n ≤ greatest (n ∷ ns) = greatest-first n ns in
    let above : max_name_bytes < start + n = grind (arith, long) in
    let beyond : max_name_bytes < start + greatest (n ∷ ns) = omega arith in
    sym (lt-leb (start + greatest (n ∷ ns)) max_name_bytes beyond)

greatest-all : (start : ℕ) (ms : List Member) → start ≤ max_name_bytes → list_all (member_fits_behind start) ms ≡ nat_le (start + greatest (map longest_member ms)) max_name_bytes
greatest-all start [] within = let none : start + 0 ≤ max_name_bytes = omega arith in sym (le-leb (start + 0) max_name_bytes none)
greatest-all start (m ∷ ms) within = go (member_fits_behind start m) refl (greatest-all start ms within)
  where
    go : (b : Bool) → member_fits_behind start m ≡ b → list_all (member_fits_behind start) ms ≡ nat_le (start + greatest (map longest_member ms)) max_name_bytes
        → (member_fits_behind start m && list_all (member_fits_behind start) ms) ≡ nat_le (start + greatest (longest_member m ∷ map longest_member ms)) max_name_bytes
    go true e rest = rw e (rest ∙ fits-first start (longest_member m) (map longest_member ms) e)
    go false e rest = rw e (fits-none start (longest_member m) (map longest_member ms) e)

-- a type whose simple name ends within the limit: its members decide
pub members-decide : (start bytes : ℕ) (d : TypeDecl) (ms : List Member) (r : Bool) → bytes ≡ start + length d.name → bytes ≤ max_name_bytes → ms ≡ d.members → r ≡ list_all (member_fits_behind bytes) ms → r ≡ fits_behind start d
members-decide start bytes d ms r is within same all =
    let whole : longest d ≡ length d.name + greatest (map longest_member d.members) = longest-is d in
    let sum : bytes + greatest (map longest_member d.members) ≡ start + longest d = omega arith in
    all ∙ (ap (list_all (member_fits_behind bytes)) same ∙ (greatest-all bytes d.members within ∙ ap (λ (n : ℕ). nat_le n max_name_bytes) sum))

-- its simple name ends beyond the limit
pub name-long : (start : ℕ) (d : TypeDecl) → max_name_bytes < start + length d.name → false ≡ fits_behind start d
name-long start d above =
    let whole : longest d ≡ length d.name + greatest (map longest_member d.members) = longest-is d in
    let long : max_name_bytes < start + longest d = omega arith in
    sym (lt-leb (start + longest d) max_name_bytes long)
