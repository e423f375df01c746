-- What is read of a member: a `;`, an initialiser, or what its declaration gives.
use Rattle.std.proofs.Common.{◌≡◌, ℕ, true, false, List, [], ◌∷◌, ◌++◌, refl, ap}
use Rattle.std.specs.Prelude.{◌&&◌}
use Rattle.std.proofs.lemmas.List.{append-nil}
use Rattle.decl_grammar.specs.declared.written.MemberAt.{MemberAt}
use Rattle.decl_tree.specs.declared.declaration.TypeKind.{TypeKind}
use Rattle.decl_tree.specs.declared.declaration.TypeKind.TheVariants as kind
use Rattle.decl_grammar.specs.declared.symbol.Symbol.{Symbol}
use Rattle.decl_grammar.specs.declared.fault.ReadFault.{ReadFault}
use Rattle.decl_grammar.specs.Reading.{starts, done, Fails, one_at, skip}
use Rattle.decl_grammar.specs.Form.{with_front}
use Rattle.decl_grammar.specs.Grammar.{no_member, member_from, modified_form, member_form}
use Rattle.decl_grammar.specs.Rule.{reads}
use Rattle.decl_types.specs.Members.{has_blocks, behind_members}
use Rattle.decl_grammar.proofs.Loop.{turned_fails}

front-none : (front : List MemberAt) (rest : List Symbol) → done (front ++ []) rest ≡ done front rest
front-none front rest = ap (λ (ms : List MemberAt). done ms rest) (append-nil front)

pub semicolon-read : (room : ℕ) (k : TypeKind) (front : List MemberAt) (ts rest : List Symbol) (t : Symbol) → starts (67 ∷ []) ts ≡ true → one_at (67 ∷ []) ts ≡ done t rest → with_front front (reads room (member_form k) ts) ≡ done front rest
unfolding member_form
semicolon-read room k front ts rest t s e = rw (s, e) (front-none front rest)

pub semicolon-fails : (room : ℕ) (k : TypeKind) (front : List MemberAt) (ts : List Symbol) (e : ReadFault) → starts (67 ∷ []) ts ≡ true → Fails e (one_at (67 ∷ []) ts) → Fails e (with_front front (reads room (member_form k) ts))
unfolding member_form
semicolon-fails room k front ts e s p = rw s (turned_fails (behind_members front) e _ (turned_fails no_member e _ p))

pub block-read : (room : ℕ) (k : TypeKind) (front : List MemberAt) (ts rest : List Symbol) → starts (67 ∷ []) ts ≡ false → (has_blocks k && starts (63 ∷ []) ts) ≡ true → skip (63 ∷ []) ts ≡ done tt rest → with_front front (reads room (member_form k) ts) ≡ done front rest
unfolding member_form
block-read room kind.Enum front ts rest s b e = rw (s, b, e) (front-none front rest)
block-read room kind.Class front ts rest s b e = rw (s, b, e) (front-none front rest)
block-read room kind.AnnotationType front ts rest s b e = absurd cc
block-read room kind.Interface front ts rest s b e = absurd cc

pub block-fails : (room : ℕ) (k : TypeKind) (front : List MemberAt) (ts : List Symbol) (e : ReadFault) → starts (67 ∷ []) ts ≡ false → (has_blocks k && starts (63 ∷ []) ts) ≡ true → Fails e (skip (63 ∷ []) ts) → Fails e (with_front front (reads room (member_form k) ts))
unfolding member_form
block-fails room kind.Enum front ts e s b p = rw (s, b) (turned_fails (behind_members front) e _ (turned_fails no_member e _ p))
block-fails room kind.Class front ts e s b p = rw (s, b) (turned_fails (behind_members front) e _ (turned_fails no_member e _ p))
block-fails room kind.AnnotationType front ts e s b p = absurd cc
block-fails room kind.Interface front ts e s b p = absurd cc

pub declared-read : (room : ℕ) (k : TypeKind) (ts : List Symbol) → starts (67 ∷ []) ts ≡ false → (has_blocks k && starts (63 ∷ []) ts) ≡ false → reads room (member_form k) ts ≡ reads room (member_from (modified_form k)) ts
unfolding member_form
declared-read room kind.Enum ts s b = rw (s, b) refl
declared-read room kind.Class ts s b = rw (s, b) refl
declared-read room kind.AnnotationType ts s b = rw s refl
declared-read room kind.Interface ts s b = rw s refl
