-- An enum is a heading with constants, and behind it its members up to the `}`.
use Rattle.std.proofs.Common.{◌≡◌, ℕ, zero, suc, ◌+◌, Bool, true, false, ◌||◌, List, [], ◌∷◌, ◌++◌, map, length, Option, Some, None, ◌⊎◌, inl, inr, refl, sym, ap, subst, ◌∙◌, append_assoc, length-append, ⊎_elim, arith}
use Rattle.std.specs.List.{list_any}
use Rattle.std.proofs.lemmas.List.Folds.{list_any-append}
use Rattle.decl_tree.specs.Legal.{constructs}
use Rattle.decl_tree.specs.declared.declaration.Member.{Member, out-Member}
use Rattle.decl_tree.specs.declared.declaration.TypeKind.TheVariants as kind
use Rattle.decl_grammar.specs.TokenNames as token
use Rattle.decl_tree.specs.declared.type_text.TypeText.{TypeText}
use Rattle.decl_grammar.specs.declared.symbol.Symbol.{Symbol}
use Rattle.decl_grammar.specs.declared.written.MemberAt.{MemberAt}
use Rattle.decl_grammar.specs.declared.written.NameAt.{NameAt}
use Rattle.decl_grammar.specs.declared.written.TypeRest.{TypeRest}
use Rattle.decl_grammar.specs.Reading.{has}
use Rattle.decl_grammar.specs.Form.{Is, turn, many, enum_rest}
use Rattle.decl_grammar.specs.Types.{list_or_none, no_values, silently, sign, behind}
use Rattle.decl_grammar.specs.Grammar.{constant, some_constants, enum_rest_form, constant_list, constants, enum_members, enum_form, rest_of, member_form, joined_lists}
use Rattle.decl_grammar.specs.Rule.{WholeAt}
use Rattle.decl_limits.specs.Children.{declared_children, enum_heading, whole_constants}
use Rattle.decl_children.specs.Members.{closed_members}
use Rattle.decl_children.specs.TypeWalks.{has_constructor, added_to, enum_front, enum_tail}
use Rattle.decl_children.proofs.Phrases.{Phrase, paired, turned, put-behind, put-before, some-there, none-there, moved, means, un-pair, un-turn, un-behind, un-before, un-maybe, un-either}
use Rattle.decl_children.proofs.MemberShapes.{constant-constructs}
use Rattle.decl_children.proofs.Passages.{onto, under}
use Rattle.decl_children.proofs.TypeSplits.{Split, Joined, children-are, name-plain, name-placed}

-- ---- no constant is a constructor

abbrev NoConstructor : List MemberAt → Type 0
NoConstructor ms = has_constructor ms ≡ false

pub constructors-joined : (xs ys : List MemberAt) → has_constructor (xs ++ ys) ≡ (has_constructor xs || has_constructor ys)
constructors-joined [] ys = refl
constructors-joined (x ∷ xs) ys = go (constructs (out-Member x.member)) (constructors-joined xs ys)
  where
    go : (b : Bool) → has_constructor (xs ++ ys) ≡ (has_constructor xs || has_constructor ys) → (b || has_constructor (xs ++ ys)) ≡ ((b || has_constructor xs) || has_constructor ys)
    go true h = refl
    go false h = h

constant-none : (us : List Symbol) (x : MemberAt) (ms : List MemberAt) → Phrase constant us x → NoConstructor ms → NoConstructor (x ∷ ms)
unfolding constant
constant-none us x ms p none =
    let t = un-turn p in
    ap (λ (y : MemberAt). has_constructor (y ∷ ms)) t.is_value ∙ (constant-constructs t.value ms ∙ none)

-- constants at this height, where those behind a comma have none
row-step : (h : ℕ) → ((b : List Symbol) (rs : List MemberAt) → WholeAt h enum_rest b rs → NoConstructor rs) → (us : List Symbol) (ms : List MemberAt) → Is (WholeAt h) some_constants us ms → NoConstructor ms
unfolding some_constants
row-step h inner us ms ((x, None), (a, b, cut, is, more), e) = subst (λ (ys : List MemberAt). NoConstructor ys) (sym e) (constant-none a x [] (record { is = (h, is) }) refl)
row-step h inner us ms ((x, Some rs), (a, b, cut, is, more), e) = subst (λ (ys : List MemberAt). NoConstructor ys) (sym e) (constant-none a x rs (record { is = (h, is) }) (inner b rs more))

rest-step : (h : ℕ) → ((us : List Symbol) (ms : List MemberAt) → Is (WholeAt h) some_constants us ms → NoConstructor ms) → (b : List Symbol) (rs : List MemberAt) → Is (WholeAt h) enum_rest_form b rs → NoConstructor rs
unfolding enum_rest_form
rest-step h inner b rs (y, (front, back, cut, comma, (None, is, e)), d) = subst (λ (ys : List MemberAt). NoConstructor ys) (sym (d ∙ e)) refl
rest-step h inner b rs (y, (front, back, cut, comma, (Some zs, is, e)), d) = subst (λ (ys : List MemberAt). NoConstructor ys) (sym (d ∙ e)) (inner back zs is)

row-none : (h : ℕ) (us : List Symbol) (ms : List MemberAt) → Is (WholeAt h) some_constants us ms → NoConstructor ms
row-none zero us ms is = row-step zero (λ b rs w. absurd w) us ms is
row-none (suc h) us ms is = row-step (suc h) (λ b rs w. rest-step h (λ vs ns n. row-none h vs ns n) b rs w) us ms is

list-none : (us : List Symbol) (ms : List MemberAt) → Phrase constant_list us ms → NoConstructor ms
unfolding constant_list
list-none us ms p =
    ⊎_elim (λ (q : Phrase some_constants us ms). row-none q.is.0 us ms q.is.1)
    (λ (q : Phrase (turn no_values (sign token.comma)) us ms). let t = un-turn q in subst (λ (ys : List MemberAt). NoConstructor ys) (sym t.is_value) refl)
    (un-either p)

pub constants-none : (us : List Symbol) (ms : List MemberAt) → Phrase constants us ms → NoConstructor ms
unfolding constants
constants-none us ms p =
    let t = un-turn p in
    ⊎_elim (λ (z : (t.value ≡ None) × (us ≡ [])). subst (λ (ys : List MemberAt). NoConstructor ys) (sym (t.is_value ∙ ap list_or_none z.0)) refl)
    (λ (z : (xs : List MemberAt) × (t.value ≡ Some xs) × Phrase constant_list us xs). subst (λ (ys : List MemberAt). NoConstructor ys) (sym (t.is_value ∙ ap list_or_none z.1)) (list-none us z.0 z.2))
    (un-maybe t.whole)

-- ---- the whole of an enum

enum-children : (n : NameAt) (types : List TypeText) (cs ms : List MemberAt) → NoConstructor cs → declared_children (rest_of kind.Enum n [] None types (cs ++ ms)) ≡ length cs + length ms + added_to kind.Enum (has_constructor ms)
enum-children n types cs ms none =
    let same : has_constructor (cs ++ ms) ≡ has_constructor ms = constructors-joined cs ms ∙ ap (λ (b : Bool). b || has_constructor ms) none in
    omega (arith, children-are kind.Enum n [] None types (cs ++ ms), length-append cs ms, ap (λ (b : Bool). added_to kind.Enum b) same)

pub enum-out : (us : List Symbol) (x : TypeRest) → Phrase enum_form us x → Split kind.Enum enum_front enum_tail us (declared_children x)
unfolding enum_form enum_heading
enum-out us x p =
    let t = un-turn p in
    let a = un-behind t.whole in
    let b = un-pair a.second in
    let c = un-pair b.second in
    let d = un-behind c.second in
    let e = un-pair d.second in
    let v = t.value in
    record {
      front = (a.front ++ (b.front ++ c.front)) ++ (d.front ++ e.front);
      back = e.back;
      count = length v.1.1.0;
      members = v.1.1.1;
      parts = onto (a.front ++ (b.front ++ c.front)) _ e.back (onto a.front _ c.back a.parts (onto b.front _ c.back b.parts c.parts)) (onto d.front _ e.back d.parts e.parts);
      heading = turned length (put-behind (turned silently (put-behind a.first (put-behind (name-plain b.first) c.first))) (put-behind d.first e.first));
      others = e.second;
      total = ap declared_children t.is_value ∙ enum-children v.0 v.1.0 v.1.1.0 v.1.1.1 (constants-none e.front v.1.1.0 e.first);
    }

pub enum-in : (front back : List Symbol) (n : ℕ) (ms : List MemberAt) → Phrase enum_front front n → Phrase enum_tail back ms → Joined enum_form (front ++ back) (n + length ms + added_to kind.Enum (has_constructor ms))
unfolding enum_form enum_heading
enum-in front back n ms p q =
    let t = un-turn p in
    let a = un-behind t.whole in
    let b = un-behind a.second in
    let h = un-turn a.first in
    let c = un-behind h.whole in
    let d = un-behind c.second in
    let m = name-placed d.first in
    let g : NameAt × (List TypeText × (List MemberAt × List MemberAt)) → TypeRest = λ x. rest_of kind.Enum x.0 [] None x.1.0 (x.1.1.0 ++ x.1.1.1) in
    let whole = turned g (put-behind c.first (paired m.whole (paired d.second (put-behind b.first (paired b.second q))))) in
    let rest : List Symbol = b.front ++ (b.back ++ back) in
    let parts : front ++ back ≡ c.front ++ (d.front ++ (d.back ++ rest)) =
    under a.front _ back refl a.parts ∙ ap (λ (zs : List Symbol). a.front ++ zs) (under b.front _ back refl b.parts)
    ∙ (under c.front _ rest refl c.parts ∙ ap (λ (zs : List Symbol). c.front ++ zs) (under d.front _ rest refl d.parts)) in
    record {
      value = rest_of kind.Enum m.value [] None h.value (t.value ++ ms);
      whole = moved (front ++ back) (sym parts) whole;
      total = enum-children m.value h.value t.value ms (constants-none b.back t.value b.second) ∙ ap (λ (j : ℕ). j + length ms + added_to kind.Enum (has_constructor ms)) (sym t.is_value);
    }

-- ---- what stands behind the constants

-- the `}`, or a `;` and members up to the `}`
pub record ClosedAt (us : List Symbol) (ms : List MemberAt) : Type 0 where
  pub brace : Symbol
  pub is_brace : has (64 ∷ []) brace.sort ≡ true
  pub parts : us ≡ brace ∷ []
  pub none : ms ≡ []

pub record MembersAt (us : List Symbol) (ms : List MemberAt) : Type 0 where
  pub semicolon : Symbol
  pub is_semicolon : has (67 ∷ []) semicolon.sort ≡ true
  pub inner : List Symbol
  pub parts : us ≡ semicolon ∷ inner
  pub others : Phrase (closed_members kind.Enum) inner ms

pub tail-out : (us : List Symbol) (ms : List MemberAt) → Phrase enum_tail us ms → ClosedAt us ms ⊎ MembersAt us ms
unfolding enum_members
tail-out us ms p =
    let b = un-before p in
    let t = un-turn b.first in
    ⊎_elim
    (λ (z : (t.value ≡ None) × (b.front ≡ [])).
    inl (record {
      brace = b.value;
      is_brace = b.second.is.1.1;
      parts = b.parts ∙ (ap (λ (zs : List Symbol). zs ++ b.back) z.1 ∙ b.second.is.1.0);
      none = t.is_value ∙ ap list_or_none z.0;
    }))
    (λ (z : (xs : List MemberAt) × (t.value ≡ Some xs) × Phrase (behind (sign token.semicolon) (turn joined_lists (many (member_form kind.Enum)))) b.front xs).
    let c = un-behind z.2 in
    inr (record {
      semicolon = c.value;
      is_semicolon = c.first.is.1.1;
      inner = c.back ++ b.back;
      parts = under c.front _ b.back b.parts c.parts ∙ ap (λ (zs : List Symbol). zs ++ (c.back ++ b.back)) c.first.is.1.0;
      others = means ms (sym (t.is_value ∙ ap list_or_none z.1)) (put-before c.second b.second);
    }))
    (un-maybe t.whole)

pub tail-closed : (s : Symbol) → has (64 ∷ []) s.sort ≡ true → Phrase enum_tail (s ∷ []) []
unfolding enum_members
tail-closed s e =
    let brace : Phrase (sign token.close_brace) (s ∷ []) s = record { is = (0, (refl, e)) } in
    put-before (turned list_or_none (none-there (behind (sign token.semicolon) (turn joined_lists (many (member_form kind.Enum)))))) brace

pub tail-members : (s : Symbol) (us : List Symbol) (ms : List MemberAt) → has (67 ∷ []) s.sort ≡ true → Phrase (closed_members kind.Enum) us ms → Phrase enum_tail (s ∷ us) ms
unfolding enum_members
tail-members s us ms e p =
    let b = un-before p in
    let semicolon : Phrase (sign token.semicolon) (s ∷ []) s = record { is = (0, (refl, e)) } in
    moved (s ∷ us) (ap (λ (zs : List Symbol). s ∷ zs) (sym b.parts)) (put-before (turned list_or_none (some-there (put-behind semicolon b.first))) b.second)

-- ---- the heading up to the `;`

pub record FrontAt (us : List Symbol) (n : ℕ) : Type 0 where
  pub front : List Symbol
  pub semicolon : Symbol
  pub is_semicolon : has (67 ∷ []) semicolon.sort ≡ true
  pub parts : us ≡ front ++ semicolon ∷ []
  pub heading : Phrase enum_front front n

pub constants-out : (us : List Symbol) (n : ℕ) → Phrase whole_constants us n → FrontAt us n
unfolding whole_constants
constants-out us n p =
    let t = un-turn p in
    let a = un-behind t.whole in
    let b = un-behind a.second in
    let c = un-before b.second in
    record {
      front = a.front ++ (b.front ++ c.front);
      semicolon = c.value;
      is_semicolon = c.second.is.1.1;
      parts = onto a.front _ (c.value ∷ []) a.parts (onto b.front _ (c.value ∷ []) b.parts (c.parts ∙ ap (λ (zs : List Symbol). c.front ++ zs) c.second.is.1.0));
      heading = means n (sym t.is_value) (turned length (put-behind a.first (put-behind b.first c.first)));
    }

pub constants-in : (us : List Symbol) (s : Symbol) (n : ℕ) → has (67 ∷ []) s.sort ≡ true → Phrase enum_front us n → Phrase whole_constants (us ++ s ∷ []) n
unfolding whole_constants
constants-in us s n e p =
    let t = un-turn p in
    let a = un-behind t.whole in
    let b = un-behind a.second in
    let semicolon : Phrase (sign token.semicolon) (s ∷ []) s = record { is = (0, (refl, e)) } in
    let whole = turned length (put-behind a.first (put-behind b.first (put-before b.second semicolon))) in
    let parts : us ++ s ∷ [] ≡ a.front ++ (b.front ++ (b.back ++ s ∷ [])) = under a.front _ (s ∷ []) refl a.parts ∙ ap (λ (zs : List Symbol). a.front ++ zs) (under b.front _ (s ∷ []) refl b.parts) in
    means n (sym t.is_value) (moved (us ++ s ∷ []) (sym parts) whole)
