-- A member is a `;`, an initialiser, or modifiers and a member behind them.
use Rattle.std.proofs.Common.{◌≡◌, ℕ, eqb, Bool, true, false, List, [], ◌∷◌, ◌++◌, Option, Some, None, ◌⊎◌, inl, inr, ⊎_elim, refl, sym, ap, subst, ◌∙◌, append_assoc}
use Rattle.std.proofs.lemmas.Bool.{eqb-true}
use Rattle.decl_tree.specs.declared.declaration.TypeKind.{TypeKind}
use Rattle.decl_tree.specs.declared.declaration.TypeKind.TheVariants as kind
use Rattle.decl_grammar.specs.declared.symbol.Symbol.{Symbol}
use Rattle.decl_grammar.specs.declared.written.MemberAt.{MemberAt}
use Rattle.decl_grammar.specs.declared.written.Modifiers.{Modifiers}
use Rattle.decl_grammar.specs.declared.written.Unmodified.{Unmodified}
use Rattle.decl_grammar.specs.declared.written.Unmodified.TheVariants as unmodified
use Rattle.decl_grammar.specs.TokenNames as token
use Rattle.decl_grammar.specs.Reading.{has}
use Rattle.decl_grammar.specs.Form.{Form, terminal, pair, turn, maybe, many, either, seen, nest, modifiers, plain_modifiers, static_word, plain_words, modifier_words}
use Rattle.decl_grammar.specs.Types.{Mark, bit_mark, marked, marks_of, with_marks, no_modifiers, modifiers_or_none, keyword, sign, behind, silently, modifier_annotation, modifier, plain_modifier, modifiers_form, optional_modifiers, type_modifiers}
use Rattle.decl_grammar.specs.Grammar.{Modified, block, bare, nothing_here, with_static, static_rest, plain_modified, class_modified, modified, no_member, first_doc, members_of, documented_members, member_from, modified_form, member_form}
use Rattle.decl_grammar.proofs.OneToken.{one_or, within, within-has}
use Rattle.decl_children.specs.TypeWalks.{unmodified_form, initialiser_block, nothing_form}
use Rattle.decl_children.proofs.Phrases.{Phrase, paired, turned, put-behind, some-there, none-there, at-left, at-right, nested, row-nil, row-cons, moved, means, un-pair, un-turn, un-behind, un-maybe, un-either, un-nest, un-nil, un-cons}
use Rattle.decl_children.proofs.Passages.{onto, under, seen-there, un-seen}

-- ---- taken apart

-- modifiers, and this behind them
record Parted (f : Form Unmodified) (us : List Symbol) (u : Unmodified) : Type 0 where
  front : List Symbol
  back : List Symbol
  marks : List Mark
  parts : us ≡ front ++ back
  row : Phrase (many modifier) front marks
  member : Phrase f back u

optional-row : (us : List Symbol) (m : Modifiers) → Phrase optional_modifiers us m → (marks : List Mark) × Phrase (many modifier) us marks
unfolding optional_modifiers
optional-row us m p =
    let t = un-turn p in
    ⊎_elim (λ (z : (t.value ≡ None) × (us ≡ [])). ([], moved us (sym z.1) (row-nil modifier)))
    (λ (z : (x : Modifiers) × (t.value ≡ Some x) × Phrase (nest modifiers) us x).
    let s = un-turn (un-nest modifiers z.2) in
    let q = un-pair s.whole in
    (s.value.0 ∷ s.value.1, moved us (sym q.parts) (row-cons q.first q.second)))
    (un-maybe t.whole)

optional-out : (f : Form Unmodified) (us : List Symbol) (x : Modified) → Phrase (pair optional_modifiers f) us x → Parted f us x.1
optional-out f us x p =
    let q = un-pair p in
    let r = optional-row q.front x.0 q.first in
    record { front = q.front; back = q.back; marks = r.0; parts = q.parts; row = r.1; member = q.second }

plain-within : within plain_words modifier_words ≡ true
plain-within = refl

plain-is : (us : List Symbol) (m : Mark) → Phrase plain_modifier us m → Phrase modifier us m
unfolding plain_modifier modifier
plain-is us m p =
    ⊎_elim
    (λ (q : Phrase (turn bit_mark (terminal plain_words)) us m).
    let t = un-turn q in
    let one : Phrase (terminal modifier_words) us t.value = record { is = (0, (t.whole.is.1.0, within-has plain_words modifier_words t.value.sort plain-within t.whole.is.1.1)) } in
    at-left (turn marked modifier_annotation) (means m (sym t.is_value) (turned bit_mark one)))
    (λ (q : Phrase (turn marked modifier_annotation) us m). at-right (turn bit_mark (terminal modifier_words)) q)
    (un-either p)

plain-out : (f : Form Unmodified) (us : List Symbol) (x : Modified) → Phrase (pair (nest plain_modifiers) f) us x → Parted f us x.1
plain-out f us x p =
    let q = un-pair p in
    let s = un-turn (un-nest plain_modifiers q.first) in
    let r = un-pair s.whole in
    record {
      front = r.front ++ r.back;
      back = q.back;
      marks = s.value.0 ∷ s.value.1;
      parts = q.parts ∙ ap (λ (zs : List Symbol). zs ++ q.back) r.parts;
      row = row-cons (plain-is r.front s.value.0 r.first) r.second;
      member = q.second;
    }

-- a first `static` is a modifier
static-mark : (us : List Symbol) (s : Symbol) → Phrase (keyword token.static) us s → Phrase modifier us (bit_mark s)
unfolding modifier
static-mark us s p =
    let one : Phrase (terminal modifier_words) us s = record { is = (0, (p.is.1.0, within-has (47 ∷ []) modifier_words s.sort refl p.is.1.1)) } in
    at-left (turn marked modifier_annotation) (turned bit_mark one)

-- nothing, or modifiers and a member behind them
class-out : (f : Form Unmodified) (us : List Symbol) (x : Modified) → Phrase (class_modified f) us x → (Phrase (behind (keyword token.static) block) us tt × (x ≡ nothing_here tt)) ⊎ Parted f us x.1
unfolding static_rest plain_modified
class-out f us x p = ⊎_elim first_way (λ (q : Phrase (either (plain_modified f) (behind (nest static_word) (static_rest f))) us x). ⊎_elim second_way third_way (un-either q)) (un-either p)
  where
    first_way : Phrase (turn bare f) us x → (Phrase (behind (keyword token.static) block) us tt × (x ≡ nothing_here tt)) ⊎ Parted f us x.1
    first_way q =
        let t = un-turn q in
        inr (record { front = []; back = us; marks = []; parts = refl; row = row-nil modifier; member = means x.1 (sym (ap (λ (y : Modified). y.1) t.is_value)) t.whole })

    second_way : Phrase (plain_modified f) us x → (Phrase (behind (keyword token.static) block) us tt × (x ≡ nothing_here tt)) ⊎ Parted f us x.1
    second_way q = inr (plain-out f us x q)

    third_way : Phrase (behind (nest static_word) (static_rest f)) us x → (Phrase (behind (keyword token.static) block) us tt × (x ≡ nothing_here tt)) ⊎ Parted f us x.1
    third_way q =
        let a = un-behind q in
        let word_there = un-nest static_word a.first in
        ⊎_elim
        (λ (r : Phrase (turn nothing_here block) a.back x).
        let t = un-turn r in
        inl (moved us (sym a.parts) (put-behind word_there t.whole), t.is_value))
        (λ (r : Phrase (turn with_static (pair optional_modifiers f)) a.back x).
        let t = un-turn r in
        let o = optional-out f a.back t.value t.whole in
        inr (record {
          front = a.front ++ o.front;
          back = o.back;
          marks = bit_mark a.value ∷ o.marks;
          parts = onto a.front _ o.back a.parts o.parts;
          row = row-cons (static-mark a.front a.value word_there) o.row;
          member = means x.1 (sym (ap (λ (y : Modified). y.1) t.is_value)) o.member;
        }))
        (un-either a.second)

-- ---- put together

optional-in : (us : List Symbol) (marks : List Mark) → Phrase (many modifier) us marks → (m : Modifiers) × Phrase optional_modifiers us m
unfolding optional_modifiers
optional-in us [] p = (no_modifiers, moved us (sym (un-nil p)) (turned modifiers_or_none (none-there (nest modifiers))))
optional-in us (x ∷ xs) p =
    let r = un-cons p in
    (_, moved us (sym r.parts) (turned modifiers_or_none (some-there (nested modifiers (turned marks_of (paired r.first r.second))))))

abbrev ClassMade : Form Unmodified → List Symbol → Unmodified → Type 0
ClassMade f us u = (m : Modifiers) × Phrase (class_modified f) us (m, u)

with-plain : (f : Form Unmodified) (one more back : List Symbol) (x : Mark) (xs : List Mark) (u : Unmodified) → Phrase plain_modifier one x → Phrase (many modifier) more xs → Phrase f back u → ClassMade f ((one ++ more) ++ back) u
unfolding plain_modified
with-plain f one more back x xs u p r q = (marks_of (x, xs), at-right (turn bare f) (at-left (behind (nest static_word) (static_rest f)) (paired (nested plain_modifiers (turned marks_of (paired p r))) q)))

with-word : (f : Form Unmodified) (one more back : List Symbol) (s : Symbol) (xs : List Mark) (u : Unmodified) → one ≡ s ∷ [] → has modifier_words s.sort ≡ true → Phrase (many modifier) more xs → Phrase f back u → ClassMade f ((one ++ more) ++ back) u
unfolding static_rest plain_modifier
with-word f one more back s xs u e h r q = ⊎_elim static_way plain_way (one_or (eqb s.sort 47) (has plain_words s.sort) h)
  where
    static_way : eqb s.sort 47 ≡ true → ClassMade f ((one ++ more) ++ back) u
    static_way w =
        let word_there : Phrase (keyword token.static) one s = record { is = (0, (e, w)) } in
        let o = optional-in more xs r in (
          (with_static (o.0, u)).0,
          moved ((one ++ more) ++ back) (sym (append_assoc one more back))
              (at-right (turn bare f) (at-right (plain_modified f) (put-behind (nested static_word word_there) (at-right (turn nothing_here block) (turned with_static (paired o.1 q)))))),
        )

    plain_way : has plain_words s.sort ≡ true → ClassMade f ((one ++ more) ++ back) u
    plain_way w =
        let word_there : Phrase (terminal plain_words) one s = record { is = (0, (e, w)) } in
        with-plain f one more back (bit_mark s) xs u (at-left (turn marked modifier_annotation) (turned bit_mark word_there)) r q

class-in : (f : Form Unmodified) (front back : List Symbol) (marks : List Mark) (u : Unmodified) → Phrase (many modifier) front marks → Phrase f back u → ClassMade f (front ++ back) u
unfolding modifier plain_modifier
class-in f front back [] u p q = (no_modifiers, moved (front ++ back) (ap (λ (zs : List Symbol). zs ++ back) (sym (un-nil p))) (at-left (either (plain_modified f) (behind (nest static_word) (static_rest f))) (turned bare q)))
class-in f front back (x ∷ xs) u p q =
    let r = un-cons p in
    let same : (r.front ++ r.back) ++ back ≡ front ++ back = ap (λ (zs : List Symbol). zs ++ back) (sym r.parts) in
    subst (λ (zs : List Symbol). ClassMade f zs u) same
    (⊎_elim
    (λ (w : Phrase (turn bit_mark (terminal modifier_words)) r.front x).
    let t = un-turn w in
    with-word f r.front r.back back t.value xs u t.whole.is.1.0 t.whole.is.1.1 r.second q)
    (λ (w : Phrase (turn marked modifier_annotation) r.front x). with-plain f r.front r.back back x xs u (at-right (turn bit_mark (terminal plain_words)) w) r.second q)
    (un-either r.first))

-- ---- members

-- modifiers and a member behind them, which give this
pub record Declared (k : TypeKind) (us : List Symbol) (ms : List MemberAt) : Type 0 where
  pub front : List Symbol
  pub back : List Symbol
  pub mods : Modifiers
  pub value : Unmodified
  pub doc : Option (List ℕ)
  pub marks : Modifiers
  pub parts : us ≡ front ++ back
  pub modifiers_there : Phrase type_modifiers front mods
  pub member : Phrase (unmodified_form k) back value
  pub items : ms ≡ members_of doc marks value

abbrev pub NothingAt : TypeKind → List Symbol → List MemberAt → Type 0
NothingAt k us ms = Phrase (nothing_form k) us tt × (ms ≡ [])

abbrev class_member : Form Unmodified → Form (List MemberAt)
class_member f = either (turn no_member (sign token.semicolon)) (either (turn no_member block) (member_from (class_modified f)))

abbrev other_member : Form Unmodified → Form (List MemberAt)
other_member f = either (turn no_member (sign token.semicolon)) (member_from (modified f))

record Made (f : Form Unmodified) (us : List Symbol) (ms : List MemberAt) : Type 0 where
  value : Unmodified
  parted : Parted f us value
  doc : Option (List ℕ)
  marks : Modifiers
  items : ms ≡ members_of doc marks value

abbrev NoMember : Form (Unit {0}) → List Symbol → List MemberAt → Type 0
NoMember g us ms = Phrase g us tt × (ms ≡ [])

class-member-out : (f : Form Unmodified) (us : List Symbol) (ms : List MemberAt) → Phrase (class_member f) us ms → NoMember (either (turn silently (sign token.semicolon)) initialiser_block) us ms ⊎ Made f us ms
class-member-out f us ms p =
    ⊎_elim
    (λ (q : Phrase (turn no_member (sign token.semicolon)) us ms). let t = un-turn q in inl (at-left initialiser_block (turned silently t.whole), t.is_value))
    (λ (q : Phrase (either (turn no_member block) (member_from (class_modified f))) us ms).
    ⊎_elim
    (λ (r : Phrase (turn no_member block) us ms). let t = un-turn r in inl (at-right (turn silently (sign token.semicolon)) (at-left (behind (keyword token.static) block) t.whole), t.is_value))
    (λ (r : Phrase (member_from (class_modified f)) us ms).
    let t = un-turn r in
    let s = un-seen t.whole in
    ⊎_elim
    (λ (z : Phrase (behind (keyword token.static) block) us tt × (t.value.1 ≡ nothing_here tt)).
    inl (at-right (turn silently (sign token.semicolon)) (at-right block z.0), t.is_value ∙ ap (λ (y : Modified). documented_members (t.value.0, y)) z.1))
    (λ (z : Parted f us t.value.1.1). inr (record { value = t.value.1.1; parted = z; doc = t.value.0; marks = t.value.1.0; items = t.is_value }))
    (class-out f us t.value.1 s.whole))
    (un-either q))
    (un-either p)

other-member-out : (f : Form Unmodified) (us : List Symbol) (ms : List MemberAt) → Phrase (other_member f) us ms → NoMember (turn silently (sign token.semicolon)) us ms ⊎ Made f us ms
other-member-out f us ms p =
    ⊎_elim
    (λ (q : Phrase (turn no_member (sign token.semicolon)) us ms). let t = un-turn q in inl (turned silently t.whole, t.is_value))
    (λ (r : Phrase (member_from (modified f)) us ms).
    let t = un-turn r in
    let s = un-seen t.whole in
    inr (record { value = t.value.1.1; parted = optional-out f us t.value.1 s.whole; doc = t.value.0; marks = t.value.1.0; items = t.is_value }))
    (un-either p)

made-declared : (k : TypeKind) (us : List Symbol) (ms : List MemberAt) → Made (unmodified_form k) us ms → Declared k us ms
unfolding type_modifiers
made-declared k us ms m =
    record {
      front = m.parted.front;
      back = m.parted.back;
      mods = with_marks no_modifiers m.parted.marks;
      value = m.value;
      doc = m.doc;
      marks = m.marks;
      parts = m.parted.parts;
      modifiers_there = turned (with_marks no_modifiers) m.parted.row;
      member = m.parted.member;
      items = m.items;
    }

either-made : (k : TypeKind) (us : List Symbol) (ms : List MemberAt) → NothingAt k us ms ⊎ Made (unmodified_form k) us ms → NothingAt k us ms ⊎ Declared k us ms
either-made k us ms (inl n) = inl n
either-made k us ms (inr m) = inr (made-declared k us ms m)

pub member-out : (k : TypeKind) (us : List Symbol) (ms : List MemberAt) → Phrase (member_form k) us ms → NothingAt k us ms ⊎ Declared k us ms
unfolding member_form modified_form
member-out kind.Enum us ms p = either-made kind.Enum us ms (class-member-out (unmodified_form kind.Enum) us ms p)
member-out kind.Class us ms p = either-made kind.Class us ms (class-member-out (unmodified_form kind.Class) us ms p)
member-out kind.AnnotationType us ms p = either-made kind.AnnotationType us ms (other-member-out (unmodified_form kind.AnnotationType) us ms p)
member-out kind.Interface us ms p = either-made kind.Interface us ms (other-member-out (unmodified_form kind.Interface) us ms p)

-- nothing is a member that gives none
class-nothing : (f : Form Unmodified) (us : List Symbol) → Phrase (either (turn silently (sign token.semicolon)) initialiser_block) us tt → Phrase (class_member f) us []
unfolding static_rest
class-nothing f us p =
    ⊎_elim
    (λ (q : Phrase (turn silently (sign token.semicolon)) us tt). let t = un-turn q in at-left (either (turn no_member block) (member_from (class_modified f))) (turned no_member t.whole))
    (λ (q : Phrase initialiser_block us tt).
    ⊎_elim
    (λ (r : Phrase block us tt). at-right (turn no_member (sign token.semicolon)) (at-left (member_from (class_modified f)) (turned no_member r)))
    (λ (r : Phrase (behind (keyword token.static) block) us tt).
    let b = un-behind r in
    let inner : Phrase (class_modified f) (b.front ++ b.back) (nothing_here tt) =
    at-right (turn bare f) (at-right (plain_modified f) (put-behind (nested static_word b.first) (at-left (turn with_static (pair optional_modifiers f)) (turned nothing_here b.second)))) in
    moved us (sym b.parts) (at-right (turn no_member (sign token.semicolon)) (at-right (turn no_member block) (turned documented_members (seen-there first_doc inner)))))
    (un-either q))
    (un-either p)

pub nothing-in : (k : TypeKind) (us : List Symbol) → Phrase (nothing_form k) us tt → Phrase (member_form k) us []
unfolding member_form modified_form
nothing-in kind.Enum us p = class-nothing (unmodified_form kind.Enum) us p
nothing-in kind.Class us p = class-nothing (unmodified_form kind.Class) us p
nothing-in kind.AnnotationType us p = let t = un-turn p in at-left (member_from (modified_form kind.AnnotationType)) (turned no_member t.whole)
nothing-in kind.Interface us p = let t = un-turn p in at-left (member_from (modified_form kind.Interface)) (turned no_member t.whole)

-- modifiers and a member behind them are a member
pub record MadeOf (k : TypeKind) (us : List Symbol) (u : Unmodified) : Type 0 where
  pub items : List MemberAt
  pub whole : Phrase (member_form k) us items
  pub doc : Option (List ℕ)
  pub marks : Modifiers
  pub are : items ≡ members_of doc marks u

class-made : (f : Form Unmodified) (front back : List Symbol) (marks : List Mark) (u : Unmodified) → Phrase (many modifier) front marks → Phrase f back u
    → (doc : Option (List ℕ)) × (m : Modifiers) × Phrase (class_member f) (front ++ back) (members_of doc m u)
class-made f front back marks u p q =
    let c = class-in f front back marks u p q in
    (first_doc (front ++ back), c.0, at-right (turn no_member (sign token.semicolon)) (at-right (turn no_member block) (turned documented_members (seen-there first_doc c.1))))

other-made : (f : Form Unmodified) (front back : List Symbol) (marks : List Mark) (u : Unmodified) → Phrase (many modifier) front marks → Phrase f back u
    → (doc : Option (List ℕ)) × (m : Modifiers) × Phrase (other_member f) (front ++ back) (members_of doc m u)
other-made f front back marks u p q =
    let o = optional-in front marks p in
    (first_doc (front ++ back), o.0, at-right (turn no_member (sign token.semicolon)) (turned documented_members (seen-there first_doc (paired o.1 q))))

pub member-in : (k : TypeKind) (front back : List Symbol) (m : Modifiers) (u : Unmodified) → Phrase type_modifiers front m → Phrase (unmodified_form k) back u → MadeOf k (front ++ back) u
unfolding member_form modified_form type_modifiers
member-in kind.Enum front back m u p q = let t = un-turn p in let c = class-made (unmodified_form kind.Enum) front back t.value u t.whole q in record { items = _; whole = c.2; doc = c.0; marks = c.1; are = refl }
member-in kind.Class front back m u p q = let t = un-turn p in let c = class-made (unmodified_form kind.Class) front back t.value u t.whole q in record { items = _; whole = c.2; doc = c.0; marks = c.1; are = refl }
member-in kind.AnnotationType front back m u p q = let t = un-turn p in let c = other-made (unmodified_form kind.AnnotationType) front back t.value u t.whole q in record { items = _; whole = c.2; doc = c.0; marks = c.1; are = refl }
member-in kind.Interface front back m u p q = let t = un-turn p in let c = other-made (unmodified_form kind.Interface) front back t.value u t.whole q in record { items = _; whole = c.2; doc = c.0; marks = c.1; are = refl }
