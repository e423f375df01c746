-- The rules on bad bytes.
use Rattle.std.proofs.Common.{◌≡◌, ◌⊎◌, inl, inr, ℕ, ◌+◌, ◌-◌, ◌≤◌, Bool, true, false, cond, eqb, List, [], ◌∷◌, ◌++◌, length, drop, Option, Some, refl, sym, ap, ◌∙◌, append_assoc, append-nil, arith}
use Rattle.std.specs.Int.{w32, to_be_bytes, from_be_bytes}
use Rattle.std.proofs.lemmas.Bool.{eq-eqb, eqb-true}
use Rattle.std.proofs.lemmas.List.{take_at, drop_at, length-append, length-drop}
use Rattle.std.proofs.lemmas.Nat.{from_be_bytes-to_be_bytes_4}
use Rattle.apt_base.specs.Fields.{bytes_form}
use Rattle.frame_forms.specs.declared.bad_kind.BadKind.{BadKind}
use Rattle.frame_forms.specs.declared.bad_kind.BadKind.TheVariants as kinds
use Rattle.frame_forms.specs.Scans.{Scan, whole, begun, bad, and_then, mapped, named, byte_scan, judged}
use Rattle.frame_forms.specs.Forms.{FrameKind, One, El, scan_with}
use Rattle.frame_forms.specs.FrameTable.{Fields, frame_form, form_of, code_of}
use Rattle.frame_forms.specs.Frames.{part_scan, most_nested, scanned, closed, frame_scan, place_in}
use Rattle.frame_forms.specs.BadBytes.{IsLength, LengthRule, FieldsRule, TagRule, ByteRule, DeepRule, TextRule, RestRule, EndRule, OtherwiseRule}
use Rattle.frame_forms.proofs.Steady.{run_scan-is}
use Rattle.frame_forms.proofs.FormsSteady.{scanned-steady}
use Rattle.frame_forms.proofs.Framed.{framed-closed, framed-out, take_short, drop_short, range_is}

abbrev fields_scan : List ℕ → Scan Fields
fields_scan = scanned frame_form

-- a frame within its length
within : (head body : List ℕ) (count : ℕ) → IsLength head count → length body ≤ count → frame_scan (head ++ body) ≡ closed count body [] (fields_scan body)
within head body count is le =
    framed-closed fields_scan head body count (record { four = is.four; worth = is.worth }) is.in_range
    ∙ ap (λ (t : List ℕ). closed count t (drop count body) (fields_scan t)) (take_short count body le)
    ∙ ap (λ (t : List ℕ). closed count body t (fields_scan body)) (drop_short count body le)

-- the place of what is bad behind the length
place_behind : (head body rest : List ℕ) → length head ≡ 4 → length rest ≤ length body → length (head ++ body) - length rest ≡ 4 + (length body - length rest)
place_behind head body rest four le = omega (arith, four, le, length-append head body)

pub length_rule : LengthRule
length_rule head rest four out =
    ap (place_in (head ++ rest)) (framed-out fields_scan head rest (from_be_bytes w32 head) (record { four = four; worth = refl }) out)
    ∙ ap (λ (n : ℕ). Some (n, kinds.Length)) (omega (arith, four, length-append head rest, length-drop 3 (head ++ rest)))

pub byte_rule : ByteRule
unfolding byte_scan
byte_rule s kind numbers b rest e = ap (λ (o : Option (One s)). named kind o b rest) e

pub tag_rule : TagRule
unfolding byte_scan
tag_rule tag rest e =
    ap (λ (of : Option FrameKind). and_then {B = (x : FrameKind) × El (code_of x)} (named kinds.Tag of tag rest) (λ x behind. mapped (λ v. (x, v)) (scan_with (part_scan most_nested) (form_of x) behind))) e

pub deep_rule : DeepRule
unfolding part_scan
deep_rule c p b rest = refl

pub text_rule : TextRule
text_rule fault text rest kind short e =
    run_scan-is fault (bytes_form text ++ rest) text rest (record {
      head = to_be_bytes w32 (length text);
      four = refl;
      worth = from_be_bytes-to_be_bytes_4 (length text) short;
      split = append_assoc (to_be_bytes w32 (length text)) text rest;
    })
    ∙ ap (λ (o : Option BadKind). judged o text rest (drop (length text + 3) (bytes_form text ++ rest))) e

bad_within : (body rest : List ℕ) (kind : BadKind) → fields_scan body ≡ bad rest kind → length rest ≤ length body
bad_within body rest kind e =
    let t = (scanned-steady frame_form).stops body rest kind e in
    omega (arith, ap length t.split, ap length t.from, length-append t.front (t.byte ∷ t.more))

whole_within : (body rest : List ℕ) (fields : Fields) → fields_scan body ≡ whole fields rest → length rest ≤ length body
whole_within body rest fields e =
    let t = (scanned-steady frame_form).takes body fields rest e in
    omega (arith, ap length t.split, length-append t.used rest)

pub fields_rule : FieldsRule
fields_rule head body rest count kind is le e =
    ap (place_in (head ++ body)) (within head body count is le ∙ ap (closed count body []) e ∙ ap (λ (t : List ℕ). bad t kind) (append-nil rest))
    ∙ ap (λ (n : ℕ). Some (n, kind)) (place_behind head body rest is.four (bad_within body rest kind e))

pub rest_rule : RestRule
rest_rule head body count fields b more is le e =
    ap (place_in (head ++ body)) (within head body count is le ∙ ap (closed count body []) e ∙ ap (λ (t : List ℕ). bad (b ∷ t) kinds.Rest) (append-nil more))
    ∙ ap (λ (n : ℕ). Some (n, kinds.Rest)) (place_behind head body (b ∷ more) is.four (whole_within body (b ∷ more) fields e))

pub end_rule : EndRule
end_rule head body later count is len e =
    let least = (range_is fields_scan count is.in_range).0 in
    let last = drop (count - 1) body in
    let one : length last ≡ 1 = omega (arith, length-drop (count - 1) body, len, least) in
    let read : frame_scan (head ++ (body ++ later)) ≡ bad (last ++ later) kinds.Field =
    framed-closed fields_scan head (body ++ later) count (record { four = is.four; worth = is.worth }) is.in_range
    ∙ ap (λ (t : List ℕ). closed count t (drop count (body ++ later)) (fields_scan t)) (take_at body later count len)
    ∙ ap (λ (t : List ℕ). closed count body t (fields_scan body)) (drop_at body later count len)
    ∙ ap (closed count body later) e
    ∙ ap (λ (b : Bool). cond b (bad (last ++ later) kinds.Field) begun) (eq-eqb (length body) count len) in
    ap (place_in (head ++ (body ++ later))) read
    ∙ ap (λ (n : ℕ). Some (n, kinds.Field)) (omega (arith, is.four, len, one, least, length-append head (body ++ later), length-append body later, length-append last later))

pub otherwise_rule : OtherwiseRule
otherwise_rule head body count is le rest kind e = go (fields_scan body) refl (sym (within head body count is le) ∙ e)
  where
    not_bad : (fields : Fields) (b : Bool) → cond b (whole fields []) begun ≡ bad rest kind → ⊥
    not_bad fields true h = cc
    not_bad fields false h = cc

    at_end : (b : Bool) → eqb (length body) count ≡ b → cond {A = Scan Fields} b (bad (drop (count - 1) body ++ []) kinds.Field) begun ≡ bad rest kind → (length body ≡ count) × (rest ≡ drop (count - 1) body) × (kind ≡ kinds.Field)
    at_end true p h =
        let from : drop (count - 1) body ++ [] ≡ rest = cc in
        (eqb-true (length body) count p, sym from ∙ append-nil (drop (count - 1) body), cc)
    at_end false p h = absurd cc

    go : (r : Scan Fields) → fields_scan body ≡ r → closed count body [] r ≡ bad rest kind
        → (fields_scan body ≡ bad rest kind)
        ⊎ (((fields : Fields) × (fields_scan body ≡ whole fields rest) × (kind ≡ kinds.Rest))
        ⊎ ((fields_scan body ≡ begun) × (length body ≡ count) × (rest ≡ drop (count - 1) body) × (kind ≡ kinds.Field)))
    go (whole fields []) f h = absurd (not_bad fields (eqb (length body) count) h)
    go (whole fields (b ∷ more)) f h =
        let from : b ∷ (more ++ []) ≡ rest = cc in
        inr (inl (fields, f ∙ ap (whole fields) (ap (λ (t : List ℕ). b ∷ t) (sym (append-nil more)) ∙ from), cc))
    go begun f h = let t = at_end (eqb (length body) count) refl h in inr (inr (f, t.0, t.1, t.2))
    go (bad r k) f h =
        let from : r ++ [] ≡ rest = cc in
        let same : k ≡ kind = cc in
        inl (f ∙ ap (λ (t : List ℕ). bad t k) (sym (append-nil r) ∙ from) ∙ ap (bad rest) same)
