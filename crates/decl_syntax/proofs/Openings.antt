-- How the spelling of a type begins: what stands around its base, and the base's kind.
use Rattle.std.proofs.Common.{◌≡◌, ℕ, zero, suc, ◌<◌, ◌≤◌, Bool, true, false, cond, eqb, List, [], ◌∷◌, ◌++◌, length, Option, Some, None, Err, refl, sym, ap, subst, ◌∙◌, append_assoc, arith}
use Rattle.std.specs.List.{flat_map}
use Rattle.std.proofs.lemmas.Bool.{eqb-true, false_from_ne_true}
use Rattle.std.proofs.lemmas.List.{append-nil, length-append}
use Rattle.apt_base.specs.Fields.{◌>>=◌, bool_form, u8_next, bool_next}
use Rattle.apt_base.specs.Forms.{◌>>◌}
use Rattle.apt_base.specs.Readings.{Gives}
use Rattle.apt_base.specs.declared.fault.FormFault.{FormFault}
use Rattle.apt_base.specs.declared.fault.FormFault.TheVariants.{Bad, Memory}
use Rattle.apt_base.proofs.FieldsLemmas.{bind_some, some_is, u8_next-spelled, bool_next-spelled}
use Rattle.apt_base.specs.declared.around.Around.{Around}
use Rattle.apt_base.specs.declared.around.Around.TheVariants as around
use Rattle.decl_syntax.specs.declared.type_reading.BaseKind.{BaseKind}
use Rattle.decl_syntax.specs.declared.type_reading.BaseKind.TheVariants as of
use Rattle.decl_syntax.specs.declared.type_reading.Step.{Step}
use Rattle.decl_syntax.specs.declared.type_reading.Step.TheVariants as step
use Rattle.decl_syntax.specs.declared.type_reading.Opening.{Opening}
use Rattle.decl_syntax.specs.Shape.{around_form}
use Rattle.decl_syntax.specs.Reading.{wildcard_of, wildcard_next, step_choice, step_next, opens, outside, opening_next}

abbrev pub kind_form : BaseKind → List ℕ
kind_form of.Primitive = 0 ∷ []
kind_form of.Named = 1 ∷ []
kind_form of.Wildcard = 3 ∷ 0 ∷ 0 ∷ []

-- ---- what was written is read

pub opening-again : (items : List Around) (kind : BaseKind) (rest : List ℕ) → opening_next (flat_map around_form items ++ (kind_form kind ++ rest)) ≡ Some (record { around = items; kind = kind }, rest)
unfolding opening_next
opening-again [] of.Primitive rest = refl
opening-again [] of.Named rest = refl
opening-again [] of.Wildcard rest = refl
opening-again (around.Array ∷ items) kind rest = ap (outside around.Array) (opening-again items kind rest)
opening-again (around.Extends ∷ items) kind rest = ap (outside around.Extends) (opening-again items kind rest)
opening-again (around.Super ∷ items) kind rest = ap (outside around.Super) (opening-again items kind rest)

-- ---- what is read is spelled so

abbrev IsSpelled : List ℕ → Type 0
IsSpelled bytes = (opening : Opening) (rest : List ℕ) → opening_next bytes ≡ Some (opening, rest) → bytes ≡ flat_map around_form opening.around ++ (kind_form opening.kind ++ rest)

spelled_base : (kind : BaseKind) (tail : List ℕ) (opening : Opening) (rest : List ℕ) → opens kind tail ≡ Some (opening, rest) → kind_form kind ++ tail ≡ flat_map around_form opening.around ++ (kind_form opening.kind ++ rest)
spelled_base kind tail opening rest e =
    subst (λ (y : Opening × List ℕ). kind_form kind ++ tail ≡ flat_map around_form y.0.around ++ (kind_form y.0.kind ++ y.1)) (some_is (record { around = []; kind = kind }, tail) (opening, rest) e) refl

spelled_outside : (item : Around) (tail : List ℕ) → IsSpelled tail → (opening : Opening) (rest : List ℕ) → outside item (opening_next tail) ≡ Some (opening, rest)
    → around_form item ++ tail ≡ flat_map around_form opening.around ++ (kind_form opening.kind ++ rest)
spelled_outside item tail spelled opening rest e =
    let b = bind_some (opening_next tail) (λ o. Some (record { around = item ∷ o.0.around; kind = o.0.kind }, o.1)) (opening, rest) e in
    let one = spelled b.0.0 b.0.1 b.1 in
    let more : around_form item ++ tail ≡ flat_map around_form (item ∷ b.0.0.around) ++ (kind_form b.0.0.kind ++ b.0.1) =
    ap (λ (t : List ℕ). around_form item ++ t) one ∙ sym (append_assoc (around_form item) (flat_map around_form b.0.0.around) (kind_form b.0.0.kind ++ b.0.1)) in
    subst (λ (y : Opening × List ℕ). around_form item ++ tail ≡ flat_map around_form y.0.around ++ (kind_form y.0.kind ++ y.1)) (some_is (record { around = item ∷ b.0.0.around; kind = b.0.0.kind }, b.0.1) (opening, rest) b.2) more

pub opening-spelled : (bytes : List ℕ) (opening : Opening) (rest : List ℕ) → opening_next bytes ≡ Some (opening, rest) → bytes ≡ flat_map around_form opening.around ++ (kind_form opening.kind ++ rest)
unfolding opening_next
opening-spelled [] opening rest e = absurd cc
opening-spelled (zero ∷ tail) opening rest e = spelled_base of.Primitive tail opening rest e
opening-spelled (suc zero ∷ tail) opening rest e = spelled_base of.Named tail opening rest e
opening-spelled (suc (suc zero) ∷ tail) opening rest e = spelled_outside around.Array tail (opening-spelled tail) opening rest e
opening-spelled (suc (suc (suc zero)) ∷ []) opening rest e = absurd cc
opening-spelled (suc (suc (suc zero)) ∷ zero ∷ []) opening rest e = absurd cc
opening-spelled (suc (suc (suc zero)) ∷ zero ∷ zero ∷ tail) opening rest e = spelled_base of.Wildcard tail opening rest e
opening-spelled (suc (suc (suc zero)) ∷ zero ∷ suc c ∷ tail) opening rest e = absurd cc
opening-spelled (suc (suc (suc zero)) ∷ suc zero ∷ []) opening rest e = absurd cc
opening-spelled (suc (suc (suc zero)) ∷ suc zero ∷ zero ∷ tail) opening rest e = absurd cc
opening-spelled (suc (suc (suc zero)) ∷ suc zero ∷ suc zero ∷ tail) opening rest e = spelled_outside around.Extends tail (opening-spelled tail) opening rest e
opening-spelled (suc (suc (suc zero)) ∷ suc zero ∷ suc (suc c) ∷ tail) opening rest e = absurd cc
opening-spelled (suc (suc (suc zero)) ∷ suc (suc zero) ∷ []) opening rest e = absurd cc
opening-spelled (suc (suc (suc zero)) ∷ suc (suc zero) ∷ zero ∷ tail) opening rest e = absurd cc
opening-spelled (suc (suc (suc zero)) ∷ suc (suc zero) ∷ suc zero ∷ tail) opening rest e = spelled_outside around.Super tail (opening-spelled tail) opening rest e
opening-spelled (suc (suc (suc zero)) ∷ suc (suc zero) ∷ suc (suc c) ∷ tail) opening rest e = absurd cc
opening-spelled (suc (suc (suc zero)) ∷ suc (suc (suc b)) ∷ tail) opening rest e = absurd cc
opening-spelled (suc (suc (suc (suc a))) ∷ tail) opening rest e = absurd cc

-- ---- step by step, as a loop reads it

differs : (a b : ℕ) → (a ≡ b → ⊥) → eqb a b ≡ false
differs a b unequal = false_from_ne_true _ (λ same. unequal (eqb-true a b same))

abbrev goes : Step → List ℕ → Option (Opening × List ℕ)
goes (step.Around item) rest = outside item (opening_next rest)
goes (step.Base kind) rest = opens kind rest

abbrev after_step : Option (Step × List ℕ) → Option (Opening × List ℕ)
after_step read = read >>= λ s. goes s.0 s.1

opening-steps : (bytes : List ℕ) → opening_next bytes ≡ after_step (step_next bytes)
unfolding opening_next step_next u8_next bool_next
opening-steps [] = refl
opening-steps (zero ∷ tail) = refl
opening-steps (suc zero ∷ tail) = refl
opening-steps (suc (suc zero) ∷ tail) = refl
opening-steps (suc (suc (suc zero)) ∷ []) = refl
opening-steps (suc (suc (suc zero)) ∷ zero ∷ []) = refl
opening-steps (suc (suc (suc zero)) ∷ zero ∷ zero ∷ tail) = refl
opening-steps (suc (suc (suc zero)) ∷ zero ∷ suc zero ∷ tail) = refl
opening-steps (suc (suc (suc zero)) ∷ zero ∷ suc (suc c) ∷ tail) = refl
opening-steps (suc (suc (suc zero)) ∷ suc zero ∷ []) = refl
opening-steps (suc (suc (suc zero)) ∷ suc zero ∷ zero ∷ tail) = refl
opening-steps (suc (suc (suc zero)) ∷ suc zero ∷ suc zero ∷ tail) = refl
opening-steps (suc (suc (suc zero)) ∷ suc zero ∷ suc (suc c) ∷ tail) = refl
opening-steps (suc (suc (suc zero)) ∷ suc (suc zero) ∷ []) = refl
opening-steps (suc (suc (suc zero)) ∷ suc (suc zero) ∷ zero ∷ tail) = refl
opening-steps (suc (suc (suc zero)) ∷ suc (suc zero) ∷ suc zero ∷ tail) = refl
opening-steps (suc (suc (suc zero)) ∷ suc (suc zero) ∷ suc (suc c) ∷ tail) = refl
opening-steps (suc (suc (suc zero)) ∷ suc (suc (suc b)) ∷ []) = refl
opening-steps (suc (suc (suc zero)) ∷ suc (suc (suc b)) ∷ zero ∷ tail) = rw (differs (suc (suc (suc b))) 0 (λ e. omega (arith, e))) refl
opening-steps (suc (suc (suc zero)) ∷ suc (suc (suc b)) ∷ suc zero ∷ tail) = rw (differs (suc (suc (suc b))) 1 (λ e. omega (arith, e)), differs (suc (suc (suc b))) 2 (λ e. omega (arith, e))) refl
opening-steps (suc (suc (suc zero)) ∷ suc (suc (suc b)) ∷ suc (suc c) ∷ tail) = refl
opening-steps (suc (suc (suc (suc a))) ∷ tail) =
    rw (differs (suc (suc (suc (suc a)))) 0 (λ e. omega (arith, e)), differs (suc (suc (suc (suc a)))) 1 (λ e. omega (arith, e)), differs (suc (suc (suc (suc a)))) 2 (λ e. omega (arith, e)), differs (suc (suc (suc (suc a)))) 3 (λ e. omega (arith, e))) refl

-- what was read around the base, and what is still read
abbrev pub with_around : List Around → Option (Opening × List ℕ) → Option (Opening × List ℕ)
with_around items read = read >>= λ o. Some (record { around = items ++ o.0.around; kind = o.0.kind }, o.1)

regroup : (items : List Around) (item : Around) (read : Option (Opening × List ℕ)) → with_around items (outside item read) ≡ with_around (items ++ (item ∷ [])) read
regroup items item (Some x) = ap (λ (all : List Around). Some (record { around = all; kind = x.0.kind }, x.1)) (sym (append_assoc items (item ∷ []) x.0.around))
regroup items item None = refl

stepped : (bytes : List ℕ) (read : Option (Step × List ℕ)) → step_next bytes ≡ read → opening_next bytes ≡ after_step read
stepped bytes read h = opening-steps bytes ∙ ap after_step h

pub goes_on : (items : List Around) (bytes : List ℕ) (item : Around) (after : List ℕ) (total : Option (Opening × List ℕ)) → step_next bytes ≡ Some (step.Around item, after)
    → with_around items (opening_next bytes) ≡ total → with_around (items ++ (item ∷ [])) (opening_next after) ≡ total
goes_on items bytes item after total h so_far =
    sym (regroup items item (opening_next after)) ∙ ap (with_around items) (sym (stepped bytes (Some (step.Around item, after)) h)) ∙ so_far

pub ends : (fault : FormFault) (items : List Around) (bytes after left : List ℕ) (total : Option (Opening × List ℕ)) → Gives (Err fault) (step_next bytes) after
    → with_around items (opening_next bytes) ≡ total → Gives (Err fault) total left
ends Memory items bytes after left total h so_far = tt
ends Bad items bytes after left total h so_far = sym so_far ∙ ap (with_around items) (stepped bytes None h)

pub is_done : (items : List Around) (bytes : List ℕ) (kind : BaseKind) (after : List ℕ) (total : Option (Opening × List ℕ)) → step_next bytes ≡ Some (step.Base kind, after)
    → with_around items (opening_next bytes) ≡ total → total ≡ Some (record { around = items; kind = kind }, after)
is_done items bytes kind after total h so_far =
    sym so_far ∙ ap (with_around items) (stepped bytes (Some (step.Base kind, after)) h)
    ∙ ap (λ (all : List Around). Some (record { around = all; kind = kind }, after)) (append-nil items)

-- ---- a step takes a byte or more

abbrev IsWithin : List ℕ → Option (Step × List ℕ) → Type 0
IsWithin bytes read = (step : Step) (after : List ℕ) → read ≡ Some (step, after) → length after ≤ length bytes

within_none : (bytes : List ℕ) → IsWithin bytes None
within_none bytes step after e = absurd cc

within_all : (bytes : List ℕ) (found : Step) → IsWithin bytes (Some (found, bytes))
within_all bytes found step after e =
    let same : bytes ≡ after = ap (λ (y : Step × List ℕ). y.1) (some_is (found, bytes) (step, after) e) in
    rw (← same) (omega arith)

within_either : (test : Bool) (bytes : List ℕ) (one two : Option (Step × List ℕ)) → IsWithin bytes one → IsWithin bytes two → IsWithin bytes (cond test one two)
within_either true bytes one two p q = p
within_either false bytes one two p q = q

shorter_by : (bytes : List ℕ) (n : ℕ) (more flag rest : List ℕ) → bytes ≡ n ∷ more → more ≡ flag ++ rest → length rest ≤ length bytes
shorter_by bytes n more flag rest one two = rw (one, two) (omega (arith, length-append flag rest))

within_wildcard : (bytes : List ℕ) → IsWithin bytes (wildcard_next bytes)
within_wildcard bytes step after e =
    let w = bind_some ((u8_next >> bool_next) bytes) (λ x. wildcard_of x.0 >>= λ s. Some (s, x.1)) (step, after) e in
    let s = bind_some (wildcard_of w.0.0) (λ s. Some (s, w.0.1)) (step, after) w.2 in
    let a = bind_some (u8_next bytes) (λ a. bool_next a.1 >>= λ b. Some ((a.0, b.0), b.1)) w.0 w.1 in
    let b = bind_some (bool_next a.0.1) (λ b. Some ((a.0.0, b.0), b.1)) w.0 a.2 in
    let one = u8_next-spelled bytes a.0.0 a.0.1 a.1 in
    let two = bool_next-spelled a.0.1 b.0.0 b.0.1 b.1 in
    let rest : b.0.1 ≡ w.0.1 = ap (λ (y : (ℕ × Bool) × List ℕ). y.1) (some_is ((a.0.0, b.0.0), b.0.1) w.0 b.2) in
    let left : w.0.1 ≡ after = ap (λ (y : Step × List ℕ). y.1) (some_is (s.0, w.0.1) (step, after) s.2) in
    subst (λ (t : List ℕ). length t ≤ length bytes) (rest ∙ left) (shorter_by bytes a.0.0 a.0.1 (bool_form b.0.0) b.0.1 one two)

within_choice : (n : ℕ) (bytes : List ℕ) → IsWithin bytes (step_choice n bytes)
within_choice n bytes =
    within_either (eqb n 0) bytes (Some (step.Base of.Primitive, bytes)) _ (within_all bytes (step.Base of.Primitive))
    (within_either (eqb n 1) bytes (Some (step.Base of.Named, bytes)) _ (within_all bytes (step.Base of.Named))
    (within_either (eqb n 2) bytes (Some (step.Around around.Array, bytes)) _ (within_all bytes (step.Around around.Array))
    (within_either (eqb n 3) bytes (wildcard_next bytes) None (within_wildcard bytes) (within_none bytes))))

pub step-shorter : (bytes : List ℕ) (found : Step) (after : List ℕ) → step_next bytes ≡ Some (found, after) → length after < length bytes
unfolding step_next
step-shorter bytes found after e =
    let b = bind_some (u8_next bytes) (λ n. step_choice n.0 n.1) (found, after) e in
    let one : length bytes ≡ suc (length b.0.1) = ap length (u8_next-spelled bytes b.0.0 b.0.1 b.1) in
    let two = within_choice b.0.0 b.0.1 found after b.2 in
    omega (arith, one, two)
