-- What is spelled as a record is read again, and what is read is spelled so.
use Rattle.std.proofs.Common.{◌≡◌, ℕ, zero, suc, Bool, true, false, cond, ◌&&◌, eqb, List, [], ◌∷◌, ◌++◌, length, All, Option, Some, None, refl, sym, ap, subst, ◌∙◌, append_assoc, append-nil, arith}
use Rattle.std.specs.List.{flat_map, AllByRecursion}
use Rattle.std.specs.Int.{w32, to_be_bytes}
use Rattle.std.specs.Str.{bytes_eq}
use Rattle.std.proofs.lemmas.Bool.{eqb-true}
use Rattle.std.proofs.lemmas.List.{nil_from_length}
use Rattle.std.proofs.lemmas.List.Concat.{flat_map-cons}
use Rattle.std.proofs.lemmas.List.Elements.{All-from_recursion, All-head, All-tail}
use Rattle.std.proofs.lemmas.Slice.Eq.{bytes_eq-Decides}
use Rattle.apt_base.specs.Fields.{◌>>=◌, text_form, front_next, u32_next, text_next}
use Rattle.apt_base.proofs.FieldsLemmas.{IsBytes, IsBytes-rest, bind_some, some_is, front_next-again, front_next-takes, u32_next-again, u32_next-spelled, text_next-again, text_next-spelled}
use Rattle.tree_store.specs.declared.record.StoredFile.{StoredFile}
use Rattle.tree_store.specs.RecordFormat.{record_head, entry_form, record_form, entry_next, entries_next, ascends, read_record, IsEntry, IsRecord}

entry_next-again : (file : StoredFile) (rest : List ℕ) → IsEntry file → entry_next (entry_form file ++ rest) ≡ Some (file, rest)
unfolding entry_next
entry_next-again file rest fits =
    let store = to_be_bytes w32 file.store in
    let size = to_be_bytes w32 file.length in
    let regrouped : entry_form file ++ rest ≡ text_form file.path ++ (store ++ (size ++ rest)) = append_assoc (text_form file.path ++ store) size rest ∙ append_assoc (text_form file.path) store (size ++ rest) in
    ap entry_next regrouped ∙ rw (text_next-again file.path (store ++ (size ++ rest)) fits.text fits.path, u32_next-again file.store (size ++ rest) fits.store, u32_next-again file.length rest fits.size) refl

entries_next-again : (files : List StoredFile) (rest : List ℕ) → AllByRecursion IsEntry files → entries_next (length files) (flat_map entry_form files ++ rest) ≡ Some (files, rest)
unfolding entries_next
entries_next-again [] rest fits = refl
entries_next-again (file ∷ files) rest fits =
    let regrouped : flat_map entry_form (file ∷ files) ++ rest ≡ entry_form file ++ (flat_map entry_form files ++ rest) = ap (λ (x : List ℕ). x ++ rest) (flat_map-cons entry_form file files) ∙ append_assoc (entry_form file) (flat_map entry_form files) rest in
    ap (entries_next (suc (length files))) regrouped ∙ rw (entry_next-again file (flat_map entry_form files ++ rest) fits.0, entries_next-again files rest fits.1) refl

entries_are : (files : List StoredFile) → All IsEntry files → AllByRecursion IsEntry files
entries_are [] are = tt
entries_are (file ∷ files) are = (All-head IsEntry file files are, entries_are files (All-tail IsEntry file files are))

-- what is spelled is read again
pub read_record-record_form : (files : List StoredFile) → IsRecord files → read_record (record_form files) ≡ Some files
unfolding record_head record_form read_record
read_record-record_form files is =
    let count = to_be_bytes w32 (length files) in
    let regrouped : record_form files ≡ record_head ++ (count ++ flat_map entry_form files) = append_assoc record_head count (flat_map entry_form files) in
    let entries : entries_next (length files) (flat_map entry_form files) ≡ Some (files, []) = ap (entries_next (length files)) (sym (append-nil (flat_map entry_form files))) ∙ entries_next-again files [] (entries_are files is.entries) in
    ap read_record regrouped ∙ rw (front_next-again 6 record_head (count ++ flat_map entry_form files) refl, u32_next-again (length files) (flat_map entry_form files) is.count, entries, is.ascending) refl

-- ---- what is read is spelled so

abbrev entry_after_path : List ℕ × List ℕ → Option (StoredFile × List ℕ)
entry_after_path path = u32_next path.1 >>= λ store. u32_next store.1 >>= λ size. Some (record { path = path.0; store = store.0; length = size.0 }, size.1)

-- what was read of the front, and that the rest are bytes
record Takes (bytes form rest : List ℕ) : Type 0 where
  parts : bytes ≡ form ++ rest
  fits : IsBytes rest

taken : (bytes form rest : List ℕ) → IsBytes bytes → bytes ≡ form ++ rest → Takes bytes form rest
taken bytes form rest fits parts = record { parts = parts; fits = IsBytes-rest bytes form rest parts fits }

then_takes : (a x b y c : List ℕ) → Takes a x b → Takes b y c → Takes a (x ++ y) c
then_takes a x b y c p q = record { parts = p.parts ∙ ap (λ (t : List ℕ). x ++ t) q.parts ∙ sym (append_assoc x y c); fits = q.fits }

entry_takes : (bytes : List ℕ) (x : StoredFile × List ℕ) → IsBytes bytes → entry_next bytes ≡ Some x → Takes bytes (entry_form x.0) x.1 × IsEntry x.0
unfolding entry_next
entry_takes bytes x fits e =
    let p = bind_some (text_next bytes) entry_after_path x e in
    let s = bind_some (u32_next p.0.1) (λ store. u32_next store.1 >>= λ size. Some (record { path = p.0.0; store = store.0; length = size.0 }, size.1)) x p.2 in
    let l = bind_some (u32_next s.0.1) (λ size. Some (record { path = p.0.0; store = s.0.0; length = size.0 }, size.1)) x s.2 in
    let path = text_next-spelled bytes p.0.0 p.0.1 fits p.1 in
    let first = taken bytes (text_form p.0.0) p.0.1 fits path.0 in
    let store = u32_next-spelled p.0.1 s.0.0 s.0.1 first.fits s.1 in
    let second = taken p.0.1 (to_be_bytes w32 s.0.0) s.0.1 first.fits store.0 in
    let size = u32_next-spelled s.0.1 l.0.0 l.0.1 second.fits l.1 in
    let third = taken s.0.1 (to_be_bytes w32 l.0.0) l.0.1 second.fits size.0 in
    let both = then_takes bytes (text_form p.0.0) p.0.1 (to_be_bytes w32 s.0.0) s.0.1 first second in
    let whole = then_takes bytes (text_form p.0.0 ++ to_be_bytes w32 s.0.0) s.0.1 (to_be_bytes w32 l.0.0) l.0.1 both third in
    let made : StoredFile × List ℕ = (record { path = p.0.0; store = s.0.0; length = l.0.0 }, l.0.1) in
    subst (λ (y : StoredFile × List ℕ). Takes bytes (entry_form y.0) y.1 × IsEntry y.0) (some_is made x l.2)
    (whole, record { path = path.1; store = store.1; size = size.1; text = path.2 })

entries_take : (count : ℕ) (bytes : List ℕ) (x : List StoredFile × List ℕ) → IsBytes bytes → entries_next count bytes ≡ Some x → Takes bytes (flat_map entry_form x.0) x.1 × (length x.0 ≡ count) × AllByRecursion IsEntry x.0
unfolding entries_next
entries_take zero bytes x fits e =
    subst (λ (y : List StoredFile × List ℕ). Takes bytes (flat_map entry_form y.0) y.1 × (length y.0 ≡ 0) × AllByRecursion IsEntry y.0) (some_is ([], bytes) x e) (record { parts = refl; fits = fits }, refl, tt)
entries_take (suc count) bytes x fits e =
    let a = bind_some (entry_next bytes) (λ first. entries_next count first.1 >>= λ others. Some (first.0 ∷ others.0, others.1)) x e in
    let b = bind_some (entries_next count a.0.1) (λ others. Some (a.0.0 ∷ others.0, others.1)) x a.2 in
    let first = entry_takes bytes a.0 fits a.1 in
    let second = entries_take count a.0.1 b.0 first.0.fits b.1 in
    let both = then_takes bytes (entry_form a.0.0) a.0.1 (flat_map entry_form b.0.0) b.0.1 first.0 second.0 in
    let made : List StoredFile × List ℕ = (a.0.0 ∷ b.0.0, b.0.1) in
    subst (λ (y : List StoredFile × List ℕ). Takes bytes (flat_map entry_form y.0) y.1 × (length y.0 ≡ suc count) × AllByRecursion IsEntry y.0) (some_is made x b.2) (rw flat_map-cons both, ap suc second.1, (first.1, second.2))

-- a test of three parts that gave a value
kept_some : (a b c : Bool) (x y : List StoredFile) → cond (a && b && c) (Some x) None ≡ Some y → (a ≡ true) × (b ≡ true) × (c ≡ true) × (x ≡ y)
kept_some true true true x y e = (refl, refl, refl, cc)
kept_some true true false x y e = absurd cc
kept_some true false c x y e = absurd cc
kept_some false b c x y e = absurd cc

joined : (bytes head entries rest : List ℕ) (m n : ℕ) → bytes ≡ (head ++ to_be_bytes w32 m ++ entries) ++ rest → rest ≡ [] → head ≡ record_head → n ≡ m → bytes ≡ record_head ++ to_be_bytes w32 n ++ entries
joined bytes head entries rest m n parts ended named same =
    let all : (head ++ to_be_bytes w32 m ++ entries) ++ rest ≡ head ++ to_be_bytes w32 m ++ entries = ap (λ (t : List ℕ). (head ++ to_be_bytes w32 m ++ entries) ++ t) ended ∙ append-nil (head ++ to_be_bytes w32 m ++ entries) in
    parts ∙ all ∙ (λ i. named i ++ to_be_bytes w32 (sym same i) ++ entries)

as_read : (bytes : List ℕ) (read files : List StoredFile) → read ≡ files → bytes ≡ record_form read → IsRecord read → (bytes ≡ record_form files) × IsRecord files
as_read bytes read files same spelled is = subst (λ (fs : List StoredFile). (bytes ≡ record_form fs) × IsRecord fs) same (spelled, is)

-- what is read is spelled so
pub read_record-spelled : (bytes : List ℕ) (files : List StoredFile) → IsBytes bytes → read_record bytes ≡ Some files → (bytes ≡ record_form files) × IsRecord files
unfolding record_form read_record
read_record-spelled bytes files fits e =
    let h = bind_some (front_next 6 bytes) (λ head. u32_next head.1 >>= λ count. entries_next count.0 count.1 >>= λ read. cond (bytes_eq head.0 record_head && (eqb (length read.1) 0) && ascends read.0) (Some read.0) None) files e in
    let n = bind_some (u32_next h.0.1) (λ count. entries_next count.0 count.1 >>= λ read. cond (bytes_eq h.0.0 record_head && (eqb (length read.1) 0) && ascends read.0) (Some read.0) None) files h.2 in
    let r = bind_some (entries_next n.0.0 n.0.1) (λ read. cond (bytes_eq h.0.0 record_head && (eqb (length read.1) 0) && ascends read.0) (Some read.0) None) files n.2 in
    let k = kept_some (bytes_eq h.0.0 record_head) (eqb (length r.0.1) 0) (ascends r.0.0) r.0.0 files r.2 in
    let head = taken bytes h.0.0 h.0.1 fits (front_next-takes 6 bytes h.0.0 h.0.1 h.1).0 in
    let number = u32_next-spelled h.0.1 n.0.0 n.0.1 head.fits n.1 in
    let count = taken h.0.1 (to_be_bytes w32 n.0.0) n.0.1 head.fits number.0 in
    let list = entries_take n.0.0 n.0.1 r.0 count.fits r.1 in
    let two = then_takes bytes h.0.0 h.0.1 (to_be_bytes w32 n.0.0) n.0.1 head count in
    let three = then_takes bytes (h.0.0 ++ to_be_bytes w32 n.0.0) n.0.1 (flat_map entry_form r.0.0) r.0.1 two list.0 in
    let ended : r.0.1 ≡ [] = nil_from_length r.0.1 (eqb-true (length r.0.1) 0 k.1) in
    let named : h.0.0 ≡ record_head = (bytes_eq-Decides h.0.0 record_head).0 k.0 in
    let whole : bytes ≡ record_form r.0.0 = joined bytes h.0.0 (flat_map entry_form r.0.0) r.0.1 n.0.0 (length r.0.0) three.parts ended named list.1 in
    as_read bytes r.0.0 files k.3 whole (record { count = omega (arith, list.1, number.1); entries = All-from_recursion IsEntry r.0.0 list.2; ascending = k.2 })
