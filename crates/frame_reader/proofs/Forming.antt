-- Forms without their values: fields, choices, lists, and the tables of nodes.
use Rattle.std.proofs.Common.{◌≡◌, ℕ, List, [], ◌∷◌, ◌++◌, map, Option, Some, None, refl, sym, ap, ◌∙◌}
use Rattle.frame_forms.specs.declared.bad_kind.BadKind.{BadKind}
use Rattle.frame_forms.specs.Scans.{Scan, whole, bad, and_then, mapped, named, byte_scan}
use Rattle.frame_forms.specs.Forms.{One, Code, El, Form, Numbering, Sort, empty, byte, u16, u32, i64, both, choice, opt, list, part, means, run, scan_with}
use Rattle.frame_forms.specs.Frames.{part_scan}
use Rattle.frame_reader.specs.declared.node.Node.{Node}
use Rattle.frame_reader.specs.Nodes.{AnyForm, fields_in, any_form, AreFields}
use Rattle.frame_reader.specs.Rests.{Reading, forgotten, then_read, form_rest, node_rest, fields_rest}
use Rattle.frame_reader.proofs.Forgetting.{forgotten-mapped, forgotten-both, then_read-whole, then_read-then_read, then_read-same}

-- ---- fields

abbrev any_rest : ℕ → AnyForm → Reading
any_rest room f bytes = form_rest room f.1 bytes

forms_rest : ℕ → List AnyForm → Reading
forms_rest room [] bytes = whole tt bytes
forms_rest room (f ∷ fs) bytes = then_read (any_rest room f bytes) (forms_rest room fs)

forms_rest-append : (room : ℕ) (fs gs : List AnyForm) (bytes : List ℕ) → forms_rest room (fs ++ gs) bytes ≡ then_read (forms_rest room fs bytes) (forms_rest room gs)
unfolding forms_rest
forms_rest-append room [] gs bytes = refl
forms_rest-append room (f ∷ fs) gs bytes =
    then_read-same (any_rest room f bytes) (forms_rest room (fs ++ gs)) (λ rest. then_read (forms_rest room fs rest) (forms_rest room gs)) (forms_rest-append room fs gs)
    ∙ sym (then_read-then_read (any_rest room f bytes) (forms_rest room fs) (forms_rest room gs))

alone : (room : ℕ) {c : Code} (f : Form c) (bytes : List ℕ) → form_rest room f bytes ≡ forms_rest room ((c, f) ∷ []) bytes
unfolding forms_rest
alone room f bytes = sym (then_read-whole (form_rest room f bytes))

form_rest-fields : (room : ℕ) {c : Code} (f : Form c) (bytes : List ℕ) → form_rest room f bytes ≡ forms_rest room (fields_in f) bytes
unfolding forms_rest
form_rest-fields room empty bytes = refl
form_rest-fields room (byte s kind numbers) bytes = alone room (byte s kind numbers) bytes
form_rest-fields room u16 bytes = alone room u16 bytes
form_rest-fields room u32 bytes = alone room u32 bytes
form_rest-fields room i64 bytes = alone room i64 bytes
form_rest-fields room (run fault) bytes = alone room (run fault) bytes
form_rest-fields room (both {c} {d} f g) bytes =
    forgotten-both {A = El c} {B = El d} (scan_with (part_scan room) f bytes) (scan_with (part_scan room) g)
    ∙ ap (λ (s : Scan (Unit {0})). then_read s (form_rest room g)) (form_rest-fields room f bytes)
    ∙ then_read-same (forms_rest room (fields_in f) bytes) (form_rest room g) (forms_rest room (fields_in g)) (form_rest-fields room g)
    ∙ sym (forms_rest-append room (fields_in f) (fields_in g) bytes)
form_rest-fields room (choice s kind numbers of f) bytes = alone room (choice s kind numbers of f) bytes
form_rest-fields room (opt f) bytes = alone room (opt f) bytes
form_rest-fields room (list f) bytes = alone room (list f) bytes
form_rest-fields room (part p) bytes = alone room (part p) bytes
form_rest-fields room (means make show f) bytes = alone room (means make show f) bytes

forms_rest-nodes : (room : ℕ) (fields : List Node) (bytes : List ℕ) → forms_rest room (map any_form fields) bytes ≡ fields_rest room fields bytes
unfolding forms_rest fields_rest
forms_rest-nodes room [] bytes = refl
forms_rest-nodes room (node ∷ others) bytes = then_read-same (node_rest room node bytes) (forms_rest room (map any_form others)) (fields_rest room others) (forms_rest-nodes room others)

-- a form is its fields one after another
pub form_rest-nodes : (room : ℕ) {c : Code} (f : Form c) (fields : List Node) (bytes : List ℕ) → AreFields f fields → form_rest room f bytes ≡ fields_rest room fields bytes
form_rest-nodes room f fields bytes are = form_rest-fields room f bytes ∙ ap (λ (fs : List AnyForm). forms_rest room fs bytes) are ∙ forms_rest-nodes room fields bytes

-- ---- one byte

module _ (room : ℕ) (s : Sort) (kind : BadKind) (numbers : Numbering (One s)) (b : ℕ) (later : List ℕ) where
  pub byte_passes : (x : One s) → numbers.at b ≡ Some x → form_rest room (byte s kind numbers) (b ∷ later) ≡ whole tt later
  unfolding byte_scan
  byte_passes x e = ap (λ (o : Option (One s)). forgotten (named kind o b later)) e

  pub byte_fails : numbers.at b ≡ None → form_rest room (byte s kind numbers) (b ∷ later) ≡ bad (b ∷ later) kind
  unfolding byte_scan
  byte_fails e = ap (λ (o : Option (One s)). forgotten (named kind o b later)) e

  module _ (of : One s → Code) (f : (x : One s) → Form (of x)) where
    chosen_scan : Option (One s) → Scan (Unit {0})
    chosen_scan o = forgotten (and_then {B = (x : One s) × El (of x)} (named kind o b later) (λ x rest. mapped (λ v. (x, v)) (scan_with (part_scan room) (f x) rest)))

    pub choice_passes : (x : One s) → numbers.at b ≡ Some x → form_rest room (choice s kind numbers of f) (b ∷ later) ≡ form_rest room (f x) later
    unfolding byte_scan chosen_scan
    choice_passes x e = ap chosen_scan e ∙ forgotten-mapped {A = El (of x)} {B = (y : One s) × El (of y)} (λ v. (x, v)) (scan_with (part_scan room) (f x) later)

    pub choice_fails : numbers.at b ≡ None → form_rest room (choice s kind numbers of f) (b ∷ later) ≡ bad (b ∷ later) kind
    unfolding byte_scan chosen_scan
    choice_fails e = ap chosen_scan e

pub form_rest-means : (room : ℕ) (c d : Code) (make : El c → El d) (show : El d → El c) (f : Form c) (bytes : List ℕ) → form_rest room (means make show f) bytes ≡ form_rest room f bytes
form_rest-means room c d make show f bytes = forgotten-mapped {A = El c} {B = El d} make (scan_with (part_scan room) f bytes)

pub form_rest-both : (room : ℕ) (c d : Code) (f : Form c) (g : Form d) (bytes : List ℕ) → form_rest room (both f g) bytes ≡ then_read (form_rest room f bytes) (form_rest room g)
form_rest-both room c d f g bytes = forgotten-both {A = El c} {B = El d} (scan_with (part_scan room) f bytes) (scan_with (part_scan room) g)

-- ---- the tables
