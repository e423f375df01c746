-- How deep the mirrors and values are nested that a value of a form holds.
use Rattle.std.specs.Prelude.{ℕ, ◌≤◌, max, List, [], ◌∷◌, Option, Some, None, ◌↔◌}
use Rattle.type_mirror.specs.Nesting.{nesting, value_nesting}
use Rattle.frame_forms.specs.Forms.{Code, El, Form, Part, mirror_part, value_part, empty, byte, u16, u32, i64, run, both, choice, opt, list, part, means, fits_with}
use Rattle.frame_forms.specs.FrameTable.{Fields, frame_form}
use Rattle.frame_forms.specs.Frames.{part_fits, most_nested, Fits}

abbrev pub part_depth : (c : Code) → Part c → El c → ℕ
part_depth _ mirror_part m = nesting m
part_depth _ value_part v = value_nesting v

abbrev pub opt_depth : {A : Type 0} → (A → ℕ) → Option A → ℕ
opt_depth depth None = 0
opt_depth depth (Some a) = depth a

abbrev pub items_depth : {A : Type 0} → (List A → A → ℕ) → List A → List A → ℕ
items_depth depth before [] = 0
items_depth depth before (first ∷ others) = max (depth before first) (items_depth depth (first ∷ before) others)

abbrev pub depth_in : {c : Code} → Form c → El c → ℕ
depth_in empty v = 0
depth_in (byte s kind numbers) v = 0
depth_in u16 v = 0
depth_in u32 v = 0
depth_in i64 v = 0
depth_in (run fault) v = 0
depth_in (both f g) v = max (depth_in f v.0) (depth_in g v.1)
depth_in (choice s kind numbers of f) v = depth_in (f v.0) v.1
depth_in (opt {c} f) v = opt_depth {A = El c} (depth_in f) v
depth_in (list {c} f) v = items_depth {A = El c} (λ before. depth_in (f before)) [] v
depth_in (part {c} p) v = part_depth c p v
depth_in (means make show f) v = depth_in f (show v)

-- the value fits, however deep it is nested
abbrev pub FitsApart : {c : Code} → Form c → El c → Type 0
FitsApart form v = (room : ℕ) × fits_with (part_fits room) form v

-- fields fit exactly where they do apart from the nesting, and are nested at most so deep
abbrev pub NestingDecides : Type 0
NestingDecides = (fields : Fields) → Fits frame_form fields ↔ (FitsApart frame_form fields × (depth_in frame_form fields ≤ most_nested))
