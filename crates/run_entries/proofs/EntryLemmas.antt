-- Files and messages at places, and the entries that they make.
use Rattle.std.proofs.Common.{◌≡◌, ℕ, suc, ◌+◌, ◌<◌, Bool, true, false, List, [], ◌∷◌, ◌++◌, length, map, get_or, drop, Option, None, Some, Result, Ok, Err, IfOk, OnOk, if◌then◌else◌, refl, sym, ap, ◌∙◌, append_assoc, append-nil, length-append, arith}
use Rattle.std.specs.Prelude.{slice_get, option_to_list}
use Rattle.std.specs.List.{cons_option, range_with_len}
use Rattle.std.specs.Ordering.{nat_cmp}
use Rattle.std.specs.Cmp.{IsStrictWeakOrder}
use Rattle.std.specs.Cmp.Lexicographic.{slice_cmp}
use Rattle.std.specs.List.Sorted.{IsStable}
use Rattle.std.specs.Prelude.{IsSorted}
use Rattle.std.proofs.lemmas.Cmp.{nat_list_cmp_total, on_total}
use Rattle.std.proofs.lemmas.List.{drop_more}
use Rattle.std.proofs.lemmas.List.Sorted.{ranks_by}
use Rattle.std.specs.declared.cmp.Ordering.{Ordering}
use Rattle.wire_frames.specs.declared.frame.Message.{Message}
use Rattle.apt_filer.specs.Orders.{in_order}
use Rattle.apt_filer.proofs.OrderLemmas.{sorted_is_in_order}
use Rattle.record_forms.specs.RecordTable.{file_less}
use Rattle.record_forms.specs.declared.record.Entry.{Entry}
use Rattle.record_forms.specs.declared.record.StoredFile.{StoredFile}
use Rattle.record_forms.specs.declared.record.StoredMessage.{StoredMessage}
use Rattle.run_entries.specs.declared.parts.Left.{Left}
use Rattle.run_entries.specs.declared.processed.GeneratedFile.{GeneratedFile}
use Rattle.run_entries.specs.declared.processed.Processed.{Processed}
use Rattle.run_entries.specs.Entries.{stored_file, stored_message, numbered, Head, entry_with, head_at, head_of, head_left, entry_at, entry_left, whole_entry, if_some_left}
use Rattle.run_entries.specs.Maps.{Stores, PlaceMap, places_at}
use Rattle.run_entries.specs.Outputs.{Root, roots_of, is_file_from, is_message_from, is_file_left, is_message_left, leaves_some}
use Rattle.run_entries.specs.Positions.{items_at}
use Rattle.run_entries.specs.Roots.{AreFilePlaces, AreMessagePlaces, AreLeft, has_some}
use Rattle.run_entries.proofs.PositionLemmas.{items-positions, items-all}
use Rattle.run_entries.proofs.RootLemmas.{some_left}

-- ---- the order of files by their paths

abbrev pub path_cmp : StoredFile → StoredFile → Ordering
path_cmp one other = slice_cmp nat_cmp one.path other.path

pub by_path : IsStrictWeakOrder file_less
by_path = ranks_by (on_total (λ (f : StoredFile). f.path) nat_list_cmp_total) (λ (f : StoredFile). f)

-- what a stable sort leaves
pub sorted_by_path : (old new : List StoredFile) → IsSorted path_cmp new → IsStable path_cmp old new → new ≡ in_order file_less old
sorted_by_path old new sorted stable = sorted_is_in_order file_less by_path old new sorted stable

-- ---- what is at one place more

next_items : {A : Type 0} (items : List A) (places : List ℕ) (i place d : ℕ) → i < length places → place ≡ get_or places i d
    → items_at items (drop i places) ≡ cons_option (slice_get items place) (items_at items (drop (i + 1) places))
next_items items places i place d lt at = ap (items_at items) (drop_more places i d lt ∙ ap (λ (p : ℕ). p ∷ drop (i + 1) places) (sym at))

files_front : {A B : Type 0} (f : A → B) (o : Option A) (xs : List A) → map f (option_to_list o) ++ map f xs ≡ map f (cons_option o xs)
files_front f None xs = refl
files_front f (Some x) xs = refl

pub files_step : (stores : Stores) (files : List GeneratedFile) (places : List ℕ) (list new : List StoredFile) (i place d : ℕ) → i < length places → place ≡ get_or places i d
    → new ≡ list ++ map (stored_file stores) (option_to_list (slice_get files place))
    → new ++ map (stored_file stores) (items_at files (drop (i + 1) places)) ≡ list ++ map (stored_file stores) (items_at files (drop i places))
files_step stores files places list new i place d lt at is =
    ap (λ (l : List StoredFile). l ++ map (stored_file stores) (items_at files (drop (i + 1) places))) is
    ∙ append_assoc list (map (stored_file stores) (option_to_list (slice_get files place))) (map (stored_file stores) (items_at files (drop (i + 1) places)))
    ∙ ap (λ (l : List StoredFile). list ++ l) (files_front (stored_file stores) (slice_get files place) (items_at files (drop (i + 1) places)))
    ∙ ap (λ (l : List GeneratedFile). list ++ map (stored_file stores) l) (sym (next_items files places i place d lt at))

one_longer : (list new : List StoredMessage) (message : StoredMessage) → new ≡ list ++ message ∷ [] → length new ≡ suc (length list)
one_longer list new message is =
    let l = length-append list (message ∷ []) in
    let e : length list + 1 ≡ suc (length list) = omega arith in
    ap length is ∙ l ∙ e

messages_front : (o : Option Message) (xs : List Message) (list new : List StoredMessage) → new ≡ list ++ numbered (length list) (option_to_list o)
    → new ++ numbered (length new) xs ≡ list ++ numbered (length list) (cons_option o xs)
messages_front None xs list new is = let e : new ≡ list = is ∙ append-nil list in ap (λ (l : List StoredMessage). l ++ numbered (length l) xs) e
messages_front (Some x) xs list new is =
    ap (λ (n : ℕ). new ++ numbered n xs) (one_longer list new (stored_message (length list) x) is)
    ∙ ap (λ (l : List StoredMessage). l ++ numbered (suc (length list)) xs) is
    ∙ append_assoc list (stored_message (length list) x ∷ []) (numbered (suc (length list)) xs)

pub messages_step : (messages : List Message) (places : List ℕ) (list new : List StoredMessage) (i place d : ℕ) → i < length places → place ≡ get_or places i d
    → new ≡ list ++ numbered (length list) (option_to_list (slice_get messages place))
    → new ++ numbered (length new) (items_at messages (drop (i + 1) places)) ≡ list ++ numbered (length list) (items_at messages (drop i places))
messages_step messages places list new i place d lt at is =
    messages_front (slice_get messages place) (items_at messages (drop (i + 1) places)) list new is
    ∙ ap (λ (l : List Message). list ++ numbered (length list) l) (sym (next_items messages places i place d lt at))

-- ---- one entry

module _ (stores : Stores) (done : Processed) where
  made_by : (one other : Head) (files files' : List GeneratedFile) (messages messages' : List Message) → one ≡ other → files ≡ files' → messages ≡ messages'
      → entry_with stores done one files messages ≡ entry_with stores done other files' messages'
  made_by one other files files' messages messages' h f m = λ i. entry_with stores done (h i) (f i) (m i)

  pub root_is : (root : Root) (head : Head) (files messages : PlaceMap) (some few : List ℕ) → AreFilePlaces files done.files → AreMessagePlaces messages done.messages → head ≡ head_at root
      → some ≡ places_at files root.0 → few ≡ places_at messages root.0 → entry_with stores done head (items_at done.files some) (items_at done.messages few) ≡ entry_at stores done root
  root_is root head files messages some few fs ms h f m =
      made_by head (head_at root) _ _ _ _ h
      (ap (items_at done.files) (f ∙ fs root.0) ∙ items-positions (is_file_from root.0) done.files)
      (ap (items_at done.messages) (m ∙ ms root.0) ∙ items-positions (is_message_from root.0) done.messages)

  pub left_is : (left : Left) (head : Head) (some few : List ℕ) → AreLeft done left → head ≡ head_left → some ≡ left.files → few ≡ left.messages
      → entry_with stores done head (items_at done.files some) (items_at done.messages few) ≡ entry_left stores done
  left_is left head some few so h f m =
      made_by head head_left _ _ _ _ h
      (ap (items_at done.files) (f ∙ so.files) ∙ items-positions (is_file_left (roots_of done)) done.files)
      (ap (items_at done.messages) (m ∙ so.messages) ∙ items-positions (is_message_left (roots_of done)) done.messages)

  pub whole_is : (head : Head) (some few : List ℕ) → head ≡ head_of done → some ≡ range_with_len 0 (length done.files) → few ≡ range_with_len 0 (length done.messages)
      → entry_with stores done head (items_at done.files some) (items_at done.messages few) ≡ whole_entry stores done
  whole_is head some few h f m =
      made_by head (head_of done) _ _ _ _ h (ap (items_at done.files) f ∙ items-all done.files) (ap (items_at done.messages) m ∙ items-all done.messages)

  -- nothing is left, and something is
  pub none_left : (left : Left) (list : List Entry) (b : Bool) → AreLeft done left → b ≡ has_some left → b ≡ false → list ≡ list ++ if_some_left stores done
  none_left left list b so is none =
      sym (append-nil list) ∙ ap (λ (some : Bool). list ++ (if some then entry_left stores done ∷ [] else [])) (sym none ∙ is ∙ some_left done left so)

  pub one_left : (left : Left) (list new : List Entry) (entry : Entry) (b : Bool) → AreLeft done left → b ≡ has_some left → b ≡ true → entry ≡ entry_left stores done → new ≡ list ++ entry ∷ []
      → new ≡ list ++ if_some_left stores done
  one_left left list new entry b so is some e push =
      push ∙ ap (λ (x : Entry). list ++ x ∷ []) e ∙ ap (λ (some : Bool). list ++ (if some then entry_left stores done ∷ [] else [])) (sym some ∙ is ∙ some_left done left so)

-- ---- what follows of a result

pub on_value : {A E : Type 0} {P Q : A → Type 0} (result : Result A E) → ((x : A) → P x → Q x) → IfOk result P → IfOk result Q
on_value (Ok x) f p = f x p
on_value (Err fault) f p = tt
