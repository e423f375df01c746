use Rattle.std.proofs.Common.{◌≡◌, ℕ, ◌<◌, ◌^◌, ◌+◌, ◌++◌, ◌∷◌, [], List, Some, String, Vec, length, map, string_bytes, append-nil, append_assoc, sym, ap, ◌∙◌, arith, refl, rules}
use Rattle.std.specs.BTreeMap.{IsOrdered}
use Rattle.std.specs.FinMap as fin
use Rattle.std.specs.String.{string_cmp}
use Rattle.std.specs.declared.alloc.Global.{Global}
use Rattle.std.proofs.lemmas.List.{map-append}
use Rattle.std.proofs.lemmas.List.Elements.{All-nil, All-push}
use Rattle.apt_outside.specs.Held.{shown_file}
use Rattle.apt_outside.proofs.HeldLemmas.{entries-files_of}
use Rattle.round_engine.specs.Numbering.{IsNextFree, AreAhead, SameFrom}
use Rattle.round_engine.specs.Numbered.{shown_made, number_of, made_with, HasText, IsWritten, Fits}
use Rattle.round_engine.specs.declared.numbering.Made.{Made}
use Rattle.round_engine.proofs.NumberingLemmas.{Stands, Stands-nil, Stands-push}
use Rattle.round_engine.proofs.numbering.number_files.Goals as goal

-- one more file, of the next entry
shown_more : (files : List Made) (file : Made) (entry : String Global × Vec ℕ Global) (rest : List (String Global × Vec ℕ Global)) (all : List (List ℕ × List ℕ))
    → (file.path ≡ string_bytes entry.0) → (file.bytes ≡ entry.1.items)
    → map shown_made files ++ map shown_file (entry ∷ rest) ≡ all
    → map shown_made (files ++ file ∷ []) ++ map shown_file rest ≡ all
shown_more files file entry rest all path bytes so_far =
    rw (map-append {B = List ℕ × List ℕ} shown_made files (file ∷ []), append_assoc, path, bytes) so_far

pub loop-path-init : goal.loop-path-init
loop-path-init c =
    let items = c.into_map-path-items.result in
    let ordered : IsOrdered string_cmp items = c.into_iter-path-iterator.ensures.into_iter_gives.5 in
    let all : c.into_iter-path-iterator.result ≡ items.entries = search rules in
    let none : c.new-files.result ≡ [] = search rules in
    record {
      files = rw none (ap (map shown_file) all ∙ sym (entries-files_of items ordered) ∙ ap fin.entries c.into_map-path-items.ensures);
      numbers = rw none (Stands-nil c.args.taken.now (record { ascending = c.requires; ahead = λ k d within. omega arith }));
      texts = rw none (All-nil HasText);
      written = rw none (All-nil IsWritten);
      sizes = rw none (All-nil Fits);
    }

pub loop-path-preserved : goal.loop-path-preserved
loop-path-preserved c =
    let files : List Made = c.loop-path.files in
    let file : Made = c.in_ok-made_file.field-0 in
    let store : ℕ = c.in_ok-store.store in
    let is : file ≡ made_with (string_bytes c.in-Some.path) store c.in-Some.bytes.items = c.in_ok-made_file.ensures.file in
    let pushed : c.push.new.self ≡ files ++ file ∷ [] = c.in_ok-push.ensures.ok in
    let rest : c.loop-path.path-iterator ≡ (c.in-Some.path, c.in-Some.bytes) ∷ c.next.new.self = c.in-Some.ensures.steps in
    let some : c.give.result ≡ Some store = grind arith in
    let free : IsNextFree c.loop-path.numbers.taken.now c.loop-path.numbers.next store = rw some at c.give.ensures.free in
    let after : c.give.new.self.next ≡ store + 1 = rw some at c.give.ensures.given in
    let ahead : AreAhead c.give.new.self.taken.now (store + 1) = rw after at c.give.ensures.ahead in
    let same : SameFrom (store + 1) c.loop-path.numbers.taken.now c.give.new.self.taken.now = rw after at c.give.ensures.same in
    let stands : Stands c.args.taken.now (map number_of files ++ store ∷ []) c.give.new.self.taken.now (store + 1) = Stands-push _ _ _ _ store c.loop-path.invariant.numbers free _ ahead same in
    let sized : (length (string_bytes c.in-Some.path) < 2 ^ 32) × (length c.in-Some.bytes.items < 2 ^ 32) = c.in_ok-made_file.ensures.fits.0 refl in
    let fits : (store < 2 ^ 32) × (length (string_bytes c.in-Some.path) < 2 ^ 32) × (length c.in-Some.bytes.items < 2 ^ 32) = (c.in_ok-made_file.ensures.store, sized.0, sized.1) in
    record {
      files = rw pushed (shown_more files file (c.in-Some.path, c.in-Some.bytes) c.next.new.self _ (rw is refl) (rw is refl) (rw rest at c.loop-path.invariant.files));
      numbers = rw (pushed, map-append number_of files (file ∷ []), is, after) stands;
      texts = rw pushed (All-push HasText files file c.loop-path.invariant.texts c.in_ok-made_file.ensures.text);
      written = rw pushed (All-push IsWritten files file c.loop-path.invariant.written (rw is refl));
      sizes = rw pushed (All-push Fits files file c.loop-path.invariant.sizes (rw is fits));
    }

pub returns-clause-files : goal.returns-clause-files
returns-clause-files c =
    let none : c.loop-path.path-iterator ≡ [] = c.in-None.ensures.steps.0 in
    sym (append-nil _) ∙ (rw none at c.loop-path.invariant.files)
