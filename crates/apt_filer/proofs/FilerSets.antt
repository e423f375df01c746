-- Sets of names: from which one that was added is taken away again, and with the names of a list, one after another.
use Rattle.std.proofs.Common.{◌≡◌, ℕ, ◌+◌, ◌<◌, Bool, true, false, not, ◌&&◌, ◌||◌, List, length, take, get_or, refl, sym, ap, ◌∙◌}
use Rattle.std.specs.FinMap.{contains_key, remove}
use Rattle.std.specs.Str.{bytes_eq}
use Rattle.std.proofs.lemmas.List.{take_more}
use Rattle.std.proofs.lemmas.Slice.Eq.{bytes_eq-Decides}
use Rattle.apt_base.specs.Names.{NameSet, with_name, with_names}
use Rattle.apt_base.proofs.NameSets.{contains-with_name, contains-remove, same_names, with_names-push}

restored : (same had : Bool) → (same ≡ true → had ≡ false) → (not same && (same || had)) ≡ had
restored true had absent = sym (absent refl)
restored false had absent = refl

-- it is as it was, where the name was not there
pub remove-with_name : (names : NameSet) (name : List ℕ) → contains_key names name ≡ false → remove (with_name names name) name ≡ names
remove-with_name names name absent = same_names _ _ (λ q.
    contains-remove (with_name names name) name q
    ∙ ap (λ (b : Bool). not (bytes_eq q name) && b) (contains-with_name names name q)
    ∙ restored (bytes_eq q name) (contains_key names q) (λ same. ap (contains_key names) ((bytes_eq-Decides q name).0 same) ∙ absent))

-- the names of a list up to one of them, and that one
pub with_names-more : (names : NameSet) (list : List (List ℕ)) (i : ℕ) (name : List ℕ) → i < length list → name ≡ get_or list i name → with_name (with_names names (take i list)) name ≡ with_names names (take (i + 1) list)
with_names-more names list i name lt is =
    ap (with_name (with_names names (take i list))) is
    ∙ sym (ap (with_names names) (take_more list i name lt) ∙ with_names-push names (take i list) (get_or list i name))
