-- The object that bytes are, by what was read of them.
use Rattle.std.proofs.Common.{◌≡◌, ℕ, Bool, true, false, List, Some, None, refl}
use Rattle.std.specs.Str.{IsUtf8}
use Rattle.apt_base.specs.Fields.{is_text}
use Rattle.apt_base.proofs.FieldsLemmas.{is_text-of_utf8, is_text-only}
use Rattle.serde_json.specs.Data.{Data}
use Rattle.serde_json.specs.Read.{read}
use Rattle.project_config.specs.Reading.{if_object, object_in}

pub object_in-read : (bytes : List ℕ) (d : Data) → IsUtf8 bytes → read bytes ≡ Some d → object_in bytes ≡ if_object d
object_in-read bytes d valid is = rw (is_text-of_utf8 bytes valid, is) refl

pub object_in-none : (bytes : List ℕ) → (IsUtf8 bytes → read bytes ≡ None) → object_in bytes ≡ None
object_in-none bytes none = by (is_text bytes) refl
  where
    by : (b : Bool) → is_text bytes ≡ b → object_in bytes ≡ None
    by true e = rw (e, none (is_text-only bytes e)) refl
    by false e = rw e refl
