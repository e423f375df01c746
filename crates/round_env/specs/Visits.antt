-- What a visit of a place adds to what was gathered: the names that are present there, or the element where an annotation is present on it. The root is the
-- name of the unit that is walked.
use Rattle.std.specs.Prelude.{◌≡◌, ℕ, List, [], ◌∷◌, ◌++◌, filter}
use Rattle.apt_base.specs.Names.{with_names}
use Rattle.decl_elements.specs.Walk.{Place}
use Rattle.round_env.specs.declared.presence.PresentNames.{PresentNames}
use Rattle.round_env.specs.declared.presence.AnnotatedElements.{AnnotatedElements}
use Rattle.round_env.specs.Presence.{names_on, carries, element_at}

pub record AddsNames (old : PresentNames) (at : Place) (new : PresentNames) : Type 0 where
  pub table : new.presence ≡ old.presence
  pub root : new.root ≡ old.root
  pub names : new.names ≡ with_names old.names (names_on old.presence (element_at old.root at))

pub record AddsElement (old : AnnotatedElements) (at : Place) (new : AnnotatedElements) : Type 0 where
  pub table : new.presence ≡ old.presence
  pub root : new.root ≡ old.root
  pub name : new.name.now ≡ old.name.now
  pub elements : new.elements ≡ old.elements ++ filter (carries old.presence old.name.now) (element_at old.root at ∷ [])
