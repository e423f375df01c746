-- What two tables have in common that agree on the reach of a unit, from the laws on tables with one cut.
use Rattle.std.proofs.Common.{◌≡◌, ◌↔◌, ℕ, Bool, T, IsTrue, List, [], ◌∷◌, Option, None, Some, refl, sym, subst}
use Rattle.std.specs.List.{AllByRecursion}
use Rattle.std.specs.Str.{bytes_eq}
use Rattle.std.specs.FinMap as fin
use Rattle.decl_tree.specs.declared.compilation.UnitText.{UnitText}
use Rattle.element_table.specs.declared.part.Part.TheVariants.{Source}
use Rattle.element_table.specs.TypeTable.{TypeTable, IsTable, part_of}
use Rattle.name_resolve.proofs.TopTypes.{part_by}
use Rattle.reach_map.specs.Agree.{Agree, AgreeOn, ShareReaches}
use Rattle.reach_map.specs.ClosedCuts.{among}
use Rattle.reach_map.specs.Reach.{IsReachList}
use Rattle.reach_map.proofs.NamesLemmas.{or_cases, or_left, or_right, same_as, is_itself}
use Rattle.closed_cuts.specs.AgreementLaws.{AgreeOnReach, ShareAllOfReach}
use Rattle.closed_cuts.specs.FieldLaws.{AllFieldsAgree}
use Rattle.closed_cuts.specs.NameLaws.{AllNamesAgree}
use Rattle.closed_cuts.specs.PresenceLaws.{AllPresenceAgrees}
use Rattle.closed_cuts.specs.QuestionLaws.{AllQuestionsAgree}
use Rattle.closed_cuts.specs.RootedLaws.{SharedReachesAreOne}
use Rattle.closed_cuts.specs.TypeLaws.{AllTypesAgree}
use Rattle.closed_cuts.specs.ValueLaws.{AllValuesAgree}

-- ---- what holds of each name of a list

module _ (P : List ℕ → Type 0) where
  at_name : (list : List (List ℕ)) → AllByRecursion P list → (name : List ℕ) → T (among list name) → P name
  at_name [] all name t = absurd t
  at_name (first ∷ list) all name t = or_cases (bytes_eq name first) (among list name) t (λ e. subst P (sym (same_as name first e)) all.0) (at_name list all.1 name)

  at_all : (list : List (List ℕ)) → ((name : List ℕ) → T (among list name) → P name) → AllByRecursion P list
  at_all [] f = tt
  at_all (first ∷ list) f =
      (f first (or_left (bytes_eq first first) (among list first) (is_itself first)), at_all list (λ name t. f name (or_right (bytes_eq name first) (among list name) t)))

module _ (one other : TypeTable) (root : List ℕ) (names : List (List ℕ)) (r : IsReachList one root names) where
  -- any two lists of one reach have the same names
  agree_here : AgreeOnReach one other root → Agree one other names
  agree_here agree =
      at_all (AgreeOn one other) names (λ name t.
      at_name (AgreeOn one other) agree.names agree.agree name
      (r.reach.least (among agree.names) agree.is_reach.reach.itself agree.is_reach.reach.closed name t))

  pub agree-on_reach : (answer : Bool) → IsTrue answer ↔ Agree one other names → IsTrue answer ↔ AgreeOnReach one other root
  agree-on_reach answer same = (λ t. record { names = names; is_reach = r; agree = same.0 t }, λ agree. same.1 (agree_here agree))

  source_by : (source stub : Option UnitText) → part_by source stub ≡ Some Source → (unit : UnitText) × (source ≡ Some unit)
  source_by (Some unit) stub e = (unit, refl)
  source_by None (Some stub) e = absurd (cc)
  source_by None None e = absurd (cc)

  pub share-all : SharedReachesAreOne → AllNamesAgree → AllFieldsAgree → AllTypesAgree → AllQuestionsAgree → AllPresenceAgrees → AllValuesAgree → IsTable one → IsTable other → one.stub ≡ other.stub
      → part_of one root ≡ Some Source → ShareReaches one other names → ShareAllOfReach one other root
  share-all are_one names_agree fields_agree types_agree questions_agree presence_agrees values_agree t t' stubs is_source share set reach =
      let source = source_by (fin.get one.source root) (fin.get one.stub root) is_source in
      let shared = share root set reach (reach.least (among names) r.reach.itself r.reach.closed) in
      let same = are_one one other root source.0 set t t' stubs source.1 reach shared in
      record {
        reach = shared;
        all = record {
          names = names_agree one other set same;
          fields = fields_agree one other set same;
          types = types_agree one other set same;
          questions = questions_agree one other set same;
          presence = presence_agrees one other set same;
          values = values_agree one other set same;
        };
      }
