-- The targets of definitions one after another: those of one more are joined to those so far.
use Rattle.std.proofs.Common.{◌≡◌, List, [], ◌∷◌, ap, sym, ◌∙◌, refl, Option, Some, None}
use Rattle.std.specs.Cmp.Lexicographic.{slice_cmp}
use Rattle.std.specs.FinMap.{get, empty, get-empty}
use Rattle.std.specs.Ordering.{nat_cmp}
use Rattle.doc_rules.specs.Characters.{Text}
use Rattle.doc_rules.specs.Destinations as specs
use Rattle.doc_rules.specs.Rules.{Rules}
use Rattle.doc_rules.specs.Labels.{normal_label}
use Rattle.doc_rules.specs.Definitions.{Definition, DefinitionSource, definition_of, definition_source, definitions_of}
use Rattle.doc_rules.proofs.GrammarLaws.{definitions_step}
use Rattle.doc_refs_parts.specs.Targets.{Targets, single, targets_of, joined}
use Rattle.doc_refs_parts.proofs.MapLaws.{same_targets, first_of, get-joined, joined-empty, joins_definitions}

-- ---- none, and one more

pub joined_to_none : (refs targets : Targets) → refs ≡ empty → joined refs targets ≡ targets
joined_to_none refs targets e =
    same_targets (joined refs targets) targets (λ name.
    get-joined refs targets name ∙ ap (λ o. first_of o (get targets name)) (ap (λ (m : Targets). get m name) e
    ∙ get-empty (slice_cmp nat_cmp) name))

first_of_three : (a b c : Option specs.Target) → first_of (first_of a b) c ≡ first_of a (first_of b c)
first_of_three None b c = refl
first_of_three (Some target) b c = refl

joined_three : (first second third : Targets) → joined (joined first second) third ≡ joined first (joined second third)
joined_three first second third =
    same_targets (joined (joined first second) third) (joined first (joined second third)) (λ name.
    get-joined (joined first second) third name
    ∙ ap (λ o. first_of o (get third name)) (get-joined first second name)
    ∙ first_of_three (get first name) (get second name) (get third name)
    ∙ ap (first_of (get first name)) (sym (get-joined second third name))
    ∙ sym (get-joined first (joined second third) name))

joined_with_one : (refs : Targets) (d : Definition) (more : List Definition)
    → joined (joined refs (single (normal_label d.label) d.target)) (targets_of more) ≡ joined refs (targets_of (d ∷ more))
joined_with_one refs d more = joined_three refs (single (normal_label d.label) d.target) (targets_of more)
    ∙ ap (joined refs) (joins_definitions (d ∷ []) more)

-- ---- definitions one after another

abbrev first_and_more : Rules → Text → Option DefinitionSource → List Definition × Text
first_and_more rules text found =
    elim found [
      | None ↦ ([], text)
      | Some source ↦ (definition_of rules source ∷ (definitions_of rules source.rest).0, (definitions_of rules source.rest).1)
    ]

pub none_more : (rules : Rules) (text : Text) → None ≡ definition_source text → definitions_of rules text ≡ ([], text)
none_more rules text e = definitions_step rules text ∙ ap (first_and_more rules text) (sym e)

pub one_more : (rules : Rules) (text : Text) (source : DefinitionSource) → Some source ≡ definition_source text →
    definitions_of rules text ≡ (definition_of rules source ∷ (definitions_of rules source.rest).0, (definitions_of rules source.rest).1)
one_more rules text source e = definitions_step rules text ∙ ap (first_and_more rules text) (sym e)

-- the targets so far, where no further definition stands
pub taken_all : (rules : Rules) (rest : Text) (refs whole : Targets) → None ≡ definition_source rest
    → joined refs (targets_of (definitions_of rules rest).0) ≡ whole → refs ≡ whole
taken_all rules rest refs whole e h =
    sym (joined-empty refs) ∙ ap (λ (ds : List Definition × Text). joined refs (targets_of ds.0)) (sym (none_more rules rest e)) ∙ h

-- the targets so far with one definition more
pub taken_more : (rules : Rules) (rest name : Text) (target : specs.Target) (source : DefinitionSource) (refs new whole : Targets) →
    Some source ≡ definition_source rest → name ≡ normal_label source.label → target ≡ specs.target_of rules source.dest source.title
    → new ≡ joined refs (single name target) →
    joined refs (targets_of (definitions_of rules rest).0) ≡ whole → joined new (targets_of (definitions_of rules source.rest).0) ≡ whole
taken_more rules rest name target source refs new whole e n t s h =
    let those : Targets = targets_of (definitions_of rules source.rest).0 in
    ap (λ (m : Targets). joined m those) s
    ∙ ap (λ (k : Text). joined (joined refs (single k target)) those) n
    ∙ ap (λ (v : specs.Target). joined (joined refs (single (normal_label source.label) v)) those) t
    ∙ joined_with_one refs (definition_of rules source) (definitions_of rules source.rest).0
    ∙ ap (λ (ds : List Definition × Text). joined refs (targets_of ds.0)) (sym (one_more rules rest source e))
    ∙ h
