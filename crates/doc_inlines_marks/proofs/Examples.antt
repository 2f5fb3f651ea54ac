-- Examples: where links lead that stand somewhere (sections 6.3 and 6.5).
use Rattle.std.proofs.Common.{◌≡◌, ℕ, List, chars, refl, ap, ◌∙◌}
use Rattle.std.specs.Prelude.{Some, None, codes, ◌++◌}
use denote.Ref.{Bor}
use Rattle.doc_rules.proofs.Computing.{inline_words}
use Rattle.doc_rules.specs.Characters.{Text}
use Rattle.doc_rules.specs.Destinations.{target_of}
use Rattle.doc_rules.specs.Rules.{built_in_rules}
use Rattle.doc_lines.specs.declared.entities.Entities.{Entities}
use Rattle.doc_inlines_marks.specs.Targets.{named}
use Rattle.doc_inlines_marks.specs.declared.target_ref.TargetRef.TheVariants.{Written, Address}

-- escapes and references are read in both, and what encloses them is no part of them
titled : target_of built_in_rules (codes "<a\\*b>") (Some (codes "\"&auml;\"")) ≡ record { dest = codes "a*b"; title = Some (codes "ä") }
unfolding inline_words
titled = refl

written : (dest title : Bor (List ℕ)) (entities : Bor Entities) → entities.now ≡ built_in_rules → chars dest.now ≡ codes "<a\\*b>"
    → chars title.now ≡ codes "\"&auml;\"" →
    named (Written dest (Some title) entities) ≡ record { dest = codes "a*b"; title = Some (codes "ä") }
unfolding named
written dest title entities e f g =
    ap (λ t. target_of t (chars dest.now) (Some (chars title.now))) e
    ∙ (ap (λ d. target_of built_in_rules d (Some (chars title.now))) f ∙ (ap (λ t. target_of built_in_rules (codes "<a\\*b>") (Some t)) g ∙ titled))

-- an address stands as it is: `&auml;` in it is no reference
mail : (scheme address : Bor (List ℕ)) → chars scheme.now ≡ codes "mailto:" → chars address.now ≡ codes "a&auml;@b"
    → named (Address scheme address) ≡ record { dest = codes "mailto:a&auml;@b"; title = None }
unfolding named
mail scheme address e f =
    ap (λ (s : Text). record { dest = s ++ chars address.now; title = None }) e
    ∙ ap (λ (a : Text). record { dest = codes "mailto:" ++ a; title = None }) f
