-- What a label names, from what a look-up in a map says.
use Rattle.std.proofs.Common.{◌≡◌, List, ap, ◌∙◌}
use Rattle.std.specs.FinMap.{get}
use Rattle.std.specs.Prelude.{Option, option_map}
use Rattle.doc_rules.specs.Characters.{Text}
use Rattle.doc_rules.specs.Definitions.{Definition}
use Rattle.doc_rules.specs.Destinations.{Target}
use Rattle.doc_rules.specs.Labels.{normal_label}
use Rattle.doc_rules.specs.Links.{reference_target}
use Rattle.doc_refs_parts.specs.Targets.{Targets, targets_of}
use Rattle.doc_refs_parts.proofs.MapLaws.{finds_the_reference}

pub names_target : (definitions : List Definition) (refs : Targets) (name normal after : Text) (found : Option Target)
    → refs ≡ targets_of definitions → normal ≡ normal_label name → found ≡ get refs normal
    → option_map (λ target. (target, after)) found ≡ reference_target definitions name after
unfolding reference_target
names_target definitions refs name normal after found e f g =
    ap (option_map (λ (target : Target). (target, after)))
    (g ∙ ap (λ (targets : Targets). get targets normal) e ∙ ap (get (targets_of definitions)) f ∙ finds_the_reference definitions name)
