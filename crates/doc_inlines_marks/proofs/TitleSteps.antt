-- A title behind a destination, from what the scanners say.
use Rattle.std.proofs.Common.{◌≡◌, true, false, [], ap, ◌∙◌}
use Rattle.std.specs.Prelude.{Option, Some, None, option_and_then}
use Rattle.std.specs.Option.{is_some}
use Rattle.doc_rules.specs.Characters.{Text}
use Rattle.doc_rules.specs.Parsers.{is, before, spacing, some_spacing}
use Rattle.doc_rules.specs.Rules.{Rules}
use Rattle.doc_rules.specs.Destinations.{destination, title, target_of}
use Rattle.doc_rules.specs.Links.{Tail, closed, title_tail, destination_tail, inline_tail}

-- what stands behind a destination, by what some_spacing leaves
abbrev behind_spacing : Rules → Text → Text → Option Text → Tail
behind_spacing rules dest text found =
    elim found [
      | None ↦ closed (target_of rules dest None) text
      | Some start ↦ elim (is_some (title start)) [ true ↦ title_tail rules dest start | false ↦ closed (target_of rules dest None) text ]
    ]

-- by what the title leaves: whether one stands there, and the tail with it
abbrev chosen : Rules → Text → Text → Text → Option Text → Tail
chosen rules dest start text found = elim (is_some found) [
  | true ↦ title_tail rules dest start
  | false ↦ closed (target_of rules dest None)
      text
]

abbrev with_title : Rules → Text → Text → Option Text → Tail
with_title rules dest start found = elim found [
  | None ↦ None
  | Some after ↦ closed (target_of rules dest (Some (before after start))) after
]

pub title_stands : (rules : Rules) (dest text start front behind : Text) → Some start ≡ some_spacing text → Some behind ≡ title start
    → front ≡ before behind start
    → closed (target_of rules dest (Some front)) behind ≡ destination_tail rules dest text
unfolding destination_tail title_tail
title_stands rules dest text start front behind e f g = ap (λ taken. closed (target_of rules dest (Some taken)) behind) g
    ∙ ap (with_title rules dest start) f ∙ ap (chosen rules dest start text) f ∙ ap (behind_spacing rules dest text) e

-- ---- no destination

abbrev behind_opening : Rules → Option Text → Tail
behind_opening rules found =
    elim found [
      | None ↦ None
      | Some start ↦ elim (destination start) [
        | None ↦ closed (target_of rules [] None) start
        | Some behind ↦ destination_tail rules (before behind start) behind
      ]
    ]

abbrev behind_destination : Rules → Text → Option Text → Tail
behind_destination rules start found =
    elim found [
      | None ↦ closed (target_of rules [] None) start
      | Some behind ↦ destination_tail rules (before behind start) behind
    ]

pub no_destination : (rules : Rules) (rest inside start dest : Text) → dest ≡ [] → Some inside ≡ is 40 rest → Some start ≡ spacing inside
    → None ≡ destination start
    → closed (target_of rules dest None) start ≡ inline_tail rules rest
unfolding inline_tail
no_destination rules rest inside start dest d e f g =
    ap (λ source. closed (target_of rules source None) start) d ∙ ap (behind_destination rules start) g ∙ ap (behind_opening rules) f
    ∙ ap (λ found. behind_opening rules (option_and_then spacing found)) e
