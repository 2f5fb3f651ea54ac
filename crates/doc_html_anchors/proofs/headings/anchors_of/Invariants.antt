use Rattle.std.proofs.Common.{◌≡◌, ◌++◌, List, chars, drop, map}
use Rattle.doc_rules.specs.Characters.{Text}
use Rattle.doc_rules.specs.Anchors.{anchors_of, anchors_behind}
use Rattle.doc_html_anchors.specs.Uses.{Uses}
use Rattle.doc_html_anchors.proofs.headings.anchors_of.Given as goal

abbrev pub invariant-headings : goal.invariant-headings
invariant-headings l =
    (used : List Text) × Uses l.anchors used
    × (map chars l.out.items ++ anchors_behind used (map chars (drop l.text-index l.texts)) ≡ anchors_of (map chars l.texts))
