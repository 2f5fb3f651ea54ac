-- What each scanner answers is the end of the text, from what its contract says: so `front` may cut there.
use Rattle.std.proofs.Common.{◌≡◌, Some, sym}
use Rattle.doc_rules.specs.Characters.{Text}
use Rattle.doc_rules.specs.Parsers.{◌or◌}
use Rattle.doc_rules.specs.Destinations.{destination, title_in, title}
use Rattle.doc_rules.specs.Labels.{label}
use Rattle.doc_rules.specs.Rests.{IsRest}
use Rattle.doc_rules.proofs.ParserLaws.{or_leaves}
use Rattle.doc_rules.proofs.GrammarLaws.{destination_leaves, title_in_leaves, title_leaves, label_leaves}

pub destination_rest : (text rest : Text) → Some rest ≡ destination text → IsRest rest text
destination_rest text rest e = destination_leaves text rest (sym e)

pub enclosed_rest : (text rest : Text) → Some rest ≡ (title_in 34 34 or title_in 39 39 or title_in 40 41) text → IsRest rest text
enclosed_rest text rest e =
    or_leaves (title_in 34 34 or title_in 39 39) (title_in 40 41)
    (or_leaves (title_in 34 34) (title_in 39 39) (title_in_leaves 34 34) (title_in_leaves 39 39)) (title_in_leaves 40 41) text rest (sym e)

pub title_rest : (text rest : Text) → Some rest ≡ title text → IsRest rest text
title_rest text rest e = title_leaves text rest (sym e)

pub label_rest : (text rest : Text) → Some rest ≡ label text → IsRest rest text
label_rest text rest e = label_leaves text rest (sym e)
