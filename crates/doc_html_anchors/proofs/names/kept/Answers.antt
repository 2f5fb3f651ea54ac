use Rattle.std.proofs.Common.{[], ◌++◌, flat_map, sym, ap, ◌∙◌, map-id, chars}
use Rattle.std.proofs.lemmas.Iterator.{YieldsList-from_chars}
use Rattle.std.proofs.lemmas.Iterator.Consumers.{YieldsList-end}
use Rattle.std.proofs.lemmas.List.{flat_map_more}
use Rattle.std.proofs.lemmas.Str.{chars-nil}
use Rattle.doc_rules.specs.Anchors.{anchor_char}
use Rattle.doc_html_anchors.proofs.names.kept.Goals as goal

pub characters-init : goal.characters-init
characters-init c = ap chars c.in_ok-out.ensures.bytes ∙ chars-nil

pub characters-preserved : goal.characters-preserved
characters-preserved c =
    c.in_ok-push_kept.ensures ∙ (ap (λ cs. cs ++ anchor_char c.in-Some.c) c.characters.invariant
    ∙ flat_map_more anchor_char [] c.characters.yielded c.in-Some.c)

pub returns : goal.returns
returns c =
    let end = YieldsList-end (YieldsList-from_chars c.args.text.now c.utf8.text cc) c.characters.yielded _ c.characters.yielded_by _ _
    c.in-None.is c.next.ensures.steps in
    c.characters.invariant ∙ ap (flat_map anchor_char) (sym (map-id c.characters.yielded) ∙ end.0)
