use Rattle.std.proofs.Common.{[], ◌++◌, flat_map, sym, ap, ◌∙◌, map-id, chars}
use Rattle.std.proofs.lemmas.Iterator.{YieldsList-from_chars}
use Rattle.std.proofs.lemmas.Iterator.Consumers.{YieldsList-end}
use Rattle.std.proofs.lemmas.List.{flat_map_more}
use Rattle.std.proofs.lemmas.Str.{chars-nil}
use Rattle.doc_front.specs.Front.{escaped_char}
use Rattle.doc_front.proofs.escaping.escaped.Goals as goal

pub characters-init : goal.characters-init
characters-init c = ap chars c.in_ok-out.ensures.bytes ∙ chars-nil

pub characters-preserved : goal.characters-preserved
characters-preserved c =
    c.in_ok-push_escaped.ensures ∙ (ap (λ cs. cs ++ escaped_char c.in-Some.c) c.characters.invariant
    ∙ flat_map_more escaped_char [] c.characters.yielded c.in-Some.c)

pub returns : goal.returns
returns c =
    let end = YieldsList-end (YieldsList-from_chars c.args.title.now c.utf8.title cc) c.characters.yielded _ c.characters.yielded_by _ _
    c.in-None.is c.next.ensures.steps in
    c.characters.invariant ∙ ap (flat_map escaped_char) (sym (map-id c.characters.yielded) ∙ end.0)
