use Rattle.std.proofs.Common.{◌++◌, ◌∙◌, ap, flat_map, map-id, string_bytes, sym}
use Rattle.std.proofs.lemmas.Iterator.{YieldsList-from_chars}
use Rattle.std.proofs.lemmas.Iterator.Consumers.{YieldsList-end}
use Rattle.std.proofs.lemmas.List.{flat_map_more}
use Rattle.doc_http_replies.specs.Challenges.{quoted_char, quoted_realm}
use Rattle.doc_http_replies.proofs.challenges.push_quoted.Goals as goal

pub characters-preserved : goal.characters-preserved
characters-preserved c =
    c.in_ok-push_quoted_char.ensures ∙ (ap (λ cs. cs ++ quoted_char c.in-Some.c) c.characters.invariant
    ∙ flat_map_more quoted_char (string_bytes c.args.out.now) c.characters.yielded c.in-Some.c)

pub returns : goal.returns
unfolding quoted_realm
returns c =
    let end = YieldsList-end (YieldsList-from_chars c.args.title.now c.utf8.title cc) c.characters.yielded _ c.characters.yielded_by _ _
    c.in-None.is c.next.ensures.steps in
    c.characters.invariant
    ∙ ap (λ cs. string_bytes c.args.out.now ++ flat_map quoted_char cs) (sym (map-id c.characters.yielded) ∙ end.0)
