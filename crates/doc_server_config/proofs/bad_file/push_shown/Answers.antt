use Rattle.std.proofs.Common.{◌++◌, ◌∙◌, ap, flat_map, map-id, string_bytes, sym}
use Rattle.std.proofs.lemmas.Iterator.{YieldsList-from_chars}
use Rattle.std.proofs.lemmas.Iterator.Consumers.{YieldsList-end}
use Rattle.std.proofs.lemmas.List.{flat_map_more}
use Rattle.doc_server_config.specs.BadFiles.{shown_char, shown_name}
use Rattle.doc_server_config.proofs.bad_file.push_shown.Goals as goal

pub characters-preserved : goal.characters-preserved
characters-preserved c =
    c.in_ok-push_shown_char.ensures ∙ (ap (λ bytes. bytes ++ shown_char c.in-Some.c) c.characters.invariant
    ∙ flat_map_more shown_char (string_bytes c.args.out.now) c.characters.yielded c.in-Some.c)

pub returns : goal.returns
unfolding shown_name
returns c =
    let end = YieldsList-end (YieldsList-from_chars c.args.name.now c.utf8.name cc) c.characters.yielded _ c.characters.yielded_by _ _
    c.in-None.is c.next.ensures.steps in
    c.characters.invariant
    ∙ ap (λ cs. string_bytes c.args.out.now ++ flat_map shown_char cs) (sym (map-id c.characters.yielded) ∙ end.0)
