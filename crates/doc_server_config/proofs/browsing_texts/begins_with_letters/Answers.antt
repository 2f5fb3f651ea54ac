use Rattle.std.proofs.Common.{Some, None, lit<, ap, sym, ◌∙◌}
use Rattle.std.proofs.lemmas.Str.Pattern.{split_once_first}
use Rattle.doc_people.specs.Settings.{begins_with_letters}
use Rattle.doc_server_config.proofs.PartSteps.{first_part, one_part}
use Rattle.doc_server_config.proofs.browsing_texts.begins_with_letters.Goals as goal

pub returns-in-Some : goal.returns-in-Some
returns-in-Some c =
    let parts =
    split_once_first 45 c.args.text.now (Some (c.in-Some.first, c.in-Some.field-0-1)) c.in-Some.ensures.cases (lit< tt) in
    c.are_letters.ensures ∙ ap begins_with_letters (sym (first_part 45 c.args.text.now c.in-Some.first.now parts.0 parts.1))

pub returns-in-None : goal.returns-in-None
returns-in-None c =
    let past = split_once_first 45 c.args.text.now None c.in-None.ensures.cases (lit< tt) in
    c.are_letters-in-None.ensures ∙ ap begins_with_letters (sym (one_part 45 c.args.text.now past))
