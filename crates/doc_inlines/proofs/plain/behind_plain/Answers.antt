use Rattle.std.proofs.Common.{◌≡◌, chars, sym, ◌∙◌, rules, None}
use Rattle.doc_lines.specs.RestSteps.{rest_of}
use Rattle.doc_inlines.proofs.PlainEndLaws.{cut_is_rest, stops_before_spaces, stops_at_something}
use Rattle.doc_inlines.proofs.plain.behind_plain.Goals as goal

pub plain_end-requires : goal.plain_end-requires
plain_end-requires c = cut_is_rest c.args.entities.now _ _ c.until_something-rest.ensures

pub returns-in-Some : goal.returns-in-Some
returns-in-Some c =
    stops_before_spaces c.args.entities.now (chars c.args.text.now) (chars c.plain_end.result.now)
    (c.plain_end.ensures c.args.entities.now c.until_something-rest.ensures)

pub returns-in-None : goal.returns-in-None
returns-in-None c =
    let nothing : rest_of c.is.result ≡ None = search rules in
    stops_at_something c.args.entities.now (chars c.args.text.now) (chars c.until_something-rest.result.now) c.until_something-rest.ensures
    (sym nothing ∙ c.is.ensures)
