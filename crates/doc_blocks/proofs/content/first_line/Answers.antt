use Rattle.std.proofs.Common.{◌≡◌, sym, ◌∙◌, rules, None}
use Rattle.doc_lines.specs.RestSteps.{rest_of}
use Rattle.doc_blocks.proofs.ContentLaws.{plain_cut, plain_is_secure}
use Rattle.doc_blocks.proofs.content.first_line.Goals as goal
use Rattle.doc_page_parts.proofs.Texts.{chars_not_empty}

pub returns-clause-line : goal.returns-clause-line
returns-clause-line c =
    let nothing : rest_of c.is.result ≡ None = search rules in
    (plain_cut _ _ _ _ c.from_end-stop.ensures (sym c.is.ensures ∙ nothing)
    c.front.ensures.joins c.behind_ending.ensures (chars_not_empty c.args.text.now c.utf8.text c.requires)).first

pub returns-clause-plain : goal.returns-clause-plain
returns-clause-plain c = λ _. plain_is_secure _ _ _ c.from_end-stop.ensures c.front.ensures.joins

pub returns-clause-shorter : goal.returns-clause-shorter
returns-clause-shorter c =
    let nothing : rest_of c.is.result ≡ None = search rules in
    (plain_cut _ _ _ _ c.from_end-stop.ensures (sym c.is.ensures ∙ nothing)
    c.front.ensures.joins c.behind_ending.ensures (chars_not_empty c.args.text.now c.utf8.text c.requires)).shorter
