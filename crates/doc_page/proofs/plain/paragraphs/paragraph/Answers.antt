use Rattle.std.proofs.Common.{◌∙◌, ◌++◌, ap, map}
use Rattle.doc_page.specs.ParagraphSteps.{lines_after}
use Rattle.doc_page.proofs.PlainSteps.{paragraph_some, paragraph_none}
use Rattle.doc_page.proofs.plain.paragraphs.paragraph.Goals as goal

pub returns-in_default : goal.returns-in_default
returns-in_default c = paragraph_none c.args.run.now c.in_default.ensures.cases

pub returns : goal.returns
returns c =
    let after = lines_after (map (λ l. l.now) c.in-Some.others.now) in
    paragraph_some c.args.run.now c.in-Some.first.now c.in-Some.others.now _ c.in-Some.ensures.cases.0 c.requires (c.new.ensures
    ∙ c.in_ok-push_lines.ensures ∙ ap (λ r. r ++ after) (c.in_ok-push_str.ensures.bytes
    ∙ ap (λ r. r ++ c.in-Some.first.now.now) c.in_ok-out.ensures.bytes))
