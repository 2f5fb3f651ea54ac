use Rattle.doc_rules.specs.Characters.{is_ending}
use Rattle.doc_blocks.proofs.ContentLaws.{line_cut, endings_are_ascii}
use Rattle.doc_blocks.proofs.content.null_line.Goals as goal
use Rattle.doc_page_parts.proofs.Texts.{chars_not_empty}

pub returns-clause-line : goal.returns-clause-line
returns-clause-line c = (line_cut _ _ _ _ (c.until-stop.ensures.cut is_ending (λ b t h. h) endings_are_ascii) c.front.ensures.joins
    c.behind_ending.ensures (chars_not_empty c.args.text.now c.utf8.text c.requires)).first

pub returns-clause-shorter : goal.returns-clause-shorter
returns-clause-shorter c = (line_cut _ _ _ _ (c.until-stop.ensures.cut is_ending (λ b t h. h) endings_are_ascii) c.front.ensures.joins
    c.behind_ending.ensures (chars_not_empty c.args.text.now c.utf8.text c.requires)).shorter
