use Rattle.std.proofs.Common.{rules, ◌≡◌, ◌<◌, ◌∙◌, length}
use Rattle.doc_refs_parts.proofs.Ends.{line_ends_here, line_goes_on}
use Rattle.doc_refs_parts.proofs.scan.line.end_of_line.Goals as goal

pub returns-then-is_empty : goal.returns-then-is_empty
returns-then-is_empty c =
    let empty : length c.args.text.now ≡ 0 = search rules in
    line_ends_here c.args.text.now empty

pub returns : goal.returns
returns c =
    let more : 0 < length c.args.text.now = search rules in
    c.line_ending.ensures ∙ line_goes_on c.args.text.now c.utf8.text more
