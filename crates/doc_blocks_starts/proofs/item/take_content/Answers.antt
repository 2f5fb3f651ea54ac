use Rattle.std.proofs.Common.{rules, ◌≡◌, ◌∙◌, None}
use Rattle.doc_blocks_starts.specs.Items.{item_taken}
use Rattle.doc_blocks_starts.specs.ItemSteps.{marker_shown}
use Rattle.doc_blocks_starts.proofs.ContainerSteps.{no_content, content_taken, end_is}
use Rattle.doc_blocks_starts.proofs.item.take_content.Goals as goal

pub returns-in_err-columns : goal.returns-in_err-columns
returns-in_err-columns c =
    let none : item_taken c.from_residual.result c.args.behind.now ≡ None = search rules in
    λ line h. none ∙ no_content line (marker_shown c.args.marker c.args.behind.now) c.in_err-columns.ensures.columns

pub returns : goal.returns
returns c =
    let marker = marker_shown c.args.marker c.args.behind.now in
    let n = c.in_ok-columns.columns in
    λ line h. content_taken line marker n _ _ c.in_ok-columns.ensures.columns
    (end_is line marker c.args.margin c.args.marker.length n h.indented h.size) c.skip.ensures.line
