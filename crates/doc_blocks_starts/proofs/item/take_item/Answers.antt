use Rattle.std.proofs.Common.{rules, ◌≡◌, ◌∙◌, ap, sym, length, Some, None}
use Rattle.doc_rules.specs.Columns.{Line}
use Rattle.doc_rules.specs.ContainerStarts.{list_marker}
use Rattle.doc_lines.specs.Cursors.{left_of}
use Rattle.doc_blocks_starts.specs.Items.{item_taken}
use Rattle.doc_blocks_starts.specs.ItemSteps.{marker_shown}
use Rattle.doc_blocks_starts.proofs.CellLaws.{front_is_plain}
use Rattle.doc_blocks_starts.proofs.ContainerSteps.{no_item_so_far_in, item_by_marker, margin_is}
use Rattle.doc_blocks_starts.proofs.item.take_item.Goals as goal

pub returns-then-is_too_far_in : goal.returns-then-is_too_far_in
returns-then-is_too_far_in c = no_item_so_far_in (left_of c.args.line.now) (sym c.is_too_far_in.ensures ∙ c.if-is_too_far_in.true)

pub take_marker-requires : goal.take_marker-requires
take_marker-requires c = front_is_plain (left_of c.args.line.now) c.pass_indent.new.self c.pass_indent.ensures.line

pub returns-in_err-marker : goal.returns-in_err-marker
returns-in_err-marker c =
    let none : item_taken c.from_residual.result c.take_marker.new.line ≡ None = search rules in
    none
    ∙ item_by_marker (left_of c.args.line.now) None (sym c.is_too_far_in.ensures ∙ c.if-is_too_far_in.false)
    (c.in_err-marker.ensures.marker ∙ ap list_marker c.pass_indent.ensures.line)

pub take_content-requires-clause-near : goal.take_content-requires-clause-near
take_content-requires-clause-near c =
    (margin_is (left_of c.args.line.now) _ c.indent_up_to-margin.ensures (sym c.is_too_far_in.ensures ∙ c.if-is_too_far_in.false)).1

pub returns : goal.returns
returns c =
    let line = left_of c.args.line.now in
    let near = sym c.is_too_far_in.ensures ∙ c.if-is_too_far_in.false in
    let margin = margin_is line _ c.indent_up_to-margin.ensures near in
    let marker = marker_shown c.in_ok-marker.marker c.take_marker.new.line in
    c.take_content.ensures line (record {
      indented = margin.0;
      near = margin.1;
      size = c.in_ok-marker.ensures.length ∙ ap (λ (l : Line). length l) c.pass_indent.ensures.line;
      few = c.in_ok-marker.ensures.few;
    })
    ∙ item_by_marker line (Some marker) near (c.in_ok-marker.ensures.marker ∙ ap list_marker c.pass_indent.ensures.line)
