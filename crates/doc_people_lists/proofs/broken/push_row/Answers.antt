use Rattle.std.proofs.Common.{◌++◌, ap, codes, decimal, string_bytes, ◌∙◌}
use Rattle.doc_people.specs.BrokenLinks.{goal_cell, reason_text}
use Rattle.doc_people_lines.proofs.WriteSteps.{sevenfold}
use Rattle.doc_people_lists.proofs.broken.push_row.Goals as goal

pub returns : goal.returns
returns g c =
    sevenfold (codes "<tr><td>") (decimal c.args.link.now.place) (codes "</td><td>")
    (goal_cell c.args.frame.offers (g.V.Viewed.view c.args.view.now) (g.V.Viewed.media c.args.view.now) c.args.link.now.reason c.args.link.now.target)
    (codes "</td><td>")
    (reason_text c.args.link.now.reason) (codes "</td></tr>\n") _ _ _ _ _ _ _ _
    c.in_ok-push_str.ensures.bytes c.in_ok-push_number.ensures c.in_ok-push_str-2.ensures.bytes
    (c.in_ok-push_goal_cell.ensures ∙ ap (λ t. string_bytes c.push_str-2.new.self
    ++ goal_cell c.args.frame.offers (g.V.Viewed.view c.args.view.now) (g.V.Viewed.media c.args.view.now) c.args.link.now.reason t) c.get.ensures)
    c.in_ok-push_str-3.ensures.bytes
    (c.in_ok-push_str-4.ensures.bytes ∙ ap (λ t. string_bytes c.push_str-3.new.self ++ t) c.reason_text.ensures)
    c.in_ok-push_str-5.ensures.bytes
