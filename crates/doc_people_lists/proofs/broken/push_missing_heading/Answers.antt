use Rattle.std.proofs.Common.{◌++◌, ap, codes, string_bytes, ◌∙◌}
use Rattle.doc_page_parts.specs.Escaping.{escaped}
use Rattle.doc_people.specs.BrokenLinks.{goal_href, written_anchor, written_path}
use Rattle.doc_people.specs.Folders.{short}
use Rattle.doc_resolve.specs.Links.{decoded_text}
use Rattle.doc_people_lines.proofs.WriteSteps.{fivefold}
use Rattle.doc_people_lists.proofs.broken.push_missing_heading.Goals as goal

pub returns : goal.returns
returns g c =
    let view = g.V.Viewed.view c.args.view.now in
    fivefold (codes "<a href=\"" ++ goal_href view (written_path c.args.target.now) ++ codes "\"><code>")
    (escaped (written_path c.args.target.now)) (codes "#") (escaped (short (written_anchor c.args.target.now))) (codes "</code></a>")
    _ _ _ _ _ _
    (c.in_ok-push_goal_start.ensures ∙ ap (λ t. string_bytes c.args.out.now
    ++ (codes "<a href=\"" ++ goal_href view t ++ codes "\"><code>")) c.parts_of.ensures.path)
    (c.in_ok-push_escaped.ensures.ok ∙ ap (λ t. string_bytes c.push_goal_start.new.out ++ escaped t) c.parts_of.ensures.path)
    c.in_ok-push_str.ensures.bytes
    (c.in_ok-push_escaped_short.ensures ∙ ap (λ t. string_bytes c.push_str.new.self ++ escaped (short t))
    (c.get.ensures ∙ c.in_ok-anchor.ensures ∙ ap decoded_text c.parts_of.ensures.anchor))
    c.in_ok-push_str-2.ensures.bytes
