use Rattle.std.proofs.Common.{◌≢◌, ◌++◌, ap, arith, codes, length, string_bytes, sym, take, ◌∙◌}
use Rattle.std.specs.List.{flat_map}
use Rattle.std.proofs.lemmas.Grind.{common_steps}
use Rattle.doc_people.specs.BrokenLinks.{broken_group, broken_head, by_source}
use Rattle.doc_people.specs.Lists.{note_from}
use Rattle.doc_people_lists.proofs.GroupSteps.{some_groups}
use Rattle.doc_people_lines.proofs.WriteSteps.{threefold}
use Rattle.doc_people_lists.proofs.broken.push_table.Goals as goal

pub returns-clause-written : goal.returns-clause-written
returns-clause-written g c =
    let render = g.V.Viewed.render c.args.view.now in
    let view = g.V.Viewed.view c.args.view.now in
    let media = g.V.Viewed.media c.args.view.now in
    let some : length c.args.links.now ≢ 0 = grind (arith, common_steps) in
    threefold broken_head (flat_map (broken_group render c.args.frame.offers view media) (take 50 (by_source c.args.links.now)))
    (codes "</table>\n") _ _ _ _
    c.in_ok-push_head.ensures c.in_ok-left.ensures.written c.in_ok-push_str.ensures.bytes
    ∙ ap (λ t. string_bytes c.args.out.now ++ t) (sym (some_groups render c.args.frame.offers view media
    (note_from c.args.from.now (codes "No link is broken on the pages that you may read.")) c.args.links.now some))
