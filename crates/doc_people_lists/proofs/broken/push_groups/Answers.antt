use Rattle.std.proofs.Common.{◌++◌, ap, arith, string_bytes, sym, ◌∙◌}
use Rattle.std.specs.Prelude.{option_copied}
use Rattle.std.specs.List.{flat_map}
use Rattle.std.proofs.lemmas.List.Sums.{prefix_len-le-length}
use Rattle.doc_people.specs.BrokenLinks.{broken_group, by_source}
use Rattle.doc_people_lists.specs.Fronts.{is_of}
use Rattle.doc_people_lists.proofs.GroupSteps.{group_written, none_left}
use Rattle.doc_people_lists.proofs.broken.push_groups.Goals as goal

pub split_at-requires : goal.split_at-requires
split_at-requires g c = omega (arith, c.front_len.ensures, prefix_len-le-length (is_of c.text.result.now) c.loop-shown.rest.now)

pub loop-shown-preserved : goal.loop-shown-preserved
loop-shown-preserved g c =
    let render = g.V.Viewed.render c.args.view.now in
    let view = g.V.Viewed.view c.args.view.now in
    let media = g.V.Viewed.media c.args.view.now in
    let step = group_written (broken_group render c.args.frame.offers view media) (by_source c.args.links.now) c.loop-shown._shown
    c.loop-shown.rest.now c.split_at.result.0.now c.split_at.result.1.now c.in-Some.first.now c.front_len.result c.text.result.now
    c.text-in-loop-shown.result.now (string_bytes c.args.out.now) (string_bytes c.loop-shown.out) (string_bytes c.push_group.new.out)
    c.loop-shown.invariant.left (sym c.first.ensures.value ∙ ap option_copied c.in-Some.is) c.text.ensures c.front_len.ensures
    c.split_at.ensures.front c.split_at.ensures.back c.text-in-loop-shown.ensures c.loop-shown.invariant.written
    c.in_ok-push_group.ensures in
    record { written = step.0; left = step.1 }

pub returns-in_default-clause-written : goal.returns-in_default-clause-written
returns-in_default-clause-written g c =
    let render = g.V.Viewed.render c.args.view.now in
    let view = g.V.Viewed.view c.args.view.now in
    let media = g.V.Viewed.media c.args.view.now in
    let none = none_left (by_source c.args.links.now) c.loop-shown._shown c.loop-shown.rest.now
    (sym c.first.ensures.value ∙ ap option_copied c.in_default.is) c.loop-shown.invariant.left (omega arith) in
    c.loop-shown.invariant.written
    ∙ ap (λ groups. string_bytes c.args.out.now ++ flat_map (broken_group render c.args.frame.offers view media) groups) none.0

pub returns-in_default-clause-left : goal.returns-in_default-clause-left
returns-in_default-clause-left g c =
    (none_left (by_source c.args.links.now) c.loop-shown._shown c.loop-shown.rest.now
    (sym c.first.ensures.value ∙ ap option_copied c.in_default.is) c.loop-shown.invariant.left (omega arith)).1
