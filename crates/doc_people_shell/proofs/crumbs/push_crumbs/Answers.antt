use Rattle.std.proofs.Common.{◌≡◌, ◌+◌, ◌-◌, ◌∙◌, ap, arith, take}
use Rattle.doc_people.specs.Navigation.{crumb}
use Rattle.doc_people_shell.proofs.CrumbSteps.{cut_after, first_one, passed, written}
use Rattle.doc_people_shell.proofs.crumbs.push_crumbs.Goals as goal

pub loop-i-init : goal.loop-i-init
loop-i-init g c =
    let render = g.V.Viewed.render c.args.view.now in
    let view = g.V.Viewed.view c.args.view.now in
    first_one (crumb render view c.args.place.now) c.args.place.now _ _ c.in_ok-push_crumb.ensures

pub loop-i-preserved-then-byte-ne47 : goal.loop-i-preserved-then-byte-ne47
loop-i-preserved-then-byte-ne47 g c =
    let render = g.V.Viewed.render c.args.view.now in
    let view = g.V.Viewed.view c.args.view.now in
    passed (crumb render view c.args.place.now) c.args.place.now _ c.loop-i.i _ _ c.as_bytes-byte-items.ensures.value c.loop-i-test.true
    c.if-byte-ne47.true c.loop-i.invariant

pub range-requires-clause-end_boundary : goal.range-requires-clause-end_boundary
range-requires-clause-end_boundary g c =
    cut_after c.args.place.now _ c.loop-i.i c.utf8.place c.as_bytes-byte-items.ensures.value c.loop-i-test.true c.if-byte-ne47.false

pub loop-i-preserved : goal.loop-i-preserved
loop-i-preserved g c =
    let render = g.V.Viewed.render c.args.view.now in
    let view = g.V.Viewed.view c.args.view.now in
    let whole : (c.loop-i.i + 1) - 0 ≡ c.loop-i.i + 1 = omega arith in
    written (crumb render view c.args.place.now) c.args.place.now c.as_bytes-byte-items.result.now c.loop-i.i _ _ _ c.range.result.now
    c.as_bytes-byte-items.ensures.value c.loop-i-test.true c.if-byte-ne47.false
    (c.range.ensures.value ∙ ap (λ k. take k c.args.place.now) whole) c.in_ok-push_crumb-2.ensures c.loop-i.invariant
