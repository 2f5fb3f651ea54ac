use Rattle.std.proofs.Common.{chars, map, ◌∷◌, ap, ◌∙◌}
use Rattle.std.proofs.lemmas.List.{drop_all}
use Rattle.doc_rules.specs.Anchors.{anchors_of, anchor_name, free_anchor}
use Rattle.doc_html_anchors.proofs.UseLaws.{heading_more, headings_end}
use Rattle.doc_html_anchors.proofs.headings.anchors_of.Goals as goal

pub headings-preserved : goal.headings-preserved
headings-preserved c =
    let used = c.headings.invariant.0 in
    let next = c.in_ok-anchor.ensures.ok used c.headings.invariant.1 in (
      free_anchor used (anchor_name (chars c.get.result.now)) ∷ used,
      next.1,
      heading_more c.args.texts.now c.headings.out.items c.push.new.self.items c.headings.text-index c.get.result.now c.text-item.result
          c.in_ok-anchor.anchor used (anchors_of (map chars c.args.texts.now)) c.headings-test.true (c.get.ensures
          ∙ c.text-item.is) c.in_ok-push.ensures.items next.0 c.headings.invariant.2,
    )

pub returns : goal.returns
returns c =
    ap (map chars) c.new.ensures
    ∙ headings_end c.args.texts.now c.headings.out.items c.headings.text-index c.headings.invariant.0
    (anchors_of (map chars c.args.texts.now)) (drop_all c.headings.text-index c.args.texts.now c.headings-test.false) c.headings.invariant.2
