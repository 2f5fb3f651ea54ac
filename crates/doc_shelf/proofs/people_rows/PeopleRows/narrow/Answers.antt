use Rattle.std.proofs.Common.{subst, sym, ◌∙◌}
use Rattle.doc_rows.specs.Rows.{IsWider}
use Rattle.doc_rows_links.specs.LinkRows.{AreTargets}
use Rattle.doc_shelf.proofs.StepLaws.{lent_wider}
use Rattle.doc_shelf.proofs.people_rows.PeopleRows.narrow.Goals as goal

pub returns : goal.returns
returns c linking pages page same writes wider = record {
  by_group = c.narrow.ensures pages page same
      (subst (λ b. IsWider pages c.args.path.now b c.args.groups.now c.args.self.now.by_group) (sym c.as_ref.ensures.value) wider.by_group);
  by_link = c.narrow-2.ensures linking pages page (same ∙ sym c.with.ensures.groups)
      (subst (AreTargets (linking c.args.path.now page)) (sym c.with.ensures.new) writes)
      (lent_wider linking pages c.args.path.now c.args.change.now c.args.groups.now _ _ _ _ c.with.ensures.before c.with.ensures.old
      c.with.ensures.groups c.with.ensures.new c.args.self.now.by_link wider.by_link);
}
