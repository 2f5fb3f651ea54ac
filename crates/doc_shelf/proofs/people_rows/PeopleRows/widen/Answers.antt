use Rattle.std.proofs.Common.{subst, sym, ◌∙◌}
use Rattle.doc_rows.specs.Rows.{IsWider}
use Rattle.doc_rows_links.specs.LinkRows.{AreTargetsAt}
use Rattle.doc_shelf_pages.proofs.KeptSteps.{on_err, on_fine}
use Rattle.doc_shelf.proofs.StepLaws.{also_on_err, own_wider}
use Rattle.doc_shelf.proofs.people_rows.PeopleRows.widen.Goals as goal

pub returns-in_err-widen-clause-err : goal.returns-in_err-widen-clause-err
returns-in_err-widen-clause-err c = also_on_err c.from_residual.result (λ linking pages stands are. record {
  by_group = c.in_err-widen.ensures.err pages (stands.groups ∙ sym c.as_ref.ensures.value) are.by_group;
  by_link = are.by_link;
})

pub returns-then-is_err-clause-err : goal.returns-then-is_err-clause-err
returns-then-is_err-clause-err c linking pages stands are = record {
  by_group = c.narrow_back.ensures pages
      (subst (λ b. IsWider pages c.args.path.now b c.args.groups.now c.widen.new.self)
      (c.as_ref.ensures.value ∙ sym c.as_ref-then-is_err.ensures.value)
      (c.in_ok-widen.ensures.ok pages (stands.groups ∙ sym c.as_ref.ensures.value) are.by_group));
  by_link = on_err c.widen-2.result c.widen-2.ensures.err (sym c.is_err.ensures.value ∙ c.if-is_err.true) linking pages
      (stands.groups ∙ sym c.with.ensures.before)
      (subst (AreTargetsAt linking pages c.args.path.now) (sym c.with.ensures.old) stands.links) are.by_link;
}

pub returns-clause-ok : goal.returns-clause-ok
returns-clause-ok c linking pages stands are = record {
  by_group = subst (λ b. IsWider pages c.args.path.now b c.args.groups.now c.widen.new.self) c.as_ref.ensures.value
      (c.in_ok-widen.ensures.ok pages (stands.groups ∙ sym c.as_ref.ensures.value) are.by_group);
  by_link = own_wider linking pages c.args.path.now c.args.change.now c.args.groups.now _ _ _ _ c.with.ensures.before c.with.ensures.old
      c.with.ensures.groups c.with.ensures.new c.widen-2.new.self
      (on_fine c.widen-2.result c.widen-2.ensures.ok (sym c.is_err.ensures.value ∙ c.if-is_err.false) linking pages
      (stands.groups ∙ sym c.with.ensures.before)
      (subst (AreTargetsAt linking pages c.args.path.now) (sym c.with.ensures.old) stands.links) are.by_link);
}
