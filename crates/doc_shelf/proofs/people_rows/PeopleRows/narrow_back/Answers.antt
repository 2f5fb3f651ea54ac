use Rattle.std.proofs.Common.{subst, sym}
use Rattle.doc_rows.specs.Rows.{IsWider}
use Rattle.doc_shelf.proofs.StepLaws.{lent_wider}
use Rattle.doc_shelf.proofs.people_rows.PeopleRows.narrow_back.Goals as goal

pub returns : goal.returns
returns c linking pages wider = record {
  by_group = c.narrow_back.ensures pages
      (subst (λ b. IsWider pages c.args.path.now b c.args.groups.now c.args.self.now.by_group) (sym c.as_ref.ensures.value) wider.by_group);
  by_link = c.narrow_back-2.ensures linking pages
      (lent_wider linking pages c.args.path.now c.args.change.now c.args.groups.now _ _ _ _ c.with.ensures.before c.with.ensures.old
      c.with.ensures.groups c.with.ensures.new c.args.self.now.by_link wider.by_link);
}
