use Rattle.std.proofs.Common.{ap, sym, subst, ◌∙◌}
use Rattle.doc_refs.specs.EntrySteps.{targets_shown, AreGrown}
use Rattle.doc_refs_parts.specs.Targets.{joined}
use Rattle.doc_refs.proofs.EntryLaws.{grown-none, grown-with, joined-next}
use Rattle.doc_refs_parts.proofs.MapLaws.{joined-empty}
use Rattle.doc_refs.proofs.ref_map.put_all.Goals as goal

pub labels-init : goal.labels-init
labels-init c = (
  grown-none c.args.entries.now.entries,
  ap (λ es. joined (targets_shown c.args.entries.now.entries) (targets_shown es))
      c.into_iter-label-iterator.ensures.into_iter_gives.0,
)

pub labels-preserved : goal.labels-preserved
labels-preserved c =
    let put = c.in_ok-put.ensures.ok in (
      subst (AreGrown c.args.entries.now.entries) (sym put)
          (grown-with c.args.entries.now.entries c.labels.entries.entries c.in-Some.label c.in-Some.entry.target c.labels.invariant.0),
      ap (λ es. joined (targets_shown es) (targets_shown c.next.new.self)) put
          ∙ sym (joined-next c.labels.entries.entries c.next.new.self c.in-Some.label c.in-Some.entry)
          ∙ ap (λ es. joined (targets_shown c.labels.entries.entries) (targets_shown es)) (sym c.in-Some.ensures.steps)
          ∙ c.labels.invariant.1,
    )

pub returns-clause-ok : goal.returns-clause-ok
returns-clause-ok c =
    sym (joined-empty (targets_shown c.labels.entries.entries))
    ∙ ap (λ es. joined (targets_shown c.labels.entries.entries) (targets_shown es)) (sym c.in-None.ensures.steps.0)
    ∙ c.labels.invariant.1
