use Rattle.std.proofs.Common.{sym, subst, ◌∙◌}
use Rattle.std.proofs.lemmas.Cmp.{nat_list_cmp_total}
use Rattle.std.proofs.lemmas.Map.Lookups.{exact_bytes}
use Rattle.doc_store.specs.GroupSets.{AreNumbered}
use Rattle.doc_store.proofs.PageCounts.{goes_by, keeps_by, numbered_taken}
use Rattle.doc_store.proofs.SumSteps.{none_to_take}
use Rattle.doc_store.proofs.counted_pages.CountedPages.take.Goals as goal

pub invariant_of-self : goal.invariant_of-self
invariant_of-self c =
    subst (λ pages. AreNumbered pages c.self.inside.numbers c.self.inside.sets)
    (none_to_take nat_list_cmp_total exact_bytes c.self.inside.pages c.args.path.now (sym c.in_err-taken.ensures.page)
    ∙ sym c.in_err-taken.ensures.rest) c.self.invariant

pub invariant_of-self-2 : goal.invariant_of-self-2
invariant_of-self-2 c =
    let sets = c.self.inside.sets in
    rw (c.in_ok-taken.ensures.rest, c.take-2.ensures.rest)
    (numbered_taken c.self.inside.pages c.self.inside.numbers sets c.self.invariant c.args.path.now c.in_ok-taken.taken
    (sym c.in_ok-taken.ensures.page) c.remove.new.self
    (goes_by sets c.remove.new.self _ _ c.groups.ensures c.remove.ensures.counts)
    (keeps_by sets c.remove.new.self _ _ c.groups.ensures c.remove.ensures.kept))
