use Rattle.std.proofs.Common.{sym, ◌∙◌}
use Rattle.doc_store.proofs.PageCounts.{comes_by, err_is, goes_by, keeps_by, numbered_new, numbered_refused, numbered_set, ok_is, put_and_taken, stands_by}
use Rattle.doc_store.proofs.counted_pages.CountedPages.set.Goals as goal

pub invariant_of-self-then-is_err : goal.invariant_of-self-then-is_err
invariant_of-self-then-is_err c =
    rw (err_is c.insert.result (sym c.is_err.ensures.value ∙ c.if-is_err.true) c.insert.ensures.err)
    (numbered_refused c.self.inside.pages c.self.inside.numbers c.self.inside.sets c.self.invariant c.args.path.now c.args.page
    c.add.new.self
    c.in_ok-number.number
    (comes_by c.self.inside.sets c.add.new.self _ _ c.groups.ensures c.in_ok-number.ensures.counts)
    (stands_by c.self.inside.sets c.add.new.self c.in_ok-number.number _ _ c.groups.ensures c.in_ok-number.ensures.slot)
    c.in_ok-number.ensures.kept c.remove.new.self
    (goes_by c.add.new.self c.remove.new.self _ _ c.groups-then-is_err.ensures c.remove.ensures.counts)
    (keeps_by c.add.new.self c.remove.new.self _ _ c.groups-then-is_err.ensures c.remove.ensures.kept))

pub invariant_of-self-in-Err : goal.invariant_of-self-in-Err
invariant_of-self-in-Err c =
    let put = ok_is c.insert.result (sym c.is_err.ensures.value ∙ c.if-is_err.false) c.insert.ensures.ok in
    rw (
      c.in-Err.ensures.err,
      put_and_taken c.self.inside.pages c.self.inside.numbers c.self.inside.sets c.self.invariant c.args.path.now
          c.in_ok-number.number c.insert.new.self c.take.new.self (sym c.in_default.ensures) put c.take.ensures.rest,
    )
    (numbered_refused c.self.inside.pages c.self.inside.numbers c.self.inside.sets c.self.invariant c.args.path.now c.args.page
    c.add.new.self
    c.in_ok-number.number
    (comes_by c.self.inside.sets c.add.new.self _ _ c.groups.ensures c.in_ok-number.ensures.counts)
    (stands_by c.self.inside.sets c.add.new.self c.in_ok-number.number _ _ c.groups.ensures c.in_ok-number.ensures.slot)
    c.in_ok-number.ensures.kept c.remove-in-Err.new.self
    (goes_by c.add.new.self c.remove-in-Err.new.self _ _ (c.groups-in-Err.ensures ∙ (λ i. (c.in-Err.ensures.back i).page.groups))
    c.remove-in-Err.ensures.counts)
    (keeps_by c.add.new.self c.remove-in-Err.new.self _ _ (c.groups-in-Err.ensures ∙ (λ i. (c.in-Err.ensures.back i).page.groups))
    c.remove-in-Err.ensures.kept))

pub invariant_of-self-in_default-insert : goal.invariant_of-self-in_default-insert
invariant_of-self-in_default-insert c =
    let put = ok_is c.insert.result (sym c.is_err.ensures.value ∙ c.if-is_err.false) c.insert.ensures.ok in
    rw (c.in_default-insert.ensures.ok, put)
    (numbered_new c.self.inside.pages c.self.inside.numbers c.self.inside.sets c.self.invariant c.args.path.now c.args.page c.add.new.self
    c.in_ok-number.number
    (comes_by c.self.inside.sets c.add.new.self _ _ c.groups.ensures c.in_ok-number.ensures.counts)
    (stands_by c.self.inside.sets c.add.new.self c.in_ok-number.number _ _ c.groups.ensures c.in_ok-number.ensures.slot)
    c.in_ok-number.ensures.kept (sym c.in_default.ensures))

pub invariant_of-self-2 : goal.invariant_of-self-2
invariant_of-self-2 c =
    rw (c.replace.ensures, c.replace-2.ensures)
    (numbered_set c.self.inside.pages c.self.inside.numbers c.self.inside.sets c.self.invariant c.args.path.now c.args.page c.add.new.self
    c.in_ok-number.number
    (comes_by c.self.inside.sets c.add.new.self _ _ c.groups.ensures c.in_ok-number.ensures.counts)
    (stands_by c.self.inside.sets c.add.new.self c.in_ok-number.number _ _ c.groups.ensures c.in_ok-number.ensures.slot)
    c.in_ok-number.ensures.kept c.in-Some.old.now (sym c.in-Some.ensures) c.remove-2.new.self
    (goes_by c.add.new.self c.remove-2.new.self _ _ c.groups-2.ensures c.remove-2.ensures.counts)
    (keeps_by c.add.new.self c.remove-2.new.self _ _ c.groups-2.ensures c.remove-2.ensures.kept))
