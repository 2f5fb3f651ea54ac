use Rattle.std.proofs.Common.{ap, sym, subst, ◌∙◌}
use Rattle.doc_refs.specs.EntrySteps.{targets_shown, AreEntries}
use Rattle.doc_refs.proofs.EntryLaws.{restored}
use Rattle.doc_refs.proofs.ref_map.RefMap.join.Goals as goal

pub invariant_of-self-in-Err : goal.invariant_of-self-in-Err
invariant_of-self-in-Err c =
    let same = restored c.self.inside.entries.entries c.put_all.new.entries.entries c.keep_earlier.new.entries.entries c.len-before.result
    c.len-before.ensures.len c.keep_earlier.ensures c.put_all.ensures.grown c.self.invariant in
    subst AreEntries (sym same) c.self.invariant

pub returns-in-Err-clause-err : goal.returns-in-Err-clause-err
returns-in-Err-clause-err c =
    let same = restored c.self.inside.entries.entries c.put_all.new.entries.entries c.keep_earlier.new.entries.entries c.len-before.result
    c.len-before.ensures.len c.keep_earlier.ensures c.put_all.ensures.grown c.self.invariant in
    ap targets_shown same ∙ c.self.view_is
