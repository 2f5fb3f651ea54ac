use Rattle.doc_refs.proofs.EntryLaws.{are_entries-after, shown-after}
use Rattle.doc_refs.proofs.ref_map.RefMap.add.Goals as goal

pub invariant_of-self : goal.invariant_of-self
invariant_of-self c = are_entries-after c.put.result c.self.inside.entries.entries c.put.new.entries.entries c.args.label c.args.target
    c.put.ensures.ok c.put.ensures.err c.self.invariant

pub returns-clause-ok : goal.returns-clause-ok
returns-clause-ok c = shown-after c.put.result c.self.inside.entries.entries c.put.new.entries.entries c.args.self.now c.args.label
    c.args.target c.put.ensures.ok c.self.view_is
