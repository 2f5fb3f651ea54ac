use Rattle.doc_links.proofs.numbering.Numbering.new.Goals as goal

pub returns-clause-named : goal.returns-clause-named
returns-clause-named c = c.new-3.ensures c.new-2.result.items
