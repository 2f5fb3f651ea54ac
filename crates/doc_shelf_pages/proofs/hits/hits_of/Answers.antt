use Rattle.doc_shelf_pages.proofs.hits.hits_of.Goals as goal

pub returns-then-reach-len : goal.returns-then-reach-len
returns-then-reach-len c render k = c.hits_by_flags.ensures render c.requires.kept.1 k
