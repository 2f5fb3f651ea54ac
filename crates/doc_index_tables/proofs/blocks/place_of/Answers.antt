use Rattle.doc_index_tables.proofs.BlockSteps.{place_at}
use Rattle.doc_index_tables.proofs.blocks.place_of.Goals as goal

pub returns : goal.returns
returns c = place_at c.args.number c.args.blocks.now c.begun_by.result c.saturating_sub.result c.requires c.begun_by.ensures.within
    c.begun_by.ensures.before c.begun_by.ensures.behind c.saturating_sub.ensures
