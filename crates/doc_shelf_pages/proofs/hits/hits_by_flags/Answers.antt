use Rattle.std.proofs.Common.{refl, ◌∙◌}
use Rattle.doc_index.proofs.OrderSteps.{told}
use Rattle.doc_shelf_pages.proofs.FlagSteps.{words_flagged}
use Rattle.doc_shelf_pages.proofs.ListSteps.{hits_are}
use Rattle.doc_shelf_pages.specs.ViewLaws.{seen_in}
use Rattle.doc_store_readers.specs.Sites.{goal_in}
use Rattle.doc_shelf_pages.proofs.hits.hits_by_flags.Goals as goal

pub returns : goal.returns
returns c render is k =
    let view = seen_in c.args.store.now c.args.reader.now in
    told c.search_flagged.result (λ hits are.
    hits_are render c.args.store.now c.args.kept.now c.args.reader.now is k view refl c.words.result.now c.words.ensures c.args.words.now
    hits are)
    (c.search_flagged.ensures (goal_in view)
    (words_flagged render c.args.store.now c.args.kept.now c.args.reader.now is k c.deref.result.now
    (c.deref.ensures.value ∙ c.in_ok-flags.ensures) c.words.result.now c.words.ensures))
