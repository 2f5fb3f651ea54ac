use Rattle.std.proofs.Common.{ap, refl, ◌∙◌}
use Rattle.doc_store_readers.specs.Groups.{texts_of}
use Rattle.doc_shelf_pages.proofs.ListSteps.{backlinks_are, made}
use Rattle.doc_shelf_pages.specs.ViewLaws.{seen_in}
use Rattle.doc_shelf_pages.proofs.lists.backlinks.Goals as goal

pub sources_of-requires-clause-names : goal.sources_of-requires-clause-names
sources_of-requires-clause-names c = ap texts_of c.deref.ensures.value ∙ c.in_ok-names.ensures

pub returns : goal.returns
returns c render k =
    made c.new.result _ _ _ c.new.ensures c.in_ok-push_backlinks.ensures.ok c.new-out.ensures.bytes
    ∙ backlinks_are render c.args.store.now c.args.kept.now c.args.reader.now c.requires.kept.1 k
    (seen_in c.args.store.now c.args.reader.now) refl c.args.kept.now.links refl c.args.path.now _
    (c.get.ensures ∙ c.in_ok-sources.ensures)
