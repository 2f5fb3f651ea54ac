use Rattle.std.proofs.Common.{◌∙◌}
use Rattle.doc_shelf_pages.proofs.FlagSteps.{links_flagged}
use Rattle.doc_shelf_pages.proofs.ListSteps.{is_once, names_are, target_is}
use Rattle.doc_shelf_pages.proofs.lists.sources_of.Goals as goal

pub backlinks_under-requires-clause-target : goal.backlinks_under-requires-clause-target
backlinks_under-requires-clause-target c =
    target_is c.requires.kept.0 c.args.store.now c.args.kept.now c.args.reader.now c.requires.kept.1 c.requires.kept.2
    c.sight-sight.result c.sight-sight.ensures c.links-links.result.now c.links-links.ensures c.args.path.now c.requires.page.0 c.requires.page.1

pub backlinks_under-requires-clause-names : goal.backlinks_under-requires-clause-names
backlinks_under-requires-clause-names c =
    names_are c.requires.kept.0 c.args.store.now c.args.kept.now c.args.reader.now c.requires.kept.1 c.requires.kept.2
    c.sight-sight.result c.sight-sight.ensures c.links-links.result.now c.links-links.ensures c.args.path.now c.requires.page.0 c.requires.page.1 _
    c.requires.names

pub backlinks_flagged-requires : goal.backlinks_flagged-requires
backlinks_flagged-requires c =
    let render = c.requires.kept.0 in
    let store = c.args.store.now in
    let kept = c.args.kept.now in
    let reader = c.args.reader.now in
    let is = c.requires.kept.1 in
    let k = c.requires.kept.2 in
    let sight = c.sight-sight.result in
    let links = c.links-links.result.now in
    record {
      once = is_once render store kept reader is k sight c.sight-sight.ensures links c.links-links.ensures;
      target = target_is render store kept reader is k sight c.sight-sight.ensures links c.links-links.ensures c.args.path.now
          c.requires.page.0 c.requires.page.1;
      names = names_are render store kept reader is k sight c.sight-sight.ensures links c.links-links.ensures c.args.path.now
          c.requires.page.0 c.requires.page.1 _ c.requires.names;
      seen = links_flagged render store kept reader is k c.deref.result.now (c.deref.ensures.value ∙ c.in_ok-flags.ensures)
          sight c.sight-sight.ensures links c.links-links.ensures;
    }
