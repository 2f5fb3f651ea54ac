use Rattle.std.proofs.Common.{ap, sym, ◌∙◌}
use Rattle.doc_store_readers.specs.Groups.{texts_of}
use Rattle.doc_store_readers.specs.Sites.{goal_in}
use Rattle.trial_pages.proofs.NameSteps.{is_held, names_named, target_is_seen}
use Rattle.trial_pages.proofs.sites.of_postings.sources.Goals as goal

pub backlinks_under-all-requires-clause-target : goal.backlinks_under-all-requires-clause-target
backlinks_under-all-requires-clause-target c =
    target_is_seen (goal_in c.sight-sight.result) c.args.target.now 7 (sym c.if-not-sees.ensures) c.args.links.now
    (is_held c.args.links.now c.args.target.now 7 _ c.in-Some-links_of.ensures)

pub backlinks_under-all-requires-clause-names : goal.backlinks_under-all-requires-clause-names
backlinks_under-all-requires-clause-names c =
    names_named c.args.store.now c.get.ensures.store c.args.reader.now c.sight-sight.result c.sight-sight.ensures c.args.target.now
    (sym c.if-not-sees.ensures) _ _ (ap texts_of c.deref.ensures.value ∙ c.in_ok-names.ensures)
