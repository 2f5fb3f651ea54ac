use Rattle.std.proofs.Common.{length, ap, arith, ◌∙◌}
use Rattle.doc_page_parts.specs.Sights.{seen}
use Rattle.doc_store_readers.specs.Sites.{goal_in}
use Rattle.doc_words_search.specs.Searches.{pages_of}
use Rattle.trial_pages.proofs.FewSteps.{each_is_found}
use Rattle.trial_pages.proofs.sites.of_postings.count_seen.Goals as goal

pub returns : goal.returns
returns c =
    each_is_found (length c.get-count.result.now) (seen (goal_in c.args.sight.now) (pages_of c.args.index.now))
    (ap length (c.get-count.ensures ∙ c.in_ok-all.ensures)) (omega (arith, c.if-count-ge100.false))
