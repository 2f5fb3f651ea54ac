use Rattle.std.proofs.Common.{ap, length, sym, ◌∙◌}
use Rattle.doc_page_parts.specs.Sights.{seen}
use Rattle.doc_words_search.specs.Searches.{pages_of}
use Rattle.doc_words_search.specs.SearchSteps.{pages_at}
use Rattle.doc_words_search.proofs.HeldSteps.{pages_in_order}
use Rattle.doc_words_search.proofs.SearchSteps.{seen_full, seen_pages}
use Rattle.doc_words.proofs.index.WordIndex.count_seen.Goals as goal

pub returns : goal.returns
returns g c =
    let slots = c.self.inside.pages in
    let goals = g.S.Sight.goals c.args.sight.now in
    c.len.ensures ∙ c.in_ok-seen.seen.ok.0 ∙ ap length c.in_ok-seen.ensures
    ∙ sym (seen_full slots goals c.deref.result.now)
    ∙ ap length (seen_pages slots goals c.deref.result.now
    ∙ ap (seen goals) (ap (pages_at slots) c.deref.ensures.value
    ∙ sym (pages_in_order slots c.in_ok-slots.slots.items c.in_ok-slots.ensures.entries)
    ∙ ap pages_of c.self.view_is))
