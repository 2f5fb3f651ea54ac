use Rattle.std.proofs.Common.{ap, arith, length, refl, sym, ◌∙◌}
use Rattle.std.specs.Prelude.{slice_get}
use Rattle.std.proofs.lemmas.Option.{slice_get_read}
use Rattle.doc_links_seen.proofs.report.push_broken.Goals as goal

pub fault_of-requires-clause-whole : goal.fault_of-requires-clause-whole
fault_of-requires-clause-whole g c = λ is.
    let links = c.links-link-items.result.now in
    c.requires.whole c.loop-index.index c.link-item.result
    (ap (λ ls. slice_get ls c.loop-index.index) (sym c.links-link-items.ensures)
    ∙ slice_get_read links (length links) c.loop-index.index c.link-item.result refl (omega (arith, c.loop-index-test.true)) c.link-item.is)
    (sym c.is_whole-whole.ensures ∙ is)
