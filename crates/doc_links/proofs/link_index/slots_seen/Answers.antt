use Rattle.std.proofs.Common.{◌≡◌, ap, subst, sym, ◌∙◌}
use Rattle.std.specs.Prelude.{IsTrue, is_some, map as mapped}
use Rattle.std.specs.List.{All, filter}
use Rattle.doc_index.specs.Held.{slot_at}
use Rattle.doc_links_pages.specs.PageLinks.{pages_of}
use Rattle.doc_links_seen.specs.SeenSteps.{pages_at}
use Rattle.doc_links.specs.IndexSteps.{without_counts}
use Rattle.doc_links.proofs.HeldSteps.{all_of_slots, told}
use Rattle.doc_links.proofs.link_index.slots_seen.Goals as goal

pub slots_flagged-requires : goal.slots_flagged-requires
slots_flagged-requires c = record {
  present = subst (All (λ slot. IsTrue (is_some (slot_at c.args.pages.now slot)))) (sym c.deref.ensures.value) c.in_ok-slots.ensures.present;
}

pub returns : goal.returns
returns c = λ sees are.
    let same : pages_at c.args.pages.now c.deref.result.now ≡ pages_of (without_counts c.args.pages.now) =
    all_of_slots c.args.pages.now c.in_ok-slots.slots.items c.deref.result.now c.deref.ensures.value c.in_ok-slots.ensures.entries in
    told c.slots_flagged.result (λ all is. is ∙ ap (filter sees) same) (c.slots_flagged.ensures sees (are ∙ ap (mapped sees) (sym same)))
