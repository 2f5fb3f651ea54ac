use Rattle.std.proofs.Common.{ap, map as mapped, ◌∙◌}
use Rattle.doc_index.proofs.OrderSteps.{told}
use Rattle.doc_index.specs.Held.{entries_of, slot_at}
use Rattle.doc_shelf_pages.specs.RenderingSteps.{texts_of}
use Rattle.doc_shelf_pages.proofs.LinedSteps.{lines_told}
use Rattle.doc_shelf_pages.proofs.renderings.Renderings.lines_of.Goals as goal

pub returns : goal.returns
returns c =
    let slots = c.self.inside.pages in
    told c.flagged_lines.result (λ lines is.
    lines_told slots c.args.self.now c.self.invariant.0 c.self.view_is c.args.flags.now
    (entries_of (mapped (slot_at slots) c.deref.result.now))
    (ap (λ ns. entries_of (mapped (slot_at slots) ns)) c.deref.ensures.value ∙ c.in_ok-slots.ensures.entries) (texts_of lines.items) is)
    c.flagged_lines.ensures
