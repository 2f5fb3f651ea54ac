use Rattle.std.proofs.Common.{ap, sym, chars, ◌∙◌}
use Rattle.doc_inlines_emphasis.specs.Views.{items_of}
use Rattle.doc_inlines.proofs.EndLaws.{read_whole, whole_slices}
use Rattle.doc_inlines.proofs.reader.Reader.read.Goals as goal

pub returns-clause-inlines : goal.returns-clause-inlines
returns-clause-inlines c = λ definitions e.
    read_whole c.args.entities.now definitions (chars c.args.text.now) c.begin.new.self c.read_items.new.self c.flush.new.self _
    (ap (λ t. chars t.now) c.begin.ensures.text) (ap (λ t. chars t.now) c.begin.ensures.rest)
    c.begin.ensures.made c.in_ok-read_items.ensures.nothing (c.in_ok-read_items.ensures.reads definitions e)
    (ap (λ t. chars t.now) (c.in_ok-flush.ensures.plain ∙ sym c.in_ok-flush.ensures.rest)) c.in_ok-flush.ensures.made
    c.in_ok-finish.ensures.shown

pub returns-clause-slices : goal.returns-clause-slices
returns-clause-slices c =
    c.in_ok-finish.ensures.slices (chars c.args.text.now)
    (whole_slices _ _ _ (items_of c.flush.new.self.draft.marks)
    (ap (λ t. chars t.now) (c.in_ok-flush.ensures.text ∙ (c.in_ok-read_items.ensures.text ∙ c.begin.ensures.text)))
    c.in_ok-flush.ensures.sound.plain c.in_ok-flush.ensures.sound.slices)

pub returns-clause-cut : goal.returns-clause-cut
returns-clause-cut c = c.in_ok-finish.ensures.cut c.in_ok-flush.ensures.sound.cut
