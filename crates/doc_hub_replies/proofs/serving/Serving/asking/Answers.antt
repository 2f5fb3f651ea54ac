use Rattle.std.proofs.Common.{ap, sym, ◌∙◌}
use Rattle.doc_hub_asking.specs.Asking.{known_by, reader_asking}
use Rattle.doc_hub_media.proofs.AskingLaws.{bearers_alone_are_known}
use Rattle.doc_hub_replies.proofs.serving.Serving.asking.Goals as goal

pub returns-in-None : goal.returns-in-None
returns-in-None c =
    let readers = c.args.self.now.readers.now in
    let request = c.args.request.now in
    c.known.ensures ∙ ap known_by c.reader_of.ensures ∙ sym (bearers_alone_are_known readers request)
    ∙ ap (λ browse. reader_asking browse readers request) (sym c.in-None.is)
