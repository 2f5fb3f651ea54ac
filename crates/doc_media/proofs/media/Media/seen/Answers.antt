use Rattle.std.proofs.Common.{sym, ap, ◌∙◌}
use Rattle.std.specs.Prelude.{option_map}
use Rattle.doc_media.specs.Held.{page_of}
use Rattle.doc_media.proofs.HeldSteps.{medium_hidden, medium_seen, none_seen}
use Rattle.doc_media.proofs.media.Media.seen.Goals as goal

pub returns-in_err-medium-clause-medium : goal.returns-in_err-medium-clause-medium
returns-in_err-medium-clause-medium c =
    ap (option_map (λ medium. page_of medium.now)) c.from_residual.ensures
    ∙ sym (none_seen c.args.self.now c.args.reader.now c.args.path.now
    (sym c.get.ensures.medium ∙ ap (option_map (λ medium. page_of medium.now)) c.in_err-medium.was))

pub returns-then-not-is_seen_by-clause-medium : goal.returns-then-not-is_seen_by-clause-medium
returns-then-not-is_seen_by-clause-medium c =
    sym (medium_hidden c.args.self.now c.args.reader.now c.args.path.now (page_of c.in_ok-medium.medium.now)
    (sym c.get.ensures.medium ∙ ap (option_map (λ medium. page_of medium.now)) c.in_ok-medium.was)
    (sym c.is_seen_by.ensures ∙ c.if-not-is_seen_by.true))

pub returns-clause-medium : goal.returns-clause-medium
returns-clause-medium c =
    sym (medium_seen c.args.self.now c.args.reader.now c.args.path.now (page_of c.in_ok-medium.medium.now)
    (sym c.get.ensures.medium ∙ ap (option_map (λ medium. page_of medium.now)) c.in_ok-medium.was)
    (sym c.is_seen_by.ensures ∙ c.if-not-is_seen_by.false))
