use Rattle.std.proofs.Common.{ap, ◌∙◌}
use Rattle.std.specs.FinMap as map
use Rattle.doc_words_search.proofs.HeldSteps.{is_held, words_removed}
use Rattle.doc_words.proofs.index.WordIndex.drop_page.Goals as goal

pub returns-clause-answer : goal.returns-clause-answer
returns-clause-answer c =
    c.drop_page.ensures.answer ∙ is_held c.self.inside.pages (c.args.path.now, c.args.stamp)
    ∙ ap (λ m. map.contains_key m (c.args.path.now, c.args.stamp)) c.self.view_is

pub returns-clause-rest : goal.returns-clause-rest
returns-clause-rest c =
    words_removed c.self.inside.pages c.drop_page.new.self (c.args.path.now, c.args.stamp) c.drop_page.ensures.rest
    ∙ ap (λ m. map.remove m (c.args.path.now, c.args.stamp)) c.self.view_is
