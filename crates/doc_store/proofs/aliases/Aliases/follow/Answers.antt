use Rattle.std.proofs.Common.{ap, sym, ◌∙◌}
use Rattle.std.specs.FinMap as map
use Rattle.doc_store.proofs.PageSteps.{room_undone}
use Rattle.doc_store.proofs.SetSteps.{followed, still_free}
use Rattle.doc_store_readers.specs.Maps.{map_values}
use Rattle.doc_store.specs.Store.{goal_after}
use Rattle.doc_store.proofs.aliases.Aliases.follow.Goals as goal

pub redirect-requires-clause-free : goal.redirect-requires-clause-free
redirect-requires-clause-free c = λ alias e.
    still_free c.args.self.now c.args.from.now c.args.to.now c.requires.named c.requires.apart c.requires.free alias
    (ap (λ m. map.get m alias) (sym c.in_ok-add.ensures.ok) ∙ e)

pub returns-in-Err-clause-err : goal.returns-in-Err-clause-err
returns-in-Err-clause-err c =
    c.remove.ensures ∙ ap (λ m. map.remove m c.args.from.now) (c.in-Err.ensures.err ∙ c.in_ok-add.ensures.ok)
    ∙ room_undone c.args.self.now c.args.from.now c.args.from.now c.requires.named

pub returns-clause-ok : goal.returns-clause-ok
returns-clause-ok c =
    c.remove-2.ensures
    ∙ ap (λ m. map.remove m c.args.to.now) (c.in_default.ensures.ok
    ∙ ap (map_values (goal_after c.args.from.now c.args.to.now)) c.in_ok-add.ensures.ok)
    ∙ followed c.args.self.now c.args.from.now c.args.to.now c.requires.named c.requires.apart
