use Rattle.std.proofs.Common.{[], ◌∷◌, ◌++◌, ap, string_bytes, sym, ◌∙◌}
use Rattle.std.specs.Prelude.{map as mapped, option_copied}
use Rattle.doc_shelf_views.proofs.SourceSteps.{enough, no_more, nothing_yet, one_more}
use Rattle.doc_shelf_views.proofs.sources.others_from.Goals as goal

pub loop-turn-init : goal.loop-turn-init
loop-turn-init c = λ linking site are.
    nothing_yet site c.args.reader.now linking (mapped (λ name. name.now) c.args.target.names.now) c.args.target.path.now c.args.most
    c.args.from.now c.new-found.result.items (string_bytes c.in_ok-start.start) c.new-found.ensures.items c.in_ok-start.ensures.ok

pub returns-in_default : goal.returns-in_default
returns-in_default c = λ linking site are.
    no_more site c.args.reader.now linking (mapped (λ name. name.now) c.args.target.names.now) c.args.target.path.now c.args.most
    c.args.from.now c.loop-turn._turn c.loop-turn.found.items (string_bytes c.loop-turn.start)
    (sym (ap option_copied c.in_default.is) ∙ c.in_ok-source.ensures linking site are)
    (c.loop-turn.invariant linking site are)

pub loop-turn-preserved : goal.loop-turn-preserved
loop-turn-preserved c = λ linking site are.
    one_more site c.args.reader.now linking (mapped (λ name. name.now) c.args.target.names.now) c.args.target.path.now c.args.most
    c.args.from.now c.loop-turn._turn c.loop-turn.found.items c.push.new.self.items (string_bytes c.loop-turn.start)
    (string_bytes c.in_ok-start-2.start) c.in-Some.source.now c.loop-turn-test.true
    (sym (ap option_copied c.in-Some.is) ∙ c.in_ok-source.ensures linking site are)
    c.in_ok-start-2.ensures
    (c.in_ok-push.ensures.items ∙ ap (λ t. c.loop-turn.found.items ++ t ∷ []) c.in_ok-copy_of.ensures)
    (c.loop-turn.invariant linking site are)

pub returns : goal.returns
returns c = λ linking site are.
    enough site c.args.reader.now linking (mapped (λ name. name.now) c.args.target.names.now) c.args.target.path.now c.args.most
    c.args.from.now c.loop-turn._turn c.loop-turn.found.items (string_bytes c.loop-turn.start) c.loop-turn-test.false
    (c.loop-turn.invariant linking site are)
