use Rattle.std.proofs.Common.{[], ◌∷◌, ◌++◌, ap, string_bytes, ◌∙◌}
use Rattle.std.specs.Prelude.{Some, None}
use Rattle.doc_rows_folders.proofs.KeySteps.{enough, looked_first, no_more, nothing_yet, one_more}
use Rattle.doc_rows_folders.proofs.keys.keys_from.Goals as goal

pub loop-turn-init : goal.loop-turn-init
loop-turn-init c = λ site are.
    nothing_yet site c.args.reader.now c.args.folder.now c.args.most c.args.from.now c.new-found.result.items
    (string_bytes c.in_ok-start.start) c.new-found.ensures.items c.in_ok-start.ensures.ok

pub returns-in_default : goal.returns-in_default
returns-in_default c = λ site are.
    c.new.ensures ∙ no_more site c.args.reader.now c.args.folder.now c.args.most c.args.from.now c.loop-turn._turn c.loop-turn.found.items
    (string_bytes c.loop-turn.start)
    (looked_first site c.args.reader.now c.args.folder.now (string_bytes c.loop-turn.start) c.as_str.result.now c.in_ok-key.field-0 None
    c.in_default.is (c.in_ok-key.ensures site are) c.as_str.ensures.value)
    (c.loop-turn.invariant site are)

pub loop-turn-preserved : goal.loop-turn-preserved
loop-turn-preserved c = λ site are.
    one_more site c.args.reader.now c.args.folder.now c.args.most c.args.from.now c.loop-turn._turn c.loop-turn.found.items
    c.push.new.self.items (string_bytes c.loop-turn.start) (string_bytes c.in_ok-start-2.start) c.in-Some.key c.loop-turn-test.true
    (looked_first site c.args.reader.now c.args.folder.now (string_bytes c.loop-turn.start) c.as_str.result.now c.in_ok-key.field-0
    (Some c.in-Some.key) c.in-Some.is (c.in_ok-key.ensures site are) c.as_str.ensures.value)
    (c.in_ok-start-2.ensures ∙ ap (λ t. t ++ 0 ∷ []) c.get.ensures) c.in_ok-push.ensures.items (c.loop-turn.invariant site are)

pub returns : goal.returns
returns c = λ site are.
    c.new-2.ensures ∙ enough site c.args.reader.now c.args.folder.now c.args.most c.args.from.now c.loop-turn._turn c.loop-turn.found.items
    (string_bytes c.loop-turn.start) c.loop-turn-test.false (c.loop-turn.invariant site are)
