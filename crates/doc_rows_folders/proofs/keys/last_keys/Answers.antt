use Rattle.std.proofs.Common.{string_bytes, ◌∙◌}
use Rattle.std.specs.Prelude.{Some, None}
use Rattle.doc_rows_folders.proofs.KeySteps.{enough_back, looked_last, no_more_back, nothing_yet_back, one_more_back}
use Rattle.doc_rows_folders.proofs.keys.last_keys.Goals as goal

pub loop-turn-init : goal.loop-turn-init
loop-turn-init c = λ site are.
    nothing_yet_back site c.args.reader.now c.args.folder.now c.args.most c.args.before.now c.new-found.result.items
    (string_bytes c.in_ok-end.end) c.new-found.ensures.items c.in_ok-end.ensures.ok

pub returns-in_default : goal.returns-in_default
returns-in_default c = λ site are.
    no_more_back site c.args.reader.now c.args.folder.now c.args.most c.args.before.now c.loop-turn._turn c.loop-turn.found.items
    (string_bytes c.loop-turn.end)
    (looked_last site c.args.reader.now c.args.folder.now (string_bytes c.loop-turn.end) c.as_str.result.now c.in_ok-key.field-0 None
    c.in_default.is (c.in_ok-key.ensures site are) c.as_str.ensures.value)
    (c.loop-turn.invariant site are)

pub loop-turn-preserved : goal.loop-turn-preserved
loop-turn-preserved c = λ site are.
    one_more_back site c.args.reader.now c.args.folder.now c.args.most c.args.before.now c.loop-turn._turn c.loop-turn.found.items
    c.push.new.self.items (string_bytes c.loop-turn.end) (string_bytes c.in_ok-end-2.end) c.in-Some.key c.loop-turn-test.true
    (looked_last site c.args.reader.now c.args.folder.now (string_bytes c.loop-turn.end) c.as_str.result.now c.in_ok-key.field-0
    (Some c.in-Some.key) c.in-Some.is (c.in_ok-key.ensures site are) c.as_str.ensures.value)
    (c.in_ok-end-2.ensures.ok ∙ c.get.ensures) c.in_ok-push.ensures.items (c.loop-turn.invariant site are)

pub returns : goal.returns
returns c = λ site are.
    enough_back site c.args.reader.now c.args.folder.now c.args.most c.args.before.now c.loop-turn._turn c.loop-turn.found.items
    (string_bytes c.loop-turn.end) c.loop-turn-test.false (c.loop-turn.invariant site are)
