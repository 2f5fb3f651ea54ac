use Rattle.std.proofs.Common.{ap, sym, string_bytes, ◌∙◌}
use Rattle.std.specs.Prelude.{option_copied}
use Rattle.doc_rows.proofs.StepLaws.{no_more, nothing_yet, one_more}
use Rattle.doc_rows.proofs.rows.Rows.paths_seen.Goals as goal

pub loop-turn-init : goal.loop-turn-init
loop-turn-init c = λ site are.
    nothing_yet site c.args.reader.now c.args.from.now c.new-found.result.items (string_bytes c.in_ok-start.start) c.new-found.ensures.items
    c.in_ok-start.ensures.ok

pub returns-in_default : goal.returns-in_default
returns-in_default c = λ site are.
    c.new.ensures
    ∙ no_more site c.args.reader.now c.args.from.now c.loop-turn.found.items (string_bytes c.loop-turn.start)
    (sym (ap option_copied c.in_default.is) ∙ c.first_seen.ensures site are) (c.loop-turn.invariant site are)

pub loop-turn-preserved : goal.loop-turn-preserved
loop-turn-preserved c = λ site are.
    one_more site c.args.reader.now c.args.from.now c.loop-turn.found.items c.push.new.self.items (string_bytes c.loop-turn.start)
    (string_bytes c.in_ok-start-2.start) c.in-Some.path.now c.in_ok-copy_of.field-0
    (sym (ap option_copied c.in-Some.is) ∙ c.first_seen.ensures site are) c.in_ok-start-2.ensures c.in_ok-copy_of.ensures
    c.in_ok-push.ensures.items (c.loop-turn.invariant site are)
