use Rattle.std.proofs.Common.{string_bytes, ◌∙◌}
use Rattle.std.specs.Prelude.{option_copied}
use Rattle.doc_shelf_views.proofs.SourceSteps.{first_of_next, none_written}
use Rattle.doc_shelf_views.proofs.sources.first_writing.Goals as goal

pub loop-name-init : goal.loop-name-init
loop-name-init c = λ linking site are. none_written site c.args.reader.now linking (string_bytes c.args.start.now)

pub loop-name-preserved : goal.loop-name-preserved
loop-name-preserved c = λ linking site are.
    c.lesser-best.ensures
    ∙ first_of_next site c.args.reader.now linking c.args.names.now c.loop-name.name-index c.name-item.result c.text.result.now
    (string_bytes c.args.start.now) (option_copied c.loop-name.best) (option_copied c.first_seen.result) c.loop-name-test.true
    c.name-item.is c.text.ensures (c.loop-name.invariant linking site are) (c.first_seen.ensures linking site are)
