use Rattle.std.proofs.Common.{string_bytes}
use Rattle.std.specs.Prelude.{map as mapped, option_copied}
use Rattle.doc_shelf_views.proofs.SourceSteps.{not_false, not_true, other_behind, other_first, other_none}
use Rattle.doc_shelf_views.proofs.sources.first_other.Goals as goal

pub returns-in_default : goal.returns-in_default
returns-in_default c = λ linking site are.
    other_none site c.args.reader.now linking (mapped (λ name. name.now) c.args.target.names.now) c.args.target.path.now
    (string_bytes c.args.start.now) (c.in_default.ensures linking site are)

pub returns-then-ne : goal.returns-then-ne
returns-then-ne c = λ linking site are.
    other_first site c.args.reader.now linking (mapped (λ name. name.now) c.args.target.names.now) c.args.target.path.now
    (string_bytes c.args.start.now) c.in-Some.first.now c.text.result.now (c.in-Some.ensures linking site are) c.text.ensures
    (not_true c.ne.result _ c.ne.ensures c.if-ne.true)

pub returns : goal.returns
returns c = λ linking site are.
    other_behind site c.args.reader.now linking (mapped (λ name. name.now) c.args.target.names.now) c.args.target.path.now
    (string_bytes c.args.start.now) c.in-Some.first.now c.text.result.now (string_bytes c.in_ok-behind.behind)
    (option_copied c.first_writing-2.result) (c.in-Some.ensures linking site are) c.text.ensures
    (not_false c.ne.result _ c.ne.ensures c.if-ne.false)
    c.in_ok-behind.ensures (c.first_writing-2.ensures linking site are)
