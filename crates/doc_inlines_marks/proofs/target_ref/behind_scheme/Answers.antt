use Rattle.std.proofs.Common.{◌∙◌, ◌++◌, ap, chars}
use Rattle.doc_inlines_marks.proofs.PlainLaws.{no_bytes, nothing_before}
use Rattle.doc_inlines_marks.proofs.target_ref.behind_scheme.Goals as goal

pub returns-then-is_empty : goal.returns-then-is_empty
returns-then-is_empty c = nothing_before c.args.scheme.now c.args.address.now (no_bytes _ _ c.is_empty.ensures c.if-is_empty.true)

pub returns : goal.returns
returns c =
    ap chars c.new.ensures
    ∙ (c.in_ok-push_text.ensures.ok ∙ ap (λ t. chars t ++ chars c.args.address.now) c.in_ok-dest.ensures.ok)
