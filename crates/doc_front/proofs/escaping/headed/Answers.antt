use Rattle.std.proofs.Common.{◌∙◌, ap, chars}
use Rattle.std.proofs.lemmas.Str.{chars-nil}
use Rattle.doc_front.proofs.FrontSteps.{headed_is}
use Rattle.doc_front.proofs.escaping.headed.Goals as goal

pub returns : goal.returns
returns c =
    ap chars c.new.ensures
    ∙ headed_is _ _ _ _ _ _ _ _ (ap chars c.in_ok-out.ensures.bytes ∙ chars-nil) c.in_ok-push_text.ensures.ok
    c.in_ok-push_text-2.ensures.ok c.in_ok-push_text-3.ensures.ok c.in_ok-push_text-4.ensures.ok
    (ap chars c.as_str.ensures.value ∙ c.in_ok-escaped.ensures)
