use Rattle.std.proofs.Common.{refl}
use Rattle.doc_http_conditions.proofs.StrippingSteps.{stripped_is}
use Rattle.doc_http_conditions.proofs.stripping.stripped.Goals as goal

pub returns : goal.returns
returns c = stripped_is c.args.text.now _ _ _ c.blanks_at_start.ensures.count refl c.blanks_at_end.ensures.count
