use Rattle.std.proofs.Common.{lit<}
use Rattle.std.proofs.lemmas.Str.Pattern.{strip_prefix_char}
use Rattle.doc_resolve.proofs.ReferenceSteps.{behind_slash-found}
use Rattle.doc_resolve.proofs.reference.behind_slash.Goals as goal

pub returns : goal.returns
returns c =
    behind_slash-found c.args.text.now c.strip_prefix.result
    (strip_prefix_char 47 c.args.text.now c.strip_prefix.result c.strip_prefix.ensures.cases (lit< tt))
