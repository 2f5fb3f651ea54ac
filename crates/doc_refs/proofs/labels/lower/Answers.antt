use Rattle.std.proofs.Common.{◌∙◌, ap, map}
use Rattle.std.specs.Char.{to_ascii_lowercase}
use Rattle.doc_refs.proofs.FoldSteps.{folded_ascii}
use Rattle.doc_refs.proofs.labels.lower.Goals as goal

pub returns : goal.returns
returns c = folded_ascii c.args.text.now _ c.requires
    (c.make_ascii_lowercase.ensures.bytes ∙ ap (map to_ascii_lowercase) c.in_ok-out.ensures.ok)
