use Rattle.std.proofs.Common.{ap, sym, ◌==◌, ◌∙◌}
use Rattle.std.specs.List.{starts_with}
use Rattle.std.proofs.lemmas.Str.Pattern.{starts_text}
use Rattle.doc_people.specs.Terms.{meets}
use Rattle.doc_shelf_hits.proofs.counting.meets.Goals as goal

pub returns-in-Prefix : goal.returns-in-Prefix
returns-in-Prefix c =
    starts_text c.starts_with.result c.text-in-Prefix.result.now c.args.word.now c.starts_with.ensures.cases
    ∙ ap (starts_with ◌==◌ c.args.word.now) c.text-in-Prefix.ensures ∙ sym (ap (λ t. meets t c.args.word.now) c.in-Prefix.is)
