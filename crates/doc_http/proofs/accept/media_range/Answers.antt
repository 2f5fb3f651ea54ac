use Rattle.std.proofs.Common.{◌==◌, ◌∙◌, ap}
use Rattle.std.specs.List.{before_first}
use Rattle.httparse.specs.Grammar.{trim_ows}
use Rattle.doc_http.proofs.SkipLemmas.{trimmed_is_stripped}
use Rattle.doc_http.proofs.accept.media_range.Goals as goal

pub returns : goal.returns
returns c =
    c.trim_blanks.ensures ∙ ap trim_ows c.before_parameters.ensures ∙ trimmed_is_stripped (before_first (λ b. b == 59) c.args.part.now)
