use Rattle.std.proofs.lemmas.List.{take_rest}
use Rattle.doc_http.proofs.SkipLemmas.{trimmed}
use Rattle.doc_http.proofs.fields.trim_blanks.Goals as goal

pub returns : goal.returns
returns c = rw (c.blanks_at_back.ensures.count, c.blanks_at_front.ensures.count, take_rest) (trimmed c.args.text.now)
