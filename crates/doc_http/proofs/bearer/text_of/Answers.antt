use Rattle.doc_http.proofs.TokenLemmas.{token_is_text}
use Rattle.doc_http.proofs.bearer.text_of.Goals as goal

pub unreachable-requires : goal.unreachable-requires
unreachable-requires c = c.in_default.ensures.cases.0 (token_is_text c.args.token.now c.requires)
