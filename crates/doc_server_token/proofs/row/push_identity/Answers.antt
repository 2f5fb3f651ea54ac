use Rattle.std.proofs.Common.{◌++◌, ◌∙◌, ap, codes, string_bytes}
use Rattle.doc_server_token.specs.Tokens.{digest_text, string_line}
use Rattle.doc_server_token.proofs.RowSteps.{two_written}
use Rattle.doc_server_token.proofs.row.push_identity.Goals as goal

pub returns : goal.returns
returns c =
    let is = c.as_str.ensures.value ∙ c.in_ok-digest.ensures ∙ ap digest_text c.as_bytes.ensures.value in
    two_written (string_bytes c.args.out.now) (string_line (codes "name") c.args.name.now)
    (string_line (codes "token_sha256") (digest_text c.args.token.now)) _ _ c.in_ok-push_line.ensures
    (c.in_ok-push_line-2.ensures ∙ ap (λ text. string_bytes c.push_line.new.out ++ string_line (codes "token_sha256") text) is)
