use Rattle.std.proofs.Common.{◌++◌, ◌∙◌, ap, string_bytes}
use Rattle.doc_server_token.specs.Tokens.{groups_line, identity_lines, owner_line, row_head}
use Rattle.doc_server_token.proofs.RowSteps.{four_written}
use Rattle.doc_server_token.proofs.row.push_row.Goals as goal

pub returns : goal.returns
returns c =
    let reader = c.args.reader.now in
    let token = c.args.token.now in
    four_written (string_bytes c.args.out.now) (row_head token) (identity_lines reader.name token) (owner_line reader.is_owner)
    (groups_line reader.groups) _ _ _ _ c.in_ok-push_head.ensures
    (c.in_ok-push_identity.ensures ∙ ap (λ name. string_bytes c.push_head.new.out ++ identity_lines name token) c.get.ensures.text)
    c.in_ok-push_owner.ensures
    (c.in_ok-push_groups.ensures ∙ ap (λ names. string_bytes c.push_owner.new.out ++ groups_line names) c.names.ensures.same)
