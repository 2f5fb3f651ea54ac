use Rattle.std.proofs.Common.{◌++◌, ◌∙◌, ap, string_bytes}
use Rattle.doc_people_shell.proofs.WriteSteps.{three_written}
use Rattle.doc_people_shell.proofs.bar.push_site_links.Goals as goal

pub returns : goal.returns
returns c =
    three_written _ _ _ _ _ _ _
    c.in_ok-push_str.ensures.bytes
    (c.in_ok-push_str-2.ensures.bytes ∙ ap (λ t. string_bytes c.push_str.new.self ++ t) c.sign_in_link.ensures)
    c.in_ok-push_str-3.ensures.bytes
