use Rattle.doc_people.specs.Shell.{head}
use Rattle.std.proofs.Common.{◌++◌, ◌∙◌, ap, string_bytes}
use Rattle.doc_page_parts.specs.Escaping.{escaped}
use Rattle.doc_people_shell.proofs.WriteSteps.{seven_written}
use Rattle.doc_people_shell.proofs.head.push_head.Goals as goal

pub returns : goal.returns
unfolding head
returns c =
    seven_written _ _ _ _ _ _ _ _ _ _ _ _ _ _ _
    c.in_ok-push_str.ensures.bytes
    (c.in_ok-push_str-2.ensures.bytes ∙ ap (λ t. string_bytes c.push_str.new.self ++ t) c.get.ensures)
    c.in_ok-push_metas.ensures
    c.in_ok-push_escaped.ensures.ok
    c.in_ok-push_str-3.ensures.bytes
    (c.in_ok-push_escaped-2.ensures.ok ∙ ap (λ t. string_bytes c.push_str-3.new.self ++ escaped t) c.get-2.ensures)
    c.in_ok-push_links.ensures
