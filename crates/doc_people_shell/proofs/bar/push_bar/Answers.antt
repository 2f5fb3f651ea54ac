use Rattle.std.proofs.Common.{◌++◌, ◌∙◌, ap, string_bytes}
use Rattle.doc_page_parts.specs.Escaping.{escaped}
use Rattle.doc_people_shell.proofs.WriteSteps.{six_written}
use Rattle.doc_people_shell.proofs.bar.push_bar.Goals as goal

pub returns : goal.returns
returns c =
    six_written _ _ _ _ _ _ _ _ _ _ _ _ _
    c.in_ok-push_bar_start.ensures
    (c.in_ok-push_escaped.ensures.ok ∙ ap (λ t. string_bytes c.push_bar_start.new.out ++ escaped t) c.get.ensures)
    c.in_ok-push_str.ensures.bytes
    c.in_ok-push_search_form.ensures
    c.in_ok-push_site_links.ensures
    c.in_ok-push_str-2.ensures.bytes
