use Rattle.std.proofs.Common.{◌++◌, ap, codes, string_bytes, ◌∙◌}
use Rattle.doc_page_parts.specs.Escaping.{escaped}
use Rattle.doc_people_editing.specs.EditPage.{hidden_unless}
use Rattle.doc_people_editing.specs.declared.sections.TheConstants.{STANDS_END}
use Rattle.doc_people_editing.proofs.WriteSteps.{fivefold}
use Rattle.doc_people_editing.proofs.sections.push_stands_section.Goals as goal

pub returns : goal.returns
returns c =
    fivefold (codes "<section id=\"stands\"") (hidden_unless c.args.stands)
    (codes ">\n<form id=\"move\" autocomplete=\"off\"><p><label>New path <input id=\"to\" value=\"") (escaped c.args.path.now)
    STANDS_END.now _ _ _ _ _ _
    c.in_ok-push_str.ensures.bytes
    (c.in_ok-push_str-2.ensures.bytes ∙ ap (λ t. string_bytes c.push_str.new.self ++ t) c.hidden_unless.ensures)
    c.in_ok-push_str-3.ensures.bytes c.in_ok-push_escaped.ensures.ok c.in_ok-push_str-4.ensures.bytes
