use Rattle.std.proofs.Common.{codes}
use Rattle.doc_page_parts.specs.Escaping.{escaped}
use Rattle.doc_page_encoding.specs.Encoding.{encoded_path}
use Rattle.doc_people_editing.proofs.WriteSteps.{fivefold}
use Rattle.doc_people_editing.proofs.form.push_form_start.Goals as goal

pub returns : goal.returns
returns c =
    fivefold (codes "<form id=\"edit\" autocomplete=\"off\" data-path=\"") (encoded_path c.args.path.now)
    (codes "\" data-tag=\"") (escaped c.args.tag.now) (codes "\">\n") _ _ _ _ _ _
    c.in_ok-push_str.ensures.bytes c.in_ok-push_encoded_path.ensures.ok c.in_ok-push_str-2.ensures.bytes c.in_ok-push_escaped.ensures.ok
    c.in_ok-push_str-3.ensures.bytes
