use Rattle.std.proofs.Common.{◌∙◌, chars}
use Rattle.doc_rules.specs.HtmlStarts.{is_named, element_names, ends_element_name, is_element_start}
use Rattle.doc_rules.specs.Parsers.{is, ◌then◌, maybe}
use Rattle.doc_blocks_starts.proofs.HtmlNames.{begins_before_is}
use Rattle.doc_blocks_starts.proofs.html.start.is_element_start.Goals as goal

pub returns-in-Some : goal.returns-in-Some
unfolding element_names is_element_start
returns-in-Some c =
    c.is_named.ensures ends_element_name (λ rest b h. h)
    ∙ begins_before_is (is_named element_names ends_element_name) (is 60 then maybe (is 47)) (chars c.args.text.now)
    (chars c.in-Some.rest.now) c.in-Some.ensures
