use Rattle.std.proofs.Common.{◌∙◌, chars}
use Rattle.doc_rules.specs.HtmlStarts.{is_named, raw_text_names, ends_raw_text_name, is_raw_text_start}
use Rattle.doc_rules.specs.Parsers.{is}
use Rattle.doc_blocks_starts.proofs.HtmlNames.{begins_before_is}
use Rattle.doc_blocks_starts.proofs.html.start.is_raw_text_start.Goals as goal

pub returns-in-Some : goal.returns-in-Some
unfolding raw_text_names is_raw_text_start
returns-in-Some c =
    c.is_named.ensures ends_raw_text_name (λ rest b h. h)
    ∙ begins_before_is (is_named raw_text_names ends_raw_text_name) (is 60) (chars c.args.text.now) (chars c.in-Some.rest.now)
    c.in-Some.ensures
