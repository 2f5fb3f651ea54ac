use Rattle.std.proofs.Common.{◌∙◌, ap, sym}
use Rattle.std.specs.Prelude.{encode_utf8_all, option_map}
use Rattle.doc_inlines_marks.specs.Targets.{named}
use Rattle.doc_html.proofs.PageSteps.{spot_is}
use Rattle.doc_html.proofs.page_writer.spot_of.Goals as goal

pub returns : goal.returns
returns c =
    spot_is (named c.args.target) _ _ (sym c.dest_is_text.ensures ∙ ap encode_utf8_all (c.in_ok-dest-2.ensures ∙ c.in_ok-dest.ensures))
    (sym c.title_is_text.ensures ∙ ap (option_map encode_utf8_all) c.in_ok-title.ensures)
