use Rattle.std.proofs.Common.{[], ◌∷◌, ◌++◌, ◌∙◌, ap, sym, string_bytes}
use Rattle.doc_page_parts.specs.Pages.{opening_tag}
use Rattle.doc_rules.specs.Html.{LinkTag}
use Rattle.doc_inlines_marks.specs.Targets.{named}
use Rattle.doc_html.specs.WrittenSteps.{read_again}
use Rattle.doc_html.proofs.WrittenSteps.{holds_more, tag_last, link_spells}
use Rattle.doc_html.proofs.html_writer.HtmlWriterWriter.link.Goals as goal

pub returns : goal.returns
returns g c = λ p h.
    let title = c.in_ok-title.title in
    let shown = g.K.Links.shown c.args.self.now.links.now in
    let tag = shown c.get.result.now in
    let target = named c.args.target in
    let written = c.in_ok-push_tag.ensures
    ∙ ap (λ those. string_bytes c.args.self.now.out ++ opening_tag those tag) (sym c.title_is_text.ensures) in
    holds_more shown _ _ (opening_tag (read_again title) tag) c.args.self.now.fresh _ p (LinkTag target ∷ []) h written
    (tag_last p.output target)
    (link_spells title c.get.result.now target shown (c.get.ensures ∙ c.in_ok-dest.ensures) c.in_ok-title.ensures c.get.utf8)
