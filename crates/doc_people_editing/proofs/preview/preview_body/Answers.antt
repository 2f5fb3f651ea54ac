use Rattle.std.proofs.Common.{◌++◌, ap, ◌∙◌}
use Rattle.doc_people.specs.Folders.{first_text, short, title_by}
use Rattle.doc_people.specs.Shell.{bare}
use Rattle.doc_people_editing.specs.Preview.{preview_body, preview_main}
use Rattle.doc_people_editing.proofs.preview.preview_body.Goals as goal

pub returns : goal.returns
unfolding preview_body
returns c =
    let made = preview_main c.args.path.now c.args.headings.now c.args.html.now in
    let shown = short (title_by c.args.path.now (first_text c.args.headings.now)) in
    c.in_ok-body.ensures
    ∙ ap (λ t. bare c.args.browse.now t c.as_str.result.now) (c.get.ensures ∙ c.in_ok-title.ensures)
    ∙ ap (bare c.args.browse.now shown)
    (c.as_str.ensures.value ∙ c.in_ok-push_preview_main.ensures ∙ ap (λ t. t ++ made) c.in_ok-main.ensures.bytes)
