use Rattle.std.proofs.Common.{◌∙◌, sym, codes, map, refl}
use Rattle.httparse.specs.Spans.{header_bytes}
use Rattle.doc_http.proofs.ContentTypeLemmas.{markdown_by_count}
use Rattle.doc_http.proofs.content_type.sends_markdown.Goals as goal

pub returns-in_default : goal.returns-in_default
returns-in_default c =
    let h = markdown_by_count (codes "content-type") (map (header_bytes c.args.text.now) c.args.headers.now) in
    sym (h ∙ rw (sym c.value_named.ensures, c.in_default.is) refl)

pub returns-then-is_markdown : goal.returns-then-is_markdown
returns-then-is_markdown c =
    let h = markdown_by_count (codes "content-type") (map (header_bytes c.args.text.now) c.args.headers.now) in
    sym (h ∙ rw (sym c.value_named.ensures, c.in-Some.is, sym c.is_markdown.ensures, c.if-is_markdown.true, sym c.count_named.ensures) refl)

pub returns-else-is_markdown : goal.returns-else-is_markdown
returns-else-is_markdown c =
    let h = markdown_by_count (codes "content-type") (map (header_bytes c.args.text.now) c.args.headers.now) in
    sym (h ∙ rw (sym c.value_named.ensures, c.in-Some.is, sym c.is_markdown.ensures, c.if-is_markdown.false) refl)
