use Rattle.std.proofs.Common.{◌≡◌, ◌∙◌, ◌∷◌, [], ap, sym, subst, List, ℕ}
use Rattle.std.specs.Result.{IfOk}
use Rattle.doc_page_parts.specs.Paths.{segments}
use Rattle.doc_page_encoding.specs.Encoding.{encoded_path}
use Rattle.doc_page_encoding.proofs.EncodingLaws.{paths_by_segments}
use Rattle.doc_resolve.specs.Links.{base_of, kind_on, on_path}
use Rattle.doc_resolve.specs.References.{uri_of}
use Rattle.doc_resolve.proofs.DotSteps.{texts}
use Rattle.doc_resolve.proofs.LinkLaws.{kind_on-outside, kind_on-inside_ok}
use Rattle.doc_resolve.proofs.links.classify.Goals as goal

pub returns-then-leaves_site : goal.returns-then-leaves_site
returns-then-leaves_site c =
    kind_on-outside (base_of c.args.page.now) c.args.dest.now (uri_of c.parse-reference.result) c.parse-reference.ensures
    (sym c.if-leaves_site.ensures)

pub returns : goal.returns
returns c =
    let path = c.as_str.ensures.value ∙ c.in_ok-path.ensures ∙ ap encoded_path c.text.ensures in
    let same = ap (λ p. [] ∷ p) (ap segments path ∙ paths_by_segments c.args.page.now) in
    let base = ap texts c.deref.ensures.value ∙ c.in_ok-base.ensures ∙ same in
    let stays = sym c.if-leaves_site.ensures in
    let r = uri_of c.parse-reference.result in
    let OnBase : List (List ℕ) → Type 0 = λ parts. IfOk c.kind_inside.result (λ kind. kind ≡ kind_on (on_path parts) c.args.dest.now) in
    subst OnBase base (kind_on-inside_ok (texts c.deref.result.now) c.args.dest.now r c.parse-reference.ensures stays c.kind_inside.result
    c.kind_inside.ensures)
