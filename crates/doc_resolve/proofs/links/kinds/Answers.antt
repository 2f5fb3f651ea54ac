use Rattle.std.proofs.Common.{◌≡◌, ◌∙◌, ◌∷◌, [], ap, subst, List, ℕ}
use Rattle.std.specs.List.{flat_map}
use Rattle.std.specs.Result.{IfOk}
use Rattle.doc_page_parts.specs.Paths.{segments}
use Rattle.doc_page_encoding.specs.Encoding.{encoded_path}
use Rattle.doc_page_encoding.proofs.EncodingLaws.{paths_by_segments}
use Rattle.doc_resolve.specs.Links.{kinds, kinds_in, on_path}
use Rattle.doc_resolve.proofs.DotSteps.{texts}
use Rattle.doc_resolve.proofs.links.kinds.Goals as goal

pub returns : goal.returns
unfolding kinds
returns c =
    let path = c.as_str.ensures.value ∙ c.in_ok-path.ensures ∙ ap encoded_path c.text.ensures in
    let same = ap (λ p. [] ∷ p) (ap segments path ∙ paths_by_segments c.args.page.now) in
    let base = ap texts c.deref.ensures.value ∙ c.in_ok-base.ensures ∙ same in
    let On : List (List ℕ) → Type 0 = λ parts. IfOk c.kinds_on.result
    (λ all. all.items ≡ flat_map (kinds_in (on_path parts)) c.args.pieces.now) in
    subst On base c.kinds_on.ensures
