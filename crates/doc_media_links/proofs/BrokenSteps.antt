-- Links that are broken, one after the other.
use Rattle.std.proofs.Common.{◌≡◌, List, [], ◌∷◌, ◌++◌, filter, ap, sym, ◌∙◌}
use Rattle.std.specs.Prelude.{Bool}
use Rattle.std.proofs.lemmas.List.{append_assoc, append-nil}
use Rattle.std.proofs.lemmas.List.Elements.{filter-append}
use Rattle.doc_links_pages.specs.declared.answers.Broken.{Broken}

pub one_link_more : (p : Broken → Bool) (link : Broken) (found new rest left all : List Broken) → left ≡ link ∷ rest
    → new ≡ found ++ filter p (link ∷ []) → found ++ filter p left ≡ all → new ++ filter p rest ≡ all
one_link_more p link found new rest left all next is so =
    ap (λ ls. ls ++ filter p rest) is
    ∙ append_assoc found (filter p (link ∷ [])) (filter p rest)
    ∙ ap (λ ls. found ++ ls) (sym (filter-append p (link ∷ []) rest))
    ∙ ap (λ ls. found ++ filter p ls) (sym next)
    ∙ so

pub none_left : (p : Broken → Bool) (found left all : List Broken) → left ≡ [] → found ++ filter p left ≡ all → found ≡ all
none_left p found left all none so = sym (append-nil found) ∙ ap (λ ls. found ++ filter p ls) (sym none) ∙ so
