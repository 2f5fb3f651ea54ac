-- Laws of links; the proofs are in proofs/.
use Rattle.std.specs.Prelude.{◌≡◌, ℕ, List, Option}
use Rattle.doc_page_parts.specs.Pages.{filled}
use Rattle.doc_page_parts.specs.declared.rendered.Rendered.{Rendered}
use Rattle.doc_resolve.specs.Decisions.{decisions, goals_of}
use Rattle.doc_resolve.specs.Hrefs.{shown}
use Rattle.doc_resolve.specs.Links.{kinds}

-- a page is filled alike for two readers for whom its links are decided alike
abbrev pub LinksAreDecided : Type 0
LinksAreDecided =
    (one other : List ℕ → Option (List ℕ)) (page : List ℕ) (rendered : Rendered)
    → decisions one page rendered ≡ decisions other page rendered
    → filled (shown one page) rendered ≡ filled (shown other page) rendered

-- the pages that a page's links lead to, by what each of them leads to
abbrev pub DecisionsAreGoals : Type 0
DecisionsAreGoals =
    (goals : List ℕ → Option (List ℕ)) (page : List ℕ) (rendered : Rendered)
    → decisions goals page rendered ≡ goals_of goals (kinds page rendered.pieces)
