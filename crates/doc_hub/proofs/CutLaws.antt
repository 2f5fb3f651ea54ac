-- Decisions on a site are those on the cut of it.
use Rattle.std.proofs.Common.{ap, sym}
use Rattle.std.specs.FinMap as map
use Rattle.doc_resolve.specs.Decisions.{decisions}
use Rattle.doc_store_readers.specs.Sites.{Site, View, goal_in}
use Rattle.doc_store_readers.proofs.ViewLaw.{goals_of_views, view_of_view}
use Rattle.doc_hub.specs.CutLaws.{DecisionsOfCut}

-- the view of what a site's cut is
seen : Site → View
seen site = record { pages = map.entries site.pages; aliases = map.entries site.aliases }

pub decisions_of_cut : DecisionsOfCut
unfolding seen
decisions_of_cut = record {
  again = λ site reader page rendered. ap (λ cut. decisions (goal_in (seen cut)) page rendered) (sym (view_of_view site reader));
  whole = λ site reader page rendered. (λ i. decisions (λ path. goals_of_views site reader path i) page rendered);
}
