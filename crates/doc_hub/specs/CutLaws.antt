-- The cut of a site for a reader stands for the site, in whatever that reader is shown.
use Rattle.std.specs.Prelude.{◌≡◌, List, ℕ, Option}
use Rattle.doc_page_parts.specs.declared.rendered.Rendered.{Rendered}
use Rattle.doc_resolve.specs.Decisions.{decisions}
use Rattle.doc_store_readers.specs.declared.reader.Reader.{Reader}
use Rattle.doc_store_readers.specs.Sites.{Site, goal_in, goal_of, view_of, visible_to}

-- The law of the cut for decisions: which pages a page's links lead to for a reader is the same on the whole site and on what the reader
-- sees of it, taken as a site: for that reader, and for whoever sees the whole of it.
pub record DecisionsOfCut : Type 0 where
  pub again : (site : Site) (reader : Option Reader) (page : List ℕ) (rendered : Rendered)
      → decisions (goal_in (view_of site reader)) page rendered ≡ decisions (goal_in (view_of
      (visible_to site reader) reader)) page rendered
  pub whole : (site : Site) (reader : Option Reader) (page : List ℕ) (rendered : Rendered)
      → decisions (goal_in (view_of site reader)) page rendered ≡ decisions (goal_of (visible_to site reader)) page rendered
