-- How a request writes the path of a page.
use Rattle.std.specs.Prelude.{ℕ, List, Option}
use Rattle.doc_page_parts.specs.Paths.{segments}
use Rattle.doc_resolve.specs.WrittenPaths.{path_written as path_of_segments}

-- the path of the page that a text writes as the path of a URI does, segment by segment, where there is one (this project's choice)
unfoldable pub path_written : List ℕ → Option (List ℕ)
path_written text = path_of_segments (segments text)
