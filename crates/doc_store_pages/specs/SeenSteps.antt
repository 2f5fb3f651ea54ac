-- What a reader sees of stamped pages.
use Rattle.std.specs.Prelude.{ℕ, List, Bool, Option, Some, None, option_map, if◌then◌else◌}
use Rattle.std.specs.FinMap as map
use Rattle.doc_store_readers.specs.declared.reader.Reader.{Reader}
use Rattle.doc_store_readers.specs.Maps.{TextMap}
use Rattle.doc_store_readers.specs.Pages.{StampedPage}
use Rattle.doc_store_readers.specs.Sites.{may_see_at}

-- whether a page stands under a path that the reader may see
abbrev pub sees_at : TextMap StampedPage → Reader → List ℕ → Bool
sees_at pages reader path = may_see_at (Some reader) (option_map (λ page. page.page) (map.get pages path))

-- where an alias of a path leads the reader: to the path, or nowhere where they may see no page there
abbrev pub seen_goal : TextMap StampedPage → Reader → List ℕ → Option (List ℕ)
seen_goal pages reader path = if sees_at pages reader path then Some path else None
