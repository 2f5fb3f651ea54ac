-- Paths that are kept for media: what stands there is read alone, and no page begins there. All of this is this project's choice.
use Rattle.std.specs.Prelude.{ℕ, List, Bool, false, not, ◌&&◌, ◌||◌, is_some, Option, Some, None, if◌then◌else◌}
use Rattle.doc_media.specs.Kinds.{kind_of}
use Rattle.doc_media.specs.Media.{Beside}
use Rattle.doc_page_parts.specs.Paths.{is_path}
use Rattle.doc_store_readers.specs.Sites.{View, page_at}

-- A path is kept for media where one stands there, or where no page does and its name is a medium's. No path is, where there are no media
-- at all.
abbrev pub is_kept : View → Beside → List ℕ → Bool
is_kept view None path = false
is_kept view (Some held) path = is_some (page_at held path) || (is_some (kind_of path) && not (is_some (page_at view.pages path)))

-- a page may stand under a text: it is a path, and not kept for media
abbrev pub may_begin : View → Beside → List ℕ → Bool
may_begin view media text = is_path text && not (is_kept view media text)

-- a path, where a page may begin at it: at none that is kept for media
abbrev pub begun_at : View → Beside → List ℕ → Option (List ℕ)
begun_at view media path = if is_kept view media path then None else Some path
