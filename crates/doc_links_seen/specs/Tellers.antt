-- What else is told of pages behind their broken links.
use Rattle.std.specs.Prelude.{◌≡◌, ℕ, List, IsTrue}
use Rattle.std.specs.FinMap as map
use Rattle.doc_index_tables.specs.Maps.{PairMap}
use Rattle.doc_links_pages.specs.declared.answers.Broken.{Broken}

-- what is told of these pages, each held under a path and a stamp, doesn't hang on the stamp: it is this, by the path alone
abbrev pub AreToldOf : {X : Type 0} → (List ℕ → ℕ → List Broken) → (List ℕ → List Broken) → PairMap X → Type 0
AreToldOf told behind pages =
    (path : List ℕ) (stamp : ℕ) → IsTrue (map.contains_key pages (path, stamp)) → told path stamp ≡ behind path
