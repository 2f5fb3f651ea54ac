-- What a cache ends as, once a text of it is let go.
use Rattle.std.specs.Prelude.{◌≡◌, ⊤}
use Rattle.std.specs.Borrow.{Fml, MutBor, follows_so}
use mathlib.Core.Option.{none}
use Rattle.doc_cache.specs.Caches.{Cached}
use Rattle.doc_cache.specs.contracts.cache.PageCache.{the_row}

-- the cache ends as this one
abbrev pub EndsAs : MutBor Cached → Cached → Fml
EndsAs cache end = follows_so the_row the_row cache.ghost_name none (λ _ _. ⊤) (λ last. last ≡ end)
