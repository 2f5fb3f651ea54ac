use Rattle.std.proofs.Common.{◌≡◌}
use Rattle.std.specs.FinMap as map
use Rattle.doc_hub.specs.Worlds.{are_no_names}
use Rattle.doc_hub.proofs.media_to_set.have_no_names.Given as goal

-- none of the paths that are left is a name where none of all is
abbrev pub invariant-loop-path : goal.invariant-loop-path
invariant-loop-path l = are_no_names l.store.site l.path-iterator ≡ are_no_names l.store.site (map.keys l.media)
