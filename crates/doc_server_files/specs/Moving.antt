-- READMEs become the indexes of their folders: the moves by which they do.
use Rattle.std.specs.Prelude.{List, map}
use Rattle.doc_store.specs.Store.{move_page}
use Rattle.doc_store.specs.declared.site_edit.SiteEdit.{SiteEdit}
use Rattle.doc_server_config.specs.declared.readme.Move.{Move}

-- the edits that some moves are
abbrev pub edits_of_moves : List Move → List SiteEdit
edits_of_moves moves = map (λ one. move_page one.from one.to) moves
