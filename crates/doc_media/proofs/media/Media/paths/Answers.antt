use Rattle.std.proofs.Common.{ap, sym, ◌∙◌}
use Rattle.std.specs.FinMap as map
use Rattle.std.specs.Map.{keys_of}
use Rattle.std.proofs.lemmas.Map.Made.{keys_of-map_values}
use Rattle.doc_store_readers.proofs.MapValues.{entries-map_values}
use Rattle.doc_media.specs.Held.{page_of}
use Rattle.doc_media.proofs.media.Media.paths.Goals as goal

pub returns : goal.returns
returns c =
    let held = c.self.inside.held in
    c.paths.ensures ∙ sym (keys_of-map_values page_of (map.entries held)) ∙ ap keys_of (sym (entries-map_values page_of held))
    ∙ ap map.keys c.self.view_is
