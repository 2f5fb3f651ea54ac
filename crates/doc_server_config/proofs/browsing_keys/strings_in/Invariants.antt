use Rattle.std.proofs.Common.{◌≡◌, map, drop}
use Rattle.toml.specs.View.{items_view}
use Rattle.doc_store_readers.specs.Readers.{strings_in}
use Rattle.doc_store_readers.proofs.EntrySteps.{strings_after}
use Rattle.doc_server_config.proofs.browsing_keys.strings_in.Given as goal

abbrev pub invariant-loop-value : goal.invariant-loop-value
invariant-loop-value l = strings_in (items_view l.array.items) ≡ strings_after (map (λ text. text.now) l.texts.items)
    (items_view (drop l.value-index l.array.items))
