use Rattle.std.proofs.Common.{map, string_bytes, ap, sym, ◌∙◌}
use Rattle.std.specs.List.{list_all}
use Rattle.doc_store_readers.specs.Groups.{texts_of}
use Rattle.doc_server_config.proofs.KeySteps.{keys_in_view}
use Rattle.doc_server_config.specs.Keys.{is_one_of}
use Rattle.doc_server_config.proofs.table.has_only.Goals as goal

pub loop-key-init : goal.loop-key-init
loop-key-init c =
    ap (list_all (is_one_of (texts_of c.args.keys.now))) (keys_in_view c.args.table.now.entries ∙ ap (map string_bytes)
    (sym (c.into_iter-key-iterator.ensures.into_iter_gives ∙ c.keys-key-items.ensures.rest)))
