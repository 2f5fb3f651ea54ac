use Rattle.std.proofs.Common.{◌++◌, map, string_bytes, ap, sym, ◌∙◌}
use Rattle.std.specs.List.{flat_map}
use Rattle.doc_server_lint_faults.specs.Rules.{keys_of, names_of}
use Rattle.doc_server_lint_faults.specs.Unknown.{unknown_key}
use Rattle.doc_server_lint_faults.proofs.KeySteps.{keys_in_view}
use Rattle.doc_server_lint_faults.proofs.unknown.push_unknown_keys.Goals as goal

pub loop-key-init : goal.loop-key-init
loop-key-init c =
    ap (λ keys. c.args.found.now.items
    ++ flat_map (unknown_key c.args.is_fault c.args.place (names_of (keys_of c.args.known.now))) keys)
    (ap (map string_bytes) (c.into_iter-key-iterator.ensures.into_iter_gives ∙ c.keys-key-items.ensures.rest)
    ∙ sym (keys_in_view c.args.table.now.entries))
