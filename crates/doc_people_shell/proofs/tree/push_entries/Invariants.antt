use Rattle.std.proofs.Common.{◌≡◌, ◌++◌, option_copied, string_bytes, take}
use Rattle.std.specs.List.{flat_map}
use Rattle.doc_people_shell.specs.Items.{shown_item}
use Rattle.doc_people_shell.proofs.tree.push_entries.Given as goal

-- the entries so far are written
abbrev pub invariant-loop-key : goal.invariant-loop-key
invariant-loop-key g l =
    string_bytes l.out ≡ string_bytes l.fn.out
    ++ flat_map (shown_item (g.V.Viewed.render l.view) (g.V.Viewed.view l.view) (option_copied l.at) l.index) (take l.key-index l.keys)
