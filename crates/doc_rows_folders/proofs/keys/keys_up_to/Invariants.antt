use Rattle.std.proofs.Common.{◌≡◌, ◌++◌, drop}
use Rattle.std.specs.Prelude.{filter}
use Rattle.doc_people.specs.Navigation.{is_before}
use Rattle.doc_rows_folders.proofs.keys.keys_up_to.Given as goal

-- those so far, and those of the texts that are left
abbrev pub invariant-loop-key : goal.invariant-loop-key
invariant-loop-key l = l.found.items ++ filter (λ key. is_before key l.before) (drop l.key-index l.keys)
    ≡ filter (λ key. is_before key l.before) l.keys
