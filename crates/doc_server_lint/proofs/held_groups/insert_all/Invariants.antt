use Rattle.std.proofs.Common.{◌≡◌, drop}
use Rattle.doc_server_lint.specs.Warnings.{with_texts}
use Rattle.doc_server_lint.proofs.held_groups.insert_all.Given as goal

-- with the texts that are left
abbrev pub invariant-loop-text : goal.invariant-loop-text
invariant-loop-text l = with_texts l.rows (drop l.text-index l.texts) l.row ≡ with_texts l.initial.rows l.texts l.row
