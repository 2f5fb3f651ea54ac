use Rattle.std.proofs.Common.{◌-◌, length, ap, ◌∙◌}
use Rattle.doc_rows_folders.proofs.KeySteps.{last_of_all}
use Rattle.doc_rows_folders.proofs.keys.keys_before_of_all.Goals as goal

pub returns : goal.returns
returns c = λ site are.
    c.new.ensures
    ∙ last_of_all site c.args.reader.now c.args.folder.now 18446744073709551615 c.args.most c.saturating_sub-surplus.result
    c.args.before.now c.get-keys.result.now c.in_ok-found.found.items c.in_ok-split_off.field-0.items
    (c.get-keys.ensures ∙ c.in_ok-all.ensures site are) c.if-keys.false c.in_ok-found.ensures
    (c.saturating_sub-surplus.ensures ∙ ap (λ xs. length xs - c.args.most) c.as_slice.ensures.value) c.in_ok-split_off.ensures.tail
