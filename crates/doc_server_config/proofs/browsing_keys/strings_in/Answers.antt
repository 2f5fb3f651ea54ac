use Rattle.std.proofs.Common.{◌≡◌, ◌+◌, drop, sym, ◌∙◌, subst}
use Rattle.toml.specs.Data.{no_items, item}
use Rattle.toml.specs.View.{items_view, view}
use Rattle.doc_store_readers.proofs.EntrySteps.{row_more, rows_done, string_bad, string_more, strings_done, strings_first}
use Rattle.doc_server_config.proofs.browsing_keys.strings_in.Goals as goal

pub loop-value-init : goal.loop-value-init
loop-value-init c = strings_first c.in_ok-texts.texts.items (items_view c.args.array.now.items) c.in_ok-texts.ensures.items

pub loop-value-preserved : goal.loop-value-preserved
loop-value-preserved c =
    let i = c.loop-value.value-index in
    let rows = subst (λ values. items_view (drop i values) ≡ item (view c.value-item.result) (items_view (drop (i + 1) values)))
    c.deref-value-items.ensures.value
    (row_more c.deref-value-items.result.now i c.value-item.result c.loop-value-test.true c.value-item.is) in
    c.loop-value.invariant ∙ string_more c.loop-value.texts.items c.push.new.self.items _ _ _ c.in-Some.text rows
    (sym c.in-Some.ensures) c.in_ok-push.ensures.items

pub returns-in_default : goal.returns-in_default
returns-in_default c =
    let i = c.loop-value.value-index in
    let rows = subst (λ values. items_view (drop i values) ≡ item (view c.value-item.result) (items_view (drop (i + 1) values)))
    c.deref-value-items.ensures.value
    (row_more c.deref-value-items.result.now i c.value-item.result c.loop-value-test.true c.value-item.is) in
    sym (c.loop-value.invariant ∙ string_bad c.loop-value.texts.items _ _ _ rows (sym c.in_default.ensures))

pub returns : goal.returns
returns c =
    let rows = subst (λ values. items_view (drop c.loop-value.value-index values) ≡ no_items) c.deref-value-items.ensures.value
    (rows_done c.deref-value-items.result.now c.loop-value.value-index c.loop-value-test.false) in
    sym (c.loop-value.invariant ∙ strings_done c.loop-value.texts.items _ rows)
