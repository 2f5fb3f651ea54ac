use Rattle.std.proofs.Common.{◌≡◌, true, false, Some, refl, ap, sym, ◌∙◌}
use Rattle.toml.proofs.Views.{table_get}
use Rattle.toml.specs.View.{array_view, items_view}
use Rattle.doc_store_readers.specs.Readers.{are_tables, tables_at, tables_of}
use Rattle.doc_store_readers.proofs.tables.tables_at.Goals as goal

pub returns-in_default : goal.returns-in_default
returns-in_default c =
    let found = table_get c.get.result (c.args.key.now) c.args.document.now.entries c.get.ensures.value in
    let absent = rw c.in_default.is at found in
    sym (ap tables_at (sym absent))

pub returns-in_default-as_array : goal.returns-in_default-as_array
returns-in_default-as_array c =
    let found = table_get c.get.result (c.args.key.now) c.args.document.now.entries c.get.ensures.value in
    let here = rw c.in-Some.is at found in
    sym (ap tables_at (sym here) ∙ ap tables_of (sym c.in_default-as_array.ensures))

pub returns-then-not-are_tables : goal.returns-then-not-are_tables
returns-then-not-are_tables c =
    let found = table_get c.get.result (c.args.key.now) c.args.document.now.entries c.get.ensures.value in
    let here = rw c.in-Some.is at found in
    let none : are_tables (array_view c.in-Some-as_array.tables.now) ≡ false =
    ap (λ values. are_tables (items_view values)) (sym c.deref.ensures.value) ∙ sym c.are_tables.ensures ∙ c.if-not-are_tables.true in
    sym (ap tables_at (sym here) ∙ ap tables_of (sym c.in-Some-as_array.ensures) ∙ rw none refl)

pub returns : goal.returns
returns c =
    let found = table_get c.get.result (c.args.key.now) c.args.document.now.entries c.get.ensures.value in
    let here = rw c.in-Some.is at found in
    let all : are_tables (array_view c.in-Some-as_array.tables.now) ≡ true =
    ap (λ values. are_tables (items_view values)) (sym c.deref.ensures.value) ∙ sym c.are_tables.ensures ∙ c.if-not-are_tables.false in
    sym (ap tables_at (sym here) ∙ ap tables_of (sym c.in-Some-as_array.ensures)
    ∙ rw all (ap (λ values. Some (items_view values)) (sym c.deref-2.ensures.value)))
