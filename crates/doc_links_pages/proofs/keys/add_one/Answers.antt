use Rattle.std.proofs.Common.{ap, ap₂, string_bytes, ◌+◌, ◌∙◌}
use Rattle.std.specs.FinMap as map
use Rattle.doc_index_tables.specs.Maps.{text_map}
use Rattle.doc_index_tables.proofs.TableSteps.{inserted_text}
use Rattle.doc_links_pages.proofs.keys.add_one.Goals as goal

pub returns : goal.returns
returns c =
    inserted_text c.args.keys.now c.insert.new.self (string_bytes c.in_ok-from_str.field-0) c.in-Some.count c.in_ok-insert.ensures.updates
    ∙ ap₂ (λ text n. map.insert (text_map c.args.keys.now) text n) c.in_ok-from_str.ensures.ok
    (c.in-Some.ensures.1 ∙ ap (λ n. n + 1) c.count_of.ensures)
