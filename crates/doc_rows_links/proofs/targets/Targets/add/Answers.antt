use Rattle.std.proofs.Common.{ap, string_bytes, sym, ◌∙◌}
use Rattle.std.specs.Prelude.{bytes_eq}
use Rattle.std.specs.FinMap as map
use Rattle.doc_index_tables.proofs.TableSteps.{inserted_text}
use Rattle.doc_links_pages.specs.Names.{writes}
use Rattle.doc_rows_links.proofs.PlaceSteps.{not_page}
use Rattle.doc_rows_links.proofs.TargetSteps.{nothing_more, one_more}
use Rattle.doc_rows_links.proofs.targets.Targets.add.Goals as goal
use Rattle.doc_store_readers.proofs.KeySteps.{bytes_eq_is}

pub returns : goal.returns
returns c =
    one_more c.args.self.now _ c.args.link.now c.text.result.now
    (λ t. ap (writes t) c.in-Page.is ∙ ap (bytes_eq t) (sym c.text.ensures) ∙ bytes_eq_is t c.text.result.now)
    (inserted_text c.self.inside.paths c.insert.new.self (string_bytes c.in_ok-from_str.field-0) tt c.in_ok-insert.ensures.updates
    ∙ (λ i. map.insert (c.self.view_is i) (c.in_ok-from_str.ensures.ok i) tt))

pub returns-in_default : goal.returns-in_default
returns-in_default c = nothing_more c.args.self.now c.args.link.now (not_page c.args.link.now c.in_default.not-Page)
