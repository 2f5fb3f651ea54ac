use Rattle.std.proofs.Common.{ap, string_bytes, sym, ◌∙◌}
use Rattle.std.specs.Prelude.{option_copied}
use Rattle.std.specs.FinMap as map
use Rattle.doc_index_tables.proofs.TableSteps.{looked_up_text}
use Rattle.doc_rows_links.proofs.WritingLaws.{seen_of_none, seen_of_some, those}
use Rattle.doc_rows_links.proofs.link_rows.LinkRows.first_seen.Goals as goal

pub returns-in_err-get : goal.returns-in_err-get
returns-in_err-get c = λ linking site are.
    ap option_copied c.from_residual.ensures
    ∙ seen_of_none linking c.args.target.now site c.args.reader.now c.args.self.now (string_bytes c.args.from.now) are
    (sym (c.in_err-get.ensures.value ∙ looked_up_text c.self.inside.rows.entries c.args.target.now
    ∙ ap (λ m. map.get m c.args.target.now) c.self.view_is))

pub returns : goal.returns
returns c = λ linking site are.
    seen_of_some linking c.args.target.now site c.args.reader.now c.args.self.now (string_bytes c.args.from.now) are
    c.in_ok-get.field-0.now (option_copied c.first_seen.result)
    (sym (c.in_ok-get.ensures.value ∙ looked_up_text c.self.inside.rows.entries c.args.target.now
    ∙ ap (λ m. map.get m c.args.target.now) c.self.view_is))
    (c.first_seen.ensures (those linking c.args.target.now site c.args.reader.now))
