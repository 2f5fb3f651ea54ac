use Rattle.std.proofs.Common.{ap, cond, sym, ◌+◌, ◌∙◌}
use Rattle.std.specs.Prelude.{bytes_eq}
use Rattle.std.proofs.lemmas.Result.{on_ok_weaker}
use Rattle.doc_index_tables.specs.Maps.{text_map}
use Rattle.doc_links_pages.specs.KnownSteps.{count_at}
use Rattle.doc_links_pages.specs.Names.{writes}
use Rattle.doc_links_pages.proofs.CountSteps.{one_counted, one_some}
use Rattle.doc_links_pages.proofs.keys.count_link.Goals as goal

pub returns-clause-counts : goal.returns-clause-counts
returns-clause-counts c =
    on_ok_weaker c.add_one.result (λ is path.
    one_counted (text_map c.args.keys.now) (text_map c.add_one.new.keys) c.text.result.now is path
    ∙ ap (λ written. count_at (text_map c.args.keys.now) path + cond (bytes_eq path written) 1 0) c.text.ensures
    ∙ ap (λ link. count_at (text_map c.args.keys.now) path + cond (writes path link) 1 0) (sym c.in-Page.is)) c.add_one.ensures

pub returns-clause-some : goal.returns-clause-some
returns-clause-some c =
    on_ok_weaker c.add_one.result (λ is some.
    one_some (text_map c.args.keys.now) (text_map c.add_one.new.keys) c.text.result.now is some) c.add_one.ensures
