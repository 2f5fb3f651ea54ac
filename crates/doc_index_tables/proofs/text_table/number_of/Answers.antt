use Rattle.std.proofs.Common.{ap, arith, ◌∙◌}
use Rattle.doc_index_tables.specs.ShortTexts.{number_of}
use Rattle.doc_index_tables.proofs.NumberSteps.{long_has_none, short_has}
use Rattle.doc_index_tables.proofs.text_table.number_of.Goals as goal

pub returns-then-text-gt-SHORT_LIMIT : goal.returns-then-text-gt-SHORT_LIMIT
returns-then-text-gt-SHORT_LIMIT c = long_has_none c.args.text.now (omega arith)

pub returns : goal.returns
returns c =
    (c.packed.ensures ∙ ap number_of c.as_bytes.ensures.value, short_has c.args.text.now (λ i. (c.type_inv.text i).fits) (omega arith))
