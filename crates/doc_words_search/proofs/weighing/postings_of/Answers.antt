use Rattle.std.specs.Prelude.{option_copied}
use Rattle.doc_index_tables.specs.TableSteps.{number_in}
use Rattle.doc_words_search.proofs.PlaceSteps.{places_count}
use Rattle.doc_words_search.proofs.weighing.postings_of.Goals as goal

pub returns : goal.returns
returns c =
    places_count c.args.pages.now c.args.word.now c.text.result.now c.in_ok-counts_in.field-0.items
    (number_in (option_copied c.of_key-row.result)) c.last_slot.result c.in-Some.count c.text.ensures c.in-Some.ensures.1
    c.last_slot.ensures c.of_key-row.ensures c.in_ok-counts_in.ensures.each c.in_ok-counts_in.ensures.past
