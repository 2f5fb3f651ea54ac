use Rattle.doc_words_search.proofs.key.front_of.Goals as goal

pub returns-clause-bytes : goal.returns-clause-bytes
returns-clause-bytes c = λ i. (c.type_inv.bytes i).fits
