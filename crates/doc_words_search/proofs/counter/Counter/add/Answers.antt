use Rattle.std.proofs.Common.{◌++◌, ◌∷◌, [], ap, string_bytes, ◌∙◌}
use Rattle.std.specs.Prelude.{map as mapped}
use Rattle.std.proofs.lemmas.List.{map-append}
use Rattle.doc_words_search.specs.Words.{counts_of}
use Rattle.doc_words_search.specs.WordSteps.{one_more}
use Rattle.doc_words_search.proofs.CountSteps.{counted_last}
use Rattle.doc_words_search.proofs.counter.Counter.add.Goals as goal

pub returns : goal.returns
returns c =
    ap (λ ws. counts_of (c.self.inside.plain.items ++ mapped string_bytes ws)) c.in_ok-push.ensures.items
    ∙ ap (λ ws. counts_of (c.self.inside.plain.items ++ ws)) (map-append string_bytes c.self.inside.others.items (c.args.word ∷ []))
    ∙ counted_last c.self.inside.plain.items (mapped string_bytes c.self.inside.others.items) (string_bytes c.args.word)
    ∙ ap (λ counts. one_more counts (string_bytes c.args.word)) c.self.view_is
