use Rattle.std.proofs.Common.{◌++◌, ◌∷◌, [], ap, string_bytes, ◌∙◌}
use Rattle.std.specs.Prelude.{map as mapped}
use Rattle.doc_words_search.specs.Words.{counts_of}
use Rattle.doc_words_search.specs.WordSteps.{one_more}
use Rattle.doc_words_search.proofs.CountSteps.{counted_between}
use Rattle.doc_words_search.proofs.counter.Counter.add_plain.Goals as goal

pub returns : goal.returns
returns c =
    ap (λ ws. counts_of (ws ++ mapped string_bytes c.self.inside.others.items))
    (c.in_ok-push.ensures.items ∙ ap (λ w. c.self.inside.plain.items ++ w ∷ []) c.new.ensures)
    ∙ counted_between c.self.inside.plain.items c.args.word.now (mapped string_bytes c.self.inside.others.items)
    ∙ ap (λ counts. one_more counts c.args.word.now) c.self.view_is
