use Rattle.std.proofs.Common.{ap, append-nil, chars, map-id, string_bytes, sym, [], ◌++◌, ◌∙◌}
use Rattle.std.proofs.lemmas.Iterator.{YieldsList-from_chars}
use Rattle.std.proofs.lemmas.Iterator.Consumers.{YieldsList-end}
use Rattle.std.proofs.lemmas.Str.{chars-nil}
use Rattle.doc_words_search.specs.WordSteps.{words_after}
use Rattle.doc_words_search.proofs.RunSteps.{from_start}
use Rattle.doc_words_search.proofs.in_order.words_in_order.Goals as goal

pub characters-init : goal.characters-init
characters-init c = λ rest. ap (λ w. w ++ words_after (chars (string_bytes c.in_ok-run.run')) rest) c.new-words.ensures.items
    ∙ ap (λ r. words_after r rest) (ap chars c.in_ok-run.ensures.bytes ∙ chars-nil)

pub returns : goal.returns
returns c =
    let end = YieldsList-end (YieldsList-from_chars c.args.text.now c.utf8.text cc) c.characters.yielded _ c.characters.yielded_by _ _
    c.in-None.is c.next.ensures.steps in
    c.new.ensures ∙ c.in_ok-end_run.ensures.words ∙ c.characters.invariant []
    ∙ ap (words_after []) (append-nil c.characters.yielded ∙ (sym (map-id c.characters.yielded) ∙ end.0))
    ∙ from_start c.args.text.now
