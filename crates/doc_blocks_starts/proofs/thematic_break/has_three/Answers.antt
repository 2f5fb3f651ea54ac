use Rattle.std.proofs.Common.{rules, tests, ◌==◌, ap, nat_le}
use Rattle.std.proofs.lemmas.Iterator.{YieldsList-from_chars}
use Rattle.std.proofs.lemmas.Iterator.Consumers.{YieldsList-from_filter, YieldsList-at, count_from_yields_List}
use Rattle.doc_blocks_starts.proofs.thematic_break.has_three.Goals as goal

pub returns : goal.returns
returns c =
    ap (λ n. nat_le 3 n)
    (count_from_yields_List c.filter.result c.count.result c.count.ensures.ran
    (YieldsList-from_filter _ (λ d. d == c.args.c) (YieldsList-at c.filter.ensures.source
    (YieldsList-from_chars _ c.utf8.text c.chars.ensures.rest)) c.filter.ensures.closure (λ x r q k. search (rules, tests))))
