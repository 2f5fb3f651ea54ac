use Rattle.std.proofs.Common.{◌≡◌, ◌∙◌, ap, rules, subst}
use Rattle.std.specs.List.Sorted.{IsBinarySearchResult}
use Rattle.std.specs.Ordering.{nat_cmp}
use Rattle.std.proofs.lemmas.List.Sorted.{answers_always}
use Rattle.doc_index_tables.specs.Pairs.{pairs_in}
use Rattle.doc_index_tables.proofs.pairs.Pairs.search_by_halves.Goals as goal

pub returns-in-Small-clause-place : goal.returns-in-Small-clause-place
returns-in-Small-clause-place c =
    let kept : c.in-Small.pairs.items ≡ c.args.self.now = cc (ap pairs_in c.in-Small.is) in
    subst (λ es. IsBinarySearchResult (λ pair. nat_cmp pair.0 c.args.first) es c.binary_search_by_key.result) (c.deref.ensures.value ∙ kept)
    (c.binary_search_by_key.ensures.position (λ pair. pair.0) (answers_always _ _ _ (λ f a r g called. search rules)))

pub returns-in-Narrow-clause-place : goal.returns-in-Narrow-clause-place
returns-in-Narrow-clause-place c =
    let kept : c.in-Narrow.pairs.items ≡ c.args.self.now = cc (ap pairs_in c.in-Narrow.is) in
    subst (λ es. IsBinarySearchResult (λ pair. nat_cmp pair.0 c.args.first) es c.binary_search_by_key-in-Narrow.result)
    (c.deref-in-Narrow.ensures.value ∙ kept)
    (c.binary_search_by_key-in-Narrow.ensures.position (λ pair. pair.0) (answers_always _ _ _ (λ f a r g called. search rules)))

pub returns-in-Wide-clause-place : goal.returns-in-Wide-clause-place
returns-in-Wide-clause-place c =
    let kept : c.in-Wide.pairs.items ≡ c.args.self.now = cc (ap pairs_in c.in-Wide.is) in
    subst (λ es. IsBinarySearchResult (λ pair. nat_cmp pair.0 c.args.first) es c.binary_search_by_key-in-Wide.result)
    (c.deref-in-Wide.ensures.value ∙ kept)
    (c.binary_search_by_key-in-Wide.ensures.position (λ pair. pair.0) (answers_always _ _ _ (λ f a r g called. search rules)))
