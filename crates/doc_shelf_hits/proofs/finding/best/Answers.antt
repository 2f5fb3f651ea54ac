use Rattle.std.proofs.Common.{ap, ap₂, take, ◌++◌, ◌∙◌}
use Rattle.std.specs.Prelude.{map as mapped}
use Rattle.std.specs.List.{flat_map}
use Rattle.doc_words_search.proofs.SearchSteps.{told}
use Rattle.doc_words_search.specs.SearchSteps.{hit_of}
use Rattle.doc_words_search.specs.Searches.{ranked}
use Rattle.doc_shelf_hits.proofs.FoundSteps.{hits_are}
use Rattle.doc_shelf_hits.specs.Candidates.{hit_if, is_other, known_of}
use Rattle.doc_shelf_hits.specs.declared.candidates.Candidate.{Candidate}
use Rattle.doc_shelf_hits.proofs.finding.best.Goals as goal

pub returns : goal.returns
returns c pages are =
    let candidates = c.args.candidates.now in
    told c.first_of_both.result (λ hs is. is
    ∙ ap (take c.args.most)
    (ap₂ (λ xs ys. ranked (mapped hit_of xs) ++ ranked (mapped hit_of ys)) c.deref_mut.ensures.value c.deref_mut-2.ensures.value
    ∙ hits_are pages c.args.terms.now candidates are c.in_ok-rarities.rarities.items (c.in_ok-rarities.ensures pages are)
    (mapped hit_of c.in_ok-named.named.items) (mapped hit_of c.in_ok-others.others.items)
    (c.in_ok-named.ensures
    ∙ ap (λ rs. flat_map (λ (x : Candidate). hit_if rs x.named (known_of x)) candidates) c.deref.ensures.value)
    (c.in_ok-others.ensures
    ∙ ap (λ rs. flat_map (λ (x : Candidate). hit_if rs (is_other (known_of x)) (known_of x)) candidates) c.deref-2.ensures.value)))
    c.first_of_both.ensures
