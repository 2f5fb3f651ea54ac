use Rattle.std.proofs.Common.{sym, subst, ◌∙◌, ap, ◌++◌, refl, length, nat_le}
use Rattle.doc_http_bodies.proofs.PlaceLemmas.{take_grows}
use Rattle.doc_http.specs.Heads.{head_limit, head_span_in, head_span_of}
use Rattle.doc_http.specs.KnowledgeSteps.{CameTo}
use Rattle.doc_http.proofs.head.find_head.Goals as goal

pub find_in-requires : goal.find_in-requires
unfolding head_limit
find_in-requires c = subst (λ f. CameTo c.args.search f) (sym c.front.ensures) c.requires

pub returns-clause-span : goal.returns-clause-span
unfolding head_limit head_span_of
returns-clause-span c = c.find_in.ensures.span ∙ ap (λ f. head_span_in f (nat_le 16384 (length c.args.bytes.now))) c.front.ensures

pub returns-clause-search : goal.returns-clause-search
unfolding head_limit
returns-clause-search c = λ is more.
    let grown = take_grows 16384 c.args.bytes.now (c.args.bytes.now ++ more) (more, refl) in
    subst (λ f. CameTo c.find_in.result.1 f) (sym (grown.1 ∙ ap (λ f. f ++ grown.0) (sym c.front.ensures)))
    (c.find_in.ensures.search is grown.0)
