use Rattle.std.proofs.Common.{rules, ◌++◌, ◌∷◌, ◌≡◌, ◌∙◌, []}
use Rattle.std.proofs.lemmas.Result.{IfOk-weaker}
use Rattle.doc_words_search.specs.Words.{words_of}
use Rattle.doc_people_search.proofs.TermSteps.{of_last}
use Rattle.doc_people_search.proofs.terms.terms.Goals as goal

pub returns : goal.returns
returns c =
    let all : words_of c.args.query.now ≡ c.pop.new.self.items ++ c.in-Some.last ∷ [] = search rules in
    IfOk-weaker c.terms_with.result _ _ (λ ts is. is ∙ of_last (words_of c.args.query.now) c.pop.new.self.items c.in-Some.last all)
    c.terms_with.ensures
