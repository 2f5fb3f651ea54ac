use Rattle.std.proofs.Common.{◌≡◌, is_some, sum_by, take, true}
use Rattle.std.specs.List.{list_all}
use Rattle.doc_words_search.specs.SearchSteps.{count_at, weight_at}
use Rattle.doc_words_search.specs.Words.{capped}
use Rattle.doc_words_search.proofs.weighing.score_of.Given as goal

-- each word so far is there, with its weight in the score
abbrev pub invariant-loop-word : goal.invariant-loop-word
invariant-loop-word l = record {
  all : list_all (λ word. is_some (count_at word.postings l.slot)) (take l.word-index l.words) ≡ true;
  score : l.score ≡ capped (sum_by (weight_at l.slot) (take l.word-index l.words));
}
