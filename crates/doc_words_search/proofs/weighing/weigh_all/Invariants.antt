use Rattle.std.proofs.Common.{take}
use Rattle.doc_words_search.specs.SearchSteps.{AreWeighed, pages_at, rarity_in}
use Rattle.doc_words_search.proofs.weighing.weigh_all.Given as goal

-- the words so far
abbrev pub invariant-loop-word : goal.invariant-loop-word
invariant-loop-word l = AreWeighed l.pages (rarity_in l.count (pages_at l.pages l.seen)) (take l.word-index l.words) l.all.items
