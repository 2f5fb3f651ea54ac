use Rattle.std.proofs.Common.{◌≡◌, filter, take}
use denote.Text.{Utf8}
use denote.Shadow.{shadow}
use Rattle.doc_people.specs.Snippets.{best_text}
use Rattle.doc_people_search.specs.Reading.{is_read, least_of}
use Rattle.doc_people_search.proofs.best.best_text.Given as goal

-- the best of those so far, and how many terms a better one meets at least
abbrev pub invariant-loop-text : goal.invariant-loop-text
invariant-loop-text l = record {
  is_text : shadow (Utf8 l.best);
  best : l.best ≡ best_text l.terms (filter (is_read l.title) (take l.text-index l.text-items));
  least : l.least ≡ least_of l.terms (filter (is_read l.title) (take l.text-index l.text-items));
}
