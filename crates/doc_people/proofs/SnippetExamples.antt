-- Examples: terms of queries, which pages they find in which order, and what is shown of those.
use Rattle.std.proofs.Common.{◌≡◌, ℕ, List, [], ◌∷◌, ◌++◌, true, false, replicate, refl, ap}
use Rattle.std.specs.Prelude.{codes}
use Rattle.std.specs.List.{repeat}
use Rattle.doc_page_parts.specs.declared.rendered.Rendered.{Rendered}
use Rattle.doc_people.specs.Hits.{hits, rarity}
use Rattle.doc_people.specs.Snippets.{best_text, parts, snippet, snippet_of, texts_read, within}
use Rattle.doc_people.specs.Terms.{meets, terms_of}
use Rattle.doc_people.specs.declared.term.Term.{Term}
use Rattle.doc_people.specs.declared.term.Term.TheVariants.{Exact, Prefix}
use Rattle.doc_people.proofs.Computing.{search_words}
use Rattle.doc_people.proofs.QuerySteps.{exact_are}
use Rattle.doc_people.proofs.Sites.{demo, guide}

-- ---- terms

meetings :
    (meets (Exact (codes "kiwi")) (codes "kiwi") ≡ true)
    × (meets (Exact (codes "kiwi")) (codes "kiwis") ≡ false)
    × (meets (Prefix (codes "kiwi")) (codes "kiwis") ≡ true)
    × (meets (Prefix (codes "kiwi")) (codes "kiwi") ≡ true)
    × (meets (Prefix (codes "kiwi")) (codes "kiw") ≡ false)
unfolding search_words
meetings = (refl, refl, refl, refl, refl)

-- the last word stands for all that begin with it
last_word : terms_of (codes "plum On KIW") ≡ Exact (codes "on") ∷ Exact (codes "plum") ∷ Prefix (codes "kiw") ∷ []
unfolding search_words
last_word = ap (λ terms. terms ++ Prefix (codes "kiw") ∷ []) (exact_are (codes "plum" ∷ codes "on" ∷ []))

-- where it has three bytes
short_last_word : terms_of (codes "plum On on k") ≡ Exact (codes "k") ∷ Exact (codes "on") ∷ Exact (codes "plum") ∷ []
unfolding search_words
short_last_word = exact_are (codes "plum" ∷ codes "on" ∷ codes "on" ∷ codes "k" ∷ [])

-- ---- hits

abbrev texts : List (List ℕ) → Rendered
texts them = record { pieces = []; headings = []; texts = them; images = [] }

-- the title of `r.md` has the word, and so has the path of `kiwi.md`; `s.md` has no word
abbrev five : List (List ℕ × Rendered)
five =
    (codes "kiwi.md", texts []) ∷ (codes "p.md", texts (codes "kiwi plum" ∷ [])) ∷ (codes "q.md", texts (codes "kiwi kiwis" ∷ []))
    ∷ (
      codes "r.md",
      record (texts (codes "Kiwi!" ∷ codes "a kiwi" ∷ [])) {
        headings = record { level = 1; anchor = codes "kiwi"; text = codes "Kiwi!" } ∷ [];
      },
    ) ∷ (codes "s.md", texts (codes "plum" ∷ [])) ∷ []

kiwi_hits : hits five (Prefix (codes "kiw") ∷ [])
    ≡ record { path = codes "r.md"; score = 2 } ∷ record { path = codes "kiwi.md"; score = 0 }
    ∷ record { path = codes "q.md"; score = 2 } ∷ record { path = codes "p.md"; score = 1 } ∷ []
unfolding search_words
kiwi_hits = refl

-- a term that no page has weighs nothing, and a page that has only one of two terms isn't found
both_words : (hits five (Exact (codes "kiwi") ∷ Exact (codes "plum") ∷ []) ≡ record { path = codes "p.md"; score = 3 } ∷ [])
    × (rarity five (Exact (codes "plum")) ≡ 2)
    × (rarity five (Exact (codes "pear")) ≡ 0)
    × (hits five (Exact (codes "pear") ∷ []) ≡ [])
unfolding search_words
both_words = (refl, refl, refl, refl)

-- ---- which text is shown

which :
    (within 6 (codes "abc" ∷ codes "def" ∷ codes "g" ∷ [] ∷ []) ≡ codes "abc" ∷ codes "def" ∷ [])
    × (within 5 (codes "abc" ∷ codes "def" ∷ codes "g" ∷ []) ≡ codes "abc" ∷ [])
    × (texts_read (codes "The guide") (demo guide) ≡ codes "See a." ∷ codes "Use" ∷ codes "On kiwis & plums." ∷ [])
    × (best_text (Exact (codes "a") ∷ Exact (codes "b") ∷ []) (codes "c" ∷ codes "a" ∷ codes "b a" ∷ codes "a b" ∷ []) ≡ codes "b a")
    × (best_text (Exact (codes "d") ∷ []) (codes "c" ∷ codes "a" ∷ []) ≡ codes "c")
unfolding search_words
which = (refl, refl, refl, refl, refl)

-- ---- snippets

of_the_guide :
    (snippet (Exact (codes "on") ∷ Prefix (codes "kiw") ∷ []) (codes "g/guide.md", demo guide)
    ≡ codes "<mark>On</mark> <mark>kiwis</mark> &amp; plums.")
    × (snippet (Exact (codes "pear") ∷ []) (codes "g/guide.md", demo guide) ≡ codes "See a.")
    × (snippet (Exact (codes "pear") ∷ []) (codes "a.md", texts []) ≡ [])
unfolding search_words
of_the_guide = (refl, refl, refl)

in_parts : parts (codes "On kiwi-42!")
    ≡ codes "On" ∷ codes " " ∷ codes "kiwi" ∷ codes "-" ∷ codes "42" ∷ codes "!" ∷ []
unfolding search_words
in_parts = refl

abbrev kiwi : List Term
kiwi = Exact (codes "kiwi") ∷ []

abbrev marked : List ℕ
marked = codes "<mark>kiwi</mark>"

abbrev left_out : List ℕ
left_out = 0xE2 ∷ 0x80 ∷ 0xA6 ∷ []

-- 60 characters before the match at most, and there from a word on
begins :
    (snippet_of kiwi (repeat 12 (codes "aaaa ") ++ codes "kiwi") ≡ repeat 12 (codes "aaaa ") ++ marked)
    × (snippet_of kiwi (repeat 13 (codes "aaaa ") ++ codes "kiwi") ≡ left_out ++ repeat 12 (codes "aaaa ") ++ marked)
    × (snippet_of kiwi (codes "bb" ++ repeat 13 (codes "aaaa ") ++ codes "kiwi") ≡ left_out ++ repeat 12 (codes "aaaa ") ++ marked)
    × (snippet_of kiwi (codes "b" ++ repeat 13 (codes "aaaa ") ++ codes ". kiwi") ≡ left_out ++ repeat 11 (codes "aaaa ") ++ codes ". "
    ++ marked)
    -- where no white space stands there, from the match on
    × (snippet_of kiwi (replicate 100 46 ++ codes "kiwi") ≡ left_out ++ marked)
unfolding search_words
begins = (refl, refl, refl, refl, refl)

-- 200 characters in all at most, and there to a word's end
ends :
    (snippet_of kiwi (codes "kiwi" ++ repeat 98 (codes " b")) ≡ marked ++ repeat 98 (codes " b"))
    × (snippet_of kiwi (codes "kiwi" ++ repeat 99 (codes " b")) ≡ marked ++ repeat 98 (codes " b") ++ left_out)
    × (snippet_of kiwi (codes "kiwi." ++ repeat 99 (codes " b")) ≡ marked ++ codes "." ++ repeat 97 (codes " b") ++ left_out)
    -- where no white space stands there, after 200
    × (snippet_of kiwi (codes "kiwi" ++ replicate 300 46) ≡ marked ++ replicate 196 46 ++ left_out)
unfolding search_words
ends = (refl, refl, refl, refl)
