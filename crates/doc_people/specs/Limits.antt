-- How much the pages for people show. All of this is this project's choice.
use Rattle.std.specs.Prelude.{ℕ}

-- bytes of the site's title
abbrev pub title_limit : ℕ
title_limit = 100

-- bytes of the language
abbrev pub language_limit : ℕ
language_limit = 35

-- bytes of each part of the language
abbrev pub subtag_limit : ℕ
subtag_limit = 8

-- entries of the navigation before a page
abbrev pub before_limit : ℕ
before_limit = 30

-- and from the page on
abbrev pub after_limit : ℕ
after_limit = 60

-- headings that a page lists
abbrev pub heading_limit : ℕ
heading_limit = 100

-- the deepest level of one of these
abbrev pub level_limit : ℕ
level_limit = 3

-- pages that a page lists as leading to it
abbrev pub aside_limit : ℕ
aside_limit = 20

-- entries of one page of contents or backlinks
abbrev pub list_limit : ℕ
list_limit = 200

-- pages of one page of broken links
abbrev pub source_limit : ℕ
source_limit = 50

-- links of each of these
abbrev pub link_limit : ℕ
link_limit = 50

-- hits that are shown
abbrev pub hit_limit : ℕ
hit_limit = 50

-- bytes that the last word of a query has at least to stand for all words that begin with it
abbrev pub prefix_least : ℕ
prefix_least = 3

-- bytes of a page's texts in which a snippet is sought
abbrev pub read_limit : ℕ
read_limit = 65536

-- characters of a snippet before the first match
abbrev pub lead_limit : ℕ
lead_limit = 60

-- characters of a snippet in all
abbrev pub snippet_limit : ℕ
snippet_limit = 200

-- characters of a title in a link
abbrev pub short_limit : ℕ
short_limit = 80
