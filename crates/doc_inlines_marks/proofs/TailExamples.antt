-- Examples: tails of links (section 6.3).
use Rattle.std.proofs.Common.{◌≡◌, refl}
use Rattle.std.specs.Prelude.{Some, None, codes}
use Prim.Native.String.{String}
use Rattle.doc_rules.proofs.Computing.{inline_words}
use Rattle.doc_rules.specs.Definitions.{definitions_of}
use Rattle.doc_rules.specs.Rules.{built_in_rules}
use Rattle.doc_rules.specs.Links.{Tail, inline_tail, link_tail}

-- the inline tail of a text
abbrev tail_of : String → Tail
tail_of rest = inline_tail built_in_rules (codes rest)

-- a tail without a title, and one with a title, with the text behind it
abbrev leads_to : String → String → Tail
leads_to dest behind = Some (record { dest = codes dest; title = None }, codes behind)

abbrev leads_to_titled : String → String → String → Tail
leads_to_titled dest title behind = Some (record { dest = codes dest; title = Some (codes title) }, codes behind)

-- ---- inline tails

inline_tails :
    (tail_of "(/url \"title\") more" ≡ leads_to_titled "/url" "title" " more")
    × (tail_of "(/url 'title')" ≡ leads_to_titled "/url" "title" "")
    × (tail_of "(/url (title))" ≡ leads_to_titled "/url" "title" "")
    × (tail_of "( \t/url\n\"\" )" ≡ leads_to_titled "/url" "" "")
    × (tail_of "(<b)c>)" ≡ leads_to "b)c" "")
    × (tail_of "(<>)" ≡ leads_to "" "")
    × (tail_of "(foo(bar))" ≡ leads_to "foo(bar)" "")
    × (tail_of "()x" ≡ leads_to "" "x")
    × (tail_of "(\\)&auml;)" ≡ Some (record { dest = codes ")ä"; title = None }, codes ""))
unfolding inline_words
inline_tails = (refl, refl, refl, refl, refl, refl, refl, refl, refl)

-- a title alone is a destination, or no tail (this project's choice); a title needs white space before it
only_titles :
    (tail_of "(\"t\")" ≡ leads_to "\"t\"" "")
    × (tail_of "(\"a b\")" ≡ None)
    × (tail_of "(<a>\"t\")" ≡ None)
unfolding inline_words
only_titles = (refl, refl, refl)

no_inline_tails :
    (tail_of " (/url)" ≡ None)
    × (tail_of "(/url" ≡ None)
    × (tail_of "(/my url)" ≡ None)
    × (tail_of "(<a\nb>)" ≡ None)
    × (tail_of "(foo(bar)" ≡ None)
    × (tail_of "(/url \"a\n\nb\")" ≡ None)
unfolding inline_words
no_inline_tails = (refl, refl, refl, refl, refl, refl)

-- ---- references

-- the tail behind this text between brackets, where these definitions stand
abbrev tail_behind : String → String → String → Tail
tail_behind definitions between rest = link_tail built_in_rules (definitions_of built_in_rules (codes definitions)).0 (codes between) (codes rest)

references :
    (tail_behind "[foo]: /url 't'\n" "text" "[Foo] more" ≡ leads_to_titled "/url" "t" " more")
    × (tail_behind "[foo]: /url\n" "foo" "[] more" ≡ leads_to "/url" " more")
    × (tail_behind "[foo]: /url\n" "foo" " more" ≡ leads_to "/url" " more")
    × (tail_behind "[foo]: /url\n" "foo" "[ ]" ≡ leads_to "/url" "[ ]")
    × (tail_behind "[foo]: /url\n" "bar" "" ≡ None)
unfolding inline_words
references = (refl, refl, refl, refl, refl)

-- a label that follows and names nothing gives no link: the text between the brackets does not count then
unknown_label : tail_behind "[foo]: /url\n" "foo" "[bar]" ≡ None
unfolding inline_words
unknown_label = refl

-- the inline form counts first, and where it fails the reference
inline_first :
    (tail_behind "[foo]: /url\n" "foo" "(/other)" ≡ leads_to "/other" "")
    × (tail_behind "[foo]: /url\n" "foo" "(no tail)" ≡ leads_to "/url" "(no tail)")
unfolding inline_words
inline_first = (refl, refl)

-- brackets in the text stand in no label
no_label : tail_behind "[foo]: /url\n" "a [foo]" "" ≡ None
unfolding inline_words
no_label = refl
