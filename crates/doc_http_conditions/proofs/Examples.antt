-- Worked examples: values of the two fields, and verdicts.
use Rattle.std.proofs.Common.{◌≡◌, ℕ, List, [], ◌∷◌, true, false, Option, Some, None, codes, refl}
use Rattle.doc_page_parts.specs.Lines.{stripped}
use Rattle.doc_http_conditions.specs.declared.comparison.Comparison.TheVariants.{Strong, Weak}
use Rattle.doc_http_conditions.specs.declared.named.Named.TheVariants.{Any, OneOf}
use Rattle.doc_http_conditions.specs.declared.verdict.Failure.TheVariants.{NoPage, OtherVersion, APage, ThisVersion}
use Rattle.doc_http_conditions.specs.declared.verdict.Field.TheVariants.{IfMatch, IfNoneMatch}
use Rattle.doc_http_conditions.specs.declared.verdict.Verdict.TheVariants.{Holds, Unread, Fails, Unchanged}
use Rattle.doc_http_conditions.specs.EntityTags.{EntityTag, is_same, strong_tag}
use Rattle.doc_http_conditions.specs.FieldValues.{named_by}
use Rattle.doc_http_conditions.specs.Lists.{elements}
use Rattle.doc_http_conditions.specs.Verdicts.{verdict_of}

abbrev strong : List ℕ → EntityTag
strong opaque = strong_tag opaque

abbrev weak : List ℕ → EntityTag
weak opaque = record { weak = true; opaque = opaque }

-- one name to unfold where an example computes
unfoldable computing : Unit {0}
unfolding elements named_by stripped verdict_of
computing = tt

-- ---- RFC 9110, section 8.8.3

a_strong_tag : named_by (codes "\"xyzzy\"") ≡ Some (OneOf (strong (codes "\"xyzzy\"") ∷ []))
unfolding computing
a_strong_tag = refl

a_weak_tag : named_by (codes "W/\"xyzzy\"") ≡ Some (OneOf (weak (codes "\"xyzzy\"") ∷ []))
unfolding computing
a_weak_tag = refl

an_empty_tag : named_by (codes "\"\"") ≡ Some (OneOf (strong (codes "\"\"") ∷ []))
unfolding computing
an_empty_tag = refl

-- ---- sections 13.1.1 and 13.1.2

three_tags : named_by (codes "\"xyzzy\", \"r2d2xxxx\", \"c3piozzzz\"")
    ≡ Some (OneOf (strong (codes "\"xyzzy\"") ∷ strong (codes "\"r2d2xxxx\"") ∷ strong (codes "\"c3piozzzz\"") ∷ []))
unfolding computing
three_tags = refl

weak_tags : named_by (codes "W/\"xyzzy\", W/\"r2d2xxxx\"") ≡ Some (OneOf (weak (codes "\"xyzzy\"") ∷ weak (codes "\"r2d2xxxx\"") ∷ []))
unfolding computing
weak_tags = refl

any : named_by (codes "*") ≡ Some Any
unfolding computing
any = refl

-- ---- lists

two_tags : named_by (codes "\"a\", \"b\"") ≡ Some (OneOf (strong (codes "\"a\"") ∷ strong (codes "\"b\"") ∷ []))
unfolding computing
two_tags = refl

without_a_blank : named_by (codes "\"a\",\"b\"") ≡ Some (OneOf (strong (codes "\"a\"") ∷ strong (codes "\"b\"") ∷ []))
unfolding computing
without_a_blank = refl

an_absent_element : named_by (codes "W/\"a\" , ,\"b\"") ≡ Some (OneOf (weak (codes "\"a\"") ∷ strong (codes "\"b\"") ∷ []))
unfolding computing
an_absent_element = refl

commas_at_the_ends : named_by (codes "\t, \"a\" ,\t,") ≡ Some (OneOf (strong (codes "\"a\"") ∷ []))
unfolding computing
commas_at_the_ends = refl

a_comma_in_a_tag : named_by (codes "\"a,b\", \"c\"") ≡ Some (OneOf (strong (codes "\"a,b\"") ∷ strong (codes "\"c\"") ∷ []))
unfolding computing
a_comma_in_a_tag = refl

-- a backslash is a byte of the tag
a_backslash : named_by (codes "\"a\\\"") ≡ Some (OneOf (strong (codes "\"a\\\"") ∷ []))
unfolding computing
a_backslash = refl

high_bytes : named_by (34 ∷ 0x80 ∷ 0xFF ∷ 34 ∷ []) ≡ Some (OneOf (strong (34 ∷ 0x80 ∷ 0xFF ∷ 34 ∷ []) ∷ []))
unfolding computing
high_bytes = refl

no_tag : named_by [] ≡ Some (OneOf [])
unfolding computing
no_tag = refl

commas_alone : named_by (codes " , ") ≡ Some (OneOf [])
unfolding computing
commas_alone = refl

-- ---- malformed values

unquoted : named_by (codes "abc") ≡ None
unfolding computing
unquoted = refl

a_small_w : named_by (codes "w/\"a\"") ≡ None
unfolding computing
a_small_w = refl

any_in_a_list : named_by (codes "\"a\", *") ≡ None
unfolding computing
any_in_a_list = refl

any_twice : named_by (codes "*, *") ≡ None
unfolding computing
any_twice = refl

no_comma : named_by (codes "\"a\" \"b\"") ≡ None
unfolding computing
no_comma = refl

side_by_side : named_by (codes "\"a\"\"b\"") ≡ None
unfolding computing
side_by_side = refl

no_end : named_by (codes "\"a, \"b\"") ≡ None
unfolding computing
no_end = refl

a_lone_quote : named_by (codes "\"") ≡ None
unfolding computing
a_lone_quote = refl

a_space_in_a_tag : named_by (codes "\"a b\"") ≡ None
unfolding computing
a_space_in_a_tag = refl

delete_in_a_tag : named_by (34 ∷ 0x7F ∷ 34 ∷ []) ≡ None
unfolding computing
delete_in_a_tag = refl

a_blank_behind_w : named_by (codes "W/ \"a\"") ≡ None
unfolding computing
a_blank_behind_w = refl

w_alone : named_by (codes "W/") ≡ None
unfolding computing
w_alone = refl

-- ---- comparison (section 8.8.3.2)

two_weak_ones : is_same Strong (weak (codes "\"1\"")) (weak (codes "\"1\"")) ≡ false
two_weak_ones = refl

two_weak_ones_weakly : is_same Weak (weak (codes "\"1\"")) (weak (codes "\"1\"")) ≡ true
two_weak_ones_weakly = refl

different_weak_ones : is_same Weak (weak (codes "\"1\"")) (weak (codes "\"2\"")) ≡ false
different_weak_ones = refl

one_weak_one : is_same Strong (weak (codes "\"1\"")) (strong (codes "\"1\"")) ≡ false
one_weak_one = refl

one_weak_one_weakly : is_same Weak (weak (codes "\"1\"")) (strong (codes "\"1\"")) ≡ true
one_weak_one_weakly = refl

two_strong_ones : is_same Strong (strong (codes "\"1\"")) (strong (codes "\"1\"")) ≡ true
two_strong_ones = refl

-- ---- verdicts

abbrev stands : Option (List ℕ)
stands = Some (codes "\"e912\"")

without_conditions : verdict_of false None None stands ≡ Holds
unfolding computing
without_conditions = refl

nothing_new : verdict_of true None (Some (codes "W/\"e912\"")) stands ≡ Unchanged
unfolding computing
nothing_new = refl

something_new : verdict_of true None (Some (codes "\"f5f0\"")) stands ≡ Holds
unfolding computing
something_new = refl

the_same_version : verdict_of false (Some (codes "\"e912\"")) None stands ≡ Holds
unfolding computing
the_same_version = refl

too_late : verdict_of false (Some (codes "\"f5f0\"")) None stands ≡ Fails OtherVersion
unfolding computing
too_late = refl

a_weak_tag_is_no_match : verdict_of false (Some (codes "W/\"e912\"")) None stands ≡ Fails OtherVersion
unfolding computing
a_weak_tag_is_no_match = refl

one_of_a_list : verdict_of false (Some (codes "\"x\", \"e912\"")) None stands ≡ Holds
unfolding computing
one_of_a_list = refl

none_of_an_empty_list : verdict_of false (Some []) None stands ≡ Fails OtherVersion
unfolding computing
none_of_an_empty_list = refl

create_alone_and_taken : verdict_of false None (Some (codes "*")) stands ≡ Fails APage
unfolding computing
create_alone_and_taken = refl

create_alone : verdict_of false None (Some (codes "*")) None ≡ Holds
unfolding computing
create_alone = refl

this_version : verdict_of false None (Some (codes "W/\"e912\"")) stands ≡ Fails ThisVersion
unfolding computing
this_version = refl

replace_alone : verdict_of false (Some (codes "*")) None stands ≡ Holds
unfolding computing
replace_alone = refl

replace_what_is_gone : verdict_of false (Some (codes "*")) None None ≡ Fails NoPage
unfolding computing
replace_what_is_gone = refl

no_list_of_tags : verdict_of false (Some (codes "abc")) None None ≡ Unread IfMatch
unfolding computing
no_list_of_tags = refl

-- both are read before either is judged, If-Match first
both_unread : verdict_of false (Some (codes "abc")) (Some (codes "abc")) stands ≡ Unread IfMatch
unfolding computing
both_unread = refl

the_second_unread : verdict_of false (Some (codes "\"f5f0\"")) (Some (codes "abc")) stands ≡ Unread IfNoneMatch
unfolding computing
the_second_unread = refl

-- If-Match is judged first
both_fail : verdict_of true (Some (codes "\"f5f0\"")) (Some (codes "\"e912\"")) stands ≡ Fails OtherVersion
unfolding computing
both_fail = refl

the_second_fails : verdict_of true (Some (codes "\"e912\"")) (Some (codes "\"e912\"")) stands ≡ Unchanged
unfolding computing
the_second_fails = refl
