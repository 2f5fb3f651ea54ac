-- Values that are read are written by the grammar.
use Rattle.std.proofs.Common.{◌≡◌, ℕ, suc, ◌+◌, ◌-◌, List, [], ◌∷◌, ◌++◌, length, take, drop}
use Rattle.std.proofs.Common.{Bool, true, false, ◌==◌, map, not, cond, refl, ap, sym, subst, ◌∙◌, arith}
use Rattle.std.proofs.Common.{length-drop, bytes_eq, codes, Option, Some, None, unwrap_or, is_some}
use mathlib.Core.Bool.{◌||◌}
use Rattle.std.specs.Prelude.{reverse, if◌then◌else◌}
use Rattle.std.specs.List.{list_all, prefix_len, suffix_len, onto_first, flat_map, join_with_byte}
use Rattle.std.proofs.lemmas.Bool.Decides.{nat_tests}
use Rattle.std.proofs.lemmas.List.{take-append-drop, drop_at, reverse-append, reverse-reverse, length-reverse}
use Rattle.doc_page_parts.proofs.Bools.{and_first, and_second, clash}
use Rattle.doc_page_parts.proofs.Texts.{bytes_eq_true}
use Rattle.doc_page_parts.specs.Lines.{is_space_or_tab, stripped}
use Rattle.doc_page_parts.specs.Pages.{is_empty}
use Rattle.doc_http_conditions.specs.EntityTags.{EntityTag, is_tag_byte, is_opaque_tag, is_weak, opaque_part, is_entity_tag, entity_tag}
use Rattle.doc_http_conditions.specs.FieldValues.{named_by}
use Rattle.doc_http_conditions.specs.Grammar.{Element, IsElement, AreElements, IsOpaqueTag, IsTag}
use Rattle.doc_http_conditions.specs.Grammar.{IsListOf, IsValue, element_text, tag_text, tags_of, text_of}
use Rattle.doc_http_conditions.specs.Lists.{cuts, quoted_behind, elements, is_element, tags_of_element, tags_in}
use Rattle.doc_http_conditions.specs.declared.named.Named.{Named}
use Rattle.doc_http_conditions.specs.declared.named.Named.TheVariants.{Any, OneOf}
use Rattle.doc_http_conditions.proofs.ReadingSteps.{all_reversed, one_more, tags_at}

-- ---- the elements, joined

join_onto : (b : ℕ) (ls : List (List ℕ)) → join_with_byte 44 (onto_first b ls) ≡ b ∷ join_with_byte 44 ls
join_onto b [] = refl
join_onto b (l ∷ []) = refl
join_onto b (l ∷ m ∷ ls) = refl

-- there is an element in front
pub record HasFirst (ls : List (List ℕ)) : Type 0 where
  pub first : List ℕ
  pub others : List (List ℕ)
  pub same : ls ≡ first ∷ others

onto_has_first : (b : ℕ) (ls : List (List ℕ)) → HasFirst (onto_first b ls)
onto_has_first b [] = record { first = b ∷ []; others = []; same = refl }
onto_has_first b (l ∷ ls) = record { first = b ∷ l; others = ls; same = refl }

cut_has_first : (test : Bool) (b : ℕ) (others ls : List (List ℕ)) → HasFirst (cond test ([] ∷ others) (onto_first b ls))
cut_has_first true b others ls = record { first = []; others = others; same = refl }
cut_has_first false b others ls = onto_has_first b ls

has_first : (quoted : Bool) (text : List ℕ) → HasFirst (elements quoted text)
unfolding elements
has_first quoted [] = record { first = []; others = []; same = refl }
has_first quoted (b ∷ rest) = cut_has_first (cuts b quoted) b (elements false rest) (elements (quoted_behind b quoted) rest)

join_behind : (ls : List (List ℕ)) → HasFirst ls → join_with_byte 44 ([] ∷ ls) ≡ 44 ∷ join_with_byte 44 ls
join_behind ls h = ap (λ l. join_with_byte 44 ([] ∷ l)) h.same ∙ ap (λ l. 44 ∷ join_with_byte 44 l) (sym h.same)

cut_is_comma : (b : ℕ) (quoted : Bool) → cuts b quoted ≡ true → 44 ≡ b
cut_is_comma b quoted e =
    let is : (b == 44) ≡ true = and_first (b == 44) (not quoted) e in
    grind (arith, nat_tests, is)

join_cut : (test : Bool) (b : ℕ) (others ls : List (List ℕ)) (rest : List ℕ) → (test ≡ true → 44 ≡ b) → HasFirst others
    → join_with_byte 44 others ≡ rest → join_with_byte 44 ls ≡ rest
    → join_with_byte 44 (cond test ([] ∷ others) (onto_first b ls)) ≡ b ∷ rest
join_cut true b others ls rest comma h same also =
    join_behind others h ∙ ap (λ l. 44 ∷ l) same ∙ ap (λ c. c ∷ rest) (comma refl)
join_cut false b others ls rest comma h same also = join_onto b ls ∙ ap (λ l. b ∷ l) also

-- the elements, with a comma between two, are the text
pub joined_back : (quoted : Bool) (text : List ℕ) → join_with_byte 44 (elements quoted text) ≡ text
unfolding elements
joined_back quoted [] = refl
joined_back quoted (b ∷ rest) =
    join_cut (cuts b quoted) b (elements false rest) (elements (quoted_behind b quoted) rest) rest (cut_is_comma b quoted)
    (has_first false rest) (joined_back false rest) (joined_back (quoted_behind b quoted) rest)

-- ---- what stands in front and behind

front_passes : (p : ℕ → Bool) (xs : List ℕ) → list_all p (take (prefix_len p xs) xs) ≡ true
front_passes p [] = refl
front_passes p (x ∷ xs) = by_test (p x) refl (front_passes p xs)
  where
    by_test : (t : Bool) → p x ≡ t → list_all p (take (prefix_len p xs) xs) ≡ true
        → list_all p (take (cond t (1 + prefix_len p xs) 0) (x ∷ xs)) ≡ true
    by_test false e more = refl
    by_test true e more =
        let next : 1 + prefix_len p xs ≡ suc (prefix_len p xs) = omega arith in
        ap (λ n. list_all p (take n (x ∷ xs))) next ∙ rw (e, more) refl

end_passes : (p : ℕ → Bool) (xs : List ℕ) → list_all p (drop (length xs - suffix_len p xs) xs) ≡ true
end_passes p xs =
    let ys = reverse xs in
    let k = prefix_len p ys in
    let whole : xs ≡ reverse (drop k ys) ++ reverse (take k ys)
    = sym (reverse-reverse xs) ∙ ap reverse (sym (take-append-drop k ys)) ∙ reverse-append (take k ys) (drop k ys) in
    let long : length (reverse (drop k ys))
    ≡ length xs - k = length-reverse (drop k ys) ∙ length-drop k ys ∙ ap (λ n. n - k) (length-reverse xs) in
    let left : drop (length xs - k) xs ≡ reverse (take k ys)
    = ap (drop (length xs - k)) whole ∙ drop_at (reverse (drop k ys)) (reverse (take k ys)) (length xs - k) long in
    ap (list_all p) left ∙ all_reversed p (take k ys) (front_passes p ys)

-- ---- the element that a text is

element_of : List ℕ → Element
element_of text =
    let rest = drop (prefix_len is_space_or_tab text) text in
    record {
      before = take (prefix_len is_space_or_tab text) text;
      tag = if is_empty (stripped text) then None else Some (entity_tag (stripped text));
      behind = drop (length rest - suffix_len is_space_or_tab rest) rest;
    }

opaque_is : (text : List ℕ) → is_opaque_tag text ≡ true → IsOpaqueTag text
opaque_is [] e = absurd (clash false e refl)
opaque_is (b ∷ rest) e =
    let k = prefix_len is_tag_byte rest in
    let is : (b == 34) ≡ true = and_first (b == 34) (bytes_eq (drop k rest) (codes "\"")) e in
    let begins : b ≡ 34 = grind (arith, nat_tests, is) in
    let ends : drop k rest
    ≡ 34 ∷ [] = bytes_eq_true (drop k rest) (codes "\"") (and_second (b == 34) (bytes_eq (drop k rest) (codes "\"")) e) in
    record {
      inside = take k rest;
      good = front_passes is_tag_byte rest;
      quoted = ap (λ c. c ∷ rest) begins ∙ ap (λ l. 34 ∷ l) (sym (take-append-drop k rest) ∙ ap (λ l. take k rest ++ l) ends);
    }

text_back_by : (text : List ℕ) (weak : Bool) → is_weak text ≡ weak → tag_text weak (if weak then drop 2 text else text) ≡ text
text_back_by text false e = refl
text_back_by text true e =
    ap (λ w. w ++ drop 2 text) (bytes_eq_true (codes "W/") (take 2 text) e) ∙ take-append-drop 2 text

text_back : (text : List ℕ) → tag_text (is_weak text) (opaque_part text) ≡ text
text_back text = text_back_by text (is_weak text) refl

abbrev tag_in : List ℕ → Option EntityTag
tag_in text = if is_empty text then None else Some (entity_tag text)

tag_in_is : (text : List ℕ) → (is_empty text || is_entity_tag text) ≡ true → IsTag (tag_in text)
tag_in_is [] e = tt
tag_in_is (b ∷ rest) e = opaque_is (opaque_part (b ∷ rest)) e

tag_in_back : (text : List ℕ) → text_of (tag_in text) ≡ text
tag_in_back [] = refl
tag_in_back (b ∷ rest) = text_back (b ∷ rest)

tag_in_tags : (text : List ℕ) → (if is_empty text then [] else entity_tag text ∷ []) ≡ tags_at (tag_in text)
tag_in_tags [] = refl
tag_in_tags (b ∷ rest) = refl

element_of_is : (text : List ℕ) → is_element text ≡ true → IsElement (element_of text)
unfolding element_of
element_of_is text e =
    let rest = drop (prefix_len is_space_or_tab text) text in
    record {
      before = front_passes is_space_or_tab text;
      tag = tag_in_is (stripped text) e;
      behind = end_passes is_space_or_tab rest;
    }

element_back : (text : List ℕ) → element_text (element_of text) ≡ text
unfolding element_of stripped
element_back text =
    let n = prefix_len is_space_or_tab text in
    let rest = drop n text in
    let m = length rest - suffix_len is_space_or_tab rest in
    ap (λ t. take n text ++ (t ++ drop m rest)) (tag_in_back (take m rest))
    ∙ ap (λ r. take n text ++ r) (take-append-drop m rest)
    ∙ take-append-drop n text

element_of_tag : (text : List ℕ) → tags_of_element text ≡ tags_at (element_of text).tag
unfolding element_of
element_of_tag text = tag_in_tags (stripped text)

-- ---- the elements of a list

are_elements : (texts : List (List ℕ)) → list_all is_element texts ≡ true → AreElements (map element_of texts)
are_elements [] e = tt
are_elements (text ∷ texts) e = (
  element_of_is text (and_first (is_element text) (list_all is_element texts) e),
  are_elements texts (and_second (is_element text) (list_all is_element texts) e),
)

texts_back : (texts : List (List ℕ)) → map element_text (map element_of texts) ≡ texts
texts_back [] = refl
texts_back (text ∷ texts) =
    ap (λ t. t ∷ map element_text (map element_of texts)) (element_back text) ∙ ap (λ l. text ∷ l) (texts_back texts)

tags_back : (texts : List (List ℕ)) → flat_map tags_of_element texts ≡ tags_of (map element_of texts)
tags_back [] = refl
tags_back (text ∷ texts) =
    ap (λ l. l ++ flat_map tags_of_element texts) (element_of_tag text)
    ∙ ap (λ l. tags_at (element_of text).tag ++ l) (tags_back texts)
    ∙ one_more (element_of text).tag (tags_of (map element_of texts))

list_is : (text : List ℕ) → list_all is_element (elements false text) ≡ true → IsListOf text (tags_in text)
list_is text all = record {
  parts = map element_of (elements false text);
  good = are_elements (elements false text) all;
  written = sym (ap (join_with_byte 44) (texts_back (elements false text)) ∙ joined_back false text);
  named = tags_back (elements false text);
}

-- ---- the value

pub some_same : {X : Type 0} (a b : X) → Some a ≡ Some b → a ≡ b
some_same a b e = ap (λ o. unwrap_or o a) e

by_tests : (text : List ℕ) (named : Named) (star list : Bool) → bytes_eq text (codes "*") ≡ star
    → list_all is_element (elements false text) ≡ list
    → (if star then Some Any else (if list then Some (OneOf (tags_in text)) else None)) ≡ Some named → IsValue text named
by_tests text named true list is all e = subst (IsValue text) (some_same Any named e) (bytes_eq_true text (codes "*") is)
by_tests text named false true is all e = subst (IsValue text) (some_same (OneOf (tags_in text)) named e) (list_is text all)
by_tests text named false false is all e = absurd (clash true refl (sym (ap is_some e)))

pub value_is : (text : List ℕ) (named : Named) → named_by text ≡ Some named → IsValue text named
unfolding named_by
value_is text named e = by_tests text named (bytes_eq text (codes "*")) (list_all is_element (elements false text)) refl refl e
