-- What a map of anchors has after an anchor more, and after another number.
use Rattle.std.proofs.Common.{◌≡◌, ℕ, ◌+◌, ◌^◌, ◌<◌, ◌≤◌, Bool, true, false, cond, List, [], ◌∷◌, map, refl, ap, sym, subst, ◌∙◌, arith}
use Rattle.std.specs.Prelude.{◌||◌, Result, Ok, Err, IfOk, Option, Some, None, is_some, bytes_eq, String, string_bytes, chars}
use Rattle.std.specs.BTreeMap.{BTreeMap, UpdatesBy, insert_entry, is_at, keys, get_by_text}
use Rattle.std.specs.Map.{lookup, keys_of}
use Rattle.std.specs.Cmp.Lexicographic.{slice_cmp}
use Rattle.std.specs.Ordering.{nat_cmp, match_ordering, is_eq}
use Rattle.std.specs.Str.{IsUtf8}
use Rattle.std.specs.String.{string_cmp}
use Rattle.std.specs.declared.cmp.Ordering.{Ordering}
use Rattle.std.specs.declared.cmp.Ordering.TheVariants.{Less, Equal, Greater}
use Rattle.std.proofs.lemmas.Map.Lookups.{exact_bytes}
use Rattle.std.proofs.lemmas.Map.Text.{is_eq-slice_cmp, btree_map_updates_text}
use Rattle.std.proofs.lemmas.Slice.Eq.{bytes_eq-Decides}
use Rattle.std.proofs.lemmas.Str.{IsUtf8-string_bytes}
use Rattle.doc_rules.specs.Characters.{Text}
use Rattle.doc_rules.specs.Anchors.{is_used, with_number}
use Rattle.doc_html_anchors.specs.Numbers.{name_of, names, AreNumbered, AreUsed, IsNext}
use Rattle.doc_html_anchors.specs.Uses.{Uses, IsAnchor}
use Rattle.doc_html_anchors.proofs.NumberLaws.{own_name, first_number, all_below}
use Rattle.doc_page_parts.proofs.Bools.{same_bool}
use Rattle.doc_page_parts.proofs.Texts.{chars_injective}
use Rattle.std.proofs.lemmas.Bool.{or_right}

-- ---- names, and the keys that spell them

same_test : (xs ys : List ℕ) → IsUtf8 xs → IsUtf8 ys → bytes_eq (chars xs) (chars ys) ≡ is_eq (slice_cmp nat_cmp xs ys)
same_test xs ys u v =
    same_bool (bytes_eq (chars xs) (chars ys)) (bytes_eq xs ys)
    (λ e. (bytes_eq-Decides xs ys).1 (chars_injective xs ys u v ((bytes_eq-Decides (chars xs) (chars ys)).0 e)))
    (λ e. (bytes_eq-Decides (chars xs) (chars ys)).1 (ap chars ((bytes_eq-Decides xs ys).0 e)))
    ∙ sym (is_eq-slice_cmp xs ys)

step : (a b : Bool) (n : ℕ) (c : Bool) (o : Option ℕ) → a ≡ b → c ≡ is_some o → (a || c) ≡ is_some (cond b (Some n) o)
step true true n c o e h = refl
step true false n c o e h = absurd cc
step false true n c o e h = absurd cc
step false false n c o e h = h

used_at : {A : Type 0} (es : List (String A × ℕ)) (bs : List ℕ) → IsUtf8 bs
    → is_used (map (λ key. name_of key) (keys_of es)) (chars bs) ≡ is_some (lookup (is_at (λ k. slice_cmp nat_cmp bs (string_bytes k))) es)
used_at [] bs u = refl
used_at (e ∷ es) bs u =
    step (bytes_eq (chars bs) (name_of e.0)) (is_eq (slice_cmp nat_cmp bs (string_bytes e.0))) e.1
    (is_used (map (λ key. name_of key) (keys_of es)) (chars bs)) (lookup (is_at (λ k. slice_cmp nat_cmp bs (string_bytes k))) es)
    (same_test bs (string_bytes e.0) u (IsUtf8-string_bytes e.0)) (used_at es bs u)

-- a name is used where a map has it
pub used_is_kept : {A : Type 0} (m : BTreeMap (String A) ℕ) (bs : List ℕ) → IsUtf8 bs
    → is_used (names m) (chars bs) ≡ is_some (get_by_text m bs)
used_is_kept m bs u = used_at m.entries bs u

-- ---- an anchor more

twice : (a b c : Bool) → a ≡ b → (a || (b || c)) ≡ (b || c)
twice true true c e = refl
twice true false c e = absurd cc
twice false true c e = absurd cc
twice false false c e = refl

swap : (a b c d : Bool) → (a || c) ≡ d → (a || (b || c)) ≡ (b || d)
swap true true c d e = refl
swap true false c d e = e
swap false true c d e = refl
swap false false c d e = e

used_inserted_at : {A : Type 0} (o : Ordering) (key : String A) (n : ℕ) (e : String A × ℕ) (es after : List (String A × ℕ)) (name : Text)
    → o ≡ string_cmp key e.0
    → (bytes_eq name (name_of key) || is_used (map (λ k. name_of k) (keys_of es)) name)
    ≡ is_used (map (λ k. name_of k) (keys_of after)) name
    → (bytes_eq name (name_of key) || is_used (map (λ k. name_of k) (keys_of (e ∷ es))) name)
    ≡ is_used (map (λ k. name_of k) (keys_of (match_ordering o ((key, n) ∷ e ∷ es) ((e.0, n) ∷ es) (e ∷ after)))) name
used_inserted_at Less key n e es after name is h = refl
used_inserted_at Equal key n e es after name is h =
    let same : string_bytes key ≡ string_bytes e.0 = exact_bytes (string_bytes key) (string_bytes e.0) (sym is) in
    twice (bytes_eq name (name_of key)) (bytes_eq name (name_of e.0)) (is_used (map (λ k. name_of k) (keys_of es)) name)
    (ap (λ bs. bytes_eq name (chars bs)) same)
used_inserted_at Greater key n e es after name is h =
    swap (bytes_eq name (name_of key)) (bytes_eq name (name_of e.0)) (is_used (map (λ k. name_of k) (keys_of es)) name)
    (is_used (map (λ k. name_of k) (keys_of after)) name) h

used_inserted : {A : Type 0} (es : List (String A × ℕ)) (key : String A) (n : ℕ) (name : Text)
    → (bytes_eq name (name_of key) || is_used (map (λ k. name_of k) (keys_of es)) name)
    ≡ is_used (map (λ k. name_of k) (keys_of (insert_entry string_cmp es key n))) name
used_inserted [] key n name = refl
used_inserted (e ∷ es) key n name = used_inserted_at (string_cmp key e.0) key n e es (insert_entry string_cmp es key n) name refl
    (used_inserted es key n name)

-- an anchor that is kept is used beside those before it
pub uses_more : {A : Type 0} (old new : BTreeMap (String A) ℕ) (key : String A) (n : ℕ)
    → new.entries ≡ insert_entry string_cmp old.entries key n → Uses (names new) (name_of key ∷ names old)
uses_more old new key n e name = used_inserted old.entries key n name ∙ ap (λ es. is_used (map (λ k. name_of k) (keys_of es)) name) (sym e)

-- ---- numbers stay right

pick : (b : Bool) (v n : ℕ) (o : Option ℕ) (P : ℕ → Type 0) → cond b (Some v) o ≡ Some n → (b ≡ true → P v) → (o ≡ Some n → P n) → P n
pick true v n o P e f g = let same : v ≡ n = cc in subst P same (f refl)
pick false v n o P e f g = g e

-- with a new anchor, behind which no number is used yet
pub numbered_more : {A : Type 0} (old new : BTreeMap (String A) ℕ) (key : String A)
    → new.entries ≡ insert_entry string_cmp old.entries key 1
    → UpdatesBy string_cmp (λ k. slice_cmp nat_cmp (string_bytes key) (string_bytes k)) old new (Some 1) → AreNumbered old → AreNumbered new
numbered_more old new key e updates h bytes n is =
    let kept : cond (bytes_eq (string_bytes key) bytes) (Some 1) (get_by_text old bytes)
    ≡ Some n = sym (btree_map_updates_text (string_bytes key) old new (Some 1) updates bytes) ∙ is in
    pick (bytes_eq (string_bytes key) bytes) 1 n (get_by_text old bytes) (λ m. (1 ≤ m) × AreUsed (names new) (chars bytes) 1 m) kept
    (λ same. (omega arith, λ k i j. absurd (omega arith)))
    (λ there. (
      (h bytes n there).0,
      λ k i j.
          sym (uses_more old new key 1 e (with_number (chars bytes) k))
          ∙ or_right (bytes_eq (with_number (chars bytes) k) (name_of key)) (is_used (names old) (with_number (chars bytes) k))
          ((h bytes n there).1 k i j),
    ))

-- with another number behind a name, where those below it are used
pub numbered_raised : {A : Type 0} (old new : BTreeMap (String A) ℕ) (name : List ℕ) (v : ℕ) → keys new ≡ keys old
    → UpdatesBy string_cmp (λ k. slice_cmp nat_cmp name (string_bytes k)) old new (Some v) → 1 ≤ v → AreUsed (names old) (chars name) 1 v
    → AreNumbered old → AreNumbered new
numbered_raised old new name v same updates more below h bytes n is =
    let kept : cond (bytes_eq name bytes) (Some v) (get_by_text old bytes)
    ≡ Some n = sym (btree_map_updates_text name old new (Some v) updates bytes) ∙ is in
    let back : names new ≡ names old = ap (map (λ k. name_of k)) same in
    subst (λ used. (1 ≤ n) × AreUsed used (chars bytes) 1 n) (sym back)
    (pick (bytes_eq name bytes) v n (get_by_text old bytes) (λ m. (1 ≤ m) × AreUsed (names old) (chars bytes) 1 m) kept
    (λ b. (more, subst (λ bs. AreUsed (names old) (chars bs) 1 v) ((bytes_eq-Decides name bytes).0 b) below))
    (λ there. h bytes n there))

-- what a look-up of an anchor says
pub looked_up : {A : Type 0} (m : BTreeMap (String A) ℕ) (bs : List ℕ) (anchor : Text) (there : Bool) → IsUtf8 bs → chars bs ≡ anchor
    → there ≡ is_some (get_by_text m bs) → is_used (names m) anchor ≡ there
looked_up m bs anchor there u e is = ap (is_used (names m)) (sym e) ∙ used_is_kept m bs u ∙ sym is

-- ---- anchors

-- a name that isn't kept is its own anchor
pub own_anchor : {A E : Type 0} (r : Result (List ℕ) E) (m : BTreeMap (String A) ℕ) (name : String A)
    → get_by_text m (string_bytes name) ≡ None → IfOk r (λ text. text ≡ string_bytes name)
    → IfOk r (λ anchor. IsAnchor (names m) (name_of name) (chars anchor))
own_anchor (Err e) m name none is = tt
own_anchor (Ok text) m name none is =
    subst (λ bs. IsAnchor (names m) (name_of name) (chars bs)) (sym is)
    (own_name (names m) (name_of name) (looked_up m (string_bytes name) (name_of name) false (IsUtf8-string_bytes name) refl
    (sym (ap is_some none))))

module _ {A : Type 0} (m : BTreeMap (String A) ℕ) (name : List ℕ) (first n : ℕ) (numbered : AreNumbered m)
    (there : get_by_text m name ≡ Some first) (next : IsNext (names m) (chars name) first n) where
  below : AreUsed (names m) (chars name) 1 n
  below = all_below (names m) (chars name) first n (numbered name first there).1 next

  -- a name that is kept gets the number that was found
  pub numbered_anchor : (text anchor : List ℕ) → IsUtf8 name → n + 1 < 2 ^ 64 → chars anchor ≡ with_number (chars name) n → text ≡ anchor
      → IsAnchor (names m) (chars name) (chars text)
  numbered_anchor text anchor u small spelled same =
      let positive : 1 ≤ first = (numbered name first there).0 in
      let reached : first ≤ n = next.reached in
      subst (λ t. IsAnchor (names m) (chars name) t) (sym (ap chars same ∙ spelled))
      (first_number (names m) (chars name) n (looked_up m name (chars name) true u refl (sym (ap is_some there))) (omega arith)
      (omega arith) below next.is_free)
