-- What a map by text finds where short texts are numbers.
use Rattle.std.proofs.Common.{◌≡◌, ℕ, List, [], ◌∷◌, ◌++◌, Bool, true, false, cond, ◌&&◌, MutBor, String, string_bytes, refl, ap, sym, subst, ◌∙◌}
use Rattle.std.specs.Prelude.{Option, Some, None, IsSome, OnSome, if◌then◌else◌}
use Rattle.std.specs.Option.{option_copied_mut}
use Rattle.std.specs.BTreeMap.{BTreeMap, UpdatesBy, is_at}
use Rattle.std.specs.Map.{lookup}
use Rattle.std.specs.Ordering.{nat_cmp, eq_by_cmp}
use Rattle.std.specs.String.{string_cmp}
use Rattle.std.specs.Cmp.Lexicographic.{slice_cmp}
use Rattle.std.specs.FinMap as map
use Rattle.std.proofs.lemmas.Bool.{false≢true}
use Rattle.std.proofs.lemmas.Cmp.{nat_list_cmp_total}
use Rattle.std.proofs.lemmas.Map.Lookups.{exact_bytes}
use Rattle.std.proofs.lemmas.Map.Text.{btree_map_updates_text, is_eq-slice_cmp}
use Rattle.doc_page_parts.proofs.Maps.{inserted, looked_up, removed}
use Rattle.doc_index_tables.specs.ShortTexts.{has_number, is_number, number_of, text_of}
use Rattle.doc_index_tables.specs.TextTables.{both_kinds, long_entries, short_entries}
use Rattle.doc_index_tables.proofs.CountSteps.{number_is, number_itself, text_itself}
use Rattle.doc_index_tables.proofs.TableSteps.{same_text}

same_bools : (a b : Bool) → (a ≡ true → b ≡ true) → (b ≡ true → a ≡ true) → a ≡ b
same_bools true b there back = sym (there refl)
same_bools false true there back = back refl
same_bools false false there back = refl

told : (text : List ℕ) → has_number text ≡ true → text_of (number_of text) ≡ text
unfolding has_number
told text has = same_text (text_of (number_of text)) text has

both_true : (a b : Bool) → a ≡ true → b ≡ true → (a && b) ≡ true
both_true true b e f = f
both_true false b e f = e

of_both : (a b : Bool) → (a && b) ≡ true → (a ≡ true) × (b ≡ true)
of_both true b e = (refl, e)
of_both false b e = (e, cc)

-- a text is that of a number where this is its number
text_at : (n : ℕ) (q : List ℕ) → is_number n ≡ true
    → is_at (slice_cmp nat_cmp q) (text_of n) ≡ (has_number q && is_at (nat_cmp (number_of q)) n)
unfolding has_number is_number
text_at n q is = same_bools _ _ there back
  where
    there : is_at (slice_cmp nat_cmp q) (text_of n) ≡ true → (has_number q && is_at (nat_cmp (number_of q)) n) ≡ true
    there e =
        let same : q ≡ text_of n = same_text q (text_of n) e in
        let number : number_of q ≡ n = ap number_of same ∙ number_is (number_of (text_of n)) n is in
        both_true (has_number q) (is_at (nat_cmp (number_of q)) n)
        (ap (λ t. eq_by_cmp (slice_cmp nat_cmp) t q) (ap text_of number ∙ sym same) ∙ text_itself q)
        (ap (λ m. eq_by_cmp nat_cmp m n) number ∙ number_itself n)

    back : (has_number q && is_at (nat_cmp (number_of q)) n) ≡ true → is_at (slice_cmp nat_cmp q) (text_of n) ≡ true
    back e =
        let both = of_both (has_number q) (is_at (nat_cmp (number_of q)) n) e in
        let same : text_of n ≡ q = ap text_of (sym (number_is (number_of q) n both.1)) ∙ told q both.0 in
        ap (eq_by_cmp (slice_cmp nat_cmp) q) same ∙ text_itself q

-- what isn't the number of a text is that of none
none_at : (n : ℕ) (q : List ℕ) → is_number n ≡ false → has_number q ≡ true → is_at (nat_cmp (number_of q)) n ≡ false
unfolding is_number
none_at n q none has = by (is_at (nat_cmp (number_of q)) n) refl
  where
    by : (b : Bool) → is_at (nat_cmp (number_of q)) n ≡ b → b ≡ false
    by true e =
        let number : number_of q ≡ n = number_is (number_of q) n e in
        let is : is_number n ≡ true =
        ap (λ m. eq_by_cmp nat_cmp (number_of (text_of m)) m) (sym number)
        ∙ ap (λ t. eq_by_cmp nat_cmp (number_of t) (number_of q)) (told q has) ∙ number_itself (number_of q) in
        sym is ∙ none
    by false e = refl

short_at : {X : Type 0} (es : List (ℕ × X)) (q : List ℕ)
    → lookup (is_at (slice_cmp nat_cmp q)) (short_entries es)
    ≡ cond (has_number q) (lookup (is_at (nat_cmp (number_of q))) es) None
unfolding short_entries
short_at {X} [] q = by (has_number q)
  where
    nothing : Option X
    nothing = None

    by : (b : Bool) → nothing ≡ cond b nothing nothing
    by true = refl
    by false = refl
short_at {X} (e ∷ es) q = by (is_number e.0) refl (short_at es q)
  where
    joined : (a b : Bool) (x : X) (o : Option X) → cond (a && b) (Some x) (cond a o None) ≡ cond a (cond b (Some x) o) None
    joined true b x o = refl
    joined false b x o = refl

    passed : (a b : Bool) (x : X) (o : Option X) → (a ≡ true → b ≡ false) → cond a o None ≡ cond a (cond b (Some x) o) None
    passed true b x o none = ap (λ c. cond c (Some x) o) (sym (none refl))
    passed false b x o none = refl

    by : (b : Bool) → is_number e.0 ≡ b
        → lookup (is_at (slice_cmp nat_cmp q)) (short_entries es)
        ≡ cond (has_number q) (lookup (is_at (nat_cmp (number_of q))) es) None
        → lookup (is_at (slice_cmp nat_cmp q)) (if b then (text_of e.0, e.1) ∷ short_entries es else short_entries es)
        ≡ cond (has_number q) (cond (is_at (nat_cmp (number_of q)) e.0) (Some e.1) (lookup (is_at (nat_cmp (number_of q))) es)) None
    by true is more =
        ap (λ b. cond b (Some e.1) (lookup (is_at (slice_cmp nat_cmp q)) (short_entries es))) (text_at e.0 q is)
        ∙ ap (cond (has_number q && is_at (nat_cmp (number_of q)) e.0) (Some e.1)) more
        ∙ joined (has_number q) (is_at (nat_cmp (number_of q)) e.0) e.1 (lookup (is_at (nat_cmp (number_of q))) es)
    by false none more =
        more
        ∙ passed (has_number q) (is_at (nat_cmp (number_of q)) e.0) e.1 (lookup (is_at (nat_cmp (number_of q))) es)
        (λ has. none_at e.0 q none has)

long_at : {A X : Type 0} (es : List (String A × X)) (q : List ℕ)
    → lookup (is_at (slice_cmp nat_cmp q)) (long_entries es)
    ≡ cond (has_number q) None (lookup (is_at (λ k. slice_cmp nat_cmp q (string_bytes k))) es)
unfolding long_entries
long_at {X = X} [] q = by (has_number q)
  where
    nothing : Option X
    nothing = None

    by : (b : Bool) → nothing ≡ cond b nothing nothing
    by true = refl
    by false = refl
long_at {X = X} (e ∷ es) q = by (has_number (string_bytes e.0)) refl (long_at es q)
  where
    here : is_at (slice_cmp nat_cmp q) (string_bytes e.0) ≡ true → has_number q ≡ has_number (string_bytes e.0)
    here at = ap has_number (same_text q (string_bytes e.0) at)

    passed : (a b : Bool) (x : X) (o : Option X) → (b ≡ true → a ≡ true) → cond a None o ≡ cond a None (cond b (Some x) o)
    passed true b x o same = refl
    passed false true x o same = cc (same refl)
    passed false false x o same = refl

    kept : (a b : Bool) (x : X) (o : Option X) → (b ≡ true → a ≡ false) → cond b (Some x) (cond a None o) ≡ cond a None (cond b (Some x) o)
    kept true true x o same = cc (same refl)
    kept true false x o same = refl
    kept false b x o same = refl

    by : (b : Bool) → has_number (string_bytes e.0) ≡ b
        → lookup (is_at (slice_cmp nat_cmp q)) (long_entries es)
        ≡ cond (has_number q) None (lookup (is_at (λ k. slice_cmp nat_cmp q (string_bytes k))) es)
        → lookup (is_at (slice_cmp nat_cmp q)) (if b then long_entries es else (string_bytes e.0, e.1) ∷ long_entries es)
        ≡ cond (has_number q) None
        (cond (is_at (slice_cmp nat_cmp q) (string_bytes e.0)) (Some e.1)
        (lookup (is_at (λ k. slice_cmp nat_cmp q (string_bytes k))) es))
    by true has more =
        more
        ∙ passed (has_number q) (is_at (slice_cmp nat_cmp q) (string_bytes e.0)) e.1
        (lookup (is_at (λ k. slice_cmp nat_cmp q (string_bytes k))) es) (λ at. here at ∙ has)
    by false none more =
        ap (cond (is_at (slice_cmp nat_cmp q) (string_bytes e.0)) (Some e.1)) more
        ∙ kept (has_number q) (is_at (slice_cmp nat_cmp q) (string_bytes e.0)) e.1
        (lookup (is_at (λ k. slice_cmp nat_cmp q (string_bytes k))) es) (λ at. here at ∙ none)

or_else : {X : Type 0} → Option X → Option X → Option X
or_else (Some x) other = Some x
or_else None other = other

lookup_joined : {K X : Type 0} (p : K → Bool) (es fs : List (K × X)) → lookup p (es ++ fs) ≡ or_else (lookup p es) (lookup p fs)
unfolding or_else
lookup_joined p [] fs = refl
lookup_joined {X = X} p (e ∷ es) fs = by (p e.0) (lookup_joined p es fs)
  where
    by : (b : Bool) → lookup p (es ++ fs) ≡ or_else (lookup p es) (lookup p fs)
        → cond b (Some e.1) (lookup p (es ++ fs)) ≡ or_else (cond b (Some e.1) (lookup p es)) (lookup p fs)
    by true more = refl
    by false more = more

-- a text is sought in one of both
both_at : {A X : Type 0} (es : List (ℕ × X)) (fs : List (String A × X)) (q : List ℕ)
    → lookup (is_at (slice_cmp nat_cmp q)) (short_entries es ++ long_entries fs)
    ≡ cond (has_number q) (lookup (is_at (nat_cmp (number_of q))) es) (lookup (is_at (λ k. slice_cmp nat_cmp q (string_bytes k))) fs)
unfolding or_else
both_at {X = X} es fs q =
    lookup_joined (is_at (slice_cmp nat_cmp q)) (short_entries es) (long_entries fs)
    ∙ ap (λ o. or_else o (lookup (is_at (slice_cmp nat_cmp q)) (long_entries fs))) (short_at es q)
    ∙ ap (or_else (cond (has_number q) (lookup (is_at (nat_cmp (number_of q))) es) None)) (long_at fs q)
    ∙ by (has_number q) (lookup (is_at (nat_cmp (number_of q))) es) (lookup (is_at (λ k. slice_cmp nat_cmp q (string_bytes k))) fs)
  where
    none : (o : Option X) → or_else o None ≡ o
    none None = refl
    none (Some x) = refl

    by : (b : Bool) (o p : Option X) → or_else (cond b o None) (cond b None p) ≡ cond b o p
    by true o p = none o
    by false o p = refl

module _ (text : List ℕ) where
  -- a short text is another's where the numbers are the same
  same_number_at : has_number text ≡ true → (q : List ℕ) → has_number q ≡ true
      → is_at (nat_cmp (number_of text)) (number_of q) ≡ is_at (slice_cmp nat_cmp text) q
  same_number_at has q has' = same_bools _ _
      (λ e. ap (eq_by_cmp (slice_cmp nat_cmp) text) (sym (sym (told text has)
      ∙ ap text_of (number_is (number_of text) (number_of q) e) ∙ told q has')) ∙ text_itself text)
      (λ e. ap (λ t. eq_by_cmp nat_cmp (number_of text) (number_of t)) (sym (same_text text q e)) ∙ number_itself (number_of text))

  -- a text isn't one that has no number, or has one where it has none
  differs : (q : List ℕ) (a b : Bool) → has_number text ≡ a → has_number q ≡ b → (a ≡ b → ⊥) → is_at (slice_cmp nat_cmp text) q ≡ false
  differs q a b e f apart = by (is_at (slice_cmp nat_cmp text) q) refl
    where
      by : (c : Bool) → is_at (slice_cmp nat_cmp text) q ≡ c → c ≡ false
      by true at = absurd (apart (sym e ∙ ap has_number (same_text text q at) ∙ f))
      by false at = refl

module _ {A X : Type 0} (text : List ℕ) where
  pub got_short : (es : List (ℕ × X)) (fs : List (String A × X)) (n : ℕ) → n ≡ number_of text → has_number text ≡ true
      → lookup (is_at (nat_cmp n)) es ≡ map.get (both_kinds es fs) text
  got_short es fs n is has =
      ap (λ m. lookup (is_at (nat_cmp m)) es) is
      ∙ sym (both_at es fs text
      ∙ ap (λ b. cond b (lookup (is_at (nat_cmp (number_of text))) es)
      (lookup (is_at (λ k. slice_cmp nat_cmp text (string_bytes k))) fs)) has)
      ∙ looked_up nat_list_cmp_total exact_bytes (short_entries es ++ long_entries fs) text

  pub got_long : (es : List (ℕ × X)) (fs : List (String A × X)) → has_number text ≡ false
      → lookup (is_at (λ k. slice_cmp nat_cmp text (string_bytes k))) fs ≡ map.get (both_kinds es fs) text
  got_long es fs none =
      sym (both_at es fs text
      ∙ ap (λ b. cond b (lookup (is_at (nat_cmp (number_of text))) es)
      (lookup (is_at (λ k. slice_cmp nat_cmp text (string_bytes k))) fs)) none)
      ∙ looked_up nat_list_cmp_total exact_bytes (short_entries es ++ long_entries fs) text

  short_updated : (m n : BTreeMap ℕ X) (fs : List (String A × X)) (w : Option X) (number : ℕ) → number ≡ number_of text
      → has_number text ≡ true → UpdatesBy nat_cmp (nat_cmp number) m n w
      → (q : List ℕ) → lookup (is_at (slice_cmp nat_cmp q)) (short_entries n.entries ++ long_entries fs)
      ≡ cond (is_at (slice_cmp nat_cmp text) q) w (lookup (is_at (slice_cmp nat_cmp q)) (short_entries m.entries ++ long_entries fs))
  short_updated m n fs w number is has updates q =
      both_at n.entries fs q
      ∙ ap (λ o. cond (has_number q) o (lookup (is_at (λ k. slice_cmp nat_cmp q (string_bytes k))) fs)) (updates.0 (number_of q))
      ∙ by (has_number q) refl
      ∙ ap (cond (is_at (slice_cmp nat_cmp text) q) w) (sym (both_at m.entries fs q))
    where
      by : (b : Bool) → has_number q ≡ b
          → cond b (cond (is_at (nat_cmp number) (number_of q)) w (lookup (is_at (nat_cmp (number_of q))) m.entries))
          (lookup (is_at (λ k. slice_cmp nat_cmp q (string_bytes k))) fs)
          ≡ cond (is_at (slice_cmp nat_cmp text) q) w
          (cond b (lookup (is_at (nat_cmp (number_of q))) m.entries) (lookup (is_at (λ k. slice_cmp nat_cmp q (string_bytes k))) fs))
      by true e =
          ap (λ b. cond b w (lookup (is_at (nat_cmp (number_of q))) m.entries))
          (ap (λ k. is_at (nat_cmp k) (number_of q)) is ∙ same_number_at text has q e)
      by false e =
          ap (λ b. cond b w (lookup (is_at (λ k. slice_cmp nat_cmp q (string_bytes k))) fs))
          (sym (differs text q true false has e (λ same. false≢true (sym same))))

  long_updated : (es : List (ℕ × X)) (m n : BTreeMap (String A) X) (w : Option X) → has_number text ≡ false
      → UpdatesBy string_cmp (λ k. slice_cmp nat_cmp text (string_bytes k)) m n w
      → (q : List ℕ) → lookup (is_at (slice_cmp nat_cmp q)) (short_entries es ++ long_entries n.entries)
      ≡ cond (is_at (slice_cmp nat_cmp text) q) w (lookup (is_at (slice_cmp nat_cmp q)) (short_entries es ++ long_entries m.entries))
  long_updated es m n w none updates q =
      both_at es n.entries q
      ∙ ap (cond (has_number q) (lookup (is_at (nat_cmp (number_of q))) es))
      (btree_map_updates_text text m n w updates q
      ∙ ap (λ b. cond b w (lookup (is_at (λ k. slice_cmp nat_cmp q (string_bytes k))) m.entries)) (sym (is_eq-slice_cmp text q)))
      ∙ by (has_number q) refl
      ∙ ap (cond (is_at (slice_cmp nat_cmp text) q) w) (sym (both_at es m.entries q))
    where
      by : (b : Bool) → has_number q ≡ b
          → cond b (lookup (is_at (nat_cmp (number_of q))) es)
          (cond (is_at (slice_cmp nat_cmp text) q) w (lookup (is_at (λ k. slice_cmp nat_cmp q (string_bytes k))) m.entries))
          ≡ cond (is_at (slice_cmp nat_cmp text) q) w
          (cond b (lookup (is_at (nat_cmp (number_of q))) es) (lookup (is_at (λ k. slice_cmp nat_cmp q (string_bytes k))) m.entries))
      by true e =
          ap (λ b. cond b w (lookup (is_at (nat_cmp (number_of q))) es)) (sym (differs text q false true none e false≢true))
      by false e = refl

  pub inserted_short : (m n : BTreeMap ℕ X) (fs : List (String A × X)) (v : X) (number : ℕ) → number ≡ number_of text
      → has_number text ≡ true → UpdatesBy nat_cmp (nat_cmp number) m n (Some v)
      → both_kinds n.entries fs ≡ map.insert (both_kinds m.entries fs) text v
  inserted_short m n fs v number is has updates =
      inserted nat_list_cmp_total exact_bytes (short_entries m.entries ++ long_entries fs) (short_entries n.entries ++ long_entries fs) text v
      (short_updated m n fs (Some v) number is has updates)

  pub inserted_long : (es : List (ℕ × X)) (m n : BTreeMap (String A) X) (v : X) → has_number text ≡ false
      → UpdatesBy string_cmp (λ k. slice_cmp nat_cmp text (string_bytes k)) m n (Some v)
      → both_kinds es n.entries ≡ map.insert (both_kinds es m.entries) text v
  inserted_long es m n v none updates =
      inserted nat_list_cmp_total exact_bytes (short_entries es ++ long_entries m.entries) (short_entries es ++ long_entries n.entries) text v
      (long_updated es m n (Some v) none updates)

  pub removed_short : (m n : BTreeMap ℕ X) (fs : List (String A × X)) (number : ℕ) → number ≡ number_of text
      → has_number text ≡ true → UpdatesBy nat_cmp (nat_cmp number) m n None
      → both_kinds n.entries fs ≡ map.remove (both_kinds m.entries fs) text
  removed_short m n fs number is has updates =
      removed nat_list_cmp_total exact_bytes (short_entries m.entries ++ long_entries fs) (short_entries n.entries ++ long_entries fs) text
      (short_updated m n fs None number is has updates)

  pub removed_long : (es : List (ℕ × X)) (m n : BTreeMap (String A) X) → has_number text ≡ false
      → UpdatesBy string_cmp (λ k. slice_cmp nat_cmp text (string_bytes k)) m n None
      → both_kinds es n.entries ≡ map.remove (both_kinds es m.entries) text
  removed_long es m n none updates =
      removed nat_list_cmp_total exact_bytes (short_entries es ++ long_entries m.entries) (short_entries es ++ long_entries n.entries) text
      (long_updated es m n None none updates)

-- what holds of a value that is found, of one that is lent
pub on_lent : {X Q : Type 0} (r : Option (MutBor X)) (v : Option X) → option_copied_mut r ≡ v → (IsSome v → Q) → OnSome r Q
on_lent None v is f = tt
on_lent (Some x) v is f = f (rw (← is) refl)

-- a table without entries
pub nothing_kept : {A X : Type 0} (es : List (ℕ × X)) (fs : List (String A × X)) → es ≡ [] → fs ≡ [] → both_kinds es fs ≡ map.empty
unfolding short_entries long_entries
nothing_kept es fs none nothing =
    ap (λ xs. both_kinds xs fs) none ∙ ap (both_kinds []) nothing

-- what holds where a value is lent, of the one that is
pub lent_is : {X Q : Type 0} (r : Option X) (x : X) → r ≡ Some x → OnSome r Q → Q
lent_is {Q = Q} r x is h = subst (λ o. OnSome o Q) is h
