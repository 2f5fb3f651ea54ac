-- Entries, and the map of targets that they stand for.
use Rattle.std.proofs.Common.{◌≡◌, ℕ, suc, ◌<◌, ◌≤◌, Bool, true, false, cond, List, [], ◌∷◌, map, length, refl, ap, sym, subst, ◌∙◌, arith}
use Rattle.std.specs.Prelude.{Result, Ok, Err, OnOk, OnErr, Option, Some, None, option_map, is_some, nat_lt, bytes_eq, String, string_bytes}
use Rattle.std.specs.Prelude.{chars}
use Rattle.std.specs.BTreeMap.{insert_entry, is_at}
use Rattle.std.specs.Cmp.Lexicographic.{slice_cmp, nat_list_cmp_total}
use Rattle.std.specs.FinMap.{get, get-from_entries}
use Rattle.std.specs.List.{All}
use Rattle.std.specs.Map.{lookup}
use Rattle.std.specs.Ordering.{nat_cmp, match_ordering, is_eq}
use Rattle.std.specs.Str.{IsUtf8}
use Rattle.std.specs.String.{string_cmp}
use Rattle.std.specs.declared.cmp.Ordering.{Ordering}
use Rattle.std.specs.declared.cmp.Ordering.TheVariants.{Less, Equal, Greater}
use Rattle.std.proofs.lemmas.Bool.{lt-ltb, le-ltb}
use Rattle.std.proofs.lemmas.List.Elements.{All-nil, All-cons, All-head, All-tail, All-weaker}
use Rattle.std.proofs.lemmas.Map.Lookups.{exact_bytes}
use Rattle.std.proofs.lemmas.Map.Text.{is_eq-slice_cmp}
use Rattle.std.proofs.lemmas.Slice.Eq.{bytes_eq-Decides}
use Rattle.std.proofs.lemmas.Str.{IsUtf8-string_bytes}
use Rattle.doc_rules.specs.Characters.{Text}
use Rattle.doc_rules.specs.Destinations as rules
use Rattle.doc_refs.specs.EntrySteps.{targets_shown, AreEntries, AreGrown, earlier, with_entry}
use Rattle.doc_refs_parts.specs.Targets.{Targets, target_shown, joined, single}
use Rattle.doc_refs.specs.declared.ref_map.Entry.{Entry}
use Rattle.doc_refs_parts.specs.declared.target.Target.{Target}
use Rattle.doc_refs_parts.proofs.MapLaws.{named, is_name, is_name-same, same_targets, first_of, get-joined, get-single}
use Rattle.doc_page_parts.proofs.Bools.{same_bool}
use Rattle.doc_page_parts.proofs.Texts.{chars_injective}

-- ---- names of labels

same_test : (xs ys : List ℕ) → IsUtf8 xs → IsUtf8 ys → is_name (chars xs) (chars ys) ≡ is_eq (slice_cmp nat_cmp xs ys)
same_test xs ys u v =
    is_eq-slice_cmp (chars xs) (chars ys)
    ∙ same_bool (bytes_eq (chars xs) (chars ys)) (bytes_eq xs ys)
    (λ e. (bytes_eq-Decides xs ys).1 (chars_injective xs ys u v ((bytes_eq-Decides (chars xs) (chars ys)).0 e)))
    (λ e. (bytes_eq-Decides (chars xs) (chars ys)).1 (ap chars ((bytes_eq-Decides xs ys).0 e)))
    ∙ sym (is_eq-slice_cmp xs ys)

abbrev pub name_of : {A : Type 0} → String A → Text
name_of label = chars (string_bytes label)

abbrev pub pairs_shown : {A : Type 0} → List (String A × Entry) → List (Text × rules.Target)
pairs_shown es = map (λ e. (name_of e.0, target_shown e.1.target)) es

abbrev pub entry_shown : Option Entry → Option rules.Target
entry_shown o = option_map (λ entry. target_shown entry.target) o

-- ---- looking up

shown-choice : (a b : Bool) (entry : Entry) (o : Option rules.Target) (p : Option Entry) → a ≡ b → o ≡ entry_shown p
    → cond a (Some (target_shown entry.target)) o ≡ entry_shown (cond b (Some entry) p)
shown-choice true true entry o p e h = refl
shown-choice true false entry o p e h = absurd cc
shown-choice false true entry o p e h = absurd cc
shown-choice false false entry o p e h = h

named-shown : {A : Type 0} (es : List (String A × Entry)) (bs : List ℕ) → IsUtf8 bs
    → named (pairs_shown es) (chars bs) ≡ entry_shown (lookup (is_at (λ k. slice_cmp nat_cmp bs (string_bytes k))) es)
named-shown [] bs u = refl
named-shown (e ∷ es) bs u =
    shown-choice (is_name (chars bs) (name_of e.0)) (is_eq (slice_cmp nat_cmp bs (string_bytes e.0))) e.1
    (named (pairs_shown es) (chars bs)) (lookup (is_at (λ k. slice_cmp nat_cmp bs (string_bytes k))) es)
    (same_test bs (string_bytes e.0) u (IsUtf8-string_bytes e.0)) (named-shown es bs u)

get-shown : {A : Type 0} (es : List (String A × Entry)) (name : Text) → get (targets_shown es) name ≡ named (pairs_shown es) name
get-shown es name = get-from_entries nat_list_cmp_total (pairs_shown es) name

-- what is found under a label
pub found : {A : Type 0} (es : List (String A × Entry)) (targets : Targets) (bs : List ℕ) (o p : Option Entry) → targets_shown es ≡ targets
    → IsUtf8 bs → o ≡ lookup (is_at (λ k. slice_cmp nat_cmp bs (string_bytes k))) es → o ≡ p
    → entry_shown p ≡ get targets (chars bs)
found es targets bs o p view u is e =
    ap entry_shown (sym e ∙ is) ∙ sym (named-shown es bs u) ∙ sym (get-shown es (chars bs)) ∙ ap (λ (m : Targets). get m (chars bs)) view

-- ---- an entry more

abbrev inserted : {A : Type 0} → List (String A × Entry) → String A → Entry → List (String A × Entry)
inserted es label entry = insert_entry string_cmp es label entry

shadow : (a b : Bool) (v w : rules.Target) (o : Option rules.Target) → a ≡ b → cond a (Some v) o ≡ cond b (Some v) (cond a (Some w) o)
shadow true true v w o e = refl
shadow true false v w o e = absurd cc
shadow false true v w o e = absurd cc
shadow false false v w o e = refl

swap : (a b : Bool) (w v : rules.Target) (o : Option rules.Target) → (a ≡ true → b ≡ true → false ≡ true)
    → cond a (Some w) (cond b (Some v) o) ≡ cond b (Some v) (cond a (Some w) o)
swap true true w v o apart = let never : false ≡ true = apart refl refl in absurd cc
swap true false w v o apart = refl
swap false b w v o apart = refl

named-inserted_at : {A : Type 0} (o : Ordering) (label : String A) (entry : Entry) (e : String A
    × Entry) (es after : List (String A × Entry)) (name : Text) → o ≡ string_cmp label e.0
    → named (pairs_shown after) name ≡ cond (is_name name (name_of label)) (Some (target_shown entry.target)) (named (pairs_shown es) name)
    → named (pairs_shown (match_ordering o ((label, entry) ∷ e ∷ es) ((e.0, entry) ∷ es) (e ∷ after))) name
    ≡ cond (is_name name (name_of label)) (Some (target_shown entry.target)) (named (pairs_shown (e ∷ es)) name)
named-inserted_at Less label entry e es after name is h = refl
named-inserted_at Equal label entry e es after name is h =
    let same : string_bytes e.0 ≡ string_bytes label = sym (exact_bytes (string_bytes label) (string_bytes e.0) (sym is)) in
    shadow (is_name name (name_of e.0)) (is_name name (name_of label)) (target_shown entry.target) (target_shown e.1.target)
    (named (pairs_shown es) name) (ap (λ bs. is_name name (chars bs)) same)
named-inserted_at Greater label entry e es after name is h =
    ap (cond (is_name name (name_of e.0)) (Some (target_shown e.1.target))) h
    ∙ swap (is_name name (name_of e.0)) (is_name name (name_of label)) (target_shown e.1.target) (target_shown entry.target)
    (named (pairs_shown es) name) (λ p q.
    ap is_eq is ∙ is_eq-slice_cmp (string_bytes label) (string_bytes e.0)
    ∙ (bytes_eq-Decides (string_bytes label) (string_bytes e.0)).1
    (chars_injective (string_bytes label) (string_bytes e.0) (IsUtf8-string_bytes label) (IsUtf8-string_bytes e.0)
    (sym (is_name-same name (name_of label) q) ∙ is_name-same name (name_of e.0) p)))

named-inserted : {A : Type 0} (es : List (String A × Entry)) (label : String A) (entry : Entry) (name : Text)
    → named (pairs_shown (inserted es label entry)) name ≡ cond (is_name name (name_of label)) (Some (target_shown entry.target))
    (named (pairs_shown es) name)
named-inserted [] label entry name = refl
named-inserted (e ∷ es) label entry name = named-inserted_at (string_cmp label e.0) label entry e es (inserted es label entry) name refl
    (named-inserted es label entry name)

first_kept : (b : Bool) (o : Option rules.Target) (t u : rules.Target) → (b ≡ true → o ≡ Some u) → o ≡ first_of o (cond b (Some t) None)
first_kept true None t u h = let never : None ≡ Some u = h refl in absurd cc
first_kept false None t u h = refl
first_kept b (Some w) t u h = refl

first_new : (b : Bool) (o : Option rules.Target) (t : rules.Target) → (b ≡ true → o ≡ None)
    → cond b (Some t) o ≡ first_of o (cond b (Some t) None)
first_new true None t h = refl
first_new false None t h = refl
first_new true (Some w) t h = let never : Some w ≡ None = h refl in absurd cc
first_new false (Some w) t h = refl

-- the entries with one more where none was found, as o says
abbrev put_at : {A : Type 0} → Option Entry → List (String A × Entry) → String A → Entry → List (String A × Entry)
put_at o es label entry = cond (is_some o) es (inserted es label entry)

named-at : {A : Type 0} (es : List (String A × Entry)) (label : String A) (o : Option Entry) (name : Text)
    → o ≡ lookup (is_at (string_cmp label)) es → is_name name (name_of label) ≡ true → named (pairs_shown es) name ≡ entry_shown o
named-at es label o name is e =
    ap (named (pairs_shown es)) (is_name-same name (name_of label) e) ∙ named-shown es (string_bytes label) (IsUtf8-string_bytes label)
    ∙ ap entry_shown (sym is)

named-put : {A : Type 0} (o : Option Entry) (es : List (String A × Entry)) (label : String A) (entry : Entry) (name : Text)
    → o ≡ lookup (is_at (string_cmp label)) es
    → named (pairs_shown (put_at o es label entry)) name ≡ first_of (named (pairs_shown es) name)
    (cond (is_name name (name_of label)) (Some (target_shown entry.target)) None)
named-put (Some there) es label entry name is =
    first_kept (is_name name (name_of label)) (named (pairs_shown es) name) (target_shown entry.target) (target_shown there.target)
    (named-at es label (Some there) name is)
named-put None es label entry name is =
    named-inserted es label entry name ∙ first_new (is_name name (name_of label)) (named (pairs_shown es) name) (target_shown entry.target)
    (named-at es label None name is)

abbrev entry_of : {A : Type 0} → List (String A × Entry) → Target → Entry
entry_of es target = record { before = length es; target = target }

named-with : {A : Type 0} (es : List (String A × Entry)) (label : String A) (target : Target) (name : Text)
    → named (pairs_shown (with_entry es label target)) name ≡ first_of (named (pairs_shown es) name)
    (cond (is_name name (name_of label)) (Some (target_shown target)) None)
named-with es label target name = named-put (lookup (is_at (string_cmp label)) es) es label (entry_of es target) name refl

get-with : {A : Type 0} (es : List (String A × Entry)) (label : String A) (target : Target) (name : Text)
    → get (targets_shown (with_entry es label target)) name ≡ first_of (get (targets_shown es) name)
    (cond (is_name name (name_of label)) (Some (target_shown target)) None)
get-with es label target name =
    get-shown (with_entry es label target) name ∙ named-with es label target name
    ∙ ap (λ o. first_of o (cond (is_name name (name_of label)) (Some (target_shown target)) None)) (sym (get-shown es name))

-- an entry more is a target joined
pub with_shown : {A : Type 0} (es : List (String A × Entry)) (label : String A) (target : Target)
    → targets_shown (with_entry es label target) ≡ joined (targets_shown es) (single (name_of label) (target_shown target))
with_shown es label target = same_targets (targets_shown (with_entry es label target))
    (joined (targets_shown es) (single (name_of label) (target_shown target))) (λ name.
    get-with es label target name
    ∙ ap (first_of (get (targets_shown es) name)) (sym (get-single (name_of label) (target_shown target) name))
    ∙ sym (get-joined (targets_shown es) (single (name_of label) (target_shown target)) name))

step-choice : (first second : Option rules.Target) (b : Bool) (t : rules.Target)
    → first_of first (cond b (Some t) second) ≡ first_of (first_of first (cond b (Some t) None)) second
step-choice None second true t = refl
step-choice None second false t = refl
step-choice (Some u) second b t = refl

-- the first of the entries to be joined may be put in before the others
pub joined-next : {A : Type 0} (es rest : List (String A × Entry)) (label : String A) (entry : Entry)
    → joined (targets_shown es) (targets_shown ((label, entry) ∷ rest))
    ≡ joined (targets_shown (with_entry es label entry.target)) (targets_shown rest)
joined-next es rest label entry = same_targets (joined (targets_shown es) (targets_shown ((label, entry) ∷ rest)))
    (joined (targets_shown (with_entry es label entry.target)) (targets_shown rest)) (λ name.
    get-joined (targets_shown es) (targets_shown ((label, entry) ∷ rest)) name
    ∙ ap (first_of (get (targets_shown es) name)) (get-shown ((label, entry) ∷ rest) name)
    ∙ step-choice (get (targets_shown es) name) (named (pairs_shown rest) name) (is_name name (name_of label)) (target_shown entry.target)
    ∙ ap (λ o. first_of o (named (pairs_shown rest) name)) (sym (get-with es label entry.target name))
    ∙ ap (first_of (get (targets_shown (with_entry es label entry.target)) name)) (sym (get-shown rest name))
    ∙ sym (get-joined (targets_shown (with_entry es label entry.target)) (targets_shown rest) name))

-- ---- entries that came earlier

all-earlier : {A : Type 0} (n : ℕ) (es : List (String A × Entry)) → All (λ e. e.1.before < n) es → earlier n es ≡ es
all-earlier n [] h = refl
all-earlier n (e ∷ es) h =
    ap (λ (b : Bool). cond b (e ∷ earlier n es) (earlier n es)) (lt-ltb e.1.before n (All-head (λ e. e.1.before < n) e es h))
    ∙ ap (λ t. e ∷ t) (all-earlier n es (All-tail (λ e. e.1.before < n) e es h))

one_more : (b : Bool) (m n : ℕ) → m ≤ n → cond b (suc m) m ≤ suc n
one_more true m n h = omega arith
one_more false m n h = omega arith

length-choice : {A : Type 0} (b : Bool) (e : String A × Entry) (es : List (String A × Entry))
    → length (cond b (e ∷ es) es) ≡ cond b (suc (length es)) (length es)
length-choice true e es = refl
length-choice false e es = refl

length-earlier : {A : Type 0} (n : ℕ) (es : List (String A × Entry)) → length (earlier n es) ≤ length es
length-earlier n [] = omega arith
length-earlier n (e ∷ es) = subst (λ (m : ℕ). m ≤ suc (length es)) (sym (length-choice (nat_lt e.1.before n) e (earlier n es)))
    (one_more (nat_lt e.1.before n) (length (earlier n es)) (length es) (length-earlier n es))

-- what an entry more, whose label was not found, does to a list
module _ {A : Type 0} (label : String A) (entry : Entry) where
  abbrev missed : List (String A × Entry) → Type 0
  missed es = lookup (is_at (string_cmp label)) es ≡ None

  earlier-inserted_at : (o : Ordering) (n : ℕ) (e : String A × Entry) (es after : List (String A × Entry)) → nat_lt entry.before n ≡ false
      → cond (is_eq o) (Some e.1) (lookup (is_at (string_cmp label)) es) ≡ None
      → (missed es → earlier n after ≡ earlier n es)
      → earlier n (match_ordering o ((label, entry) ∷ e ∷ es) ((e.0, entry) ∷ es) (e ∷ after)) ≡ earlier n (e ∷ es)
  earlier-inserted_at Less n e es after late none h = ap (λ (b : Bool). cond b ((label, entry) ∷ earlier n (e ∷ es)) (earlier n (e ∷ es)))
      late
  earlier-inserted_at Equal n e es after late none h = let never : Some e.1 ≡ None = none in absurd cc
  earlier-inserted_at Greater n e es after late none h = ap (λ t. cond (nat_lt e.1.before n) (e ∷ t) t) (h none)

  earlier-inserted : (n : ℕ) (es : List (String A × Entry)) → nat_lt entry.before n ≡ false → missed es
      → earlier n (inserted es label entry) ≡ earlier n es
  earlier-inserted n [] late none = ap (λ (b : Bool). cond b ((label, entry) ∷ []) []) late
  earlier-inserted n (e ∷ es) late none = earlier-inserted_at (string_cmp label e.0) n e es (inserted es label entry) late none
      (earlier-inserted n es late)

  length-inserted_at : (o : Ordering) (e : String A × Entry) (es after : List (String A × Entry))
      → cond (is_eq o) (Some e.1) (lookup (is_at (string_cmp label)) es) ≡ None
      → (missed es → length after ≡ suc (length es)) → length (match_ordering o ((label, entry) ∷ e ∷ es) ((e.0, entry) ∷ es) (e ∷ after))
      ≡ suc (suc (length es))
  length-inserted_at Less e es after none h = refl
  length-inserted_at Equal e es after none h = let never : Some e.1 ≡ None = none in absurd cc
  length-inserted_at Greater e es after none h = ap suc (h none)

  length-inserted : (es : List (String A × Entry)) → missed es → length (inserted es label entry) ≡ suc (length es)
  length-inserted [] none = refl
  length-inserted (e ∷ es) none = length-inserted_at (string_cmp label e.0) e es (inserted es label entry) none (length-inserted es)

  All-inserted_at : (P : String A × Entry → Type 0) (o : Ordering) (e : String A × Entry) (es after : List (String A × Entry))
      → cond (is_eq o) (Some e.1) (lookup (is_at (string_cmp label)) es) ≡ None → P (label, entry) → All P (e ∷ es)
      → (missed es → All P after) → All P (match_ordering o ((label, entry) ∷ e ∷ es) ((e.0, entry) ∷ es) (e ∷ after))
  All-inserted_at P Less e es after none one all h = All-cons P (label, entry) (e ∷ es) one all
  All-inserted_at P Equal e es after none one all h = let never : Some e.1 ≡ None = none in absurd cc
  All-inserted_at P Greater e es after none one all h = All-cons P e after (All-head P e es all) (h none)

  All-inserted : (P : String A × Entry → Type 0) (es : List (String A × Entry)) → missed es → P (label, entry) → All P es
      → All P (inserted es label entry)
  All-inserted P [] none one all = All-cons P (label, entry) [] one (All-nil P)
  All-inserted P (e ∷ es) none one all = All-inserted_at P (string_cmp label e.0) e es (inserted es label entry) none one all
      (λ m. All-inserted P es m one (All-tail P e es all))

below_next : (a n : ℕ) → a < n → a < suc n
below_next a n h = omega arith

are_entries-put : {A : Type 0} (o : Option Entry) (es : List (String A × Entry)) (label : String A) (target : Target)
    → o ≡ lookup (is_at (string_cmp label)) es → AreEntries es → AreEntries (put_at o es label (entry_of es target))
are_entries-put (Some there) es label target is all = all
are_entries-put None es label target is all =
    let last : length es < suc (length es) = omega arith in
    subst (λ (n : ℕ). All (λ e. e.1.before < n) (inserted es label (entry_of es target)))
    (sym (length-inserted label (entry_of es target) es (sym is)))
    (All-inserted label (entry_of es target) (λ e. e.1.before < suc (length es)) es (sym is) last
    (All-weaker (λ e. e.1.before < length es) (λ e. e.1.before < suc (length es)) (λ e h. below_next e.1.before (length es) h) es all))

earlier-put : {A : Type 0} (o : Option Entry) (n : ℕ) (es : List (String A × Entry)) (label : String A) (target : Target)
    → o ≡ lookup (is_at (string_cmp label)) es → n ≤ length es → earlier n (put_at o es label (entry_of es target)) ≡ earlier n es
earlier-put (Some there) n es label target is h = refl
earlier-put None n es label target is h = earlier-inserted label (entry_of es target) n es (le-ltb (length es) n h) (sym is)

pub are_entries-with : {A : Type 0} (es : List (String A × Entry)) (label : String A) (target : Target) → AreEntries es
    → AreEntries (with_entry es label target)
are_entries-with es label target all = are_entries-put (lookup (is_at (string_cmp label)) es) es label target refl all

pub grown-none : {A : Type 0} (es : List (String A × Entry)) → AreGrown es es
grown-none es all = (all, all-earlier (length es) es all)

pub grown-with : {A : Type 0} (old es : List (String A × Entry)) (label : String A) (target : Target) → AreGrown old es
    → AreGrown old (with_entry es label target)
grown-with old es label target h all =
    let grown = h all in
    let fits : length old ≤ length es = subst (λ (n : ℕ). n ≤ length es) (ap length grown.1) (length-earlier (length old) es) in (
      are_entries-with es label target grown.0,
      earlier-put (lookup (is_at (string_cmp label)) es) (length old) es label target refl fits
          ∙ grown.1,
    )

-- ---- after a call that may have put one in

pub are_entries-after : {A X Y : Type 0} (r : Result X Y) (old new : List (String A × Entry)) (label : String A) (target : Target)
    → OnOk r (new ≡ with_entry old label target) → OnErr r (new ≡ old) → AreEntries old → AreEntries new
are_entries-after (Ok x) old new label target ok err all = subst AreEntries (sym ok) (are_entries-with old label target all)
are_entries-after (Err x) old new label target ok err all = subst AreEntries (sym err) all

pub shown-after : {A X Y : Type 0} (r : Result X Y) (old new : List (String A × Entry)) (targets : Targets) (label : String A)
    (target : Target) → OnOk r (new ≡ with_entry old label target) → targets_shown old ≡ targets
    → OnOk r (targets_shown new ≡ joined targets (single (name_of label) (target_shown target)))
shown-after (Ok x) old new targets label target ok view = ap targets_shown ok ∙ with_shown old label target
    ∙ ap (λ (m : Targets). joined m (single (name_of label) (target_shown target))) view
shown-after (Err x) old new targets label target ok view = tt

-- without what came, the old ones are there again
pub restored : {A : Type 0} (old new kept : List (String A × Entry)) (n : ℕ) → n ≡ length old → kept ≡ earlier n new → AreGrown old new
    → AreEntries old → kept ≡ old
restored old new kept n len is grown all = is ∙ ap (λ (m : ℕ). earlier m new) len ∙ (grown all).1
