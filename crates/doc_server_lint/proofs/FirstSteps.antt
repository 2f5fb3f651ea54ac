-- The first finding of some, for which a document is refused.
use Rattle.std.proofs.Common.{◌≡◌, ◌+◌, ℕ, List, [], ◌∷◌, ◌++◌, Bool, true, false, not, ◌&&◌, cond, codes, refl, ap, ◌∙◌}
use Rattle.std.specs.Prelude.{Option, Some, None, option_map, if◌then◌else◌}
use Rattle.std.specs.List.{find, flat_map}
use Rattle.std.specs.Option.{option_or}
use Rattle.toml.specs.Data.{Data, Items, no_items, item, Members, get, as_table}
use Rattle.doc_store_readers.specs.Keys.{key_in}
use Rattle.doc_server_config.specs.Keys.{is_one_of, keys_in}
use Rattle.doc_server_lint_faults.specs.declared.finding.Finding.{Finding}
use Rattle.doc_server_lint_faults.specs.declared.place.Place.{Place}
use Rattle.doc_server_lint_faults.specs.declared.place.Place.TheVariants as place
use Rattle.doc_server_lint_faults.specs.declared.what.What.{What}
use Rattle.doc_server_lint_faults.specs.declared.what.What.TheVariants.{TokenOf, Unknown}
use Rattle.doc_server_lint.specs.declared.known_readers.KnownReaders.{KnownReaders}
use Rattle.doc_server_lint_faults.specs.TableFaults.{fault_of_key, faults_of_closed, faults_of_held, faults_of_keys, faults_of_page}
use Rattle.doc_server_lint_faults.specs.TableFaults.{faults_of_pages}
use Rattle.doc_server_lint.specs.Faults.{faults_of_entry, faults_of_name, faults_of_reader, faults_of_readers, faults_of_row, known_at}
use Rattle.doc_server_lint_faults.specs.TableFaults.{finding_of}
use Rattle.doc_server_lint.specs.Faults.{naming_fault, naming_key, with_reader}
use Rattle.doc_server_lint_faults.specs.TableFaults.{source_fault}
use Rattle.doc_server_lint.specs.Laws.{first_refusal, is_clear, is_refusal}
use Rattle.doc_server_lint_faults.specs.Rules.{Keys, name_key, names_of, page_keys, reader_keys}
use Rattle.doc_server_lint_faults.specs.Unknown.{meant, unknown_in, unknown_in_table, unknown_key}
use Rattle.doc_server_lint_faults.specs.Values.{key_fault}

module _ (test : Finding → Bool) where
  -- of two lists the first
  pub first_append : (found more : List Finding)
      → first_refusal test (found ++ more) ≡ option_or (first_refusal test found) (first_refusal test more)
  first_append [] more = refl
  first_append (finding ∷ found) more = by (is_refusal finding && test finding) (first_append found more)
    where
      by : (b : Bool) → first_refusal test (found ++ more) ≡ option_or (first_refusal test found) (first_refusal test more)
          → option_map (λ one. one.place) (cond b (Some finding) (find (λ one. is_refusal one && test one) (found ++ more)))
          ≡ option_or (option_map (λ one. one.place) (cond b (Some finding) (find (λ one. is_refusal one && test one) found)))
          (first_refusal test more)
      by true rest = refl
      by false rest = rest

  -- none where there is no refusal
  pub none_of_clear : (found : List Finding) → is_clear found ≡ true → first_refusal test found ≡ None
  none_of_clear [] clear = refl
  none_of_clear (finding ∷ found) clear = by (is_refusal finding) (none_of_clear found) clear
    where
      by : (b : Bool) → (is_clear found ≡ true → first_refusal test found ≡ None) → (not b && is_clear found) ≡ true
          → option_map (λ one. one.place) (cond (b && test finding) (Some finding) (find (λ one. is_refusal one && test one) found)) ≡ None
      by true rest clear = cc
      by false rest clear = rest clear

-- what holds of each
abbrev pub Each : {X : Type 0} → (X → Type 0) → List X → Type 0
Each P [] = Unit {0}
Each P (x ∷ xs) = P x × Each P xs

pub each_append : {X : Type 0} (P : X → Type 0) (xs ys : List X) → Each P xs → Each P ys → Each P (xs ++ ys)
each_append P [] ys a b = b
each_append P (x ∷ xs) ys a b = (a.0, each_append P xs ys a.1 b)

pub each_flat : {X Y : Type 0} (P : Y → Type 0) (tell : X → List Y) (xs : List X) → ((x : X) → Each P (tell x)) → Each P (flat_map tell xs)
each_flat P tell [] each = tt
each_flat P tell (x ∷ xs) each = each_append P (tell x) (flat_map tell xs) (each x) (each_flat P tell xs each)

pub each_map : {X : Type 0} (P Q : X → Type 0) (xs : List X) → ((x : X) → P x → Q x) → Each P xs → Each Q xs
each_map P Q [] turn each = tt
each_map P Q (x ∷ xs) turn each = (turn x each.0, each_map P Q xs turn each.1)

-- findings of one place
abbrev pub AreAt : Place → List Finding → Type 0
AreAt place found = Each (λ finding. finding.place ≡ place) found

-- a finding of a place that passes a test
abbrev pub IsAt : (Finding → Bool) → Place → Finding → Type 0
IsAt test place finding = (test finding ≡ true) × (finding.place ≡ place)

-- no finding of a place passes a test
abbrev pub IsOff : (Finding → Bool) → Place → Type 0
IsOff test place = (finding : Finding) → finding.place ≡ place → test finding ≡ false

pub none_of_each : (test : Finding → Bool) (found : List Finding) → Each (λ finding. test finding ≡ false) found
    → first_refusal test found ≡ None
none_of_each test [] each = refl
none_of_each test (finding ∷ found) each = by (is_refusal finding) (test finding) (none_of_each test found each.1) each.0
  where
    by : (b t : Bool) → first_refusal test found ≡ None → t ≡ false
        → option_map (λ one. one.place) (cond (b && t) (Some finding) (find (λ one. is_refusal one && test one) found)) ≡ None
    by b true rest never = cc
    by true false rest never = rest
    by false false rest never = rest

pub none_there : (test : Finding → Bool) (place : Place) (found : List Finding) → IsOff test place → AreAt place found
    → first_refusal test found ≡ None
none_there test place found off are =
    none_of_each test found (each_map (λ finding. finding.place ≡ place) (λ finding. test finding ≡ false) found off are)

pub first_there : (test : Finding → Bool) (place : Place) (found : List Finding) → Each (IsAt test place) found → is_clear found ≡ false
    → first_refusal test found ≡ Some place
first_there test place [] each bad = cc
first_there test place (finding ∷ found) each bad =
    by (is_refusal finding) (test finding) (first_there test place found each.1) each.0.0 bad
  where
    by : (b t : Bool) → (is_clear found ≡ false → first_refusal test found ≡ Some place) → t ≡ true
        → (not b && is_clear found) ≡ false
        → option_map (λ one. one.place) (cond (b && t) (Some finding) (find (λ one. is_refusal one && test one) found)) ≡ Some place
    by b false rest never bad = cc
    by true true rest holds bad = ap Some each.0.1
    by false true rest holds bad = rest bad

pub first_here : (test : Place → Bool) (place : Place) (found : List Finding) → test place ≡ true → AreAt place found
    → is_clear found ≡ false → first_refusal (λ finding. test finding.place) found ≡ Some place
first_here test place found is are =
    first_there (λ finding. test finding.place) place found
    (each_map (λ finding. finding.place ≡ place) (IsAt (λ finding. test finding.place) place) found (λ one at. (ap test at ∙ is, at)) are)

-- what holds of what is told of each of these keys
pub keys_each : (P : Finding → Type 0) (place : Place) (keys : Keys) (held : List ℕ → Option Data)
    → Each (λ key. Each P (fault_of_key place held key)) keys → Each P (faults_of_keys place keys held)
keys_each P place [] held each = tt
keys_each P place (key ∷ keys) held each =
    each_append P (fault_of_key place held key) (faults_of_keys place keys held) each.0 (keys_each P place keys held each.1)

-- ---- where things are told

finding_at : (is_fault : Bool) (place : Place) (key : Option (List ℕ)) (what : Option What)
    → AreAt place (finding_of is_fault place key what)
finding_at is_fault place key None = tt
finding_at is_fault place key (Some what) = (refl, tt)

pub keys_at_place : (place : Place) (keys : Keys) (held : List ℕ → Option Data) → AreAt place (faults_of_keys place keys held)
keys_at_place place keys held =
    each_flat (λ finding. finding.place ≡ place) (fault_of_key place held) keys
    (λ key. finding_at true place (Some key.0) (key_fault key.1 (held key.0)))

unknown_at : (place : Place) (known : List (List ℕ)) (value : Data) → AreAt place (unknown_in true place known value)
unknown_at place known value = by (as_table value)
  where
    by_key : (key : List ℕ) (b : Bool)
        → AreAt place (if b then []
        else record { place = place; key = Some key; what = Unknown (meant known key); is_fault = true } ∷ [])
    by_key key true = tt
    by_key key false = (refl, tt)

    by : (table : Option Members) → AreAt place (unknown_in_table true place known table)
    by None = tt
    by (Some table) =
        each_flat (λ finding. finding.place ≡ place) (unknown_key true place known) (keys_in table) (λ key. by_key key
        (is_one_of known key))

pub closed_at : (place : Place) (keys : Keys) (value : Data) → AreAt place (faults_of_closed place keys value)
closed_at place keys value =
    each_append (λ finding. finding.place ≡ place) (unknown_in true place (names_of keys) value) _ (unknown_at place (names_of keys) value)
    (keys_at_place place keys (λ key. get key value))

pub held_at : (place : Place) (keys : Keys) (held : Option Data) → AreAt place (faults_of_held place keys held)
held_at place keys None = tt
held_at place keys (Some value) = closed_at place keys value

pub page_at : (n : ℕ) (row : Data) → AreAt (place.Page n) (faults_of_page n row)
page_at n row =
    each_append (λ finding. finding.place ≡ place.Page n) (faults_of_keys (place.Page n) page_keys (λ key. get key row)) _
    (keys_at_place (place.Page n) page_keys (λ key. get key row))
    (finding_at true (place.Page n) None (source_fault (get (codes "text") row) (get (codes "file") row)))

row_at : (n : ℕ) (row : Data) → AreAt (place.Reader n) (faults_of_row n row)
row_at n row =
    each_append (λ finding. finding.place ≡ place.Reader n)
    (finding_of true (place.Reader n) (Some (codes "token")) (naming_fault (get (codes "token") row) (get (codes "token_sha256") row))) _
    (finding_at true (place.Reader n) (Some (codes "token")) (naming_fault (get (codes "token") row) (get (codes "token_sha256") row)))
    (keys_at_place (place.Reader n) reader_keys (λ key. get key row))

entry_at : (known : KnownReaders) (n : ℕ) (row : Data) → AreAt (place.Reader n) (faults_of_entry known n row)
entry_at known n row =
    each_append (λ finding. finding.place ≡ place.Reader n) (faults_of_row n row) _ (row_at n row)
    (finding_at true (place.Reader n) (Some (naming_key (key_in row))) (option_map TokenOf (known_at known (key_in row))))

reader_at : (known : KnownReaders) (n : ℕ) (row : Data) → AreAt (place.Reader n) (faults_of_reader known n row)
reader_at known n row =
    each_append (λ finding. finding.place ≡ place.Reader n) (faults_of_entry known n row) (faults_of_name n row) (entry_at known n row)
    (finding_at true (place.Reader n) (Some name_key.0) (key_fault name_key.1 (get name_key.0 row)))

-- ---- where nothing of a kind is told

pub no_readers : (test : Place → Bool) → ((n : ℕ) → test (place.Reader n) ≡ false) → (known : KnownReaders) (n : ℕ)
    (rows : Items) → first_refusal (λ finding. test finding.place) (faults_of_readers known n rows) ≡ None
no_readers test is known n no_items = refl
no_readers test is known n (item row rest) =
    let here = none_there (λ finding. test finding.place) (place.Reader n) (faults_of_reader known n row) (λ one at. ap test at ∙ is n)
    (reader_at known n row) in
    first_append (λ finding. test finding.place) (faults_of_reader known n row) _
    ∙ (λ i. option_or (here i) (no_readers test is (with_reader known (key_in row) n) (n + 1) rest i))

pub no_pages : (test : Place → Bool) → ((n : ℕ) → test (place.Page n) ≡ false) → (n : ℕ) (rows : Items)
    → first_refusal (λ finding. test finding.place) (faults_of_pages n rows) ≡ None
no_pages test is n no_items = refl
no_pages test is n (item row rest) =
    let here = none_there (λ finding. test finding.place) (place.Page n) (faults_of_page n row) (λ one at. ap test at ∙ is n)
    (page_at n row) in
    first_append (λ finding. test finding.place) (faults_of_page n row) _ ∙ (λ i. option_or (here i) (no_pages test is (n + 1) rest i))
