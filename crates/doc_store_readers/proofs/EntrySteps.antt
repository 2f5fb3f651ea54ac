-- Steps of the reading of reader entries.
use Rattle.std.proofs.Common.{◌≡◌, ◌+◌, ◌<◌, ◌≤◌, ℕ, List, [], ◌∷◌, ◌++◌, map, drop, get_or, length, refl, ap, sym, ◌∙◌}
use Rattle.std.specs.Prelude.{Option, Some, None, Err, option_map, option_and_then}
use Rattle.std.specs.Borrow.{Bor}
use Rattle.std.proofs.lemmas.List.{append_assoc, append-nil, drop_all, map-append}
use Rattle.toml.specs.Data.{Data, Items, no_items, item, as_str}
use Rattle.toml.specs.View.{items_view, view}
use Rattle.toml.specs.declared.value.Value.{Value}
use Rattle.toml.proofs.Views.{items_view-drop}
use Rattle.doc_store_readers.specs.declared.entries.Entry.{Entry}
use Rattle.doc_store_readers.specs.declared.readers.ReadersError.TheVariants.{BadRow}
use Rattle.doc_store_readers.specs.Readers.{entries_from, entry_of, strings_in}

-- what is left of the values is the one at this index, and then what is left behind it
pub row_more : (values : List Value) (i : ℕ) (value : Value) → i < length values → value ≡ get_or values i value
    → items_view (drop i values) ≡ item (view value) (items_view (drop (i + 1) values))
row_more values i value within here =
    items_view-drop values i value within ∙ ap (λ value. item (view value) (items_view (drop (i + 1) values))) (sym here)

-- behind the last value nothing is left
pub rows_done : (values : List Value) (i : ℕ) → length values ≤ i → items_view (drop i values) ≡ no_items
rows_done values i past = ap items_view (drop_all i values past)

pub entry_more : (found more : List Entry) (n : ℕ) (row : Data) (rows rest : Items) (entry : Entry)
    → rows ≡ item row rest → entry_of row ≡ Some entry → more ≡ found ++ entry ∷ []
    → entries_from found n rows ≡ entries_from more (n + 1) rest
entry_more found more n row rows rest entry first is next = rw (first, is, entries_from, next)

pub entry_bad : (found : List Entry) (n : ℕ) (row : Data) (rows rest : Items)
    → rows ≡ item row rest → entry_of row ≡ None → entries_from found n rows ≡ Err (BadRow n)
entry_bad found n row rows rest first is = rw (first, is, entries_from)

-- the strings found so far, and those of the items that are left
abbrev pub strings_after : List (List ℕ) → Items → Option (List (List ℕ))
strings_after found items = option_map (λ texts. found ++ texts) (strings_in items)

-- the strings of an item whose string this is, if it is one, and of those behind it
abbrev strings_with : List (List ℕ) → Items → Option (List ℕ) → Option (List (List ℕ))
strings_with found rest text =
    option_map (λ texts. found ++ texts) (option_and_then (λ text. option_map (λ texts. text ∷ texts) (strings_in rest)) text)

-- the bytes of the texts found
abbrev shown : List (Bor (List ℕ)) → List (List ℕ)
shown found = map (λ text. text.now) found

-- before the first item
pub strings_first : (found : List (Bor (List ℕ))) (items : Items) → found ≡ [] → strings_in items ≡ strings_after (shown found) items
strings_first found items none =
    same (strings_in items) ∙ ap (λ (texts : List (Bor (List ℕ))). strings_after (shown texts) items) (sym none)
  where
    same : (strings : Option (List (List ℕ))) → strings ≡ option_map (λ texts. [] ++ texts) strings
    same None = refl
    same (Some texts) = refl

-- one more item is a string
pub string_more : (found more : List (Bor (List ℕ))) (row : Data) (rows rest : Items) (text : Bor (List ℕ)) → rows ≡ item row rest
    → as_str row ≡ Some text.now → more ≡ found ++ text ∷ [] → strings_after (shown found) rows ≡ strings_after (shown more) rest
string_more found more row rows rest text first is next =
    ap (strings_after (shown found)) first ∙ ap (strings_with (shown found) rest) is ∙ moved (strings_in rest)
    ∙ ap (λ texts. strings_after texts rest) (sym (ap shown next ∙ map-append (λ text. text.now) found (text ∷ [])))
  where
    moved : (strings : Option (List (List ℕ))) → option_map (λ texts. shown found ++ texts) (option_map (λ texts. text.now ∷ texts) strings)
        ≡ option_map (λ texts. (shown found ++ text.now ∷ []) ++ texts) strings
    moved None = refl
    moved (Some texts) = ap Some (sym (append_assoc (shown found) (text.now ∷ []) texts))

-- an item is no string
pub string_bad : (found : List (Bor (List ℕ))) (row : Data) (rows rest : Items) → rows ≡ item row rest → as_str row ≡ None
    → strings_after (shown found) rows ≡ None
string_bad found row rows rest first is = ap (strings_after (shown found)) first ∙ ap (strings_with (shown found) rest) is

-- no item is left
pub strings_done : (found : List (Bor (List ℕ))) (rows : Items) → rows ≡ no_items → strings_after (shown found) rows ≡ Some (shown found)
strings_done found rows none = ap (strings_after (shown found)) none ∙ ap Some (append-nil (shown found))
