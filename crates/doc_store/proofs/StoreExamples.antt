-- The edits of stores on worked examples: a site of three pages, a.md and b.md for the staff and c.md for ops.
use Rattle.std.proofs.Common.{◌≡◌, ℕ, List, [], ◌∷◌, true, false, codes, refl}
use Rattle.std.specs.Prelude.{Result, Ok, Err}
use Rattle.std.specs.FinMap as map
use Rattle.std.specs.List.Sorted.{IsStrictlySortedBy}
use Rattle.doc_page_parts.specs.Tokens.{is_token}
use Rattle.doc_store.specs.declared.moving.MoveError.{MoveError}
use Rattle.doc_store.specs.declared.moving.MoveError.TheVariants as move_errors
use Rattle.doc_store_readers.specs.declared.reader.Reader.{Reader}
use Rattle.doc_store_readers.specs.declared.readers.ReaderError.{ReaderError}
use Rattle.doc_store_readers.specs.declared.readers.ReaderError.TheVariants.{BadToken}
use Rattle.doc_store_readers.specs.declared.readers.Set.{Set}
use Rattle.doc_store.specs.declared.store.EditError.{EditError}
use Rattle.doc_store.specs.declared.store.EditError.TheVariants.{StoreFull}
use Rattle.doc_store.specs.declared.store.Put.{Put}
use Rattle.doc_store.specs.declared.store.Put.TheVariants.{Created, Replaced}
use Rattle.doc_store.proofs.StoreOnLists.{Entries, made, has-made, removed-made, len-none, len-more, store_of, no_page_on, taken_on}
use Rattle.doc_store.proofs.StoreOnLists.{full_on, moved_on, put_on, removed_on, not_removed_on}
use Rattle.doc_store_readers.specs.Pages.{Page}
use Rattle.doc_store_readers.specs.Readers.{ReaderTable, set_reader, without_reader}
use Rattle.doc_store.specs.Store.{StoreState, fits, put_into, without_page, moved_in, text_limit, page_limit, alias_limit, put_limit}

abbrev staff : List (List ℕ)
staff = codes "staff" ∷ []

abbrev ops : List (List ℕ)
ops = codes "ops" ∷ []

abbrev a_page : Page
a_page = record { groups = staff; text = codes "Hello" }

abbrev b_page : Page
b_page = record { groups = staff; text = codes "[c](c.md) [d](d.md)" }

abbrev c_page : Page
c_page = record { groups = ops; text = codes "Secret" }

abbrev pages : Entries Page
pages = (codes "a.md", a_page) ∷ (codes "b.md", b_page) ∷ (codes "c.md", c_page) ∷ []

abbrev stamps : Entries ℕ
stamps = (codes "a.md", 0) ∷ (codes "b.md", 1) ∷ (codes "c.md", 2) ∷ []

abbrev site : StoreState
site = store_of pages [] stamps 3

abbrev MoveAnswer : Type 0
MoveAnswer = StoreState × Result (Unit {0}) MoveError

-- ---- whether a put fits

last_new_path : fits 9999 false 7 (codes "x") ≡ Ok tt
unfolding text_limit page_limit put_limit
last_new_path = refl

full_for_a_new_path : fits 10000 false 7 (codes "x") ≡ Err StoreFull
unfolding text_limit page_limit put_limit
full_for_a_new_path = refl

full_but_for_an_old_path : fits 10000 true 7 (codes "x") ≡ Ok tt
unfolding text_limit page_limit put_limit
full_but_for_an_old_path = refl

last_put : fits 1 true 18446744073709551614 (codes "x") ≡ Ok tt
unfolding text_limit page_limit put_limit
last_put = refl

no_put_left : fits 1 true 18446744073709551615 (codes "x") ≡ Err StoreFull
unfolding text_limit page_limit put_limit
no_put_left = refl

-- ---- moves

move_of_no_page : ◌≡◌ {A = MoveAnswer} (moved_in site (codes "zz.md") (codes "y.md")) (site, Err move_errors.NoPage)
move_of_no_page = no_page_on pages [] stamps 3 (codes "zz.md") (codes "y.md") refl

move_onto_a_page : ◌≡◌ {A = MoveAnswer} (moved_in site (codes "a.md") (codes "b.md")) (site, Err move_errors.Taken)
move_onto_a_page = taken_on pages [] stamps 3 (codes "a.md") (codes "b.md") refl refl

move_onto_itself : ◌≡◌ {A = MoveAnswer} (moved_in site (codes "a.md") (codes "a.md")) (site, Err move_errors.Taken)
move_onto_itself = taken_on pages [] stamps 3 (codes "a.md") (codes "a.md") refl refl

-- c.md goes to e/c.md, and is an alias of it
abbrev moved_pages : Entries Page
moved_pages = (codes "e/c.md", c_page) ∷ (codes "a.md", a_page) ∷ (codes "b.md", b_page) ∷ []

abbrev moved_stamps : Entries ℕ
moved_stamps = (codes "e/c.md", 3) ∷ (codes "a.md", 0) ∷ (codes "b.md", 1) ∷ []

abbrev one_alias : Entries (List ℕ)
one_alias = (codes "c.md", codes "e/c.md") ∷ []

abbrev moved : StoreState
moved = store_of moved_pages one_alias moved_stamps 4

move_leaves_an_alias : ◌≡◌ {A = MoveAnswer} (moved_in site (codes "c.md") (codes "e/c.md")) (moved, Ok tt)
unfolding alias_limit put_limit
move_leaves_an_alias =
    moved_on pages [] stamps 3 (codes "c.md") (codes "e/c.md") c_page 1 refl refl
    (len-more (codes "c.md") (codes "e/c.md") [] 0 refl (len-none (List ℕ))) refl

move_of_an_alias : ◌≡◌ {A = MoveAnswer} (moved_in moved (codes "c.md") (codes "y.md")) (moved, Err move_errors.NoPage)
move_of_an_alias = no_page_on moved_pages one_alias moved_stamps 4 (codes "c.md") (codes "y.md") refl

-- and back: c.md is no alias any more, and e/c.md is one
move_to_its_alias : ◌≡◌ {A = MoveAnswer} (moved_in moved (codes "e/c.md") (codes "c.md")) (
  store_of ((codes "c.md", c_page) ∷ (codes "a.md", a_page) ∷ (codes "b.md", b_page) ∷ []) ((codes "e/c.md", codes "c.md") ∷ [])
      ((codes "c.md", 4) ∷ (codes "a.md", 0) ∷ (codes "b.md", 1) ∷ []) 5,
  Ok tt,
)
unfolding alias_limit put_limit
move_to_its_alias =
    moved_on moved_pages one_alias moved_stamps 4 (codes "e/c.md") (codes "c.md") c_page 1 refl refl
    (len-more (codes "e/c.md") (codes "c.md") [] 0 refl (len-none (List ℕ))) refl

-- a second move keeps the first alias
move_keeps_aliases : ◌≡◌ {A = MoveAnswer} (moved_in moved (codes "e/c.md") (codes "f.md")) (
  store_of ((codes "f.md", c_page) ∷ (codes "a.md", a_page) ∷ (codes "b.md", b_page) ∷ [])
      ((codes "e/c.md", codes "f.md") ∷ (codes "c.md", codes "f.md") ∷ [])
      ((codes "f.md", 4) ∷ (codes "a.md", 0) ∷ (codes "b.md", 1) ∷ []) 5,
  Ok tt,
)
unfolding alias_limit put_limit
move_keeps_aliases =
    moved_on moved_pages one_alias moved_stamps 4 (codes "e/c.md") (codes "f.md") c_page 2 refl refl
    (len-more (codes "e/c.md") (codes "f.md") ((codes "c.md", codes "f.md") ∷ []) 1 refl
    (len-more (codes "c.md") (codes "f.md") [] 0 refl (len-none (List ℕ)))) refl

move_without_stamps : ◌≡◌ {A = MoveAnswer} (moved_in (store_of pages [] stamps 18446744073709551615) (codes "c.md") (codes "y.md"))
    (store_of pages [] stamps 18446744073709551615, Err move_errors.StoreFull)
unfolding alias_limit put_limit
move_without_stamps = full_on pages [] stamps 18446744073709551615 (codes "c.md") (codes "y.md") 1 refl refl
    (len-more (codes "c.md") (codes "y.md") [] 0 refl (len-none (List ℕ))) refl

-- ---- puts and removals

put_on_an_alias : ◌≡◌ {A = StoreState × Result Put EditError} (put_into moved (codes "c.md") staff (codes "New")) (
  store_of ((codes "c.md", record { groups = staff; text = codes "New" }) ∷ moved_pages) [] ((codes "c.md", 4) ∷ moved_stamps) 5,
  Ok
      Created,
)
unfolding text_limit page_limit put_limit
put_on_an_alias =
    put_on moved_pages one_alias moved_stamps 4 (codes "c.md") staff (codes "New") false 3 refl
    (len-more (codes "e/c.md") c_page ((codes "a.md", a_page) ∷ (codes "b.md", b_page) ∷ []) 2 refl
    (len-more (codes "a.md") a_page ((codes "b.md", b_page) ∷ []) 1 refl (len-more (codes "b.md") b_page [] 0 refl (len-none Page))))
    refl

put_on_a_page : ◌≡◌ {A = StoreState × Result Put EditError} (put_into moved (codes "e/c.md") staff (codes "New")) (
  store_of ((codes "e/c.md", record { groups = staff; text = codes "New" }) ∷ moved_pages) one_alias
      ((codes "e/c.md", 4) ∷ moved_stamps) 5,
  Ok Replaced,
)
unfolding text_limit page_limit put_limit
put_on_a_page =
    put_on moved_pages one_alias moved_stamps 4 (codes "e/c.md") staff (codes "New") true 3 refl
    (len-more (codes "e/c.md") c_page ((codes "a.md", a_page) ∷ (codes "b.md", b_page) ∷ []) 2 refl
    (len-more (codes "a.md") a_page ((codes "b.md", b_page) ∷ []) 1 refl (len-more (codes "b.md") b_page [] 0 refl (len-none Page))))
    refl

page_is_removed_with_its_alias : without_page moved (codes "e/c.md")
    ≡ store_of ((codes "a.md", a_page) ∷ (codes "b.md", b_page) ∷ []) [] ((codes "a.md", 0) ∷ (codes "b.md", 1) ∷ []) 4
unfolding IsStrictlySortedBy
page_is_removed_with_its_alias = removed_on moved_pages one_alias moved_stamps 4 (codes "e/c.md") refl (tt, tt)

alias_is_not_removed : without_page moved (codes "c.md") ≡ moved
alias_is_not_removed = not_removed_on moved_pages one_alias moved_stamps 4 (codes "c.md") refl

-- ---- readers

abbrev ann : Reader
ann = record { owner = false; groups = staff }

abbrev table : ReaderTable
table = record { by_token = made ((codes "tok", ann) ∷ []); by_digest = map.empty }

token_with_a_space : ◌≡◌ {A = ReaderTable × Result Set ReaderError} (set_reader table (codes "a b") ann) (table, Err BadToken)
unfolding is_token
token_with_a_space = refl

token_without_bytes : ◌≡◌ {A = ReaderTable × Result Set ReaderError} (set_reader table [] ann) (table, Err BadToken)
unfolding is_token
token_without_bytes = refl

reader_stands : map.contains_key table.by_token (codes "tok") ≡ true
reader_stands = has-made ((codes "tok", ann) ∷ []) (codes "tok")

reader_is_removed : (without_reader table (codes "tok")).by_token ≡ made []
unfolding without_reader
reader_is_removed = removed-made ((codes "tok", ann) ∷ []) (codes "tok")

removed_reader_stands_not : map.contains_key (made {X = Reader} []) (codes "tok") ≡ false
removed_reader_stands_not = has-made {X = Reader} [] (codes "tok")
