-- The definitions on worked examples.
use Rattle.std.proofs.Common.{◌≡◌, ℕ, List, [], ◌∷◌, true, false, codes, refl}
use Rattle.std.specs.Prelude.{Some, None, Result, Ok, Err}
use Rattle.hex.proofs.OnLiterals.{hex_on_literals}
use Rattle.sha2.specs.Sha256.{compress, digest_bytes, first_words, hash_after, rounds, schedule, sha256}
use Rattle.toml.proofs.OnLiterals.{toml_on_literals}
use Rattle.toml.specs.Parse.{parse_document}
use Rattle.doc_store_readers.specs.declared.groups.GroupsError.TheVariants.{BadGroup, TooMany}
use Rattle.doc_store_readers.specs.declared.reader.Reader.{Reader}
use Rattle.doc_store_readers.specs.declared.readers.ReadersError.{ReadersError}
use Rattle.doc_store_readers.specs.declared.readers.ReadersError.TheVariants.{BadToml, BadRow, Twice}
use Rattle.doc_store_readers.specs.Groups.{groups_of, groups_of_names}
use Rattle.doc_store_readers.specs.Pages.{Page}
use Rattle.doc_store_readers.specs.Readers.{Listed, none_listed, readers_in}
use Rattle.doc_store_readers.specs.Sites.{View, goal_in, may_see, page_at}
use Rattle.doc_page_parts.specs.Tokens.{is_token}

-- ---- groups

names_once : groups_of (codes "a,b,a") ≡ Ok (codes "a" ∷ codes "b" ∷ [])
unfolding groups_of_names
names_once = refl

names_in_order : groups_of (codes "b,a") ≡ Ok (codes "a" ∷ codes "b" ∷ [])
unfolding groups_of_names
names_in_order = refl

names_of_all_kinds : groups_of (codes "b-2,ops,b,-") ≡ Ok (codes "-" ∷ codes "b" ∷ codes "b-2" ∷ codes "ops" ∷ [])
unfolding groups_of_names
names_of_all_kinds = refl

no_names : groups_of [] ≡ Ok []
unfolding groups_of_names
no_names = refl

upper_case : groups_of (codes "A") ≡ Err BadGroup
unfolding groups_of_names
upper_case = refl

empty_name : groups_of (codes "a,,b") ≡ Err BadGroup
unfolding groups_of_names
empty_name = refl

empty_names : groups_of (codes ",") ≡ Err BadGroup
unfolding groups_of_names
empty_names = refl

long_name : groups_of (codes "0123456789012345678901234567890123") ≡ Err BadGroup
unfolding groups_of_names
long_name = refl

names_33 : groups_of (codes "a,b,c,d,e,f,g,h,i,j,k,l,m,n,o,p,q,r,s,t,u,v,w,x,y,z,0,1,2,3,4,5,6") ≡ Err TooMany
unfolding groups_of_names
names_33 = refl

bad_name_of_34 : groups_of (codes "a,b,c,d,e,f,g,h,i,j,k,l,m,n,o,p,q,r,s,t,u,v,w,x,y,z,0,1,2,3,4,5,6,A") ≡ Err BadGroup
unfolding groups_of_names
bad_name_of_34 = refl

-- ---- what a reader sees

owner : Reader
owner = record { owner = true; groups = [] }

ann : Reader
ann = record { owner = false; groups = codes "ops" ∷ codes "staff" ∷ [] }

staff_page : Page
staff_page = record { groups = codes "staff" ∷ []; text = codes "Hello" }

other_page : Page
other_page = record { groups = codes "board" ∷ []; text = codes "Hi" }

owner_sees_all : may_see (Some owner) other_page ≡ true
unfolding owner other_page
owner_sees_all = refl

group_sees : may_see (Some ann) staff_page ≡ true
unfolding ann staff_page
group_sees = refl

other_group_sees_not : may_see (Some ann) other_page ≡ false
unfolding ann other_page
other_group_sees_not = refl

no_reader_sees_not : may_see None staff_page ≡ false
no_reader_sees_not = refl

view : View
view = record { pages = (codes "a.md", staff_page) ∷ (codes "b/c.md", other_page) ∷ []; aliases = (codes "old.md", codes "a.md") ∷ [] }

page_stands : page_at view.pages (codes "b/c.md") ≡ Some other_page
unfolding view
page_stands = refl

page_is_absent : page_at view.pages (codes "b.md") ≡ None
unfolding view
page_is_absent = refl

path_of_a_page : goal_in view (codes "b/c.md") ≡ Some (codes "b/c.md")
unfolding view
path_of_a_page = refl

alias_of_a_page : goal_in view (codes "old.md") ≡ Some (codes "a.md")
unfolding view
alias_of_a_page = refl

path_of_nothing : goal_in view (codes "b.md") ≡ None
unfolding view
path_of_nothing = refl

-- ---- reader entries

abbrev read : List ℕ → Result Listed ReadersError
read text = readers_in (parse_document text)

two_readers : read
    (codes "[[reader]]\ntoken = \"tok-owner\"\nowner = true\n\n[[reader]]\ntoken = \"ab==\"\ngroups = [\"staff\", \"ops\"]\nname = \"Ann\"\n")
    ≡ Ok (record { by_token = (codes "tok-owner", owner) ∷ (codes "ab==", ann) ∷ []; by_digest = [] })
unfolding toml_on_literals is_token groups_of_names owner ann
two_readers = refl

inline_tables : read (codes "reader = [{token = \"t\"}]") ≡ Ok (record { by_token = (codes "t", record { owner = false; groups = [] }) ∷ []; by_digest = [] })
unfolding toml_on_literals is_token groups_of_names
inline_tables = refl

no_reader : read (codes "cache = 4\n") ≡ Ok none_listed
unfolding toml_on_literals
no_reader = refl

empty_array : read (codes "reader = []\n") ≡ Ok none_listed
unfolding toml_on_literals
empty_array = refl

no_toml : read (codes "x =") ≡ Err BadToml
unfolding toml_on_literals
no_toml = refl

no_array : read (codes "reader = 1\n") ≡ Err BadToml
unfolding toml_on_literals
no_array = refl

no_tables : read (codes "reader = [{owner = 1}, 1]\n") ≡ Err BadToml
unfolding toml_on_literals
no_tables = refl

no_token : read (codes "[[reader]]\ntoken = \"t\"\n[[reader]]\nowner = true\n") ≡ Err (BadRow 2)
unfolding toml_on_literals is_token groups_of_names
no_token = refl

bad_token : read (codes "[[reader]]\ntoken = \"=\"\n") ≡ Err (BadRow 1)
unfolding toml_on_literals is_token
bad_token = refl

token_with_space : read (codes "[[reader]]\ntoken = \"a b\"\n") ≡ Err (BadRow 1)
unfolding toml_on_literals is_token
token_with_space = refl

bad_owner : read (codes "[[reader]]\ntoken = \"t\"\nowner = 1\n") ≡ Err (BadRow 1)
unfolding toml_on_literals is_token groups_of_names
bad_owner = refl

bad_groups : read (codes "[[reader]]\ntoken = \"t\"\ngroups = \"a\"\n") ≡ Err (BadRow 1)
unfolding toml_on_literals is_token
bad_groups = refl

bad_group : read (codes "[[reader]]\ntoken = \"t\"\ngroups = [\"a\", \"A\"]\n") ≡ Err (BadRow 1)
unfolding toml_on_literals is_token groups_of_names
bad_group = refl

group_no_string : read (codes "[[reader]]\ntoken = \"t\"\ngroups = [\"a\", 1]\n") ≡ Err (BadRow 1)
unfolding toml_on_literals is_token
group_no_string = refl

token_twice : read (codes "[[reader]]\ntoken = \"t\"\n[[reader]]\ntoken = \"t\"\nowner = true\n") ≡ Err (Twice 2)
unfolding toml_on_literals is_token groups_of_names
token_twice = refl

bad_before_twice : read (codes "[[reader]]\ntoken = \"t\"\n[[reader]]\ntoken = \"t\"\n[[reader]]\n") ≡ Err (BadRow 3)
unfolding toml_on_literals is_token groups_of_names
bad_before_twice = refl

-- ---- by digests

bytes : List ℕ
bytes = 0 ∷ 1 ∷ 2 ∷ 3 ∷ 4 ∷ 5 ∷ 6 ∷ 7 ∷ 8 ∷ 9 ∷ 10 ∷ 11 ∷ 12 ∷ 13 ∷ 14 ∷ 15 ∷ 16 ∷ 17 ∷ 18 ∷ 19 ∷ 20 ∷ 21 ∷ 22 ∷ 23 ∷ 24 ∷ 25 ∷ 26 ∷ 27 ∷ 28 ∷ 29 ∷ 30 ∷ 31 ∷ []

digest_of_a_reader : read
    (codes "[[reader]]\ntoken = \"t\"\n[[reader]]\ntoken_sha256 = \"000102030405060708090a0b0c0d0e0f101112131415161718191a1b1c1d1e1f\"\nowner = true\n")
    ≡ Ok (record { by_token = (codes "t", record { owner = false; groups = [] }) ∷ []; by_digest = (bytes, owner) ∷ [] })
unfolding toml_on_literals hex_on_literals is_token groups_of_names owner bytes first_words schedule rounds compress hash_after digest_bytes sha256
digest_of_a_reader = refl

upper_case_digits : read (codes "[[reader]]\ntoken_sha256 = \"000102030405060708090A0b0c0d0e0f101112131415161718191A1b1c1d1e1f\"\n") ≡ Err (BadRow 1)
unfolding toml_on_literals hex_on_literals
upper_case_digits = refl

digits_62 : read (codes "[[reader]]\ntoken_sha256 = \"000102030405060708090a0b0c0d0e0f101112131415161718191a1b1c1d1e\"\n") ≡ Err (BadRow 1)
unfolding toml_on_literals hex_on_literals
digits_62 = refl

digits_63 : read (codes "[[reader]]\ntoken_sha256 = \"000102030405060708090a0b0c0d0e0f101112131415161718191a1b1c1d1e1\"\n") ≡ Err (BadRow 1)
unfolding toml_on_literals hex_on_literals
digits_63 = refl

digits_66 : read (codes "[[reader]]\ntoken_sha256 = \"000102030405060708090a0b0c0d0e0f101112131415161718191a1b1c1d1e1f20\"\n") ≡ Err (BadRow 1)
unfolding toml_on_literals hex_on_literals
digits_66 = refl

no_digits : read (codes "[[reader]]\ntoken_sha256 = 1\n") ≡ Err (BadRow 1)
unfolding toml_on_literals hex_on_literals
no_digits = refl

token_and_digest : read (codes "[[reader]]\ntoken = \"t\"\ntoken_sha256 = \"000102030405060708090a0b0c0d0e0f101112131415161718191a1b1c1d1e1f\"\n") ≡ Err (BadRow 1)
unfolding toml_on_literals hex_on_literals is_token
token_and_digest = refl

digest_twice : read
    (codes "[[reader]]\ntoken_sha256 = \"000102030405060708090a0b0c0d0e0f101112131415161718191a1b1c1d1e1f\"\n[[reader]]\ntoken_sha256 = \"000102030405060708090a0b0c0d0e0f101112131415161718191a1b1c1d1e1f\"\nowner = true\n")
    ≡ Err (Twice 2)
unfolding toml_on_literals hex_on_literals groups_of_names
digest_twice = refl

-- the digest of `abc` (FIPS 180-2, appendix B.1)
digest_of_a_token : read (codes "[[reader]]\ntoken = \"abc\"\n[[reader]]\ntoken_sha256 = \"ba7816bf8f01cfea414140de5dae2223b00361a396177a9cb410ff61f20015ad\"\n")
    ≡ Err (Twice 2)
unfolding toml_on_literals hex_on_literals is_token groups_of_names first_words schedule rounds compress hash_after digest_bytes sha256
digest_of_a_token = refl

token_of_a_digest : read (codes "[[reader]]\ntoken_sha256 = \"ba7816bf8f01cfea414140de5dae2223b00361a396177a9cb410ff61f20015ad\"\n[[reader]]\ntoken = \"abc\"\n")
    ≡ Err (Twice 2)
unfolding toml_on_literals hex_on_literals is_token groups_of_names first_words schedule rounds compress hash_after digest_bytes sha256
token_of_a_digest = refl
