-- Worked examples: what tags are made of, and tags. The digests are those of another program (Python's `hashlib`).
use Rattle.std.proofs.Common.{◌≡◌, ℕ, List, [], ◌∷◌, codes, refl}
use Rattle.hex.specs.Hex.{encode_with}
use Rattle.sha2.specs.Sha256.{compress, digest_bytes, first_words, hash_after, rounds, schedule, sha256}
use Rattle.doc_store_readers.specs.Pages.{Page}
use Rattle.doc_store_tags.specs.Tags.{tagged, tag_of}

abbrev page : List (List ℕ) → List ℕ → Page
page groups text = record { groups = groups; text = text }

-- one name to unfold where a tag computes
unfoldable computing : Unit {0}
unfolding tagged tag_of encode_with first_words schedule rounds compress hash_after digest_bytes sha256
computing = tt

-- ---- what tags are made of

one_group : tagged (page (codes "staff" ∷ []) (codes "Hello\n")) ≡ codes "staff\nHello\n"
unfolding tagged
one_group = refl

two_groups : tagged (page (codes "ops" ∷ codes "staff" ∷ []) (codes "x\n")) ≡ codes "ops,staff\nx\n"
unfolding tagged
two_groups = refl

no_groups : tagged (page [] (codes "x\n")) ≡ codes "\nx\n"
unfolding tagged
no_groups = refl

no_text : tagged (page (codes "staff" ∷ []) []) ≡ codes "staff\n"
unfolding tagged
no_text = refl

-- a text may begin with what looks like groups
a_text_like_groups : tagged (page [] (codes "staff\nHello\n")) ≡ codes "\nstaff\nHello\n"
unfolding tagged
a_text_like_groups = refl

-- ---- tags

hello_for_staff : tag_of (page (codes "staff" ∷ []) (codes "Hello\n"))
    ≡ codes "\"e912366ea2503539a892e8280dbd618b1f0f6b0710196100ce24c34900c89ef3\""
unfolding computing
hello_for_staff = refl

hello_for_owners : tag_of (page [] (codes "Hello\n")) ≡ codes "\"9773a9208fd8c737242e27bcdcaa80873e47295c14ebc8f9959dd75a7d5f66b2\""
unfolding computing
hello_for_owners = refl

another_text : tag_of (page (codes "staff" ∷ []) (codes "Hello, all\n"))
    ≡ codes "\"f5f016f16d8de59a2eb6c6a19187e8c3f32e1e49a1b0db34497503ccb8d49ef6\""
unfolding computing
another_text = refl

x_for_two_groups : tag_of (page (codes "ops" ∷ codes "staff" ∷ []) (codes "x\n"))
    ≡ codes "\"57c12b078c89ee19d2b7ba05aa997e4db32f2c66029ef176dbe170dffc6e753b\""
unfolding computing
x_for_two_groups = refl
