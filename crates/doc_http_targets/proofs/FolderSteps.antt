-- Folders as requests write them.
use Rattle.std.proofs.Common.{◌≡◌, ◌∙◌, refl, sym, ap, Some, None, Bool, true, false, cond, length, List, ℕ, ◌∷◌, [], ◌<◌, ◌≤◌, map, take, get_or, not, Bor}
use Rattle.std.specs.List.{list_any}
use Rattle.std.specs.Prelude.{◌&&◌, ◌||◌, ◌-◌, slice_get}
use Rattle.std.specs.Str.{IsUtf8, is_utf8}
use Rattle.std.proofs.lemmas.Bool.{not-false}
use Rattle.std.proofs.lemmas.List.{take_all}
use Rattle.std.proofs.lemmas.List.Folds.{list_any_at}
use Rattle.std.proofs.lemmas.Str.{IsUtf8-from_is_utf8, is_utf8-from_IsUtf8}
use Rattle.doc_http_targets.specs.WrittenFolders.{holds_slash, if_folder, is_slash_at, with_slashes}
use Rattle.doc_http_targets.specs.WrittenFolderSteps.{joined}

-- bytes that are no text are no folder
pub no_text : (bytes : List ℕ) → (IsUtf8 bytes → ⊥) → None ≡ if_folder bytes
no_text bytes bad = by (is_utf8 bytes) refl
  where
    by : (b : Bool) → is_utf8 bytes ≡ b
        → None ≡ cond (b && is_slash_at (slice_get bytes (length bytes - 1))) (Some bytes) None
    by true is = absurd (bad (IsUtf8-from_is_utf8 bytes is))
    by false is = refl

-- nor are those that don't end in a slash
pub no_slash : (bytes : List ℕ) → is_slash_at (slice_get bytes (length bytes - 1)) ≡ false → None ≡ if_folder bytes
no_slash bytes ends = by (is_utf8 bytes) (is_slash_at (slice_get bytes (length bytes - 1))) ends
  where
    by : (b s : Bool) → s ≡ false → None ≡ cond (b && s) (Some bytes) None
    by true s is = sym (ap (λ t. cond t (Some bytes) None) is)
    by false s is = refl

-- a text that does is one
pub a_folder : (bytes : List ℕ) → IsUtf8 bytes → is_slash_at (slice_get bytes (length bytes - 1)) ≡ true → Some bytes ≡ if_folder bytes
a_folder bytes utf8 ends =
    sym (ap (λ b. cond (b && is_slash_at (slice_get bytes (length bytes - 1))) (Some bytes) None) (is_utf8-from_IsUtf8 bytes utf8)
    ∙ ap (λ b. cond b (Some bytes) None) ends)

-- a test of parts, as references are read
any_read : (parts : List (Bor (List ℕ))) → list_any holds_slash (map (λ part. part.now) parts)
    ≡ list_any (λ (part : Bor (List ℕ)). holds_slash part.now) parts
any_read [] = refl
any_read (part ∷ parts) = ap (λ b. holds_slash part.now || b) (any_read parts)

-- a part that stands for bytes with a slash refuses them all
pub refused : (parts : List (Bor (List ℕ))) (i : ℕ) (d : Bor (List ℕ)) (good : Bool) → i < length parts
    → good ≡ not (holds_slash (get_or parts i d).now) → good ≡ false → None ≡ joined (map (λ part. part.now) parts)
refused parts i d good within is bad =
    sym (ap (λ b. cond b None (Some (with_slashes (map (λ part. part.now) parts))))
    (any_read parts ∙ list_any_at (λ part. holds_slash part.now) parts i d within (not-false _ (sym is ∙ bad))))

-- parts that are all good are joined
pub all_joined : (parts : List (Bor (List ℕ))) (i : ℕ) (text : List ℕ) → length parts ≤ i
    → list_any (λ (part : Bor (List ℕ)). holds_slash part.now) (take i parts) ≡ false
    → text ≡ with_slashes (map (λ part. part.now) (take i parts)) → Some text ≡ joined (map (λ part. part.now) parts)
all_joined parts i text end clean is =
    ap Some (is ∙ ap (λ l. with_slashes (map (λ part. part.now) l)) (take_all i parts end))
    ∙ sym (ap (λ b. cond b None (Some (with_slashes (map (λ part. part.now) parts))))
    (any_read parts ∙ ap (list_any (λ part. holds_slash part.now)) (sym (take_all i parts end)) ∙ clean))
