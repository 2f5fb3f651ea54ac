-- The line that is read byte by byte.
use Rattle.std.proofs.Common.{◌≡◌, ◌≢◌, ◌≤◌, ℕ, zero, suc, List, [], ◌∷◌, ◌++◌, length, take, slice_index, Bool, true, false, not, ◌==◌}
use Rattle.std.proofs.Common.{arith, ap, refl, sym, ◌∙◌, subst, length-append, append-nil}
use Rattle.std.specs.Prelude.{Option, None, Some, IfSome, if◌then◌else◌}
use Rattle.std.specs.List.{list_all}
use Rattle.std.specs.Io.KnownBytes.{Consumes, IsAtEnd}
use Rattle.doc_page_parts.proofs.Bools.{and_first, and_second}
use Rattle.doc_server_token.specs.Lines.{line_of}

-- no byte of these ends a line
abbrev pub is_open : List ℕ → Bool
is_open bytes = list_all (λ b. not (b == 10)) bytes

byte_more : (ends : Bool) (b : ℕ) (xs ys : List ℕ) → not ends ≡ true → xs ≡ ys → (if ends then [] else b ∷ xs) ≡ b ∷ ys
byte_more true b xs ys is same = absurd (cc)
byte_more false b xs ys is same = ap (λ rest. b ∷ rest) same

-- the line behind bytes that don't end it
line_behind : (front rest : List ℕ) → is_open front ≡ true → line_of (front ++ rest) ≡ front ++ line_of rest
line_behind [] rest open_front = refl
line_behind (b ∷ front) rest open_front =
    byte_more (b == 10) b (line_of (front ++ rest)) (front ++ line_of rest) (and_first (not (b == 10)) (is_open front) open_front)
    (line_behind front rest (and_second (not (b == 10)) (is_open front) open_front))

-- all of an input is its line
pub at_end : (old mid : Option (List ℕ)) (line : List ℕ) → Consumes old mid line → IsAtEnd mid → is_open line ≡ true
    → IfSome old (λ left. line ≡ line_of left)
at_end None mid line read end open_line = tt
at_end (Some xs) None line read end open_line = absurd read
at_end (Some xs) (Some ys) line read end open_line =
    subst (λ l. line ≡ line_of l) (sym (read ∙ ap (λ rest. line ++ rest) end))
    (sym (line_behind line [] open_line ∙ append-nil line))

-- the line in front of a line feed
pub at_feed : (old mid new : Option (List ℕ)) (line : List ℕ) → Consumes old mid line → Consumes mid new (10 ∷ []) → is_open line ≡ true
    → IfSome old (λ left. line ≡ line_of left)
at_feed None mid new line read feed open_line = tt
at_feed (Some xs) None new line read feed open_line = absurd read
at_feed (Some xs) (Some ys) None line read feed open_line = absurd feed
at_feed (Some xs) (Some ys) (Some zs) line read feed open_line =
    subst (λ l. line ≡ line_of l) (sym (read ∙ ap (λ rest. line ++ rest) feed))
    (sym (line_behind line (10 ∷ zs) open_line ∙ append-nil line))

-- a line is as long as what was read of it
pub too_long : (old mid : Option (List ℕ)) (line : List ℕ) (limit : ℕ) → Consumes old mid line → is_open line ≡ true → limit ≤ length line
    → IfSome old (λ left. limit ≤ length (line_of left))
too_long None mid line limit read open_line long = tt
too_long (Some xs) None line limit read open_line long = absurd read
too_long (Some xs) (Some ys) line limit read open_line long =
    subst (λ l. limit ≤ length (line_of l)) (sym read)
    (subst (λ l. limit ≤ length l) (sym (line_behind line ys open_line))
    (subst (λ n. limit ≤ n) (sym (length-append line (line_of ys))) (omega (arith, long))))

-- a read into one byte gives that byte, where it gives any
pub one_byte : (piece : List ℕ) (count : ℕ) → length piece ≡ 1 → count ≤ length piece → count ≢ 0
    → take count piece ≡ slice_index piece 0 ∷ []
one_byte [] count one few some = absurd (omega (arith, one))
one_byte (b ∷ c ∷ rest) count one few some = absurd (omega (arith, one))
one_byte (b ∷ []) zero one few some = absurd (some refl)
one_byte (b ∷ []) (suc zero) one few some = refl
one_byte (b ∷ []) (suc (suc n)) one few some = absurd (omega (arith, few))
