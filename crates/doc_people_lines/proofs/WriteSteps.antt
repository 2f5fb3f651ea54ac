-- What is written at the end of a buffer, part by part.
use Rattle.std.proofs.Common.{◌≡◌, ℕ, ◌+◌, ◌<◌, List, ◌∷◌, [], ◌++◌, length, get_or, take, ap, sym, ◌∙◌}
use Rattle.std.specs.Prelude.{Result, Ok, Err, OnOk}
use Rattle.std.specs.List.{flat_map}
use Rattle.std.proofs.lemmas.List.{append_assoc, flat_map_more, take_more}

-- so many parts were written, each behind the one before
pub twofold : (a b old one two : List ℕ) → one ≡ old ++ a → two ≡ one ++ b → two ≡ old ++ (a ++ b)
twofold a b old one two first second = second ∙ ap (λ t. t ++ b) first ∙ append_assoc old a b

pub threefold : (a b c old one two three : List ℕ) → one ≡ old ++ a → two ≡ one ++ b → three ≡ two ++ c → three ≡ old ++ (a ++ b ++ c)
threefold a b c old one two three first second third =
    twofold (a ++ b) c old two three (twofold a b old one two first second) third

pub fourfold : (a b c d old one two three four : List ℕ) → one ≡ old ++ a → two ≡ one ++ b → three ≡ two ++ c → four ≡ three ++ d
    → four ≡ old ++ (a ++ b ++ c ++ d)
fourfold a b c d old one two three four first second third fourth =
    twofold (a ++ b ++ c) d old three four (threefold a b c old one two three first second third) fourth

pub fivefold : (a b c d e old one two three four five : List ℕ) → one ≡ old ++ a → two ≡ one ++ b → three ≡ two ++ c
    → four ≡ three ++ d → five ≡ four ++ e → five ≡ old ++ (a ++ b ++ c ++ d ++ e)
fivefold a b c d e old one two three four five first second third fourth fifth =
    twofold (a ++ b ++ c ++ d) e old four five (fourfold a b c d old one two three four first second third fourth) fifth

pub sevenfold : (a b c d e f g old one two three four five six seven : List ℕ) → one ≡ old ++ a → two ≡ one ++ b → three ≡ two ++ c
    → four ≡ three ++ d → five ≡ four ++ e → six ≡ five ++ f → seven ≡ six ++ g → seven ≡ old ++ (a ++ b ++ c ++ d ++ e ++ f ++ g)
sevenfold a b c d e f g old one two three four five six seven first second third fourth fifth sixth seventh =
    threefold (a ++ b ++ c ++ d ++ e) f g old five six seven
    (fivefold a b c d e old one two three four five first second third fourth fifth) sixth seventh

-- an item of two parts
pub item_of_two : (a b c d old one two three four : List ℕ) → one ≡ old ++ a → two ≡ one ++ b → three ≡ two ++ c → four ≡ three ++ d
    → four ≡ old ++ (a ++ (b ++ c) ++ d)
item_of_two a b c d old one two three four first second third fourth =
    threefold a (b ++ c) d old one three four first (twofold b c one two three second third) fourth

-- what is written is what is told, also where that is another text
pub as_told : {T E : Type 0} (r : Result T E) (old new told text : List ℕ) → text ≡ told → OnOk r (new ≡ old ++ told)
    → OnOk r (new ≡ old ++ text)
as_told (Ok x) old new told text same written = written ∙ ap (λ t. old ++ t) (sym same)
as_told (Err e) old new told text same written = tt

-- the last part of two is written by a call
pub second_written : {T E : Type 0} (r : Result T E) (a b old one two : List ℕ) → one ≡ old ++ a → OnOk r (two ≡ one ++ b)
    → OnOk r (two ≡ old ++ (a ++ b))
second_written (Ok x) a b old one two first second = twofold a b old one two first second
second_written (Err e) a b old one two first second = tt

-- the last part of three is written by a call
pub third_written : {T E : Type 0} (r : Result T E) (a b c old one two three : List ℕ) → one ≡ old ++ a → two ≡ one ++ b
    → OnOk r (three ≡ two ++ c) → OnOk r (three ≡ old ++ (a ++ b ++ c))
third_written (Ok x) a b c old one two three first second third = threefold a b c old one two three first second third
third_written (Err e) a b c old one two three first second third = tt

-- one more entry is written
pub one_more : {X : Type 0} (f : X → List ℕ) (old out new : List ℕ) (xs : List X) (i : ℕ) (x : X) → i < length xs → x ≡ get_or xs i x
    → out ≡ old ++ flat_map f (take i xs) → new ≡ out ++ f x → new ≡ old ++ flat_map f (take (i + 1) xs)
one_more f old out new xs i x within is so_far written =
    written ∙ ap (λ t. t ++ f x) so_far ∙ flat_map_more f old (take i xs) x
    ∙ ap (λ ys. old ++ flat_map f ys) (sym (take_more xs i x within ∙ ap (λ y. take i xs ++ y ∷ []) (sym is)))
