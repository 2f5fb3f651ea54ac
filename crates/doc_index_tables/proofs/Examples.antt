-- Short texts as numbers, computed.
use Rattle.std.proofs.Common.{◌≡◌, [], ◌∷◌, true, false, refl}
use Rattle.doc_index_tables.specs.ShortTexts.{digits_with, has_number, is_number, number_of, number_with, text_of}

nothing : number_of [] ≡ 1
unfolding number_of number_with
nothing = refl

letter : number_of (65 ∷ []) ≡ 321
unfolding number_of number_with
letter = refl

-- a zero before the letter makes another number
zero_first : number_of (0 ∷ 65 ∷ []) ≡ 65601
unfolding number_of number_with
zero_first = refl

told_back : text_of 65601 ≡ 0 ∷ 65 ∷ []
unfolding text_of digits_with
told_back = refl

short : has_number (97 ∷ 98 ∷ 99 ∷ []) ≡ true
unfolding has_number number_of number_with text_of digits_with
short = refl

long : has_number (1 ∷ 2 ∷ 3 ∷ 4 ∷ 5 ∷ 6 ∷ 7 ∷ 8 ∷ 9 ∷ 10 ∷ 11 ∷ 12 ∷ 13 ∷ 14 ∷ 15 ∷ 16 ∷ []) ≡ false
unfolding has_number number_of number_with text_of digits_with
long = refl

no_text : is_number 0 ≡ false
unfolding is_number number_of number_with text_of digits_with
no_text = refl
