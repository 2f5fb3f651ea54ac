-- Two tests of numbers agree below a bound, where they do so at each number there.
use Rattle.std.proofs.Common.{◌≡◌, ℕ, zero, suc, ◌<◌, Bool, true, false, ◌&&◌, refl, arith, sym, ◌∙◌, inl, inr}
use Rattle.std.specs.Bool.{beq}
use Rattle.std.specs.Char.{is_ascii, is_ascii_punctuation}
use Rattle.std.proofs.lemmas.Bool.{cases_eq}
use Rattle.std.proofs.lemmas.Bool.Decides.{nat_tests}
use Rattle.doc_rules.proofs.Computing.{text_words}
use Rattle.doc_rules.specs.Characters.{is_white, is_punctuation}
use Rattle.doc_inlines.specs.ClassSteps.{is_ascii_white}

unfoldable pub agree_below : (ℕ → Bool) → (ℕ → Bool) → ℕ → Bool
agree_below f g zero = true
agree_below f g (suc n) = beq (f n) (g n) && agree_below f g n

agree_here : (x y rest : Bool) → (beq x y && rest) ≡ true → (x ≡ y) × (rest ≡ true)
agree_here true true rest h = (refl, h)
agree_here true false rest h = cc
agree_here false true rest h = cc
agree_here false false rest h = (refl, h)

pub agree_at : (f g : ℕ → Bool) (n : ℕ) → agree_below f g n ≡ true → (b : ℕ) → b < n → f b ≡ g b
unfolding agree_below
agree_at f g zero h b less = absurd (omega arith)
agree_at f g (suc n) h b less =
    let both = agree_here (f n) (g n) (agree_below f g n) h in
    elim (cases_eq b n) [ inl same ↦ rw same both.0 | inr other ↦ agree_at f g n both.1 b (omega arith) ]

-- ---- ASCII

in_ascii : (c : ℕ) → is_ascii c ≡ true → c < 128
in_ascii c e = grind (arith, nat_tests)

white_table : agree_below is_ascii_white is_white 128 ≡ true
unfolding text_words agree_below
white_table = refl

pub white_in_ascii : (c : ℕ) (b : Bool) → b ≡ is_ascii c → b ≡ true → is_ascii_white c ≡ is_white c
white_in_ascii c b e f = agree_at is_ascii_white is_white 128 white_table c (in_ascii c (sym e ∙ f))

punctuation_table : agree_below is_ascii_punctuation is_punctuation 128 ≡ true
unfolding text_words agree_below
punctuation_table = refl

pub punctuation_in_ascii : (c : ℕ) (b : Bool) → b ≡ is_ascii c → b ≡ true → is_ascii_punctuation c ≡ is_punctuation c
punctuation_in_ascii c b e f = agree_at is_ascii_punctuation is_punctuation 128 punctuation_table c (in_ascii c (sym e ∙ f))
