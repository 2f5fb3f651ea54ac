-- What is written at the end of a buffer, part by part.
use Rattle.std.proofs.Common.{◌≡◌, ℕ, List, [], ◌++◌, codes, refl, ap, ◌∙◌}
use Rattle.std.proofs.lemmas.List.{append_assoc}
use Rattle.doc_page_parts.specs.Escaping.{escaped}
use Rattle.doc_people.specs.Lines.{link}

-- so many parts were written, each behind the one before
pub twofold : (a b old one two : List ℕ) → one ≡ old ++ a → two ≡ one ++ b → two ≡ old ++ (a ++ b)
twofold a b old one two first second = second ∙ ap (λ t. t ++ b) first ∙ append_assoc old a b

pub threefold : (a b c old one two three : List ℕ) → one ≡ old ++ a → two ≡ one ++ b → three ≡ two ++ c → three ≡ old ++ (a ++ b ++ c)
threefold a b c old one two three first second third =
    twofold (a ++ b) c old two three (twofold a b old one two first second) third

pub fivefold : (a b c d e old one two three four five : List ℕ) → one ≡ old ++ a → two ≡ one ++ b → three ≡ two ++ c
    → four ≡ three ++ d → five ≡ four ++ e → five ≡ old ++ (a ++ b ++ c ++ d ++ e)
fivefold a b c d e old one two three four five first second third fourth fifth =
    threefold (a ++ b ++ c) d e old three four five (threefold a b c old one two three first second third) fourth fifth

-- a link: what stands before its address, the address, and what stands behind it
pub link_written : (href text old one two new : List ℕ) → one ≡ old ++ codes "<a href=\"" → two ≡ one ++ href
    → new ≡ two ++ codes "\"" ++ [] ++ codes ">" ++ escaped text ++ codes "</a>" → new ≡ old ++ link href text
link_written href text old one two new first second third =
    threefold (codes "<a href=\"" ++ href ++ codes "\"" ++ [] ++ codes ">") (escaped text) (codes "</a>") old
    (two ++ codes "\"" ++ [] ++ codes ">") (two ++ codes "\"" ++ [] ++ codes ">" ++ escaped text) new
    (fivefold (codes "<a href=\"") href (codes "\"") [] (codes ">") old one two (two ++ codes "\"") (two ++ codes "\"" ++ [])
    (two ++ codes "\"" ++ [] ++ codes ">") first second refl refl refl)
    refl third
