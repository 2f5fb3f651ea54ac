-- Texts without blanks around them.
use Rattle.std.proofs.Common.{◌≡◌, ℕ, ◌-◌, List, length, take, drop, ap, ◌∙◌}
use Rattle.std.specs.List.{prefix_len, suffix_len}
use Rattle.std.proofs.lemmas.List.{take_rest}
use Rattle.doc_page_parts.specs.Lines.{is_space_or_tab, stripped}

pub stripped_is : (text rest : List ℕ) (m n : ℕ) → m ≡ prefix_len is_space_or_tab text → rest ≡ take (length text - m) (drop m text)
    → n ≡ suffix_len is_space_or_tab rest → take (length rest - n) rest ≡ stripped text
unfolding stripped
stripped_is text rest m n start cut e =
    let whole : rest ≡ drop (prefix_len is_space_or_tab text) text = cut ∙ take_rest text m ∙ ap (λ k. drop k text) start in
    ap (λ k. take (length rest - k) rest) e ∙ ap (λ (r : List ℕ). take (length r - suffix_len is_space_or_tab r) r) whole
