-- Numbers with zeros in front, as a format writes them.
use Rattle.std.proofs.Common.{◌≡◌, ℕ, ◌-◌, ◌^◌, [], ◌++◌, false, length, replicate, decimal, ap, ◌∙◌, arith}
use Rattle.std.specs.Fmt.{char_count, format_spec, padded_integral}
use Rattle.std.proofs.lemmas.List.{append-nil}
use Rattle.doc_server_log.specs.Moments.{zero_padded}

-- what `{:04}` and its kin write
pub padded_is : (width number : ℕ)
    → padded_integral (format_spec 32 0 4 width (2 ^ 64 - 1)) false [] (decimal number) ≡ zero_padded width number
unfolding padded_integral char_count zero_padded
padded_is width number =
    let padding : width - length (decimal number) - 0 - 0 ≡ width - length (decimal number) = omega arith in
    ap (λ k. replicate k 48 ++ (decimal number ++ [])) padding
    ∙ ap (λ digits. replicate (width - length (decimal number)) 48 ++ digits) (append-nil (decimal number))
