-- One line more of a report.
use Rattle.std.proofs.Common.{◌≡◌, ◌+◌, ◌<◌, ℕ, List, [], ◌∷◌, ◌++◌, length, take, get_or, append_assoc, ap, sym, refl, ◌∙◌, subst}
use Rattle.std.specs.Prelude.{Option}
use Rattle.std.proofs.lemmas.List.{append-nil, take_more}
use Rattle.toml.specs.Data.{Members}
use Rattle.doc_server_lint_faults.specs.declared.finding.Finding.{Finding}
use Rattle.doc_server_lint.specs.Lines.{finding_line}
use Rattle.doc_server_lint.specs.Reports.{IsLine, IsReport, name_at}

module _ (file text : List ℕ) (document : Members) where
  abbrev line_of : Option ℕ → Finding → List ℕ
  line_of line finding = finding_line file line (name_at document finding.place) finding

  line_behind : (found : List Finding) (bytes : List ℕ) (finding : Finding) (line : Option ℕ) → IsReport file text document found bytes
      → IsLine text finding.place line → IsReport file text document (found ++ finding ∷ []) (bytes ++ line_of line finding)
  line_behind [] bytes finding line is is_line =
      (line, [], is_line, ap (λ b. b ++ line_of line finding) is ∙ sym (append-nil (line_of line finding)), refl)
  line_behind (first ∷ rest) bytes finding line is is_line = (
    is.0,
    is.1 ++ line_of line finding,
    is.2,
    ap (λ b. b ++ line_of line finding) is.3 ∙ append_assoc (line_of is.0 first) is.1 (line_of line finding),
    line_behind rest is.1 finding line is.4 is_line,
  )

  -- the report of one finding more of some
  pub line_more : (findings : List Finding) (i : ℕ) (bytes more : List ℕ) (finding : Finding) (line : Option ℕ) → i < length findings
      → finding ≡ get_or findings i finding → IsReport file text document (take i findings) bytes → IsLine text finding.place line
      → more ≡ bytes ++ line_of line finding → IsReport file text document (take (i + 1) findings) more
  line_more findings i bytes more finding line within here is is_line next =
      let taken = take_more findings i finding within ∙ ap (λ one. take i findings ++ one ∷ []) (sym here) in
      subst (λ b. IsReport file text document (take (i + 1) findings) b) (sym next)
      (subst (λ found. IsReport file text document found (bytes ++ line_of line finding)) (sym taken)
      (line_behind (take i findings) bytes finding line is is_line))
