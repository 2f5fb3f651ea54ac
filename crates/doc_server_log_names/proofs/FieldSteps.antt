-- Whom a field names.
use Rattle.std.proofs.Common.{◌≡◌, ℕ, Bool, true, false, List, ap, sym, ◌∙◌}
use Rattle.std.specs.Prelude.{Option, Some, None, option_and_then, if◌then◌else◌}
use Rattle.doc_http.specs.Bearers.{bearer_in, bearer_of}
use Rattle.doc_http.specs.Passwords.{or_password, password_in, token_in}
use Rattle.doc_http.specs.declared.request.Request.{Request}
use Rattle.doc_server_log_names.specs.Names.{NameTable, found_by, shown_found}

module _ (names : NameTable) (login : Bool) (request : Request) (value : List ℕ) (field : request.authorization ≡ Some value) where
  abbrev named : Option (List ℕ) → List ℕ
  named token = shown_found (option_and_then (found_by names) token)

  bearer_there : (token : Option (List ℕ)) → token ≡ bearer_of request → bearer_in (Some value) ≡ token
  unfolding bearer_of
  bearer_there token is = sym (ap bearer_in field) ∙ sym is

  -- by a bearer's token
  pub by_bearer : (token : List ℕ) → Some token ≡ bearer_of request → named (Some token) ≡ named (token_in login (Some value))
  by_bearer token is = sym (ap (λ b. named (or_password login value b)) (bearer_there (Some token) is))

  without_bearer : None ≡ bearer_of request
      → named (token_in login (Some value)) ≡ named (if login then password_in value else None)
  without_bearer none = ap (λ b. named (or_password login value b)) (bearer_there None none)

  -- by nothing
  pub by_nothing : None ≡ bearer_of request → login ≡ false → named None ≡ named (token_in login (Some value))
  by_nothing none off = sym (without_bearer none ∙ ap (λ l. named (if l then password_in value else None)) off)

  -- by a password
  pub by_password : None ≡ bearer_of request → login ≡ true → named (password_in value) ≡ named (token_in login (Some value))
  by_password none on = sym (without_bearer none ∙ ap (λ l. named (if l then password_in value else None)) on)
