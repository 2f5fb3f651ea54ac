-- What the HTML of the pages for editing may do (Content Security Policy Level 3, section 6). All of this is this project's choice.
use Rattle.std.specs.Prelude.{ℕ, List, ◌++◌, codes}

-- the digest of the script's bytes by SHA-256, in base64 (section 2.3.1 there)
abbrev pub script_digest : List ℕ
script_digest = codes "65j0TbRbhYxiVu38xduGeTf0fk43y5XwlYmjb9oA0w8="

-- What the two pages with the script may do: the script of this digest runs and no other, it sends requests to the site alone, and no form
-- sends anything out of the site.
unfoldable pub edit_policy : List ℕ
edit_policy =
    codes "default-src 'none'; script-src 'sha256-" ++ script_digest
    ++ codes "'; style-src 'self'; img-src 'self' https: data:; connect-src 'self'; form-action 'self'; base-uri 'none'; "
    ++ codes "frame-ancestors 'none'"

-- What a preview may do: no script of it runs, it has no style of its own, and no form of it sends anything.
unfoldable pub preview_policy : List ℕ
preview_policy =
    codes "default-src 'none'; style-src 'self'; img-src 'self' https: data:; form-action 'none'; base-uri 'none'; "
    ++ codes "frame-ancestors 'none'; sandbox"
