-- Kinds of media, by the extensions of their names. All of this is this project's choice.
use Rattle.std.specs.Prelude.{ℕ, List, [], ◌∷◌, length, ◌==◌, codes, map as mapped, Option, Some, None, option_and_then}
use Rattle.std.specs.Prelude.{if◌then◌else◌}
use Rattle.std.specs.Borrow.{Bor}
use Rattle.std.specs.Path.{rsplit_once}
use Rattle.std.specs.Str.{str_eq_ignore_ascii_case}
use Rattle.doc_media.specs.declared.kind.MediaKind.{MediaKind}
use Rattle.doc_media.specs.declared.kind.MediaKind.TheVariants as kinds
use Rattle.doc_media.specs.declared.manner.Manner.{Manner}
use Rattle.doc_media.specs.declared.manner.Manner.TheVariants.{Shown, Boxed, Saved}

-- what stands behind a slash, where a path is cut at its last one; a path without a slash is its own last part
abbrev pub behind_slash : List ℕ → Option (List ℕ × List ℕ) → List ℕ
behind_slash path None = path
behind_slash path (Some cut) = cut.1

-- the last part of a path: what stands behind its last `/`
abbrev pub last_part : List ℕ → List ℕ
last_part path = behind_slash path (rsplit_once 47 path)

-- what stands behind a point, where something stands before it
abbrev pub behind_point : Option (List ℕ × List ℕ) → Option (List ℕ)
behind_point None = None
behind_point (Some cut) = if length cut.0 == 0 then None else Some cut.1

-- the extension of a path: what stands behind the last `.` of its last part, where something stands before that `.`
abbrev pub extension_of : List ℕ → Option (List ℕ)
extension_of path = behind_point (rsplit_once 46 (last_part path))

-- the extensions that name kinds
abbrev pub kind_rows : List (List ℕ × MediaKind)
kind_rows =
    (codes "png", kinds.Png) ∷ (codes "gif", kinds.Gif) ∷ (codes "webp", kinds.Webp) ∷ (codes "avif", kinds.Avif)
    ∷ (codes "jpg", kinds.Jpeg) ∷ (codes "jpeg", kinds.Jpeg) ∷ (codes "ico", kinds.Ico) ∷ (codes "svg", kinds.Svg)
    ∷ (codes "pdf", kinds.Pdf) ∷ (codes "txt", kinds.Txt) ∷ (codes "csv", kinds.Csv) ∷ (codes "json", kinds.Json)
    ∷ (codes "zip", kinds.Zip) ∷ (codes "gz", kinds.Gz) ∷ (codes "docx", kinds.Docx) ∷ (codes "xlsx", kinds.Xlsx)
    ∷ (codes "pptx", kinds.Pptx) ∷ []

-- the kind of the first row whose extension this is, in any case of ASCII letters
abbrev pub kind_in : List (List ℕ × MediaKind) → List ℕ → Option MediaKind
kind_in [] extension = None
kind_in (row ∷ rows) extension = if str_eq_ignore_ascii_case extension row.0 then Some row.1 else kind_in rows extension

-- the kind that an extension names
abbrev pub kind_named : List ℕ → Option MediaKind
kind_named extension = kind_in kind_rows extension

-- the kind of the medium that stands under a path: none where no medium can stand there
unfoldable pub kind_of : List ℕ → Option MediaKind
kind_of path = option_and_then kind_named (extension_of path)

-- rows as contracts see them
abbrev pub rows_of : List (Bor (List ℕ) × MediaKind) → List (List ℕ × MediaKind)
rows_of rows = mapped (λ row. (row.0.now, row.1)) rows

-- the media type of a kind
abbrev pub content_type : MediaKind → List ℕ
content_type kinds.Png = codes "image/png"
content_type kinds.Gif = codes "image/gif"
content_type kinds.Webp = codes "image/webp"
content_type kinds.Avif = codes "image/avif"
content_type kinds.Jpeg = codes "image/jpeg"
content_type kinds.Ico = codes "image/vnd.microsoft.icon"
content_type kinds.Svg = codes "image/svg+xml"
content_type kinds.Pdf = codes "application/pdf"
content_type kinds.Txt = codes "text/plain; charset=utf-8"
content_type kinds.Csv = codes "text/csv; charset=utf-8"
content_type kinds.Json = codes "application/json"
content_type kinds.Zip = codes "application/zip"
content_type kinds.Gz = codes "application/gzip"
content_type kinds.Docx = codes "application/vnd.openxmlformats-officedocument.wordprocessingml.document"
content_type kinds.Xlsx = codes "application/vnd.openxmlformats-officedocument.spreadsheetml.sheet"
content_type kinds.Pptx = codes "application/vnd.openxmlformats-officedocument.presentationml.presentation"

-- how a browser is to take a medium of a kind: as it is, under a policy, or as a download
abbrev pub manner_of : MediaKind → Manner
manner_of kinds.Png = Shown
manner_of kinds.Gif = Shown
manner_of kinds.Webp = Shown
manner_of kinds.Avif = Shown
manner_of kinds.Jpeg = Shown
manner_of kinds.Ico = Shown
manner_of kinds.Svg = Boxed
manner_of kinds.Pdf = Shown
manner_of kinds.Txt = Shown
manner_of kinds.Csv = Saved
manner_of kinds.Json = Saved
manner_of kinds.Zip = Saved
manner_of kinds.Gz = Saved
manner_of kinds.Docx = Saved
manner_of kinds.Xlsx = Saved
manner_of kinds.Pptx = Saved
