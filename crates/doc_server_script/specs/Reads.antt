-- What reading a field or a line answers.
use Rattle.std.specs.Prelude.{◌≡◌, ⊤, Option, Some, None, Result, Ok, Err}
use Rattle.doc_server_script.specs.declared.field_error.FieldError.{FieldError}
use Rattle.doc_server_script.specs.declared.field_error.FieldError.TheVariants as errors

-- what it stands for, or that it stands for nothing; memory may refuse either
abbrev pub Reads : {X : Type 0} → Option X → Result X FieldError → Type 0
Reads found (Ok x) = found ≡ Some x
Reads found (Err errors.Bad) = found ≡ None
Reads found (Err errors.Memory) = ⊤
