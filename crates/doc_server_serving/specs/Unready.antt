-- Why a journal isn't made ready to be served.
use Rattle.std.specs.Prelude.{◌≡◌, Bool, true, false}
use Rattle.doc_server_serving.specs.declared.hosting.fault.HostingFault.{HostingFault}
use Rattle.doc_server_serving.specs.declared.hosting.fault.HostingFault.TheVariants as faults

-- it has no room for the removal of each page; else its device has failed
abbrev pub IsUnready : {F : Type 0} → HostingFault F → Bool → Bool → Type 0
IsUnready faults.NoRoom has_room has_failed = has_room ≡ false
IsUnready other has_room has_failed = has_failed ≡ true
