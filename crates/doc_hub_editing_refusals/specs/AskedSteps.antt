-- What is said of what a request asks as it is answered.
use Rattle.doc_hub_editing_refusals.specs.Asked.{EditRequest}
use Rattle.doc_hub_editing_refusals.specs.Asked as requests
use Rattle.doc_hub_editing_refusals.specs.declared.edit_request.EditRequest as code
use Rattle.doc_hub_editing_refusals.specs.declared.edit_request.EditRequest.TheVariants as edit_requests

-- what is asked, as it is defined
abbrev pub edit_request_shown : code.EditRequest → EditRequest
edit_request_shown (edit_requests.ReadSource rest) = requests.ReadSource rest.now
edit_request_shown (edit_requests.PutSource rest) = requests.PutSource rest.now
edit_request_shown (edit_requests.PutPage rest) = requests.PutPage rest.now
edit_request_shown (edit_requests.Remove rest) = requests.Remove rest.now
edit_request_shown (edit_requests.Regroup rest) = requests.Regroup rest.now
edit_request_shown (edit_requests.Move rest) = requests.Move rest.now
edit_request_shown (edit_requests.Open rest) = requests.Open rest.now
edit_request_shown (edit_requests.Preview rest) = requests.Preview rest.now
edit_request_shown (edit_requests.NotAllowed resource) = requests.NotAllowed resource
