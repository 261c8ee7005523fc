use Rattle.std.proofs.Common.{refl}
use Rattle.std.specs.Fmt.{digits}
use Rattle.serde_json.proofs.OnLiterals.{serde_json_on_literals}
use Rattle.registry_http.specs.Responses.{response_bytes, refusal_response, json_response, head_lines, with_field, status_line, phrase_of, store_fault_bytes}
use Rattle.registry_http.proofs.unavailable.store_fault_text.Goals as goal

pub returns : goal.returns
unfolding digits serde_json_on_literals store_fault_bytes response_bytes refusal_response json_response head_lines with_field status_line phrase_of
returns c = refl
