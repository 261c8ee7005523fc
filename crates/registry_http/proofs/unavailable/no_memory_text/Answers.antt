use Rattle.std.proofs.Common.{refl}
use Rattle.std.specs.Fmt.{digits}
use Rattle.serde_json.proofs.OnLiterals.{serde_json_on_literals}
use Rattle.registry_http.specs.Responses.{response_bytes, refusal_response, json_response, head_lines, with_field, status_line, phrase_of, no_memory_bytes}
use Rattle.registry_http.proofs.unavailable.no_memory_text.Goals as goal

pub returns : goal.returns
unfolding digits serde_json_on_literals no_memory_bytes response_bytes refusal_response json_response head_lines with_field status_line phrase_of
returns c = refl
