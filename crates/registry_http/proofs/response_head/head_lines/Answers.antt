use Rattle.std.proofs.Common.{refl}
use Rattle.registry_http.specs.Responses.{head_lines}
use Rattle.registry_http.proofs.response_head.head_lines.Goals as goal

pub returns : goal.returns
unfolding head_lines
returns c = rw (c.in_ok-push_end.ensures, c.in_ok-push_field-3.ensures, c.in_ok-push_digest.ensures, c.in_ok-push_allow.ensures, c.in_ok-push_field-2.ensures, c.in_ok-push_field.ensures, c.in_ok-text.ensures, c.content_type_text.ensures, c.as_str.ensures.value, c.in_ok-digits.ensures) refl
