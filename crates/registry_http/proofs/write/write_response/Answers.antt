use Rattle.std.proofs.Common.{refl, inl, inr}
use Rattle.registry_http.specs.declared.unavailable.Unavailable.TheVariants.{NoMemory}
use Rattle.registry_http.specs.Responses.{unavailable_response, refusal_response, json_response}
use Rattle.registry_http.proofs.write.write_response.Goals as goal

pub returns-in-Ok : goal.returns-in-Ok
returns-in-Ok g c = (c.args.response.now, inl refl, c.put_response.ensures.writes, c.put_response.ensures.status)

pub returns-in-Err : goal.returns-in-Err
unfolding refusal_response json_response
returns-in-Err g c = (unavailable_response NoMemory, inr refl, c.write_unavailable.ensures.writes, c.write_unavailable.ensures.status)
