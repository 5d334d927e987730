use Rattle.std.proofs.Common.{◌∙◌}
use Rattle.c11ls.proofs.Generating.{printed_front}
use Rattle.c11ls.proofs.generated.run_generated.Goals as goal

pub returns-clause-generated : goal.returns-clause-generated
returns-clause-generated g c = printed_front _ _ _ _ _ (c.as_bytes.ensures.value ∙ c.in-Ok.ensures) c.in-Err-write_reply.ensures.front
