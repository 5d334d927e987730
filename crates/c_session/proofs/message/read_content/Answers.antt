use Rattle.std.proofs.Common.{◌≡◌, sym, true, false}
use Rattle.c_session.proofs.Utf8.{value_some, value_none}
use Rattle.c_session.proofs.message.read_content.Goals as goal

pub returns-in-Ok : goal.returns-in-Ok
returns-in-Ok c = sym (value_some _ _ c.in-Ok.ensures.ok.0 c.in-Ok.ensures.ok.1)

no_longer : false ≡ true → ⊥
no_longer h = cc

pub returns-else-is_memory : goal.returns-else-is_memory
returns-else-is_memory c = sym (value_none _ (c.in-Err.ensures.err (λ m. no_longer (c.if-is_memory.ensures.1 m))))
