-- What the code's surroundings are seen as.
use Rattle.elab_state.specs.declared.around.Around.{Around}
use Rattle.elab_state.specs.Contexts.{Context}
use Rattle.elab_state.specs.Tokens.{bare_tokens}
use Rattle.elab_state.specs.Wants.{Told}

abbrev pub context_of : Around → Context
context_of a = record { item = a.item.now; file = a.file.now; tokens = bare_tokens a.tokens.now; base = a.base; outside = a.outer.now }

abbrev pub told_of : Around → Told
told_of a = a.known.now
